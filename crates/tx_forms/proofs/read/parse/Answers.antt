use Rattle.std.proofs.Common.{◌≡◌, ◌+◌, false, ◌∷◌, ◌++◌, map, drop, subst, refl, ap, sym, ◌∙◌, rules}
use Rattle.std.specs.Prelude.{not, Some}
use Rattle.std.specs.Option.{option_map}
use Rattle.std.proofs.lemmas.List.{drop_more}
use Rattle.edn_form.specs.View.{form_of, forms_of}
use Rattle.tx_model.specs.Shapes.{has_shape}
use Rattle.tx_model.specs.Step.{first_yes, first_without_shape}
use Rattle.tx_refusals.specs.declared.reasons.Reason.TheVariants.{NotAForm}
use Rattle.tx_forms.specs.declared.read.TxStop.{TxStop}
use Rattle.tx_forms.specs.Parts.{parts_in, parts_of}
use Rattle.tx_forms.specs.Stops.{IfRefused}
use Rattle.tx_forms.proofs.Parsing.{shaped, unshaped, first_here, first_later, one_more}
use Rattle.tx_forms.proofs.read.parse.Goals as goal

pub returns-in_default-clause-refused : goal.returns-in_default-clause-refused
returns-in_default-clause-refused c =
    let fs = c.args.forms.now in
    let i = c.loop-f.f-index in
    let f = c.f-item.result in
    let rest = drop (i + 1) fs in
    let here : drop i fs ≡ f ∷ rest = drop_more fs i f (search rules) ∙ ap (λ q. q ∷ rest) (sym c.f-item.is) in
    let bad : has_shape (form_of f) ≡ false =
    unshaped (form_of f) (ap (option_map parts_of) (sym c.in_default.is) ∙ c.form_in.ensures) in
    subst (λ (stop : TxStop). IfRefused stop (λ refusal.
    (refusal.reason ≡ NotAForm) × (first_without_shape (forms_of fs) ≡ Some refusal.at))) (sym c.not_a_form.ensures) (
      refl,
      sym c.loop-f.invariant.shaped
          ∙ ap (λ xs. first_yes i (map (λ g. not (has_shape g)) (forms_of xs))) here
          ∙ first_here i (form_of f) (forms_of rest) bad
          ∙ ap Some (sym (c.len.ensures ∙ c.loop-f.invariant.place)),
    )

pub loop-f-preserved : goal.loop-f-preserved
loop-f-preserved c =
    let fs = c.args.forms.now in
    let i = c.loop-f.f-index in
    let f = c.f-item.result in
    let form = c.in-Some.form in
    let before = c.loop-f.parsed.items in
    let rest = drop (i + 1) fs in
    let here : drop i fs ≡ f ∷ rest = drop_more fs i f (search rules) ∙ ap (λ q. q ∷ rest) (sym c.f-item.is) in
    let good = shaped form (form_of f) (ap (option_map parts_of) (sym c.in-Some.is) ∙ c.form_in.ensures) in
    record {
      place = c.in_ok-push.ensures.len ∙ ap (λ n. n + 1) c.loop-f.invariant.place;
      parsed =
          ap (λ forms. map parts_of forms ++ map parts_in (forms_of rest)) c.in_ok-push.ensures.items
          ∙ one_more before form (form_of f) (forms_of rest) good.1
          ∙ ap (λ xs. map parts_of before ++ map parts_in (forms_of xs)) (sym here)
          ∙ c.loop-f.invariant.parsed;
      shaped =
          sym (first_later i (form_of f) (forms_of rest) good.0)
          ∙ ap (λ xs. first_yes i (map (λ g. not (has_shape g)) (forms_of xs))) (sym here)
          ∙ c.loop-f.invariant.shaped;
    }
