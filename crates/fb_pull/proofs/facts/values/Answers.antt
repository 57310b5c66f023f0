use denote.Ref.{Bor}
use Rattle.std.proofs.Common.{◌≡◌, ◌∙◌, ℕ, List, length, ap, sym, map, take, arith}
use Rattle.std.specs.Prelude.{filter}
use Rattle.std.proofs.lemmas.Result.{IfOk-weaker}
use Rattle.fb_values.specs.declared.facts.Datom.{Datom}
use Rattle.fb_model.specs.Schema.{is_about}
use Rattle.edn_model.specs.Form.{Form}
use Rattle.edn_values.specs.Values.{form_of_value}
use Rattle.fb_pull.specs.Finding.{upto}
use Rattle.fb_pull.specs.Near.{lent}
use Rattle.fb_pull.proofs.Limits.{upto-map}
use Rattle.fb_pull.proofs.Entities.{has, under_attribute, upto_all, lent_length, lent_values}
use Rattle.fb_pull.proofs.facts.values.Goals as goal

abbrev told : List Datom → List Form
told ds = map form_of_value (map (λ (d : Datom). d.v) ds)

pub returns-in_ok-datoms-in-Nothing : goal.returns-in_ok-datoms-in-Nothing
returns-in_ok-datoms-in-Nothing g c = λ facts sees.
    let ds = c.in_ok-datoms-in-Nothing.datoms.items in
    IfOk-weaker c.forms.result _ _
    (λ list is.
    is ∙ ap (λ (l : List (Bor Datom)). map form_of_value (map (λ (d : Bor Datom). d.now.v) l)) c.deref-in-Nothing.ensures.value
    ∙ ap (map form_of_value) (lent_values ds) ∙ ap told (c.in_ok-datoms-in-Nothing.ensures facts sees)
    ∙ ap (map form_of_value) (sym (upto-map (λ (d : Datom). d.v) c.args.most (filter (is_about c.args.e c.args.a) facts.seen))))
    c.forms.ensures

pub returns-in-Few : goal.returns-in-Few
returns-in-Few g c = λ facts sees.
    let ds = c.in-Few.datoms.items in
    let under = filter (is_about c.args.e c.args.a) facts.seen in
    let count : c.len.result ≡ length ds = omega arith in
    IfOk-weaker c.forms_among.result _ _
    (λ list is.
    is ∙ ap (λ (l : List (Bor Datom)). told (take c.unwrap_or-most.result (filter (has c.args.a) (lent l)))) c.deref.ensures.value
    ∙ ap (λ (n : ℕ). told (take n (filter (has c.args.a) (lent ds)))) c.unwrap_or-most.ensures
    ∙ ap told (upto_all c.args.most (has c.args.a) (lent ds) c.len.result (count ∙ sym (lent_length ds)))
    ∙ ap (λ (l : List Datom). told (upto c.args.most l)) (under_attribute c.args.db.now (g.S.Selector.selects c.args.db.now.filter)
    c.args.e c.args.near.now c.in-Few.datoms c.in-Few.is c.requires facts sees c.args.a)
    ∙ ap (map form_of_value) (sym (upto-map (λ (d : Datom). d.v) c.args.most under)))
    c.forms_among.ensures
