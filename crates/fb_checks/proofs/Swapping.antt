-- The names of a schema are those of its history, and which of the two lists is walked first makes no difference.
use Rattle.std.proofs.Common.{◌≡◌, ℕ, Bool, ◌&&◌, false, not, cond, nat_eq, List, Option, Some, None, ap, sym, ◌∙◌}
use Rattle.std.specs.List.{list_any}
use Rattle.std.specs.Option.{option_map_or}
use Rattle.fb_values.specs.declared.facts.Datom.{Datom}
use Rattle.fb_values.specs.declared.facts.Entry.{Entry}
use Rattle.fb_model.specs.Facts.{facts}
use Rattle.tx_refusals.specs.declared.reasons.Bar.TheVariants.{AttrPred, MissingRequired}
use Rattle.tx_after.specs.After.{after}
use Rattle.fb_checks.specs.declared.tests.AttrTest.{AttrTest}
use Rattle.fb_checks.specs.declared.tests.Need.{Need as TheNeed}
use Rattle.fb_checks.specs.Checks.{Pred, Need, id_of, fails, has, lacks, bars_of, pred_of, preds_of, need_of, needs_of}
use Rattle.fb_checks.proofs.Anys.{any_agree, any_map, any_swap}

module _ (schema facts : List Datom) (told : (name : List ℕ) → id_of schema name ≡ id_of facts name) where
  fails_told : (d : Datom) (pred : Pred) → fails schema d pred ≡ fails facts d pred
  fails_told d pred = ap (λ (id : Option ℕ). d.added && option_map_or (nat_eq d.a) id false && not (pred.1 d)) (told pred.0)

  lacks_told : (held : List Datom) (e : ℕ) (need : Need) → lacks schema held e need ≡ lacks facts held e need
  lacks_told held e need =
      ap (λ (id : Option ℕ). has held e id && not (has held e (id_of schema need.1))) (told need.0)
      ∙ ap (λ (id : Option ℕ). has held e (id_of facts need.0) && not (has held e id)) (told need.1)

  pub fails-swapped : (preds : List Pred) (changes : List Datom)
      → list_any (λ pred. list_any (λ d. fails schema d pred) changes) preds
      ≡ list_any (λ d. list_any (fails facts d) preds) changes
  fails-swapped preds changes =
      any_agree _ _ (λ pred. any_agree _ _ (λ d. fails_told d pred) changes) preds ∙ sym (any_swap (fails facts) changes preds)

  pub lacks-swapped : (held : List Datom) (needs : List Need) (changes : List Datom)
      → list_any (λ need. list_any (λ (d : Datom). lacks schema held d.e need) changes) needs
      ≡ list_any (λ (d : Datom). list_any (lacks facts held d.e) needs) changes
  lacks-swapped held needs changes =
      any_agree _ _ (λ need. any_agree _ _ (λ (d : Datom). lacks_told held d.e need) changes) needs
      ∙ sym (any_swap (λ (d : Datom). lacks facts held d.e) changes needs)

-- what is barred, by the answers of the two walks
pub bars_told : {T : Type 0} (passes : T → Datom → Bool) (preds : List (AttrTest T)) (needs : List TheNeed) (schema : List Datom)
    (h : List Entry) (changes : List Datom) → ((name : List ℕ) → id_of schema name ≡ id_of (facts h) name)
    → (failing lacking : Bool)
    → failing ≡ list_any (λ pred. list_any (λ d. fails schema d (pred_of passes pred)) changes) preds
    → lacking ≡ list_any (λ need. list_any (λ (d : Datom). lacks schema (after h changes) d.e (need_of need)) changes) needs
    → bars_of (preds_of passes preds) (needs_of needs) h changes
    ≡ cond failing (Some AttrPred) (cond lacking (Some MissingRequired) None)
bars_told passes preds needs schema h changes told failing lacking fails_is lacks_is =
    let first = fails_is
    ∙ sym (any_map (λ pred. list_any (λ d. fails schema d pred) changes) (pred_of passes) preds)
    ∙ fails-swapped schema (facts h) told (preds_of passes preds) changes in
    let second = lacks_is
    ∙ sym (any_map (λ need. list_any (λ (d : Datom). lacks schema (after h changes) d.e need) changes) need_of needs)
    ∙ lacks-swapped schema (facts h) told (after h changes) (needs_of needs) changes in
    ap (λ b. cond b (Some AttrPred) (cond (list_any (λ (d : Datom). list_any (lacks (facts h) (after h changes) d.e) (needs_of needs)) changes)
    (Some MissingRequired) None)) (sym first)
    ∙ ap (λ b. cond failing (Some AttrPred) (cond b (Some MissingRequired) None)) (sym second)
