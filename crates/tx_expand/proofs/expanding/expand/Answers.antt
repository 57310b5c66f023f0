use Rattle.std.proofs.Common.{◌≡◌, ℕ, List, ◌∷◌, Some, map, ap, sym, ◌∙◌, subst}
use Rattle.fb_model.specs.Facts.{facts}
use Rattle.fb_model.specs.Schema.{attribute_named}
use Rattle.tx_refusals.specs.declared.reasons.Reason.TheVariants.{NotAnAttribute}
use Rattle.tx_model.specs.Step.{first_refusal}
use Rattle.tx_forms.specs.Parts.{Parts, parts_in, parts_of}
use Rattle.tx_expand.specs.Numbered.{walk_forms}
use Rattle.tx_expand.specs.Rules.{first_unknown, firsts_from, rules_of}
use Rattle.tx_expand.specs.Walked.{IsWalked, AreExpanded}
use Rattle.tx_expand.proofs.Whole.{rules_are, are_asks, none_wrong}
use Rattle.tx_expand.proofs.expanding.expand.Goals as goal

pub expand_forms-requires : goal.expand_forms-requires
expand_forms-requires c = c.attributes_have_their_names.ensures.schema c.args.schema.now c.requires.lawful

pub returns-in-Unknown-clause-refused : goal.returns-in-Unknown-clause-refused
returns-in-Unknown-clause-refused c = λ h fs stands parsed.
    let s = c.args.schema.now in
    let ps = map parts_in fs in
    let same : (k : List ℕ) → attribute_named s k ≡ attribute_named (facts h) k =
    λ k. c.schemas_tell_of_attributes.ensures.name s h k stands in
    let walked : IsWalked s ps c.in-Ok.walked =
    subst (λ (parts : List Parts). IsWalked s parts c.in-Ok.walked) (ap (map parts_of) c.as_slice.ensures.value ∙ parsed) c.in-Ok.ensures in
    let unknown : first_unknown s 0 (walk_forms s 0 ps) ≡ Some c.in-Unknown.at = subst (IsWalked s ps) c.in-Unknown.is walked in
    ap first_refusal (sym (rules_are s (facts h) same fs))
    ∙ ap (λ o. first_refusal ((NotAnAttribute, o) ∷ rules_of (firsts_from s 0 (walk_forms s 0 ps)))) unknown

pub returns-in-Some-clause-refused : goal.returns-in-Some-clause-refused
returns-in-Some-clause-refused c = λ h fs stands parsed.
    let s = c.args.schema.now in
    let ps = map parts_in fs in
    let same : (k : List ℕ) → attribute_named s k ≡ attribute_named (facts h) k =
    λ k. c.schemas_tell_of_attributes.ensures.name s h k stands in
    let walked : IsWalked s ps c.in-Ok.walked =
    subst (λ (parts : List Parts). IsWalked s parts c.in-Ok.walked) (ap (map parts_of) c.as_slice.ensures.value ∙ parsed) c.in-Ok.ensures in
    let are : AreExpanded s ps c.in-Whole.expanded = subst (IsWalked s ps) c.in-Whole.is walked in
    ap first_refusal (sym (rules_are s (facts h) same fs))
    ∙ ap (λ o. first_refusal ((NotAnAttribute, o) ∷ rules_of (firsts_from s 0 (walk_forms s 0 ps)))) are.known
    ∙ ap (λ firsts. first_refusal (rules_of firsts)) (sym are.firsts_are)
    ∙ sym c.least.ensures ∙ c.in-Some.is

pub returns-clause-unbroken : goal.returns-clause-unbroken
returns-clause-unbroken c = λ h fs stands parsed.
    let s = c.args.schema.now in
    let ps = map parts_in fs in
    let same : (k : List ℕ) → attribute_named s k ≡ attribute_named (facts h) k =
    λ k. c.schemas_tell_of_attributes.ensures.name s h k stands in
    let walked : IsWalked s ps c.in-Ok.walked =
    subst (λ (parts : List Parts). IsWalked s parts c.in-Ok.walked) (ap (map parts_of) c.as_slice.ensures.value ∙ parsed) c.in-Ok.ensures in
    let are : AreExpanded s ps c.in-Whole.expanded = subst (IsWalked s ps) c.in-Whole.is walked in
    ap first_refusal (sym (rules_are s (facts h) same fs))
    ∙ ap (λ o. first_refusal ((NotAnAttribute, o) ∷ rules_of (firsts_from s 0 (walk_forms s 0 ps)))) are.known
    ∙ ap (λ firsts. first_refusal (rules_of firsts)) (sym are.firsts_are)
    ∙ sym c.least.ensures ∙ c.in-None.is

pub returns-clause-asks : goal.returns-clause-asks
returns-clause-asks c = λ h fs stands parsed.
    let s = c.args.schema.now in
    let ps = map parts_in fs in
    let same : (k : List ℕ) → attribute_named s k ≡ attribute_named (facts h) k =
    λ k. c.schemas_tell_of_attributes.ensures.name s h k stands in
    let walked : IsWalked s ps c.in-Ok.walked =
    subst (λ (parts : List Parts). IsWalked s parts c.in-Ok.walked) (ap (map parts_of) c.as_slice.ensures.value ∙ parsed) c.in-Ok.ensures in
    let are : AreExpanded s ps c.in-Whole.expanded = subst (IsWalked s ps) c.in-Whole.is walked in
    are_asks s (facts h) same fs c.in-Whole.expanded are (none_wrong c.in-Whole.expanded.firsts (sym c.least.ensures ∙ c.in-None.is))
