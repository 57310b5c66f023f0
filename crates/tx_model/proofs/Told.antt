-- Of several rules the least is told.
use Rattle.std.proofs.Common.{◌≡◌, ◌≤◌, ◌<◌, ℕ, Bool, true, ◌&&◌, List, [], ◌∷◌, refl, ap, sym, ◌∙◌, subst, arith, inl, inr, Option, Some}
use Rattle.std.proofs.Common.{None}
use Rattle.std.specs.Prelude.{Contains, nat_lt}
use Rattle.std.proofs.lemmas.Bool.{and_parts, ltb-true}
use Rattle.edn_model.specs.Form.{Form}
use Rattle.fb_values.specs.declared.facts.Entry.{Entry}
use Rattle.fb_model.specs.Words.{is_keyword_text}
use Rattle.tx_refusals.specs.declared.reasons.Bar.TheVariants.{AttrPred, MissingRequired, UniqueTuple}
use Rattle.tx_refusals.specs.declared.reasons.Reason.{Reason}
use Rattle.tx_refusals.specs.declared.reasons.Reason.TheVariants.{NotAForm, NotAnAttribute, ProtectedAttribute, WrongType, NotUniqueLookup}
use Rattle.tx_refusals.specs.declared.reasons.Reason.TheVariants.{NotAnEntity, NestedWithoutId, TempidConflict, TempidNotAnEntity, CasMany}
use Rattle.tx_refusals.specs.declared.reasons.Reason.TheVariants.{CasFailed, DatomsConflict, UniqueConflict, IncompleteAttribute}
use Rattle.tx_refusals.specs.declared.reasons.Reason.TheVariants.{AttributeFixed, TooLarge, Full, AlterationConflict, Barred}
use Rattle.tx_refusals.specs.declared.reasons.Refusal.{Refusal}
use Rattle.tx_refusals.specs.Reasons.{number_of, keyword_of}
use Rattle.tx_model.specs.Step.{first_refusal, all_rules, refusal_of}
use Rattle.tx_model.proofs.Lists.{which, not_in_none}

abbrev Rule : Type 0
Rule = Reason × Option ℕ

-- the numbers of the rules rise
abbrev numbers_rise : List Rule → Bool
numbers_rise [] = true
numbers_rise (rule ∷ []) = true
numbers_rise (rule ∷ next ∷ rest) = nat_lt (number_of rule.0) (number_of next.0) && numbers_rise (next ∷ rest)

first_is_least : (rule : Rule) (rules : List Rule) (other : Rule) → numbers_rise (rule ∷ rules) ≡ true → Contains rules other
    → number_of rule.0 ≤ number_of other.0
first_is_least rule [] other rise member = absurd (not_in_none other member)
first_is_least rule (next ∷ rules) other rise member =
    let parts = and_parts (nat_lt (number_of rule.0) (number_of next.0)) (numbers_rise (next ∷ rules)) rise in
    let here : number_of rule.0 < number_of next.0 = ltb-true (number_of rule.0) (number_of next.0) parts.0 in
    elim (which next other rules member) [
      | inl same ↦ subst (λ (r : Rule). number_of rule.0 ≤ number_of r.0) same (omega (arith, here))
      | inr later ↦ let rest = first_is_least next rules other parts.1 later in omega (arith, here, rest)
    ]

rest_rise : (rule : Rule) (rules : List Rule) → numbers_rise (rule ∷ rules) ≡ true → numbers_rise rules ≡ true
rest_rise rule [] rise = refl
rest_rise rule (next ∷ rules) rise = (and_parts _ _ rise).1

none_is_not : (at : ℕ) → None ≡ Some at → ⊥
none_is_not at is = cc

least : (rules : List Rule) (refusal : Refusal) (reason : Reason) (at : ℕ) → numbers_rise rules ≡ true → first_refusal rules ≡ Some refusal
    → Contains rules (reason, Some at) → number_of refusal.reason ≤ number_of reason
least [] refusal reason at rise is member = absurd (not_in_none (reason, Some at) member)
least ((first, None) ∷ rules) refusal reason at rise is member =
    elim (which (first, None) (reason, Some at) rules member) [
      | inl same ↦ absurd (none_is_not at (ap (λ (r : Rule). r.1) same))
      | inr later ↦ least rules refusal reason at (rest_rise (first, None) rules rise) is later
    ]
least ((first, Some place) ∷ rules) refusal reason at rise is member =
    let decided : first ≡ refusal.reason = cc in
    elim (which (first, Some place) (reason, Some at) rules member) [
      | inl same ↦ let equal : refusal.reason ≡ reason = sym decided ∙ ap (λ (r : Rule). r.0) same in omega (arith, ap number_of equal)
      | inr later ↦
          let below = first_is_least (first, Some place) rules (reason, Some at) rise later in omega (arith, below, ap number_of decided)
    ]

pub least_told : (h : List Entry) (fs : List Form) (refusal : Refusal) (reason : Reason) (at : ℕ) → refusal_of h fs ≡ Some refusal
    → Contains (all_rules h fs) (reason, Some at) → number_of refusal.reason ≤ number_of reason
least_told h fs refusal reason at is member = least (all_rules h fs) refusal reason at refl is member

pub told_by_keywords : (reason : Reason) → is_keyword_text (keyword_of reason) ≡ true
told_by_keywords NotAForm = refl
told_by_keywords NotAnAttribute = refl
told_by_keywords ProtectedAttribute = refl
told_by_keywords WrongType = refl
told_by_keywords NotUniqueLookup = refl
told_by_keywords NotAnEntity = refl
told_by_keywords NestedWithoutId = refl
told_by_keywords TempidConflict = refl
told_by_keywords TempidNotAnEntity = refl
told_by_keywords CasMany = refl
told_by_keywords CasFailed = refl
told_by_keywords DatomsConflict = refl
told_by_keywords UniqueConflict = refl
told_by_keywords IncompleteAttribute = refl
told_by_keywords AttributeFixed = refl
told_by_keywords TooLarge = refl
told_by_keywords Full = refl
told_by_keywords AlterationConflict = refl
told_by_keywords (Barred AttrPred) = refl
told_by_keywords (Barred MissingRequired) = refl
told_by_keywords (Barred UniqueTuple) = refl
