-- Where a walk ends: what lies behind a datom beyond the end lies beyond it too; and the ends of the three ranges.
use Rattle.std.proofs.Common.{◌≡◌, ◌∙◌, ℕ, Bool, true, false, not, cond, ◌&&◌, List, ◌∷◌, refl, sym, ap, subst, arith, eqb, inl, inr}
use Rattle.std.proofs.Common.{Option, Some, None}
use Rattle.std.specs.Prelude.{Contains}
use Rattle.std.specs.Option.{option_map_or}
use Rattle.std.specs.Ordering.{is_lt, is_eq, is_gt, nat_cmp, ordering_then, ordering_reverse}
use Rattle.std.specs.declared.cmp.Ordering.{Ordering}
use Rattle.std.specs.declared.cmp.Ordering.TheVariants.{Less, Equal, Greater}
use Rattle.std.proofs.lemmas.Bool.{true≢false, cases_Bool}
use Rattle.std.proofs.lemmas.Bool.Decides.{nat_tests}
use Rattle.fb_values.specs.declared.facts.Datom.{Datom}
use Rattle.fb_values.specs.declared.facts.Value.{Value}
use Rattle.fb_values.specs.declared.indexes.Order.{Order}
use Rattle.fb_values.specs.Orders.{key_cmp, probe_cmp, value_cmp}
use Rattle.fb_values.specs.OrderLaws.{value_cmp_total}
use Rattle.fb_search.specs.Places.{is_below}
use Rattle.fb_values.specs.Rising.{IsRising}
use Rattle.fb_search.proofs.Below.{below_earlier}
use Rattle.live_index.proofs.Members.{contains-cons}
use Rattle.live_index.proofs.Together.{above_later, before_member}
use Rattle.fb_scan.specs.declared.ends.End.{End}
use Rattle.fb_scan.specs.declared.ends.End.TheVariants.{Never, Behind, Before}
use Rattle.fb_scan.specs.Ends.{is_past, IsIn, valued}
use Rattle.view_model.specs.Scan.{between, is_in}

is_less : (o : Ordering) → is_lt o ≡ true → o ≡ Less
is_less Less is = refl
is_less Equal is = absurd (true≢false (sym is))
is_less Greater is = absurd (true≢false (sym is))

pub past_later : (order : Order) (end : End) (x y : Datom) → IsIn order end → key_cmp order x y ≡ Less → is_past end x ≡ true
    → is_past end y ≡ true
past_later order Never x y inside less past = past
past_later order (Behind p) x y inside less past =
    ap is_lt (above_later p.now x y (subst (λ (o : Order). key_cmp o x y ≡ Less) (sym inside) less) (is_less (probe_cmp p.now x) past))
past_later order (Before p) x y inside less past =
    elim (cases_Bool (is_below p.now y)) [
      | inl below ↦
          absurd
          (true≢false (sym past ∙ ap not (below_earlier p.now x y (subst (λ (o : Order). key_cmp o x y ≡ Less) (sym inside) less) below)))
      | inr above ↦ ap not above
    ]

-- none of the datoms from one on that lies beyond the end lies before it
pub all_past : (order : Order) (end : End) (x : Datom) (ds : List Datom) (d : Datom) → IsIn order end → IsRising order (x ∷ ds)
    → is_past end x ≡ true → Contains (x ∷ ds) d → is_past end d ≡ true
all_past order end x ds d inside rising past there =
    elim (contains-cons x ds d there) [
      | inl same ↦ subst (λ (z : Datom). is_past end z ≡ true) same past
      | inr behind ↦ past_later order end x d inside (before_member order x ds d rising.0 behind) past
    ]

-- ---- the datoms that a probe leads to

pub leading_ends : (o : Ordering) → is_eq o ≡ (not (is_gt o) && not (is_lt o))
leading_ends Less = refl
leading_ends Equal = refl
leading_ends Greater = refl

pub below_ends : (o : Ordering) → not (is_gt o) ≡ (not (is_gt o) && true)
below_ends Less = refl
below_ends Equal = refl
below_ends Greater = refl

-- ---- the values of an attribute

eq_is : (n a : ℕ) → eqb n a ≡ is_eq (nat_cmp a n)
eq_is n a = first_of (grind arith, grind (arith, nat_tests))

flip : (o : Ordering) → is_lt (ordering_reverse o) ≡ is_gt o
flip Less = refl
flip Equal = refl
flip Greater = refl

less_back : (x y : Value) → is_lt (value_cmp x y) ≡ is_gt (value_cmp y x)
less_back x y = ap is_lt (value_cmp_total.antisymm x y) ∙ flip (value_cmp y x)

module _ (a : ℕ) (d : Datom) where
  by_value : (o s : Ordering) → is_gt (ordering_then o (ordering_then s Equal)) ≡ cond (is_eq o) (is_gt s) (is_gt o)
  by_value Less s = refl
  by_value Equal Less = refl
  by_value Equal Equal = refl
  by_value Equal Greater = refl
  by_value Greater s = refl

  by_attribute : (o : Ordering) → ordering_then o Equal ≡ o
  by_attribute Less = refl
  by_attribute Equal = refl
  by_attribute Greater = refl

  closed : (o : Ordering) (s : Bool) → ((is_eq o && not s) && true) ≡ (not (cond (is_eq o) s (is_gt o)) && not (is_lt o))
  closed Less s = refl
  closed Equal true = refl
  closed Equal false = refl
  closed Greater s = refl

  bounded : (o : Ordering) (s e : Bool)
      → ((is_eq o && not s) && e) ≡ (not (cond (is_eq o) s (is_gt o)) && not (not (cond (is_eq o) e (is_gt o))))
  bounded Less s e = refl
  bounded Equal true e = refl
  bounded Equal false true = refl
  bounded Equal false false = refl
  bounded Greater s e = refl

  -- whether the value is below the start, or the end, as a test of the attribute's datoms
  abbrev is_early : Option Value → Bool
  is_early start = option_map_or (λ v. is_lt (value_cmp d.v v)) start false

  early_start : (start : Option Value) → option_map_or (λ v. not (is_lt (value_cmp d.v v))) start true ≡ not (is_early start)
  early_start None = refl
  early_start (Some v) = refl

  below_start : (start : Option Value) → is_below (valued a start) d ≡ cond (is_eq (nat_cmp a d.a)) (is_early start) (is_gt (nat_cmp a d.a))
  below_start None = ap is_gt (by_attribute (nat_cmp a d.a)) ∙ none (nat_cmp a d.a)
    where
      none : (o : Ordering) → is_gt o ≡ cond (is_eq o) false (is_gt o)
      none Less = refl
      none Equal = refl
      none Greater = refl
  below_start (Some v) =
      by_value (nat_cmp a d.a) (value_cmp v d.v) ∙ ap (λ b. cond (is_eq (nat_cmp a d.a)) b (is_gt (nat_cmp a d.a))) (sym (less_back d.v v))

  pub between_open : (start : Option Value)
      → is_in (between a start None) d ≡ (not (is_below (valued a start) d) && not (is_lt (probe_cmp (valued a None) d)))
  between_open start =
      ap (λ b. (b && option_map_or (λ v. not (is_lt (value_cmp d.v v))) start true) && true) (eq_is d.a a)
      ∙ ap (λ b. (is_eq (nat_cmp a d.a) && b) && true) (early_start start)
      ∙ closed (nat_cmp a d.a) (is_early start)
      ∙ ap (λ b. not b && not (is_lt (nat_cmp a d.a))) (sym (below_start start))
      ∙ ap (λ o. not (is_below (valued a start) d) && not (is_lt o)) (sym (by_attribute (nat_cmp a d.a)))

  pub between_closed : (start : Option Value) (end : Value)
      → is_in (between a start (Some end)) d ≡ (not (is_below (valued a start) d) && not (not (is_below (valued a (Some end)) d)))
  between_closed start end =
      ap (λ b. (b && option_map_or (λ v. not (is_lt (value_cmp d.v v))) start true) && is_lt (value_cmp d.v end)) (eq_is d.a a)
      ∙ ap (λ b. (is_eq (nat_cmp a d.a) && b) && is_lt (value_cmp d.v end)) (early_start start)
      ∙ bounded (nat_cmp a d.a) (is_early start) (is_lt (value_cmp d.v end))
      ∙ ap (λ b. not b && not (not (cond (is_eq (nat_cmp a d.a)) (is_lt (value_cmp d.v end)) (is_gt (nat_cmp a d.a)))))
      (sym (below_start start))
      ∙ ap (λ b. not (is_below (valued a start) d) && not (not b)) (sym (below_start (Some end)))
