-- Where the range of each question begins: no fact that it asks for stands before.
use Rattle.std.proofs.Common.{◌≡◌, ℕ, Bool, true, false, ◌&&◌, List, [], ◌∷◌, refl, ap, sym, ◌∙◌, eqb, rules}
use Rattle.std.specs.Cmp.{IsTotalOrder, nat_cmp_total, on_total, then_total, eq_by_cmp_equiv}
use Rattle.std.specs.Ordering.{nat_cmp, ordering_then, is_eq, is_le}
use Rattle.std.specs.declared.cmp.Ordering.{Ordering}
use Rattle.std.specs.declared.cmp.Ordering.TheVariants.{Less, Equal, Greater}
use Rattle.std.specs.declared.ops.Bound.TheVariants.{Included, Unbounded}
use Rattle.std.specs.BTreeMap.{BTreeMap, IsOrdered}
use Rattle.std.specs.BTreeMap.Range.{entries_between}
use Rattle.std.proofs.lemmas.Bool.{true≢false}
use Rattle.fb_values.specs.Orders.{value_cmp}
use Rattle.fb_values.specs.OrderLaws.{value_cmp_total}
use Rattle.fb_values.specs.declared.facts.Value.{Value}
use Rattle.fb_values.specs.declared.facts.Value.TheVariants.{Keyword, Str, Bool as Boolean, Long, Ref, Instant, Uuid, Symbol, Uri}
use Rattle.fb_model.specs.Facts.{value_eq}
use Rattle.fb_model.specs.Schema.{is_about}
use Rattle.fb_facts.specs.FactLists.{is_of_entity, is_ref_to, is_under}
use Rattle.held_facts.specs.FactMaps.{place_cmp, content_cmp, fact_of_entity, fact_of_attribute, fact_of_value, is_with}
use Rattle.held_facts.proofs.Steps.{eq_then, same_number}
use Rattle.held_facts.proofs.Ranges.{Opens, opens}

-- ---- orders

front : (r s : Ordering) → is_le (ordering_then r s) ≡ true → is_le r ≡ true
front Less s le = refl
front Equal s le = refl
front Greater s le = absurd (true≢false (sym le))

le_then : (r s : Ordering) → is_le r ≡ true → is_le s ≡ true → is_le (ordering_then r s) ≡ true
le_then Less s le also = refl
le_then Equal s le also = also
le_then Greater s le also = absurd (true≢false (sym le))

eq_le : (r : Ordering) → is_eq r ≡ true → is_le r ≡ true
eq_le Less is = absurd (true≢false (sym is))
eq_le Equal is = refl
eq_le Greater is = absurd (true≢false (sym is))

zero_least : (n : ℕ) → is_le (nat_cmp 0 n) ≡ true
zero_least n = search rules

keyword_least : (v : Value) → is_le (value_cmp (Keyword []) v) ≡ true
keyword_least (Keyword []) = refl
keyword_least (Keyword (b ∷ bytes)) = refl
keyword_least (Str text) = refl
keyword_least (Boolean b) = refl
keyword_least (Long n) = refl
keyword_least (Ref n) = refl
keyword_least (Instant n) = refl
keyword_least (Uuid n) = refl
keyword_least (Symbol text) = refl
keyword_least (Uri text) = refl

number_back : (m n : ℕ) → eqb m n ≡ is_eq (nat_cmp n m)
number_back m n = sym (same_number m n) ∙ (eq_by_cmp_equiv nat_cmp_total).symm m n

value_back : (v w : Value) → value_eq v w ≡ is_eq (value_cmp w v)
value_back v w = (eq_by_cmp_equiv value_cmp_total).symm v w

and_swapped : (p q : Bool) → (p && q) ≡ (q && p)
and_swapped true true = refl
and_swapped true false = refl
and_swapped false true = refl
and_swapped false false = refl

-- ---- the maps by two numbers and a value

abbrev first_number : ℕ × ℕ × Value → ℕ × ℕ × Value → Ordering
first_number x y = nat_cmp x.0 y.0

first_number_total : IsTotalOrder first_number
first_number_total = on_total (λ t. t.0) nat_cmp_total

abbrev numbers : ℕ × ℕ × Value → ℕ × ℕ × Value → Ordering
numbers x y = ordering_then (nat_cmp x.0 y.0) (nat_cmp x.1 y.1)

numbers_total : IsTotalOrder numbers
numbers_total = then_total (on_total (λ t. t.0) nat_cmp_total) (on_total (λ t. t.1) nat_cmp_total)

abbrev place_from : ℕ → ℕ → Value → BTreeMap (ℕ × ℕ × Value) ℕ → List ((ℕ × ℕ × Value) × ℕ)
place_from x y v m = entries_between place_cmp (Included (x, y, v)) Unbounded m.entries

module _ (x : ℕ) (v : Value) (is : v ≡ Keyword []) where
  under_number : (k : ℕ × ℕ × Value) → is_eq (first_number (x, 0, v) k) ≡ true → is_le (place_cmp (x, 0, v) k) ≡ true
  under_number k same =
      le_then (ordering_then (nat_cmp x k.0) (nat_cmp 0 k.1)) (value_cmp v k.2)
      (le_then (nat_cmp x k.0) (nat_cmp 0 k.1) (eq_le (nat_cmp x k.0) same) (zero_least k.1))
      (ap (λ w. is_le (value_cmp w k.2)) is ∙ keyword_least k.2)

  coarser_number : (j k : ℕ × ℕ × Value) → is_le (place_cmp j k) ≡ true → is_le (first_number j k) ≡ true
  coarser_number j k le = front (nat_cmp j.0 k.0) (nat_cmp j.1 k.1) (front (numbers j k) (value_cmp j.2 k.2) le)

  pub entity_opens : (m : BTreeMap (ℕ × ℕ × Value) ℕ) → IsOrdered place_cmp m
      → Opens fact_of_entity (is_of_entity x) (place_from x 0 v m) m.entries
  entity_opens m =
      opens place_cmp first_number first_number_total coarser_number (x, 0, v) under_number fact_of_entity (is_of_entity x)
      (λ p. number_back p.0.0 x) m.entries

  pub attribute_opens : (m : BTreeMap (ℕ × ℕ × Value) ℕ) → IsOrdered place_cmp m
      → Opens fact_of_attribute (is_under x) (place_from x 0 v m) m.entries
  attribute_opens m =
      opens place_cmp first_number first_number_total coarser_number (x, 0, v) under_number fact_of_attribute (is_under x)
      (λ p. number_back p.0.0 x) m.entries

module _ (e a : ℕ) (v : Value) (is : v ≡ Keyword []) where
  under_numbers : (k : ℕ × ℕ × Value) → is_eq (numbers (e, a, v) k) ≡ true → is_le (place_cmp (e, a, v) k) ≡ true
  under_numbers k same =
      le_then (numbers (e, a, v) k) (value_cmp v k.2) (eq_le (numbers (e, a, v) k) same)
      (ap (λ w. is_le (value_cmp w k.2)) is ∙ keyword_least k.2)

  about_same : (p : (ℕ × ℕ × Value) × ℕ) → is_about e a (fact_of_entity p) ≡ is_eq (numbers (e, a, v) p.0)
  about_same p =
      ap (λ b. b && eqb p.0.1 a) (number_back p.0.0 e)
      ∙ ap (λ b. is_eq (nat_cmp e p.0.0) && b) (number_back p.0.1 a)
      ∙ sym (eq_then (nat_cmp e p.0.0) (nat_cmp a p.0.1))

  pub about_opens : (m : BTreeMap (ℕ × ℕ × Value) ℕ) → IsOrdered place_cmp m
      → Opens fact_of_entity (is_about e a) (place_from e a v m) m.entries
  about_opens m =
      opens place_cmp numbers numbers_total (λ j k. front (numbers j k) (value_cmp j.2 k.2)) (e, a, v) under_numbers fact_of_entity
      (is_about e a) about_same m.entries

-- ---- the map by a value and two numbers

abbrev value_first : Value × ℕ × ℕ → Value × ℕ × ℕ → Ordering
value_first x y = value_cmp x.0 y.0

value_first_total : IsTotalOrder value_first
value_first_total = on_total (λ t. t.0) value_cmp_total

abbrev content : Value × ℕ × ℕ → Value × ℕ × ℕ → Ordering
content x y = ordering_then (value_cmp x.0 y.0) (nat_cmp x.1 y.1)

content_total : IsTotalOrder content
content_total = then_total (on_total (λ t. t.0) value_cmp_total) (on_total (λ t. t.1) nat_cmp_total)

abbrev content_from : Value → ℕ → BTreeMap (Value × ℕ × ℕ) ℕ → List ((Value × ℕ × ℕ) × ℕ)
content_from v a m = entries_between content_cmp (Included (v, a, 0)) Unbounded m.entries

coarser_value : (j k : Value × ℕ × ℕ) → is_le (content_cmp j k) ≡ true → is_le (value_first j k) ≡ true
coarser_value j k le = front (value_cmp j.0 k.0) (nat_cmp j.1 k.1) (front (content j k) (nat_cmp j.2 k.2) le)

under_value : (v : Value) (k : Value × ℕ × ℕ) → is_eq (value_first (v, 0, 0) k) ≡ true → is_le (content_cmp (v, 0, 0) k) ≡ true
under_value v k same =
    le_then (ordering_then (value_cmp v k.0) (nat_cmp 0 k.1)) (nat_cmp 0 k.2)
    (le_then (value_cmp v k.0) (nat_cmp 0 k.1) (eq_le (value_cmp v k.0) same) (zero_least k.1))
    (zero_least k.2)

pub refs_open : (e : ℕ) (m : BTreeMap (Value × ℕ × ℕ) ℕ) → IsOrdered content_cmp m
    → Opens fact_of_value (is_ref_to e) (content_from (Ref e) 0 m) m.entries
refs_open e m =
    opens content_cmp value_first value_first_total coarser_value (Ref e, 0, 0) (under_value (Ref e)) fact_of_value (is_ref_to e)
    (λ p. value_back p.0.0 (Ref e)) m.entries

under_content : (v : Value) (a : ℕ) (k : Value × ℕ × ℕ) → is_eq (content (v, a, 0) k) ≡ true → is_le (content_cmp (v, a, 0) k) ≡ true
under_content v a k same = le_then (content (v, a, 0) k) (nat_cmp 0 k.2) (eq_le (content (v, a, 0) k) same) (zero_least k.2)

with_same : (v : Value) (a : ℕ) (p : (Value × ℕ × ℕ) × ℕ) → is_with a v (fact_of_value p) ≡ is_eq (content (v, a, 0) p.0)
with_same v a p =
    and_swapped (eqb p.0.1 a) (value_eq p.0.0 v)
    ∙ ap (λ b. b && eqb p.0.1 a) (value_back p.0.0 v)
    ∙ ap (λ b. is_eq (value_cmp v p.0.0) && b) (number_back p.0.1 a)
    ∙ sym (eq_then (value_cmp v p.0.0) (nat_cmp a p.0.1))

pub with_opens : (v : Value) (a : ℕ) (m : BTreeMap (Value × ℕ × ℕ) ℕ) → IsOrdered content_cmp m
    → Opens fact_of_value (is_with a v) (content_from v a m) m.entries
with_opens v a m =
    opens content_cmp content content_total (λ j k. front (content j k) (nat_cmp j.2 k.2)) (v, a, 0) (under_content v a) fact_of_value
    (is_with a v) (with_same v a) m.entries
