-- Groups of some of the datoms, one step of a sweep, and the schemas of an entry that describes.
use Rattle.std.proofs.Common.{◌≡◌, ℕ, ◌+◌, ◌-◌, ◌≤◌, Bool, true, false, cond, not, ◌&&◌, ◌||◌, List, [], ◌∷◌, ◌++◌, refl, ap, sym, ◌∙◌, subst, arith}
use Rattle.std.proofs.Common.{eqb, Option, Some, None, suc, ◌<◌, length, drop, get_or, drop-cons, add-one}
use Rattle.std.specs.Borrow.{Bor}
use Rattle.std.specs.Prelude.{filter, is_some}
use Rattle.std.specs.List.{list_all}
use Rattle.std.specs.Option.{option_map_or}
use Rattle.std.proofs.lemmas.Bool.{true≢false}
use Rattle.fb_values.specs.declared.facts.Datom.{Datom}
use Rattle.fb_values.specs.declared.facts.Entry.{Entry}
use Rattle.fb_numbers.specs.Numbers.{index}
use Rattle.fb_model.specs.Facts.{facts}
use Rattle.fb_model.specs.Laws.{facts_with, says_attribute}
use Rattle.fb_model.specs.Schema.{Attribute, attribute_of, is_unique, is_whole_attribute}
use Rattle.fb_model.proofs.Invariants.{facts-push}
use Rattle.fb_model.proofs.Members.{filter_twice}
use Rattle.fb_schema.specs.Described.{SchemaStands}
use Rattle.tx_laws.proofs.Altering.{attribute_stands}
use Rattle.log_sweep.specs.declared.law.Law.{Law}
use Rattle.log_sweep.specs.declared.law.Law.TheVariants.{ChangesAlone, OneValueEach, OneHolderEach}
use Rattle.log_sweep.specs.Alone.{describes_well, has_a_cardinality}
use Rattle.log_sweep.specs.Groups.{lent, alike, allows, stands, is_at, keeps_in, Keeps}
use Rattle.log_sweep.specs.Sweeps.{joins, stepped, keeps_swept}
use Rattle.log_sweep.proofs.Orders.{same_content, same_triple}

-- ---- groups of some of the datoms

-- a test that all of a group pass may be made first
in_part : (p q : Datom → Bool) → ((d : Datom) → p d ≡ true → q d ≡ true) → (ds : List Datom) → filter p (filter q ds) ≡ filter p ds
in_part p q passes ds = filter_twice p q ds ∙ both ds
  where
    same : (d : Datom) (b : Bool) → p d ≡ b → (b && q d) ≡ b
    same d true is = passes d is
    same d false is = refl

    both : (ds : List Datom) → filter (λ d. p d && q d) ds ≡ filter p ds
    both [] = refl
    both (d ∷ ds) = rw (same d (p d) refl, both ds) refl

pub unique-kept : (schema ds : List Datom) → Keeps OneHolderEach schema (filter (λ d. is_unique schema d.a) ds) → Keeps OneHolderEach schema ds
unique-kept schema ds keeps = λ d asks.
    subst (λ l. keeps_in OneHolderEach schema 0 l ≡ true)
    (in_part (alike OneHolderEach d) (λ x. is_unique schema x.a)
    (λ x is. subst (λ a. is_unique schema a ≡ true) (same_content d x is).0 asks) ds) (keeps d asks)

-- places that lie as they lay before have their triples as they had them
pub triples-kept : (schema new old : List Datom)
    → ((d : Datom) → filter (alike OneValueEach d) new ≡ filter (alike OneValueEach d) old)
    → Keeps ChangesAlone schema new → Keeps ChangesAlone schema old
triples-kept schema new old stable keeps = λ d asks.
    subst (λ l. keeps_in ChangesAlone schema 0 l ≡ true)
    (sym (triples d new) ∙ ap (filter (alike ChangesAlone d)) (stable d) ∙ triples d old) (keeps d asks)
  where
    triples : (d : Datom) (ds : List Datom) → filter (alike ChangesAlone d) (filter (alike OneValueEach d) ds) ≡ filter (alike ChangesAlone d) ds
    triples d ds = in_part (alike ChangesAlone d) (alike OneValueEach d) (λ x is. (same_triple d x is).0) ds

-- ---- one step of a sweep

module _ (law : Law) (schema : List Datom) (n : ℕ) (d : Datom) (ds : List Datom) where
  pub stepped-on : (m : ℕ) → stepped law schema n d ds ≡ Some m → keeps_swept law schema n (d ∷ ds) ≡ keeps_swept law schema m ds
  stepped-on m is = go (allows law schema n d (joins law d ds && is_at d.t ds)) is
    where
      go : (b : Bool) → cond b (Some (cond (joins law d ds) (stands n d) 0)) None ≡ Some m
          → (b && keeps_swept law schema (cond (joins law d ds) (stands n d) 0) ds) ≡ keeps_swept law schema m ds
      go true same = ap (λ (o : Option ℕ). option_map_or (λ k. keeps_swept law schema k ds) o false) same
      go false same = absurd (true≢false (sym (ap is_some same)))

  pub stepped-off : stepped law schema n d ds ≡ None → keeps_swept law schema n (d ∷ ds) ≡ false
  stepped-off is = go (allows law schema n d (joins law d ds && is_at d.t ds)) is
    where
      go : (b : Bool) → cond b (Some (cond (joins law d ds) (stands n d) 0)) None ≡ None
          → (b && keeps_swept law schema (cond (joins law d ds) (stands n d) 0) ds) ≡ false
      go true same = absurd (true≢false (ap is_some same))
      go false same = refl

  pub stepped-few : (m i : ℕ) → n ≤ i → stepped law schema n d ds ≡ Some m → m ≤ i + 1
  stepped-few m i few is = go (allows law schema n d (joins law d ds && is_at d.t ds)) (joins law d ds) d.added is
    where
      some : (k : ℕ) → Some k ≡ Some m → m ≡ k
      some k same = ap (λ (o : Option ℕ). option_map_or (λ j. j) o m) (sym same)

      go : (b joined added : Bool) → cond b (Some (cond joined (cond added (n + 1) (n - 1)) 0)) None ≡ Some m → m ≤ i + 1
      go true true true same = omega (arith, few, some (n + 1) same)
      go true true false same = omega (arith, few, some (n - 1) same)
      go true false added same = omega (arith, some 0 same)
      go false joined added same = absurd (true≢false (sym (ap is_some same)))

-- one step further in the sorted datoms
module _ (law : Law) (schema : List Datom) (sorted : List (Bor Datom)) (i n : ℕ) (d : Bor Datom) (there : i < length sorted)
    (is : d ≡ get_or sorted i d) where
  next_there : lent (drop i sorted) ≡ d.now ∷ lent (drop (i + 1) sorted)
  next_there =
      ap lent (drop-cons sorted i d there)
      ∙ ap (λ (x : Bor Datom). x.now ∷ lent (drop (suc i) sorted)) (sym is)
      ∙ ap (λ (k : ℕ). d.now ∷ lent (drop k sorted)) (sym (add-one i))

  pub swept-on : (m : ℕ) → stepped law schema n d.now (lent (drop (i + 1) sorted)) ≡ Some m
      → keeps_swept law schema m (lent (drop (i + 1) sorted)) ≡ keeps_swept law schema n (lent (drop i sorted))
  swept-on m steps =
      sym (stepped-on law schema n d.now (lent (drop (i + 1) sorted)) m steps) ∙ ap (keeps_swept law schema n) (sym next_there)

  pub swept-off : stepped law schema n d.now (lent (drop (i + 1) sorted)) ≡ None → keeps_swept law schema n (lent (drop i sorted)) ≡ false
  swept-off steps = ap (keeps_swept law schema n) next_there ∙ stepped-off law schema n d.now (lent (drop (i + 1) sorted)) steps

-- ---- the schemas before and after an entry

pub well-same : (before after : List Datom) (h : List Entry) (entry : Entry) → SchemaStands before h → SchemaStands after (h ++ entry ∷ [])
    → (ds : List Datom)
    → list_all (describes_well before after) ds ≡ list_all (describes_well (facts h) (facts_with h entry)) ds
well-same before after h entry stands_before stands_after [] = refl
well-same before after h entry stands_before stands_after (d ∷ ds) =
    ap (λ b. b && list_all (describes_well before after) ds) one
    ∙ ap (λ b. describes_well (facts h) (facts_with h entry) d && b) (well-same before after h entry stands_before stands_after ds)
  where
    one : describes_well before after d ≡ describes_well (facts h) (facts_with h entry) d
    one = ap (λ (o : Option Attribute). not (says_attribute d)
        || ((eqb d.a index || not (is_some o)) && (has_a_cardinality d && option_map_or is_whole_attribute (attribute_of after d.e) false)))
        (attribute_stands before h d.e stands_before)
        ∙ ap (λ (o : Option Attribute). not (says_attribute d)
        || ((eqb d.a index || not (is_some (attribute_of (facts h) d.e))) && (has_a_cardinality d && option_map_or is_whole_attribute o false)))
        (attribute_stands after (h ++ entry ∷ []) d.e stands_after ∙ ap (λ fs. attribute_of fs d.e) (facts-push h entry))
