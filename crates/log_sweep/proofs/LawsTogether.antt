-- The laws 6 to 8 of an entry, from what its datoms' groups keep.
use Rattle.std.proofs.Common.{◌≡◌, ℕ, suc, Bool, true, false, cond, not, ◌&&◌, ◌||◌, List, [], ◌∷◌, ◌++◌, refl, ap, sym, ◌∙◌, subst}
use Rattle.std.proofs.Common.{arith, length, eqb, leb, inl, inr}
use Rattle.std.specs.Prelude.{filter, Contains}
use Rattle.std.specs.List.{list_any}
use Rattle.std.proofs.lemmas.List.{length-map}
use Rattle.std.proofs.lemmas.Bool.{true≢false, and_parts, or_parts, not-true, eq-eqb, leb-true}
use Rattle.fb_values.specs.declared.facts.Datom.{Datom}
use Rattle.fb_values.specs.declared.facts.Entry.{Entry}
use Rattle.fb_model.specs.History.{said}
use Rattle.fb_model.specs.Facts.{is_of, holds, facts, value_eq, standing, values_of}
use Rattle.fb_model.specs.Laws.{has_changes_alone, keeps_one_value, keeps_one_holder, has_no_other_holder}
use Rattle.fb_model.specs.Schema.{is_one, is_unique, is_about}
use Rattle.fb_model.proofs.Members.{are_of_other_triples, all_members, any_member, cases_of, none_of, keep}
use Rattle.fb_model.proofs.Triples.{list_any-same, holds-facts}
use Rattle.fb_model.proofs.Untouched.{filter-append}
use Rattle.log_sweep.specs.declared.law.Law.TheVariants.{ChangesAlone, OneValueEach, OneHolderEach}
use Rattle.log_sweep.specs.Groups.{alike, keeps_in}
use Rattle.log_sweep.proofs.Orders.{alike-refl, alike-of, alike-about, alike-with, is_of-refl}
use Rattle.log_sweep.proofs.Counts.{no_count, any-of}
use Rattle.log_sweep.proofs.Steps.{KeepsAfter, IsSingle, standing_in}

-- ---- law 6

none_in : (q : Datom → Bool) (ds : List Datom) → list_any q ds ≡ false → filter q ds ≡ []
none_in q [] none = refl
none_in q (d ∷ ds) none =
    let parts = or_parts (q d) (list_any q ds) none in
    ap (λ b. cond b (d ∷ filter q ds) (filter q ds)) parts.0 ∙ none_in q ds parts.1

-- of datoms of different triples one is alone in its group
alone : (xs : List Datom) (x : Datom) → are_of_other_triples xs ≡ true → Contains xs x → filter (alike ChangesAlone x) xs ≡ x ∷ []
alone [] x apart member = absurd (none_of x member)
alone (s ∷ S) x apart member =
    let parts = and_parts (not (list_any (is_of s.e s.a s.v) S)) (are_of_other_triples S) apart in
    elim (cases_of s x S member) [
      | inl same ↦ subst (λ y. filter (alike ChangesAlone y) (s ∷ S) ≡ y ∷ []) same (itself (not-true _ parts.0))
      | inr later ↦ other (not-true _ parts.0) later (alone S x parts.1 later) (alike ChangesAlone x s) refl
    ]
  where
    itself : list_any (is_of s.e s.a s.v) S ≡ false → filter (alike ChangesAlone s) (s ∷ S) ≡ s ∷ []
    itself none =
        ap (λ b. cond b (s ∷ filter (alike ChangesAlone s) S) (filter (alike ChangesAlone s) S)) (alike-refl ChangesAlone s)
        ∙ ap (λ l. s ∷ l) (none_in (alike ChangesAlone s) S (any-of s S ∙ none))

    other : list_any (is_of s.e s.a s.v) S ≡ false → Contains S x → filter (alike ChangesAlone x) S ≡ x ∷ [] → (b : Bool)
        → alike ChangesAlone x s ≡ b → cond b (s ∷ filter (alike ChangesAlone x) S) (filter (alike ChangesAlone x) S) ≡ x ∷ []
    other none later rest false is = rest
    other none later rest true is =
        absurd (true≢false
        (sym (any_member (is_of x.e x.a x.v) S x later (is_of-refl x))
        ∙ sym (list_any-same x.e x.a x.v s S (sym (alike-of x s) ∙ is)) ∙ none))

turns-changes : (added held : Bool) → cond added (not held) (not (not held)) ≡ true → cond added (not held) held ≡ true
turns-changes true held is = is
turns-changes false true is = refl
turns-changes false false is = is

pub changes_alone : (schema : List Datom) (h : List Entry) (entry : Entry) (ws : List Datom) → are_of_other_triples entry.datoms ≡ true
    → KeepsAfter ChangesAlone schema (said h) (entry.datoms ++ ws) → has_changes_alone h entry ≡ true
changes_alone schema h entry ws apart keeps =
    all_members (λ d. cond d.added (not (holds h d.e d.a d.v)) (holds h d.e d.a d.v)) entry.datoms
    (λ d member. turns-changes d.added (holds h d.e d.a d.v) (turn d member))
  where
    first_of_group : (d : Datom) → Contains entry.datoms d
        → filter (alike ChangesAlone d) (entry.datoms ++ ws) ≡ d ∷ filter (alike ChangesAlone d) ws
    first_of_group d member =
        filter-append (alike ChangesAlone d) entry.datoms ws
        ∙ ap (λ l. l ++ filter (alike ChangesAlone d) ws) (alone entry.datoms d apart member)

    free : (d : Datom) → eqb (standing_in ChangesAlone d (said h)) 0 ≡ not (holds h d.e d.a d.v)
    free d =
        no_count (alike ChangesAlone d) (facts h)
        ∙ ap not (any-of d (facts h) ∙ sym (holds-facts h d.e d.a d.v))

    turn : (d : Datom) → Contains entry.datoms d
        → cond d.added (not (holds h d.e d.a d.v)) (not (not (holds h d.e d.a d.v))) ≡ true
    turn d member =
        subst (λ b. cond d.added b (not b) ≡ true) (free d)
        (and_parts _ _ (subst (λ l. keeps_in ChangesAlone schema (standing_in ChangesAlone d (said h)) l ≡ true)
        (first_of_group d member) (keeps d refl))).0

-- ---- law 7

filter-same : (p q : Datom → Bool) → ((d : Datom) → p d ≡ q d) → (ds : List Datom) → filter p ds ≡ filter q ds
filter-same p q same [] = refl
filter-same p q same (d ∷ ds) = rw (same d, filter-same p q same ds) refl

pub one_value : (schema p : List Datom) → ((a : ℕ) → is_one (standing p) a ≡ true → is_one schema a ≡ true)
    → IsSingle OneValueEach schema p → keeps_one_value (standing p) ≡ true
one_value schema p promised single =
    all_members (λ d. not (is_one (standing p) d.a) || leb (length (values_of (standing p) d.e d.a)) 1) (standing p)
    (λ d member. go d (is_one (standing p) d.a) refl)
  where
    as_many : (d : Datom) → standing_in OneValueEach d p ≡ length (values_of (standing p) d.e d.a)
    as_many d =
        ap length (filter-same (alike OneValueEach d) (is_about d.e d.a) (alike-about d) (standing p))
        ∙ sym (length-map (filter (is_about d.e d.a) (standing p)) (λ (x : Datom). x.v))

    go : (d : Datom) (b : Bool) → is_one (standing p) d.a ≡ b → (not b || leb (length (values_of (standing p) d.e d.a)) 1) ≡ true
    go d false is = refl
    go d true is = subst (λ n. leb n 1 ≡ true) (as_many d) (single d (promised d.a is))

-- ---- law 8

only_one : (ds : List Datom) (x y : Datom) → leb (length ds) 1 ≡ true → Contains ds x → Contains ds y → x ≡ y
only_one [] x y few x_in y_in = absurd (none_of x x_in)
only_one (d ∷ []) x y few x_in y_in = sym (one x x_in) ∙ one y y_in
  where
    one : (z : Datom) → Contains (d ∷ []) z → d ≡ z
    one z z_in = elim (cases_of d z [] z_in) [ inl same ↦ same | inr later ↦ absurd (none_of z later) ]
only_one (d ∷ c ∷ ds) x y few x_in y_in = absurd (omega (arith, leb-true (suc (suc (length ds))) 1 few))

pub one_holder : (schema p : List Datom) → ((a : ℕ) → is_unique (standing p) a ≡ true → is_unique schema a ≡ true)
    → IsSingle OneHolderEach schema p → keeps_one_holder (standing p) ≡ true
one_holder schema p promised single =
    all_members (λ d. not (is_unique (standing p) d.a) || has_no_other_holder (standing p) d) (standing p)
    (λ d member. go d member (is_unique (standing p) d.a) refl)
  where
    same_holder : (d other : Datom) → Contains (standing p) d → Contains (standing p) other → is_unique (standing p) d.a ≡ true
        → (b : Bool) → (eqb other.a d.a && value_eq other.v d.v) ≡ b → (not b || eqb other.e d.e) ≡ true
    same_holder d other d_in other_in unique false is = refl
    same_holder d other d_in other_in unique true is =
        let same = only_one (filter (alike OneHolderEach d) (standing p)) other d (single d (promised d.a unique))
        (keep (alike OneHolderEach d) (standing p) other other_in (alike-with d other ∙ is))
        (keep (alike OneHolderEach d) (standing p) d d_in (alike-refl OneHolderEach d)) in
        eq-eqb other.e d.e (ap (λ x. x.e) same)

    go : (d : Datom) → Contains (standing p) d → (b : Bool) → is_unique (standing p) d.a ≡ b
        → (not b || has_no_other_holder (standing p) d) ≡ true
    go d d_in false is = refl
    go d d_in true is =
        all_members (λ other. not (eqb other.a d.a && value_eq other.v d.v) || eqb other.e d.e) (standing p)
        (λ other other_in. same_holder d other d_in other_in is (eqb other.a d.a && value_eq other.v d.v) refl)
