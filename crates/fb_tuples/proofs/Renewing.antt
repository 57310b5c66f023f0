-- The rows after an entry: those of its entities anew, and the others as they were.
use Rattle.std.proofs.Common.{inl, inr, ◌⊎◌, ◌≡◌, ℕ, ◌<◌, ◌≤◌, ◌+◌, Bool, true, false, cond, not, List, [], ◌∷◌, ◌++◌, length, get_or, take, map, refl, sym, ap, ◌∙◌, subst, arith, append_assoc}
use Rattle.std.specs.Prelude.{◌↔◌, Contains, filter, nat_eq, is_some, Result, Ok, Err, is_ok, MatchResult}
use Rattle.std.proofs.lemmas.List.Kept.{AllPairs-from_increasing}
use Rattle.std.proofs.lemmas.Bool.{cases_lt}
use Rattle.std.proofs.lemmas.List.Sorted.{searched}
use Rattle.std.proofs.lemmas.List.{get_or_default, take_more, map-append}
use Rattle.std.specs.List.{list_any, IsDistinct, AllByRecursion}
use Rattle.std.specs.List.Sorted.{IsPermutation, IsSortedBy, IsStrictlyIncreasing, IsBinarySearchResult}
use Rattle.std.specs.Ordering.{is_lt, nat_cmp}
use Rattle.std.specs.Cmp.{tied_itself}
use Rattle.std.proofs.lemmas.Bool.{true≢false, eqb-true, eq-eqb}
use Rattle.std.proofs.lemmas.List.Elements.{Contains-append_left, Contains-append_right, Contains-append_cases, Contains-get_or, filter-append}
use Rattle.std.proofs.lemmas.List.Sorted.{Contains-permutation, IsPermutation-sym}
use Rattle.fb_values.specs.declared.facts.Datom.{Datom}
use Rattle.fb_values.specs.declared.facts.Entry.{Entry}
use Rattle.fb_model.specs.Facts.{facts}
use Rattle.tuple_model.specs.Tuples.{Tuple, Row, row_cmp, tuple_of, IsRowOf, AreTuples, rows_rise}
use Rattle.tuple_model.proofs.Members.{here, there, kept_member, kept_has, any_has, any_member, map_has, map_member}
use Rattle.tuple_model.proofs.Rows.{first_is_least, rest_rises}
use Rattle.tuple_model.proofs.SeenRows.{has_one_of-some}
use Rattle.tuple_model.proofs.Entries.{tuple_of-untouched, has_one_of-untouched}
use Rattle.fb_tuples.specs.Indexed.{is_named, rows_of_others, row_at, rows_anew}
use Rattle.fb_tuples.proofs.Firsts.{not_same}
use Rattle.fb_tuples.proofs.RowOrders.{row_cmp_total}
use Rattle.fb_tuples.proofs.Sorted.{same_entity, kept_apart, rows_apart, numbers_apart, apart_rise}

-- ---- entities that are named

pub named_has : (es : List ℕ) (e : ℕ) → is_named es e ≡ true → Contains es e
named_has es e is =
    let found = any_member (nat_eq e) es is in
    subst (Contains es) (sym (eqb-true e found.0 found.2)) found.1

pub has_named : (es : List ℕ) (e : ℕ) → Contains es e → is_named es e ≡ true
has_named es e member = any_has (nat_eq e) es e member (eq-eqb e e refl)

never_falls : (es : List ℕ) → IsStrictlyIncreasing es → (i j : ℕ) → i ≤ j → j < length es → get_or es i 0 ≤ get_or es j 0
never_falls es rising i j le within = go (cases_lt i j)
  where
    go : (i < j) ⊎ (j ≤ i) → get_or es i 0 ≤ get_or es j 0
    go (inl less) = let up = AllPairs-from_increasing es rising i j 0 less within in omega (arith, up)
    go (inr back) =
        let same : i ≡ j = omega (arith, le, back) in
        let at = ap (λ k. get_or es k 0) same in omega (arith, at)

-- a search in rising numbers finds those that are named
pub named_searched : (es : List ℕ) (e : ℕ) (r : Result ℕ ℕ) → IsStrictlyIncreasing es → IsBinarySearchResult (λ y. nat_cmp y e) es r
    → is_ok r ≡ is_named es e
named_searched es e r rising found = go r (searched es e r found (never_falls es rising))
  where
    go : (q : Result ℕ ℕ) → MatchResult q (λ i. (i < length es) × (get_or es i 0 ≡ e))
        (λ i. (i ≤ length es) × ((k : ℕ) → k < i → get_or es k 0 < e) × ((k : ℕ) → i ≤ k → k < length es → e < get_or es k 0))
        → is_ok q ≡ is_named es e
    go (Ok i) at = sym (has_named es e (subst (Contains es) at.1 (Contains-get_or es i 0 at.0)))
    go (Err i) none = unnamed (is_named es e) refl
      where
        at_none : (k : ℕ) → k < length es → get_or es k 0 ≡ e → ⊥
        at_none k within same = elim (cases_lt k i) [
          | inl below ↦ let low = none.1 k below in omega (arith, low, same)
          | inr behind ↦ let high = none.2 k behind within in omega (arith, high, same)
        ]

        unnamed : (b : Bool) → is_named es e ≡ b → false ≡ b
        unnamed false is = refl
        unnamed true is =
            let member = named_has es e is in
            absurd (at_none member.0 member.1 (sym (get_or_default es member.0 e 0 member.1) ∙ member.2))

-- ---- lists whose entities are apart

all_of : {A : Type 0} (P : A → Type 0) (xs : List A) → ((x : A) → Contains xs x → P x) → AllByRecursion P xs
all_of P [] each = tt
all_of P (x ∷ xs) each = (each x (here x xs), all_of P xs (λ y member. each y (there x y xs member)))

all_both : {A : Type 0} (P : A → Type 0) (xs ys : List A) → AllByRecursion P xs → AllByRecursion P ys → AllByRecursion P (xs ++ ys)
all_both P [] ys first second = second
all_both P (x ∷ xs) ys first second = (first.0, all_both P xs ys first.1 second)

both_apart : (xs ys : List Row) → IsDistinct same_entity xs → IsDistinct same_entity ys
    → ((x y : Row) → Contains xs x → Contains ys y → same_entity x y ≡ false) → IsDistinct same_entity (xs ++ ys)
unfolding IsDistinct
both_apart [] ys first second apart = second
both_apart (x ∷ xs) ys first second apart = (
  all_both (λ y. same_entity x y ≡ false) xs ys first.0 (all_of (λ y. same_entity x y ≡ false) ys (λ y member. apart x y (here x xs) member)),
  both_apart xs ys first.1 second (λ z y has member. apart z y (there x z xs has) member),
)

-- rows that rise, with one for each entity
rising_apart : (rows : List Row) → rows_rise rows ≡ true → ((x y : Row) → Contains rows x → Contains rows y → x.e ≡ y.e → x ≡ y)
    → IsDistinct same_entity rows
unfolding IsDistinct
rising_apart [] rising one = tt
rising_apart (x ∷ rows) rising one = (
  all_of (λ y. same_entity x y ≡ false) rows
      (λ y member. not_same x.e y.e (λ same.
      let is = one x y (here x rows) (there x y rows member) same in
      below_itself x (subst (λ z. is_lt (row_cmp x z) ≡ true) (sym is) (first_is_least x rows y rising member)))),
  rising_apart rows (rest_rises x rows rising) (λ y z has also same. one y z (there x y rows has) (there x z rows also) same),
)
  where
    below_itself : (z : Row) → is_lt (row_cmp z z) ≡ true → ⊥
    below_itself z lt = true≢false (sym lt ∙ ap is_lt (tied_itself row_cmp_total z))

entities_anew : (fs : List Datom) (attrs es : List ℕ) → map (λ row. row.e) (map (row_at fs attrs) es) ≡ es
entities_anew fs attrs [] = refl
entities_anew fs attrs (e ∷ es) = ap (λ l. e ∷ l) (entities_anew fs attrs es)

pub anew_more : (fs : List Datom) (attrs es : List ℕ) (i e : ℕ) → i < length es → e ≡ get_or es i e
    → rows_anew fs attrs (take (i + 1) es)
    ≡ rows_anew fs attrs (take i es) ++ cond (list_any is_some (tuple_of fs attrs e)) (row_at fs attrs e ∷ []) []
anew_more fs attrs es i e within at =
    let has = λ (row : Row). list_any is_some row.tuple in
    let taken : take (i + 1) es ≡ take i es ++ e ∷ [] = take_more es i e within ∙ ap (λ n. take i es ++ n ∷ []) (sym at) in
    ap (λ l. filter has (map (row_at fs attrs) l)) taken
    ∙ ap (filter has) (map-append (row_at fs attrs) (take i es) (e ∷ []))
    ∙ filter-append has (map (row_at fs attrs) (take i es)) (row_at fs attrs e ∷ [])

pub anew_next : (fs : List Datom) (attrs es : List ℕ) (i e : ℕ) (start old new : List Row) (tuple : Tuple) → i < length es
    → e ≡ get_or es i e → old ≡ start ++ rows_anew fs attrs (take i es) → tuple ≡ tuple_of fs attrs e
    → new ≡ old ++ cond (list_any is_some tuple) (record { tuple = tuple; e = e } ∷ []) []
    → new ≡ start ++ rows_anew fs attrs (take (i + 1) es)
anew_next fs attrs es i e start old new tuple within at old_is tuple_is is =
    let added = λ (t : Tuple). cond (list_any is_some t) (record { tuple = t; e = e } ∷ []) [] in
    let rows = rows_anew fs attrs (take i es) in
    is ∙ ap (λ l. l ++ added tuple) old_is ∙ ap (λ t. (start ++ rows) ++ added t) tuple_is
    ∙ append_assoc start rows (added (tuple_of fs attrs e)) ∙ ap (λ l. start ++ l) (sym (anew_more fs attrs es i e within at))

-- ---- after an entry

module _ (h : List Entry) (entry : Entry) (attrs : List ℕ) (rows : List Row) (stands : AreTuples (facts h) attrs rows) (es : List ℕ)
    (entities : (e : ℕ) → Contains (map (λ d. d.e) entry.datoms) e ↔ Contains es e) where
  abbrev pub later : List Datom
  later = facts (h ++ entry ∷ [])

  untold : (e : ℕ) → is_named es e ≡ false → list_any (λ d. nat_eq d.e e) entry.datoms ≡ false
  untold e other = go (list_any (λ d. nat_eq d.e e) entry.datoms) refl
    where
      go : (b : Bool) → list_any (λ d. nat_eq d.e e) entry.datoms ≡ b → b ≡ false
      go false is = refl
      go true is =
          let found = any_member (λ (d : Datom). nat_eq d.e e) entry.datoms is in
          let member = subst (Contains (map (λ (d : Datom). d.e) entry.datoms)) (eqb-true found.0.e e found.2)
          (map_has (λ (d : Datom). d.e) entry.datoms found.0 found.1) in
          absurd (true≢false (sym (has_named es e ((entities e).0 member)) ∙ other))

  not_true : (b : Bool) → not b ≡ true → b ≡ false
  not_true true is = absurd (true≢false (sym is))
  not_true false is = refl

  old_member : (row : Row) → Contains (rows_of_others es rows) row → Contains rows row × (is_named es row.e ≡ false)
  old_member row member =
      let kept = kept_member (λ r. not (is_named es r.e)) rows row member in (kept.0, not_true (is_named es row.e) kept.1)

  new_member : (row : Row) → Contains (rows_anew later attrs es) row
      → Contains es row.e × (row.tuple ≡ tuple_of later attrs row.e) × (list_any is_some row.tuple ≡ true)
  new_member row member =
      let kept = kept_member (λ r. list_any is_some r.tuple) (map (row_at later attrs) es) row member in
      let from = map_member (row_at later attrs) es row kept.0 in (
        subst (Contains es) (ap (λ r. r.e) from.2) from.1,
        sym (ap (λ r. r.tuple) from.2) ∙ ap (tuple_of later attrs) (ap (λ r. r.e) from.2),
        kept.1,
      )

  told : (row : Row) → Contains (rows_of_others es rows ++ rows_anew later attrs es) row → IsRowOf later attrs row
  told row member = elim (Contains-append_cases (rows_of_others es rows) (rows_anew later attrs es) row member) [
    | inl old ↦
        let from = old_member row old in
        let is = (stands.members row).0 from.0 in
        let quiet = untold row.e from.1 in
        record {
          some = has_one_of-untouched h entry attrs row.e quiet ∙ is.some;
          tuple_is = is.tuple_is ∙ sym (tuple_of-untouched h entry attrs row.e quiet);
        }
    | inr new ↦
        let from = new_member row new in
        record {
          some = has_one_of-some later attrs row.e ∙ ap (list_any is_some) (sym from.1) ∙ from.2;
          tuple_is = from.1;
        }
  ]

  there_too : (row : Row) → IsRowOf later attrs row → Contains (rows_of_others es rows ++ rows_anew later attrs es) row
  there_too row is = go (is_named es row.e) refl
    where
      go : (b : Bool) → is_named es row.e ≡ b → Contains (rows_of_others es rows ++ rows_anew later attrs es) row
      go true named =
          let row_is : row_at later attrs row.e ≡ row = λ i. record { tuple = sym is.tuple_is i; e = row.e } in
          Contains-append_right (rows_of_others es rows) (rows_anew later attrs es) row
          (kept_has (λ r. list_any is_some r.tuple) (map (row_at later attrs) es) row
          (subst (Contains (map (row_at later attrs) es)) row_is (map_has (row_at later attrs) es row.e (named_has es row.e named)))
          (ap (list_any is_some) is.tuple_is ∙ sym (has_one_of-some later attrs row.e) ∙ is.some))
      go false other =
          let quiet = untold row.e other in
          Contains-append_left (rows_of_others es rows) (rows_anew later attrs es) row
          (kept_has (λ r. not (is_named es r.e)) rows row
          ((stands.members row).1 (record {
            some = sym (has_one_of-untouched h entry attrs row.e quiet) ∙ is.some;
            tuple_is = is.tuple_is ∙ tuple_of-untouched h entry attrs row.e quiet;
          })) (ap not other))

  apart : IsStrictlyIncreasing es → IsDistinct same_entity (rows_of_others es rows ++ rows_anew later attrs es)
  apart rising =
      both_apart (rows_of_others es rows) (rows_anew later attrs es)
      (kept_apart (λ r. not (is_named es r.e)) rows
      (rising_apart rows stands.rising (λ x y has also same.
      let first = ((stands.members x).0 has).tuple_is in
      let second = ((stands.members y).0 also).tuple_is in
      let tuples : x.tuple ≡ y.tuple = first ∙ ap (tuple_of (facts h) attrs) same ∙ sym second in
      λ i. record { tuple = tuples i; e = same i })))
      (kept_apart (λ r. list_any is_some r.tuple) (map (row_at later attrs) es)
      (rows_apart (map (row_at later attrs) es)
      (subst (IsDistinct nat_eq) (sym (entities_anew later attrs es)) (numbers_apart es rising))))
      (λ x y old new. not_same x.e y.e (λ same.
      true≢false (sym (has_named es x.e (subst (Contains es) (sym same) (new_member y new).0)) ∙ (old_member x old).1)))

  pub renewed_tuples : IsStrictlyIncreasing es → (ys : List Row) → IsPermutation (rows_of_others es rows ++ rows_anew later attrs es) ys
      → IsSortedBy (λ x y. is_lt (row_cmp x y)) ys → AreTuples later attrs ys
  renewed_tuples rising ys moved sorted =
      let all = rows_of_others es rows ++ rows_anew later attrs es in
      record {
        rising = apart_rise all ys (apart rising) moved sorted;
        members = λ row. (
          λ member. told row (Contains-permutation ys all row (IsPermutation-sym all ys moved) member),
          λ is.
              Contains-permutation all ys row moved (there_too row is),
        );
      }
