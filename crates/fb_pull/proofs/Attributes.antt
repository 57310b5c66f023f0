-- The attributes of an entity, one after another; and that their numbers are small, as all numbers of a lawful history are.
use Rattle.std.proofs.Common.{◌≡◌, ◌∙◌, ℕ, suc, ◌+◌, ◌<◌, ◌≤◌, ◌^◌, inl, inr, Bool, true, false, ◌&&◌, List, []}
use Rattle.std.proofs.Common.{◌∷◌, ◌++◌, refl, sym, subst, Option, Some, None, eqb, leb, arith}
use Rattle.std.specs.Prelude.{filter, Contains, ◌↔◌, MatchOption, is_some}
use Rattle.std.specs.List.{All}
use Rattle.std.proofs.lemmas.Bool.{true≢false, and_parts, eqb-true, leb-true, or_cases, cases_lt}
use Rattle.std.proofs.lemmas.List.Elements.{Contains-append_left, Contains-append_right, Contains-append_cases, All-nil, All-cons}
use Rattle.fb_values.specs.declared.facts.Datom.{Datom}
use Rattle.fb_values.specs.declared.facts.Entry.{Entry}
use Rattle.fb_numbers.specs.Numbers.{is_builtin, transaction_of, user_entity, greatest_t, ident}
use Rattle.fb_model.specs.History.{basis, said, users_issued, is_issued}
use Rattle.fb_model.specs.Facts.{facts as facts_of}
use Rattle.fb_model.specs.Schema.{attribute_from, is_attribute, keyword_of, is_about}
use Rattle.fb_model.specs.Lawful.{IsLawful}
use Rattle.fb_model.proofs.KnownFacts.{said_installed, facts_issued}
use Rattle.fb_model.proofs.Members.{here, kept, member_passes}
use Rattle.live_index.proofs.Members.{contains-cons, contains_head, contains_tail, contains_none}
use Rattle.view_model.specs.Window.{Window}
use Rattle.view_model.proofs.Views.{seen_is_said}
use Rattle.fb_scan.specs.Attributes.{HasAttribute, IsNextAttribute}
use Rattle.fb_pull.specs.Attributes.{Rise}

all_push : (P : ℕ → Type 0) (list : List ℕ) (n : ℕ) → All P list → P n → All P (list ++ n ∷ [])
all_push P [] n all own = All-cons P n [] own (All-nil P)
all_push P (m ∷ list) n all own =
    All-cons P m (list ++ n ∷ []) (all 0 m (omega arith)) (all_push P list n (λ k x below. all (suc k) x (omega arith)) own)

-- ---- small numbers

within_two : (x n y z : ℕ) → (leb x n && leb n y) ≡ true → y ≤ z → n ≤ z
within_two x n y z both up = omega (arith, leb-true n y (and_parts (leb x n) (leb n y) both).1)

builtin_small : (n : ℕ) → is_builtin n ≡ true → n ≤ 31
builtin_small n built =
    elim (or_cases _ _ built) [
      | inl low ↦
          elim (or_cases _ _ low) [
            | inl lower ↦ elim (or_cases _ _ lower)
                [ inl least ↦ within_two 1 n 8 31 least (omega arith) | inr types ↦ within_two 10 n 18 31 types (omega arith) ]
            | inr counts ↦ within_two 20 n 21 31 counts (omega arith)
          ]
      | inr kinds ↦ within_two 30 n 31 31 kinds (omega arith)
    ]

issued_small : (h : List Entry) (n : ℕ) → basis h ≤ greatest_t → users_issued h < 2 ^ 47 → is_issued h n ≡ true → n < 2 ^ 48
issued_small h n late many issued =
    elim (or_cases _ _ issued) [
      | inl early ↦
          elim (or_cases _ _ early) [
            | inl built ↦ omega (arith, builtin_small n built)
            | inr transaction ↦ omega (
              arith,
              within_two (transaction_of 0) n (transaction_of (basis h)) (13194139533312 + 2147483647)
                  transaction (omega arith),
            )
          ]
      | inr user ↦ omega (
        arith,
        within_two (user_entity 1) n (user_entity (users_issued h)) (17592186044416 + 140737488355328) user
            (omega arith),
      )
    ]

some_datom : (ds : List Datom) (e a : ℕ) → is_some (keyword_of ds e a) ≡ true → (d : Datom) × Contains ds d × (d.e ≡ e)
some_datom ds e a some = go (filter (is_about e a) ds) refl
  where
    go : (found : List Datom) → filter (is_about e a) ds ≡ found → (d : Datom) × Contains ds d × (d.e ≡ e)
    go [] none = let no : false ≡ true = rw none at some in absurd (true≢false (sym no))
    go (d ∷ rest) is =
        let own = kept (is_about e a) ds d (subst (λ (l : List Datom). Contains l d) (sym is) (here d rest)) in
        (d, own.member, eqb-true d.e e (and_parts (eqb d.e e) (eqb d.a a) own.passes).0)

installed_has_name : (e : ℕ) (name : Option (List ℕ)) (kind count uniqueness : Option ℕ) (component indexed : Bool)
    → is_some (attribute_from e name kind count uniqueness component indexed) ≡ true → is_some name ≡ true
installed_has_name e None kind count uniqueness component indexed some = some
installed_has_name e (Some name) kind count uniqueness component indexed some = refl

-- an attribute that an entity has
pub attribute_small : (h : List Entry) (w : Window) (Selects : Datom → Type 0) (e a : ℕ) → IsLawful h → basis h ≤ greatest_t
    → users_issued h < 2 ^ 47
    → HasAttribute h w Selects e a → a < 2 ^ 48
attribute_small h w Selects e a lawful late many has =
    let was_said = (seen_is_said h w has.datom has.in_view.is_seen).member in
    let installed = member_passes (λ d. is_attribute (facts_of h) d.a) (said h) has.datom (said_installed h lawful) was_said in
    let named = installed_has_name has.datom.a (keyword_of (facts_of h) has.datom.a ident) _ _ _ _ _ installed in
    let fact = some_datom (facts_of h) has.datom.a ident named in
    let issued = and_parts _ _ (facts_issued h lawful fact.0 fact.1) in
    subst (λ (n : ℕ). n < 2 ^ 48) (fact.2 ∙ has.of_attribute) (issued_small h fact.0.e late many issued.0)

-- ---- one attribute after another

module _ (h : List Entry) (w : Window) (Selects : Datom → Type 0) (e : ℕ) where
  abbrev Has : ℕ → Type 0
  Has = HasAttribute h w Selects e

  -- the attribute lies before the next one
  abbrev pub IsPassed : Option ℕ → ℕ → Type 0
  IsPassed next a = MatchOption next (Unit {0}) (λ n. a < n)

  -- the list has all attributes before the next one, which the entity has
  pub record IsFound (list : List ℕ) (next : Option ℕ) : Type 0 where
    pub rising : Rise list
    pub passed : (a : ℕ) → Contains list a ↔ (Has a × IsPassed next a)
    pub has_next : MatchOption next (Unit {0}) Has

  pub none_found : (list : List ℕ) (next : Option ℕ) → list ≡ [] → IsNextAttribute h w Selects e 0 next → IsFound list next
  none_found list next none is = subst (λ (l : List ℕ). IsFound l next) (sym none) (go next is)
    where
      go : (next : Option ℕ) → IsNextAttribute h w Selects e 0 next → IsFound [] next
      go None is = record {
        rising = tt;
        passed = λ a.
            (λ member. absurd (contains_none a member), λ given. absurd (is a (omega arith) given.0));
        has_next = tt;
      }
      go (Some n) is = record {
        rising = tt;
        passed = λ a. (
          λ member. absurd (contains_none a member),
          λ given. let least : n ≤ a = is.2 a (omega arith) given.0 in let before : a < n = given.1 in absurd
              (impossible n a least before),
        );
        has_next = is.1;
      }
        where
          impossible : (n a : ℕ) → n ≤ a → a < n → ⊥
          impossible n a least before = omega (arith, least, before)

  -- the list, and behind it a number that is above all of it
  rise_push : (list : List ℕ) (n : ℕ) → Rise list → ((m : ℕ) → Contains list m → m < n) → Rise (list ++ n ∷ [])
  rise_push [] n rising below = (All-nil (λ m. n < m), tt)
  rise_push (m ∷ list) n rising below = (
    all_push (λ k. m < k) list n rising.0 (below m (contains_head m list m refl)),
    rise_push list n rising.1
        (λ k member. below k (contains_tail m list k member)),
  )

  pub one_more : (list new : List ℕ) (was next : Option ℕ) (n : ℕ) → IsFound list was → was ≡ Some n → new ≡ list ++ n ∷ []
      → IsNextAttribute h w Selects e (n + 1) next → IsFound new next
  one_more list new was next n found was_is new_is is =
      subst (λ (l : List ℕ). IsFound l next) (sym new_is) (go next is (subst (IsFound list) was_is found))
    where
      go : (next : Option ℕ) → IsNextAttribute h w Selects e (n + 1) next → IsFound list (Some n) → IsFound (list ++ n ∷ []) next
      go None is found = record {
        rising = rise_push list n found.rising (λ m member. ((found.passed m).0 member).1);
        passed = λ a. (
          λ member. elim (Contains-append_cases list (n ∷ []) a member) [
            | inl before ↦ (((found.passed a).0 before).0, tt)
            | inr last ↦ elim (contains-cons n [] a last)
                [ inl same ↦ (subst Has same found.has_next, tt) | inr none ↦ absurd (contains_none a none) ]
          ],
          λ given. elim (cases_lt a n) [
            | inl before ↦ Contains-append_left list (n ∷ []) a ((found.passed a).1 (given.0, before))
            | inr behind ↦ elim (cases_lt n a) [
              | inl above ↦ absurd (is a (omega (arith, above)) given.0)
              | inr low ↦ Contains-append_right list (n ∷ []) a (contains_head n [] a (omega (arith, behind, low)))
            ]
          ],
        );
        has_next = tt;
      }
      go (Some m) is found = record {
        rising = rise_push list n found.rising (λ k member. ((found.passed k).0 member).1);
        passed = λ a. (
          λ member. elim (Contains-append_cases list (n ∷ []) a member) [
            | inl before ↦ let own = (found.passed a).0 before in (own.0, omega (arith, own.1, is.0))
            | inr last ↦ elim (contains-cons n [] a last) [
              | inl same ↦ (subst Has same found.has_next, omega (arith, same, is.0))
              | inr none ↦ absurd (contains_none a none)
            ]
          ],
          λ given. elim (cases_lt a n) [
            | inl before ↦ Contains-append_left list (n ∷ []) a ((found.passed a).1 (given.0, before))
            | inr behind ↦ elim (cases_lt n a) [
              | inl above ↦ absurd (impossible m a (is.2 a (omega (arith, above)) given.0) given.1)
              | inr low ↦ Contains-append_right list (n ∷ []) a (contains_head n [] a (omega (arith, behind, low)))
            ]
          ],
        );
        has_next = is.1;
      }
        where
          impossible : (n a : ℕ) → n ≤ a → a < n → ⊥
          impossible n a least before = omega (arith, least, before)

  pub all_found : (list : List ℕ) (next : Option ℕ) → IsFound list next → next ≡ None → (a : ℕ) → Contains list a ↔ Has a
  all_found list next found none a =
      let done : IsFound list None = subst (IsFound list) none found in
      (λ member. ((done.passed a).0 member).0, λ has. (done.passed a).1 (has, tt))

  pub has_next_is : (list : List ℕ) (next : Option ℕ) (n : ℕ) → IsFound list next → next ≡ Some n → Has n
  has_next_is list next n found is = subst (λ (o : Option ℕ). MatchOption o (Unit {0}) Has) is found.has_next
