-- In lawful histories each number is that of an entity, each attribute is installed, and each value is of its type.
use Rattle.std.proofs.Common.{◌≡◌, ℕ, ◌+◌, ◌-◌, ◌≤◌, Bool, true, false, cond, ◌&&◌, ◌||◌, List, [], ◌∷◌, ◌++◌, max, min, refl, ap, sym, ◌∙◌}
use Rattle.std.proofs.Common.{subst, arith, inl, inr, ◌⊎◌, eqb, leb, Option, Some, None}
use Rattle.std.specs.Prelude.{Contains, is_some, option_and_then}
use Rattle.std.specs.List.{list_all}
use Rattle.std.specs.Option.{option_map_or}
use Rattle.std.proofs.lemmas.Bool.{true≢false, and_parts, and_from, or_left, or_right, or_cases, eqb-true, leb-true, le-leb}
use Rattle.std.proofs.lemmas.Bool.Decides.{nat_tests}
use Rattle.std.proofs.lemmas.List.Folds.{list_all-append}
use Rattle.fb_values.specs.declared.facts.Datom.{Datom}
use Rattle.fb_values.specs.declared.facts.Entry.{Entry}
use Rattle.fb_values.specs.declared.facts.Value.{Value}
use Rattle.fb_values.specs.declared.facts.Value.TheVariants.{Ref}
use Rattle.fb_numbers.specs.Numbers.{transaction_of, user_entity, is_builtin, ident, value_type, cardinality}
use Rattle.fb_model.specs.History.{basis, said, users_in, users_issued, is_issued}
use Rattle.fb_model.specs.Facts.{facts, value_of, value_eq, holder, least}
use Rattle.fb_model.specs.Types.{is_of_type}
use Rattle.fb_model.specs.Schema.{attribute_of, attribute_from, is_attribute, entity_of, keyword_of, entity_in}
use Rattle.fb_model.specs.Laws.{facts_with, is_asserted, users_behind, users_after, is_known, is_known_value}
use Rattle.fb_model.specs.Lawful.{IsLawful, IsLawfulAfter}
use Rattle.fb_model.proofs.OneMoreEntry.{basis-push, said-push, users_issued-push, users_issued_grows}
use Rattle.fb_model.proofs.Invariants.{of_lawful, facts-push}
use Rattle.fb_model.proofs.SchemaHistories.{all_pass, attribute_stays, none_about, fixed_forbidden}
use Rattle.fb_model.proofs.Untouched.{value_of-untouched}
use Rattle.fb_model.proofs.Members.{here, there, member_passes, standing_member}
use Rattle.fb_model.proofs.Times.{next_t}

-- ---- issued numbers stay issued

more_issued : (n b c u v : ℕ) → b ≤ c → u ≤ v
    → (is_builtin n || (leb (transaction_of 0) n && leb n (transaction_of b)) || (leb (user_entity 1) n && leb n (user_entity u))) ≡ true
    → (is_builtin n || (leb (transaction_of 0) n && leb n (transaction_of c)) || (leb (user_entity 1) n && leb n (user_entity v))) ≡ true
more_issued n b c u v bases users issued = go (or_cases _ _ issued)
  where
    wider : (x y z : ℕ) → y ≤ z → (leb x n && leb n y) ≡ true → (leb x n && leb n z) ≡ true
    wider x y z below within =
        let parts = and_parts (leb x n) (leb n y) within in and_from _ _ parts.0 (le-leb n z (omega (arith, leb-true n y parts.1)))

    low : (is_builtin n ≡ true) ⊎ ((leb (transaction_of 0) n && leb n (transaction_of b)) ≡ true)
        → (is_builtin n || (leb (transaction_of 0) n && leb n (transaction_of c))) ≡ true
    low (inl builtin) = or_left _ _ builtin
    low (inr within) = or_right _ _ (wider (transaction_of 0) (transaction_of b) (transaction_of c) (omega arith) within)

    go : ((is_builtin n || (leb (transaction_of 0) n && leb n (transaction_of b))) ≡ true)
        ⊎ ((leb (user_entity 1) n && leb n (user_entity u)) ≡ true)
        → (is_builtin n || (leb (transaction_of 0) n && leb n (transaction_of c)) || (leb (user_entity 1) n && leb n (user_entity v)))
        ≡ true
    go (inl first) = or_left _ _ (low (or_cases _ _ first))
    go (inr user) = or_right _ _ (wider (user_entity 1) (user_entity u) (user_entity v) (omega arith) user)

pub issued_stays : (h : List Entry) (entry : Entry) (n : ℕ) → IsLawfulAfter h entry → is_issued h n ≡ true
    → is_issued (h ++ entry ∷ []) n ≡ true
issued_stays h entry n next issued =
    more_issued n (basis h) (basis (h ++ entry ∷ [])) (users_issued h) (users_issued (h ++ entry ∷ []))
    (omega (arith, basis-push h entry, next_t h entry next)) (users_issued_grows h entry) issued

-- ---- known numbers are issued afterwards

asserted_bound : (ds : List Datom) (n : ℕ) → is_asserted ds (user_entity n) ≡ true → n ≤ users_in ds
asserted_bound [] n asserted = absurd (true≢false (sym asserted))
asserted_bound (d ∷ ds) n asserted =
    elim (or_cases (eqb d.e (user_entity n) && d.added) (is_asserted ds (user_entity n)) asserted) [
      | inl first ↦ omega (arith, eqb-true d.e (user_entity n) (and_parts _ _ first).0)
      | inr later ↦ omega (arith, asserted_bound ds n later)
    ]

users_behind_bound : (more ds : List Datom) (n : ℕ) → users_behind more ds n ≤ max n (users_in ds)
users_behind_bound [] ds n = omega arith
users_behind_bound (_ ∷ more) ds n = go (is_asserted ds (user_entity (n + 1))) refl (users_behind_bound more ds (n + 1))
  where
    go : (b : Bool) → is_asserted ds (user_entity (n + 1)) ≡ b → users_behind more ds (n + 1) ≤ max (n + 1) (users_in ds)
        → cond b (users_behind more ds (n + 1)) n ≤ max n (users_in ds)
    go true is bound = omega (arith, bound, asserted_bound ds (n + 1) is)
    go false is bound = omega arith

pub known_issued : (h : List Entry) (entry : Entry) (n : ℕ) → IsLawfulAfter h entry → is_known h entry n ≡ true
    → is_issued (h ++ entry ∷ []) n ≡ true
known_issued h entry n next known =
    elim (or_cases (is_issued h n || eqb n (transaction_of entry.t))
    (leb (user_entity 1) n && leb n (user_entity (users_after h entry))) known) [
      | inl first ↦ elim (or_cases (is_issued h n) (eqb n (transaction_of entry.t)) first) [
        | inl issued ↦ issued_stays h entry n next issued
        | inr own ↦ or_left _ _ (or_right _ _ (and_from _ _
            (le-leb (transaction_of 0) n (omega (arith, eqb-true n (transaction_of entry.t) own)))
            (le-leb n (transaction_of (basis (h ++ entry ∷ [])))
            (omega (arith, eqb-true n (transaction_of entry.t) own, basis-push h entry)))))
      ]
      | inr user ↦ or_right _ _ (and_from _ _ (and_parts _ _ user).0
          (le-leb n (user_entity (users_issued (h ++ entry ∷ [])))
          (omega (
            arith,
            leb-true n (user_entity (users_after h entry))
                (and_parts (leb (user_entity 1) n) (leb n (user_entity (users_after h entry))) user).1,
            users_behind_bound entry.datoms entry.datoms (users_issued h),
            users_issued-push h entry,
          ))))
    ]

-- the entity of a datom is issued, and so is a value that is an entity
abbrev pub is_issued_value : List Entry → Value → Bool
is_issued_value h (Ref n) = is_issued h n
is_issued_value h v = true

abbrev pub has_issued_numbers : List Entry → Datom → Bool
has_issued_numbers h d = is_issued h d.e && is_issued_value h d.v

issued_value_stays : (h : List Entry) (entry : Entry) (v : Value) → IsLawfulAfter h entry → is_issued_value h v ≡ true
    → is_issued_value (h ++ entry ∷ []) v ≡ true
issued_value_stays h entry (Ref n) next issued = issued_stays h entry n next issued
issued_value_stays h entry v next issued = refl

known_value_issued : (h : List Entry) (entry : Entry) (v : Value) → IsLawfulAfter h entry → is_known_value h entry v ≡ true
    → is_issued_value (h ++ entry ∷ []) v ≡ true
known_value_issued h entry (Ref n) next known = known_issued h entry n next known
known_value_issued h entry v next known = refl

pub said_issued : (h : List Entry) → IsLawful h → list_all (has_issued_numbers h) (said h) ≡ true
said_issued =
    of_lawful (λ h. list_all (has_issued_numbers h) (said h) ≡ true) refl
    (λ h entry lawful before next.
    ap (list_all (has_issued_numbers (h ++ entry ∷ []))) (said-push h entry)
    ∙ list_all-append (has_issued_numbers (h ++ entry ∷ [])) (said h) entry.datoms
    ∙ and_from _ _
    (all_pass (has_issued_numbers h) (has_issued_numbers (h ++ entry ∷ [])) (λ d issued. let parts = and_parts _ _ issued in
    and_from _ _ (issued_stays h entry d.e next parts.0) (issued_value_stays h entry d.v next parts.1)) (said h) before)
    (all_pass (λ d. is_known h entry d.e && is_known_value h entry d.v) (has_issued_numbers (h ++ entry ∷ []))
    (λ d known. let parts = and_parts _ _ known in
    and_from _ _ (known_issued h entry d.e next parts.0) (known_value_issued h entry d.v next parts.1)) entry.datoms next.known_numbers))

pub facts_issued : (h : List Entry) → IsLawful h → (d : Datom) → Contains (facts h) d → has_issued_numbers h d ≡ true
facts_issued h lawful d member = member_passes (has_issued_numbers h) (said h) d (said_issued h lawful) (standing_member (said h) d member)

pub facts_referred : (h : List Entry) → IsLawful h → (d : Datom) → Contains (facts h) d → (n : ℕ) → d.v ≡ Ref n → is_issued h n ≡ true
facts_referred h lawful d member n is =
    subst (λ v. is_issued_value h v ≡ true) is (and_parts (is_issued h d.e) (is_issued_value h d.v) (facts_issued h lawful d member)).1

-- ---- holders

pub record HasFact (facts : List Datom) (e a : ℕ) (v : Value) : Type 0 where
  pub datom : Datom
  pub member : Contains facts datom
  pub e_is : datom.e ≡ e
  pub a_is : eqb datom.a a ≡ true
  pub v_is : value_eq datom.v v ≡ true

holder_at : (e : ℕ) (a : ℕ) (v : Value) (d : Datom) (facts : List Datom) (b : Bool) (rest : Option ℕ) → (eqb d.a a && value_eq d.v v) ≡ b
    → ((o : ℕ) → rest ≡ Some o → HasFact facts o a v)
    → cond b (least d.e rest) rest ≡ Some e → HasFact (d ∷ facts) e a v
holder_at e a v d facts false rest is next found =
    let has = next e found in
    record { datom = has.datom; member = there d has.datom facts has.member; e_is = has.e_is; a_is = has.a_is; v_is = has.v_is }
holder_at e a v d facts true None is next found =
    let parts = and_parts (eqb d.a a) (value_eq d.v v) is in
    record { datom = d; member = here d facts; e_is = some_is found; a_is = parts.0; v_is = parts.1 }
  where
    some_is : Some d.e ≡ Some e → d.e ≡ e
    some_is same = cc
holder_at e a v d facts true (Some o) is next found = go (leb d.e o) refl
  where
    some_is : (x y : ℕ) → Some x ≡ Some y → x ≡ y
    some_is x y same = cc

    go : (b : Bool) → leb d.e o ≡ b → HasFact (d ∷ facts) e a v
    go true below =
        let parts = and_parts (eqb d.a a) (value_eq d.v v) is in
        record {
          datom = d;
          member = here d facts;
          e_is = omega (arith, some_is (min d.e o) e found, leb-true d.e o below);
          a_is = parts.0;
          v_is = parts.1;
        }
    go false above =
        let has = next o refl in
        record {
          datom = has.datom;
          member = there d has.datom facts has.member;
          e_is = has.e_is ∙ omega (arith, some_is (min d.e o) e found, not_below d.e o above);
          a_is = has.a_is;
          v_is = has.v_is;
        }
      where
        not_below : (x y : ℕ) → leb x y ≡ false → y ≤ x
        not_below x y is = grind (arith, nat_tests)

-- a holder has a fact
pub holder-HasFact : (facts : List Datom) (e a : ℕ) (v : Value) → holder facts a v ≡ Some e → HasFact facts e a v
holder-HasFact [] e a v found = absurd (cc)
holder-HasFact (d ∷ facts) e a v found =
    holder_at e a v d facts (eqb d.a a && value_eq d.v v) (holder facts a v) refl (λ o is. holder-HasFact facts o a v is) found

pub holder_issued : (h : List Entry) (e a : ℕ) (v : Value) → IsLawful h → holder (facts h) a v ≡ Some e → is_issued h e ≡ true
holder_issued h e a v lawful found =
    let has = holder-HasFact (facts h) e a v found in
    subst (λ n. is_issued h n ≡ true) has.e_is (and_parts _ _ (facts_issued h lawful has.datom has.member)).0

-- ---- attributes are installed, and values of their types

pub said_installed : (h : List Entry) → IsLawful h → list_all (λ d. is_attribute (facts h) d.a) (said h) ≡ true
said_installed =
    of_lawful (λ h. list_all (λ d. is_attribute (facts h) d.a) (said h) ≡ true) refl
    (λ h entry lawful before next. rw (facts-push, said-push)
    (list_all-append (λ (d : Datom). is_attribute (facts_with h entry) d.a) (said h) entry.datoms
    ∙ and_from _ _
    (all_pass (λ d. is_attribute (facts h) d.a) (λ d. is_attribute (facts_with h entry) d.a) (λ d. attribute_stays h entry d.a next)
    (said h) before)
    (all_pass (λ d. is_attribute (facts h) d.a) (λ d. is_attribute (facts_with h entry) d.a)
    (λ d. attribute_stays h entry d.a next) entry.datoms next.installed_attributes)))

abbrev pub is_typed : List Datom → Datom → Bool
is_typed facts d = option_map_or (λ attribute. is_of_type attribute.kind d.v) (attribute_of facts d.a) false

typed_from : (e : ℕ) (name : Option (List ℕ)) (kind count uniqueness : Option ℕ) (component indexed : Bool) (v : Value)
    → option_map_or (λ attribute. is_of_type attribute.kind v) (attribute_from e name kind count uniqueness component indexed) false
    ≡ (is_some (attribute_from e name kind count uniqueness component indexed) && option_map_or (λ k. is_of_type k v) kind false)
typed_from e None kind count uniqueness component indexed v = refl
typed_from e (Some n) None count uniqueness component indexed v = refl
typed_from e (Some n) (Some k) None uniqueness component indexed v = refl
typed_from e (Some n) (Some k) (Some c) uniqueness component indexed v = refl

is_typed-kind : (facts : List Datom) (d : Datom)
    → is_typed facts d ≡ (is_attribute facts d.a && option_map_or (λ k. is_of_type k d.v) (entity_of facts d.a value_type) false)
is_typed-kind facts d =
    typed_from d.a (keyword_of facts d.a ident) (entity_of facts d.a value_type) (entity_of facts d.a cardinality) _ _ _ d.v

kind_stays : (h : List Entry) (entry : Entry) (e : ℕ) → IsLawfulAfter h entry → is_attribute (facts h) e ≡ true
    → entity_of (facts_with h entry) e value_type ≡ entity_of (facts h) e value_type
kind_stays h entry e next installed =
    ap (option_and_then entity_in) (value_of-untouched (said h) entry.datoms e value_type
    (none_about (facts h) e value_type (fixed_forbidden (facts h) e value_type installed refl) entry.datoms next.allowed_changes))

pub typed_stays : (h : List Entry) (entry : Entry) (d : Datom) → IsLawfulAfter h entry → is_typed (facts h) d ≡ true
    → is_typed (facts_with h entry) d ≡ true
typed_stays h entry d next typed =
    let parts =
    and_parts (is_attribute (facts h) d.a) (option_map_or (λ k. is_of_type k d.v) (entity_of (facts h) d.a value_type) false)
    (sym (is_typed-kind (facts h) d) ∙ typed) in
    is_typed-kind (facts_with h entry) d
    ∙ and_from _ _ (attribute_stays h entry d.a next parts.0)
    (ap (λ o. option_map_or (λ k. is_of_type k d.v) o false) (kind_stays h entry d.a next parts.0) ∙ parts.1)

pub said_typed : (h : List Entry) → IsLawful h → list_all (is_typed (facts h)) (said h) ≡ true
said_typed =
    of_lawful (λ h. list_all (is_typed (facts h)) (said h) ≡ true) refl
    (λ h entry lawful before next. rw (facts-push, said-push)
    (list_all-append (is_typed (facts_with h entry)) (said h) entry.datoms
    ∙ and_from _ _
    (all_pass (is_typed (facts h)) (is_typed (facts_with h entry)) (λ d. typed_stays h entry d next) (said h) before)
    (all_pass (is_typed (facts h)) (is_typed (facts_with h entry)) (λ d. typed_stays h entry d next) entry.datoms next.typed_values)))

pub facts_installed : (h : List Entry) → IsLawful h → (d : Datom) → Contains (facts h) d → is_attribute (facts h) d.a ≡ true
facts_installed h lawful d member =
    member_passes (λ d. is_attribute (facts h) d.a) (said h) d (said_installed h lawful) (standing_member (said h) d member)

pub facts_typed : (h : List Entry) → IsLawful h → (d : Datom) → Contains (facts h) d → is_typed (facts h) d ≡ true
facts_typed h lawful d member = member_passes (is_typed (facts h)) (said h) d (said_typed h lawful) (standing_member (said h) d member)
