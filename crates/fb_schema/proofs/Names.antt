-- The least entity of a name, and what one more datom says of names.
use Rattle.std.proofs.Common.{◌≡◌, ℕ, ◌≤◌, Bool, true, false, cond, ◌&&◌, ◌||◌, List, [], ◌∷◌, ◌++◌, length, min, eqb, refl, ap, sym, ◌∙◌, Option}
use Rattle.std.proofs.Common.{Some, None, arith}
use Rattle.std.specs.Prelude.{nat_eq, is_some}
use Rattle.std.specs.List.{list_any}
use Rattle.std.specs.Option.{option_map, option_map_or}
use Rattle.std.specs.Ordering.{is_eq, nat_cmp}
use Rattle.std.specs.Cmp.Lexicographic.{slice_cmp}
use Rattle.std.specs.Cmp.{tied_then}
use Rattle.std.specs.declared.cmp.Ordering.{Ordering}
use Rattle.std.specs.declared.cmp.Ordering.TheVariants.{Less, Equal, Greater}
use Rattle.std.proofs.lemmas.Bool.{true≢false, and_parts, and_from, eqb-true, eq-eqb}
use Rattle.std.proofs.lemmas.Cmp.{nat_cmp_total, ranked}
use Rattle.fb_values.specs.declared.facts.Datom.{Datom}
use Rattle.fb_values.specs.declared.facts.Value.{Value}
use Rattle.fb_values.specs.declared.facts.Value.TheVariants.{Keyword}
use Rattle.fb_numbers.specs.Numbers.{ident}
use Rattle.fb_model.specs.Facts.{is_of, standing, holds_after, holder, least, value_eq}
use Rattle.fb_model.proofs.Triples.{holds_after-standing, or_false, value_eq-true}
use Rattle.fb_model.proofs.Members.{any_member}
use Rattle.fb_model.proofs.KnownFacts.{holder-HasFact}
use Rattle.shared_map.specs.Entries.{get, put, removed, first_from, IsRising}
use Rattle.shared_map.proofs.Sides.{get-before, before-all}
use Rattle.shared_map.proofs.Lookups.{get-put, get-removed}
use Rattle.fb_schema.specs.Naming.{Entities, is_name_of, name_cmp, name_cmp_total, HasNames}
use Rattle.fb_schema.proofs.Meeting.{is_eq-nat_cmp}

-- ---- one more datom

holds_after-last : (before : Bool) (ds : List Datom) (d : Datom) (e a : ℕ) (v : Value)
    → holds_after before (ds ++ d ∷ []) e a v ≡ cond (is_of e a v d) d.added (holds_after before ds e a v)
holds_after-last before [] d e a v = refl
holds_after-last before (x ∷ ds) d e a v = holds_after-last (cond (is_of e a v x) x.added before) ds d e a v

any-standing : (ds : List Datom) (e a : ℕ) (v : Value) → list_any (is_of e a v) (standing ds) ≡ holds_after false ds e a v
any-standing ds e a v = sym (holds_after-standing false ds e a v ∙ or_false (list_any (is_of e a v) (standing ds)))

pub any-said : (ds : List Datom) (d : Datom) (e a : ℕ) (v : Value) → standing ds ≡ ds
    → list_any (is_of e a v) (standing (ds ++ d ∷ [])) ≡ cond (is_of e a v d) d.added (list_any (is_of e a v) ds)
any-said ds d e a v stands =
    any-standing (ds ++ d ∷ []) e a v
    ∙ holds_after-last false ds d e a v
    ∙ ap (cond (is_of e a v d) d.added) (sym (any-standing ds e a v) ∙ ap (list_any (is_of e a v)) stands)

-- a datom that names nothing
pub HasNames-other : (names : Entities) (facts : List Datom) (d : Datom)
    → ((name : List ℕ) → (nat_eq d.a ident && value_eq d.v (Keyword name)) ≡ false) → HasNames names facts → standing facts ≡ facts
    → HasNames names (standing (facts ++ d ∷ []))
HasNames-other names facts d other has stands name e =
    has name e
    ∙ ap (λ b. cond b d.added (list_any (is_of e ident (Keyword name)) facts))
    (sym (fails (nat_eq d.e e) (nat_eq d.a ident) (value_eq d.v (Keyword name)) (other name)))
    ∙ sym (any-said facts d e ident (Keyword name) stands)
  where
    fails : (a b c : Bool) → (b && c) ≡ false → ((a && b) && c) ≡ false
    fails true b c none = none
    fails false b c none = refl

-- the test of a name
-- the order of names tells apart what the order of their bytes does
same_name : (name other : List ℕ) → value_eq (Keyword name) (Keyword other) ≡ is_eq (name_cmp name other)
same_name name other = go (is_eq (slice_cmp nat_cmp name other)) refl ∙ tied_then (nat_cmp (length name) (length other)) (slice_cmp nat_cmp name other)
  where
    go : (b : Bool) → is_eq (slice_cmp nat_cmp name other) ≡ b
        → is_eq (slice_cmp nat_cmp name other) ≡ (is_eq (nat_cmp (length name) (length other)) && is_eq (slice_cmp nat_cmp name other))
    go true same =
        let keywords : Keyword name ≡ Keyword other = value_eq-true (Keyword name) (Keyword other) same in
        let names : name ≡ other = cc in
        same
        ∙ sym (and_from (is_eq (nat_cmp (length name) (length other))) (is_eq (slice_cmp nat_cmp name other))
        (is_eq-nat_cmp (length name) (length other) ∙ eq-eqb (length name) (length other) (ap length names)) same)
    go false differs =
        differs
        ∙ sym (and_none (is_eq (nat_cmp (length name) (length other))))
        ∙ ap (λ b. is_eq (nat_cmp (length name) (length other)) && b) (sym differs)
      where
        and_none : (b : Bool) → (b && false) ≡ false
        and_none true = refl
        and_none false = refl

name-equal : (name other : List ℕ) → is_eq (name_cmp name other) ≡ true → name ≡ other
name-equal name other same =
    let keywords : Keyword name ≡ Keyword other = value_eq-true (Keyword name) (Keyword other) (same_name name other ∙ same) in
    cc

-- a datom that names its entity, or takes the name away
pub HasNames-name : (names new : Entities) (facts : List Datom) (d : Datom) (name : List ℕ) → d.a ≡ ident → d.v ≡ Keyword name
    → ((other : List ℕ) (k : ℕ) → is_name_of new other k
    ≡ cond (is_eq (name_cmp name other)) (cond (eqb d.e k) d.added (is_name_of names name k)) (is_name_of names other k))
    → HasNames names facts → standing facts ≡ facts → HasNames new (standing (facts ++ d ∷ []))
HasNames-name names new facts d name is_ident is_name updates has stands other e =
    updates other e ∙ go (is_eq (name_cmp name other)) refl ∙ sym (any-said facts d e ident (Keyword other) stands)
  where
    test : (b : Bool) → is_eq (name_cmp name other) ≡ b → is_of e ident (Keyword other) d ≡ (nat_eq d.e e && b)
    test b is =
        ap (λ a. (nat_eq d.e e && nat_eq a ident) && value_eq d.v (Keyword other)) is_ident
        ∙ ap (λ v. (nat_eq d.e e && true) && value_eq v (Keyword other)) is_name
        ∙ ap (λ c. (nat_eq d.e e && true) && c) (same_name name other ∙ is)
        ∙ shorter (nat_eq d.e e) b
      where
        shorter : (a b : Bool) → ((a && true) && b) ≡ (a && b)
        shorter true b = refl
        shorter false b = refl

    go : (b : Bool) → is_eq (name_cmp name other) ≡ b
        → cond b (cond (eqb d.e e) d.added (is_name_of names name e)) (is_name_of names other e)
        ≡ cond (is_of e ident (Keyword other) d) d.added (list_any (is_of e ident (Keyword other)) facts)
    go true same =
        ap (cond (eqb d.e e) d.added) (has name e ∙ ap (λ n. list_any (is_of e ident (Keyword n)) facts) (name-equal name other same))
        ∙ ap (λ b. cond b d.added (list_any (is_of e ident (Keyword other)) facts)) (sym (test true same ∙ and_true (nat_eq d.e e)))
      where
        and_true : (b : Bool) → (b && true) ≡ b
        and_true true = refl
        and_true false = refl
    go false differs =
        has other e
        ∙ ap (λ b. cond b d.added (list_any (is_of e ident (Keyword other)) facts)) (sym (test false differs ∙ and_false (nat_eq d.e e)))
      where
        and_false : (b : Bool) → (b && false) ≡ false
        and_false true = refl
        and_false false = refl

-- ---- the tables

pub member-with : (entities : List (ℕ × Unit {0})) (e k : ℕ)
    → is_some (get nat_cmp (put nat_cmp (e, tt) entities) k) ≡ cond (eqb e k) true (is_some (get nat_cmp entities k))
member-with entities e k =
    ap is_some (get-put nat_cmp_total (e, tt) entities k)
    ∙ go (is_eq (nat_cmp e k))
    ∙ ap (λ b. cond b true (is_some (get nat_cmp entities k))) (is_eq-nat_cmp e k)
  where
    go : (b : Bool) → is_some (cond b (Some tt) (get nat_cmp entities k)) ≡ cond b true (is_some (get nat_cmp entities k))
    go true = refl
    go false = refl

pub member-without : (entities : List (ℕ × Unit {0})) (e k : ℕ) → IsRising nat_cmp entities
    → is_some (get nat_cmp (removed nat_cmp e entities) k) ≡ cond (eqb e k) false (is_some (get nat_cmp entities k))
member-without entities e k rising =
    ap is_some (get-removed nat_cmp_total e entities k rising)
    ∙ go (is_eq (nat_cmp e k))
    ∙ ap (λ b. cond b false (is_some (get nat_cmp entities k))) (is_eq-nat_cmp e k)
  where
    go : (b : Bool) → is_some (cond b None (get nat_cmp entities k)) ≡ cond b false (is_some (get nat_cmp entities k))
    go true = refl
    go false = refl

pub name-put : (names : Entities) (name : List ℕ) (entities : List (ℕ × Unit {0})) (other : List ℕ) (k : ℕ)
    → is_name_of (put name_cmp (name, entities) names) other k
    ≡ cond (is_eq (name_cmp name other)) (is_some (get nat_cmp entities k)) (is_name_of names other k)
name-put names name entities other k =
    ap (λ o. option_map_or (λ (m : List (ℕ × Unit {0})). is_some (get nat_cmp m k)) o false)
    (get-put name_cmp_total (name, entities) names other)
    ∙ go (is_eq (name_cmp name other))
  where
    go : (b : Bool)
        → option_map_or (λ (m : List (ℕ × Unit {0})). is_some (get nat_cmp m k))
        (cond b (Some entities) (get name_cmp names other)) false
        ≡ cond b (is_some (get nat_cmp entities k)) (is_name_of names other k)
    go true = refl
    go false = refl

-- ---- the least

some_member_of : (facts : List Datom) (e a : ℕ) (v : Value) → holder facts a v ≡ Some e → list_any (is_of e a v) facts ≡ true
some_member_of facts e a v is =
    let has = holder-HasFact facts e a v is in
    let about = and_from (nat_eq has.datom.e e) (nat_eq has.datom.a a) (eq-eqb has.datom.e e has.e_is) has.a_is in
    any_member (is_of e a v) facts has.datom has.member
    (and_from (nat_eq has.datom.e e && nat_eq has.datom.a a) (value_eq has.datom.v v) about has.v_is)

pub holder-none : (facts : List Datom) (a : ℕ) (v : Value) → ((e : ℕ) → list_any (is_of e a v) facts ≡ false) → holder facts a v ≡ None
holder-none facts a v none = go (holder facts a v) refl
  where
    go : (o : Option ℕ) → holder facts a v ≡ o → o ≡ None
    go None is = refl
    go (Some e) is = absurd (true≢false (sym (some_member_of facts e a v is) ∙ none e))

-- a holder is no greater than whoever has the value
holder-below : (facts : List Datom) (e a : ℕ) (v : Value) → list_any (is_of e a v) facts ≡ true
    → (o : ℕ) × (holder facts a v ≡ Some o) × (o ≤ e)
holder-below [] e a v has = absurd (true≢false (sym has))
holder-below (d ∷ facts) e a v has = go (is_of e a v d) refl (nat_eq d.a a && value_eq d.v v) refl has (holder-below facts e a v)
  where
    least-below : (o : Option ℕ) → (m : ℕ) × (least d.e o ≡ Some m) × (m ≤ d.e)
    least-below None = (d.e, refl, omega arith)
    least-below (Some o) = (min d.e o, refl, omega arith)

    least-rest : (o : Option ℕ) → ((m : ℕ) × (o ≡ Some m) × (m ≤ e)) → (m : ℕ) × (least d.e o ≡ Some m) × (m ≤ e)
    least-rest o rest = (min d.e rest.0, ap (least d.e) rest.1, omega (arith, rest.2))

    of_holds : is_of e a v d ≡ true → (nat_eq d.a a && value_eq d.v v) ≡ true
    of_holds is =
        let parts = and_parts (nat_eq d.e e && nat_eq d.a a) (value_eq d.v v) is in
        and_from (nat_eq d.a a) (value_eq d.v v) (and_parts (nat_eq d.e e) (nat_eq d.a a) parts.0).1 parts.1

    of_e : is_of e a v d ≡ true → d.e ≡ e
    of_e is = eqb-true d.e e (and_parts (nat_eq d.e e) (nat_eq d.a a) (and_parts (nat_eq d.e e && nat_eq d.a a) (value_eq d.v v) is).0).0

    go : (b : Bool) → is_of e a v d ≡ b → (c : Bool) → (nat_eq d.a a && value_eq d.v v) ≡ c → (b || list_any (is_of e a v) facts) ≡ true
        → (list_any (is_of e a v) facts ≡ true → (o : ℕ) × (holder facts a v ≡ Some o) × (o ≤ e))
        → (o : ℕ) × (cond c (least d.e (holder facts a v)) (holder facts a v) ≡ Some o) × (o ≤ e)
    go true is true holds here next = let m = least-below (holder facts a v) in (m.0, m.1, omega (arith, m.2, of_e is))
    go true is false holds here next = absurd (true≢false (sym (of_holds is) ∙ holds))
    go false is true holds later next = least-rest (holder facts a v) (next later)
    go false is false holds later next = next later

-- the entities' least is the holder
pub least-holder : (entities : List (ℕ × Unit {0})) (facts : List Datom) (a : ℕ) (v : Value) → IsRising nat_cmp entities
    → ((e : ℕ) → is_some (get nat_cmp entities e) ≡ list_any (is_of e a v) facts)
    → option_map (λ (x : ℕ × Unit {0}). x.0) (first_from nat_cmp 0 entities) ≡ holder facts a v
least-holder [] facts a v rising has = sym (holder-none facts a v (λ e. sym (has e)))
least-holder (x ∷ entities) facts a v rising has =
    ap (option_map (λ (y : ℕ × Unit {0}). y.0)) first ∙ sym (go (holder-below facts x.0 a v (sym (has x.0) ∙ itself)))
  where
    first : first_from nat_cmp 0 (x ∷ entities) ≡ Some x
    first = first_at (nat_cmp 0 x.0) refl
      where
        first_at : (c : Ordering) → nat_cmp 0 x.0 ≡ c
            → cond (Rattle.std.specs.Ordering.is_le c) (Some x) (first_from nat_cmp 0 entities) ≡ Some x
        first_at Less is = refl
        first_at Equal is = refl
        first_at Greater is = absurd (omega (arith, ranked 0 x.0 Greater (sym is)))

    itself : is_some (get nat_cmp (x ∷ entities) x.0) ≡ true
    itself = ap (λ b. is_some (cond b (Some x.1) (get nat_cmp entities x.0))) (is_eq-nat_cmp x.0 x.0 ∙ eq-eqb x.0 x.0 refl)

    above : (o : ℕ) → is_some (get nat_cmp (x ∷ entities) o) ≡ true → x.0 ≤ o
    above o there = at (nat_cmp o x.0) refl there
      where
        at : (c : Ordering) → nat_cmp o x.0 ≡ c → is_some (cond (is_eq c) (Some x.1) (get nat_cmp entities o)) ≡ true → x.0 ≤ o
        at Less is found =
            let none =
            get-before nat_cmp_total o entities (before-all nat_cmp_total o x.0 (λ y. nat_cmp_total.trans o x.0 y is) entities rising.0) in
            absurd (true≢false (sym found ∙ ap is_some none))
        at Equal is found = omega (arith, ranked o x.0 Equal (sym is))
        at Greater is found = omega (arith, ranked o x.0 Greater (sym is))

    go : ((o : ℕ) × (holder facts a v ≡ Some o) × (o ≤ x.0)) → holder facts a v ≡ Some x.0
    go found =
        let low : x.0 ≤ found.0 = above found.0 (has found.0 ∙ some_member_of facts found.0 a v found.1) in
        found.1 ∙ ap Some (omega (arith, low, found.2))

pub found-entities : (names : Entities) (name : List ℕ) (entities : List (ℕ × Unit {0})) (k : ℕ)
    → get name_cmp names name ≡ Some entities → is_name_of names name k ≡ is_some (get nat_cmp entities k)
found-entities names name entities k found = ap (λ o. option_map_or (λ (m : List (ℕ × Unit {0})). is_some (get nat_cmp m k)) o false) found

pub no-entities : (names : Entities) (name : List ℕ) (k : ℕ) → get name_cmp names name ≡ None → is_name_of names name k ≡ false
no-entities names name k none = ap (λ o. option_map_or (λ (m : List (ℕ × Unit {0})). is_some (get nat_cmp m k)) o false) none

pub no_keyword : (v : Value) (name : List ℕ) → ((text : List ℕ) → v ≡ Keyword text → ⊥) → value_eq v (Keyword name) ≡ false
no_keyword v name other = go (value_eq v (Keyword name)) refl
  where
    go : (b : Bool) → value_eq v (Keyword name) ≡ b → b ≡ false
    go false is = refl
    go true is = absurd (other name (value_eq-true v (Keyword name) is))
