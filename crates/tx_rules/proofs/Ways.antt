-- In what ways the forms of a transaction ask, and where the triples say so.
use Rattle.std.proofs.Common.{◌≡◌, ℕ, ◌+◌, Bool, true, false, cond, ◌&&◌, ◌||◌, eqb, List, [], ◌++◌, map, length, get_or, refl, ap, sym}
use Rattle.std.proofs.Common.{◌∙◌, subst, arith, Option, Some, None}
use Rattle.std.specs.Prelude.{Contains, flat_map, option_and_then, option_map, option_to_list}
use Rattle.std.specs.List.{list_any}
use Rattle.std.specs.Option.{option_map_or}
use Rattle.std.proofs.lemmas.Bool.{and_parts, and_from, or_left, or_right, eqb-true, eq-eqb}
use Rattle.std.proofs.lemmas.List.Elements.{All-contains}
use Rattle.std.proofs.lemmas.List.Folds.{list_any-append}
use Rattle.fb_values.specs.declared.facts.Datom.{Datom}
use Rattle.fb_values.specs.declared.facts.Value.{Value}
use Rattle.fb_model.specs.History.{basis}
use Rattle.fb_model.specs.Facts.{is_of, value_eq}
use Rattle.fb_model.specs.Schema.{Attribute, attribute_named}
use Rattle.tx_model.specs.Asks.{Name, Operand, Ask, adds, retracts, retracts_all, compares, retracts_entity, meets, mentions, lacks_id}
use Rattle.tx_model.specs.Tempids.{Db, entity_of}
use Rattle.tx_model.specs.Changes.{change, changes_of, value_of_part, withdrawn, additions, retractions, sweeps, values_withdrawn}
use Rattle.tx_model.specs.Changes.{set_withdrawn, implied}
use Rattle.tx_model.specs.Transaction.{Transaction, with_names}
use Rattle.tx_model.specs.ChangeRules.{at, asked, asked_triples}
use Rattle.tx_model.specs.Step.{first_yes, by_place}
use Rattle.tx_asks.specs.declared.triples.Triple.{Triple}
use Rattle.tx_asks.specs.Triples.{first_asking, is_triple, is_asked, IsExact, AreTriples}
use Rattle.tx_rules.specs.Places.{earlier, first_where}
use Rattle.tx_rules.proofs.Members.{any_member, some_member, in_option, comes_from, image_of, map-length, not_in_none}
use Rattle.tx_rules.proofs.Reached.{first_yes-or, tests-map, first_yes-triples, first_where-join, first_where-members}
use Rattle.tx_rules.proofs.Triples.{is_of-true, value_eq-true, value_eq-refl}
use Rattle.tx_rules.proofs.Crowded.{same_tests}
use Rattle.tx_rules.proofs.Earlier.{earlier-assoc}

-- ---- what is asked in each way

abbrev pub IsBuilt : Transaction → Type 0
IsBuilt tx = tx ≡ with_names tx.db tx.asks tx.names

-- a datom of the transaction, added or not
pub record IsOwn (db : Db) (added : Bool) (d : Datom) : Type 0 where
  pub flag : d.added ≡ added
  pub own_t : d.t ≡ basis db.history + 1

chain-own : (db : Db) (added : Bool) (oe : Option ℕ) (oa : Option Attribute) (ov : Attribute → Option Value) (d : Datom)
    → Contains
    (option_to_list (option_and_then (λ e. option_and_then (λ (a : Attribute). option_map (change db added e a.id) (ov a)) oa) oe)) d
    → IsOwn db added d
chain-own db added None oa ov d member = absurd (not_in_none d member)
chain-own db added (Some e) None ov d member = absurd (not_in_none d member)
chain-own db added (Some e) (Some a) ov d member = go (ov a) member
  where
    only : (x y : Datom) → Some x ≡ Some y → x ≡ y
    only x y is = cc

    go : (o : Option Value) → Contains (option_to_list (option_map (change db added e a.id) o)) d → IsOwn db added d
    go None member = absurd (not_in_none d member)
    go (Some v) member =
        let is = sym (only (change db added e a.id v) d (in_option (Some (change db added e a.id v)) d member)) in
        record { flag = ap (λ (x : Datom). x.added) is; own_t = ap (λ (x : Datom). x.t) is }

changes_of-own : (db : Db) (names : List (Name × ℕ)) (added : Bool) (name : Name) (k : List ℕ) (part : Operand) (d : Datom)
    → Contains (changes_of db names added name k part) d → IsOwn db added d
changes_of-own db names added name k part d member =
    chain-own db added (entity_of db names name) (attribute_named db.facts k) (λ a. value_of_part db names a part) d member

withdrawn-own : (db : Db) (ds : List Datom) (d : Datom) → Contains (map (withdrawn db) ds) d → IsOwn db false d
withdrawn-own db ds d member =
    let is = image_of (withdrawn db) ds d member in
    record { flag = ap (λ (x : Datom). x.added) (sym is.image_is); own_t = ap (λ (x : Datom). x.t) (sym is.image_is) }

additions-own : (db : Db) (names : List (Name × ℕ)) (ask : Ask) (d : Datom) → Contains (additions db names ask) d → IsOwn db true d
additions-own db names (adds name k part) d member = changes_of-own db names true name k part d member
additions-own db names (compares name k old part) d member = changes_of-own db names true name k part d member
additions-own db names (retracts name k part) d member = absurd (not_in_none d member)
additions-own db names (retracts_all name k) d member = absurd (not_in_none d member)
additions-own db names (retracts_entity name) d member = absurd (not_in_none d member)
additions-own db names (meets name) d member = absurd (not_in_none d member)
additions-own db names (mentions k) d member = absurd (not_in_none d member)
additions-own db names lacks_id d member = absurd (not_in_none d member)

retractions-own : (db : Db) (names : List (Name × ℕ)) (ask : Ask) (d : Datom) → Contains (retractions db names ask) d → IsOwn db false d
retractions-own db names (retracts name k part) d member = changes_of-own db names false name k part d member
retractions-own db names (adds name k part) d member = absurd (not_in_none d member)
retractions-own db names (compares name k old part) d member = absurd (not_in_none d member)
retractions-own db names (retracts_all name k) d member = absurd (not_in_none d member)
retractions-own db names (retracts_entity name) d member = absurd (not_in_none d member)
retractions-own db names (meets name) d member = absurd (not_in_none d member)
retractions-own db names (mentions k) d member = absurd (not_in_none d member)
retractions-own db names lacks_id d member = absurd (not_in_none d member)

sweeps-own : (db : Db) (names : List (Name × ℕ)) (ask : Ask) (d : Datom) → Contains (sweeps db names ask) d → IsOwn db false d
sweeps-own db names (retracts_all name k) d member = by_entity (entity_of db names name) member
  where
    by_attribute : (e : ℕ) (o : Option Attribute) → Contains (option_map_or (values_withdrawn db e) o []) d → IsOwn db false d
    by_attribute e None member = absurd (not_in_none d member)
    by_attribute e (Some a) member = withdrawn-own db _ d member

    by_entity : (o : Option ℕ)
        → Contains (option_map_or (λ e. option_map_or (values_withdrawn db e) (attribute_named db.facts k) []) o []) d → IsOwn db false d
    by_entity None member = absurd (not_in_none d member)
    by_entity (Some e) member = by_attribute e (attribute_named db.facts k) member
sweeps-own db names (retracts_entity name) d member = by_entity (entity_of db names name) member
  where
    by_entity : (o : Option ℕ) → Contains (option_map_or (set_withdrawn db) o []) d → IsOwn db false d
    by_entity None member = absurd (not_in_none d member)
    by_entity (Some e) member = withdrawn-own db _ d member
sweeps-own db names (adds name k part) d member = absurd (not_in_none d member)
sweeps-own db names (retracts name k part) d member = absurd (not_in_none d member)
sweeps-own db names (compares name k old part) d member = absurd (not_in_none d member)
sweeps-own db names (meets name) d member = absurd (not_in_none d member)
sweeps-own db names (mentions k) d member = absurd (not_in_none d member)
sweeps-own db names lacks_id d member = absurd (not_in_none d member)

-- the lists of one way: as many as the forms, and all of one kind
pub record IsWay (tx : Transaction) (lists : List (List Datom)) (added : Bool) : Type 0 where
  pub long : length tx.asks ≡ length lists
  pub own : (l : List Datom) (d : Datom) → Contains lists l → Contains l d → IsOwn tx.db added d
  pub part : (e a : ℕ) (v : Value) → list_any (list_any (is_of e a v)) lists ≡ true → is_asked tx e a v ≡ true

module _ (tx : Transaction) (built : IsBuilt tx) where
  way_of : (lists : List (List Datom)) (added : Bool) (g : Ask → List Datom) → lists ≡ map (flat_map g) tx.asks
      → ((ask : Ask) (d : Datom) → Contains (g ask) d → IsOwn tx.db added d)
      → ((e a : ℕ) (v : Value) → list_any (list_any (is_of e a v)) lists ≡ true → is_asked tx e a v ≡ true) → IsWay tx lists added
  way_of lists added g is own part = record {
    long = sym (ap length is ∙ map-length (flat_map g) tx.asks);
    own = λ l d among member.
        let image = image_of (flat_map g) tx.asks l (subst (λ ls. Contains ls l) is among) in
        let from = comes_from g image.original d (subst (λ ds. Contains ds d) (sym image.image_is) member) in
        own from.source d from.made;
    part = part;
  }

  abbrev any_in : List (List Datom) → ℕ → ℕ → Value → Bool
  any_in lists e a v = list_any (list_any (is_of e a v)) lists

  pub added_way : IsWay tx tx.added true
  added_way =
      way_of tx.added true (additions tx.db tx.names) (ap (λ (x : Transaction). x.added) built)
      (additions-own tx.db tx.names) (λ e a v some. or_left (any_in tx.added e a v || any_in tx.retracted e a v || any_in tx.swept e a v)
      (any_in tx.replaced e a v) (or_left (any_in tx.added e a v || any_in tx.retracted e a v) (any_in tx.swept e a v)
      (or_left (any_in tx.added e a v) (any_in tx.retracted e a v) some)))

  pub retracted_way : IsWay tx tx.retracted false
  retracted_way =
      way_of tx.retracted false (retractions tx.db tx.names) (ap (λ (x : Transaction). x.retracted) built)
      (retractions-own tx.db tx.names) (λ e a v some. or_left (any_in tx.added e a v || any_in tx.retracted e a v || any_in tx.swept e a v)
      (any_in tx.replaced e a v) (or_left (any_in tx.added e a v || any_in tx.retracted e a v) (any_in tx.swept e a v)
      (or_right (any_in tx.added e a v) (any_in tx.retracted e a v) some)))

  pub swept_way : IsWay tx tx.swept false
  swept_way =
      way_of tx.swept false (sweeps tx.db tx.names) (ap (λ (x : Transaction). x.swept) built) (sweeps-own tx.db tx.names)
      (λ e a v some. or_left (any_in tx.added e a v || any_in tx.retracted e a v || any_in tx.swept e a v) (any_in tx.replaced e a v)
      (or_right (any_in tx.added e a v || any_in tx.retracted e a v) (any_in tx.swept e a v) some))

  pub replaced_way : IsWay tx tx.replaced false
  replaced_way =
      let is : tx.replaced ≡ map (implied tx.db) (map (flat_map (additions tx.db tx.names)) tx.asks) =
      ap (λ (x : Transaction). x.replaced) built in
      record {
        long =
            sym (ap length is ∙ map-length (implied tx.db) (map (flat_map (additions tx.db tx.names)) tx.asks)
            ∙ map-length (flat_map (additions tx.db tx.names)) tx.asks);
        own = λ l d among member.
            let image =
            image_of (implied tx.db) (map (flat_map (additions tx.db tx.names)) tx.asks) l (subst (λ ls. Contains ls l) is among) in
            withdrawn-own tx.db _ d (subst (λ ds. Contains ds d) (sym image.image_is) member);
        part =
            λ e a v some.
            or_right (any_in tx.added e a v || any_in tx.retracted e a v || any_in tx.swept e a v) (any_in tx.replaced e a v) some;
      }

-- ---- a test of datoms, asked of triples

-- the datom of a triple, whatever its t
abbrev pub datom_of : Triple → Bool → Datom
datom_of triple added = record { e = triple.e; a = triple.a; v = triple.v; t = 0; added = added }

abbrev pub without_t : Datom → Datom
without_t d = record d { t = 0 }

abbrev made : ℕ → ℕ → Value → Bool → Datom
made e a v added = record { e = e; a = a; v = v; t = 0; added = added }

made-same : (e f a b : ℕ) (v w : Value) (x y : Bool) → e ≡ f → a ≡ b → v ≡ w → x ≡ y → made e a v x ≡ made f b w y
made-same e f a b v w x y e_is a_is v_is x_is =
    ap (λ z. made z a v x) e_is ∙ ap (λ z. made f z v x) a_is ∙ ap (λ z. made f b z x) v_is ∙ ap (made f b w) x_is

module _ (tx : Transaction) (ts : List Triple) (triples : AreTriples tx ts) (test : Datom → Bool)
    (blind : (d : Datom) → test d ≡ test (without_t d)) where
  abbrev asks_it : Triple → List Datom → Bool
  asks_it t l = list_any (is_of t.e t.a t.v) l

  tests_alike : (t : Triple) (d : Datom) (added : Bool) → d.e ≡ t.e → d.a ≡ t.a → d.v ≡ t.v → d.added ≡ added
      → test d ≡ test (datom_of t added)
  tests_alike t d added e_is a_is v_is added_is =
      blind d ∙ ap test (made-same d.e t.e d.a t.a d.v t.v d.added added e_is a_is v_is added_is)

  list_agrees : (l : List Datom) (added : Bool)
      → ((d : Datom) → Contains l d → d.added ≡ added) → ((d : Datom) → Contains l d → list_any (is_triple d.e d.a d.v) ts ≡ true)
      → list_any test l ≡ list_any (λ t. test (datom_of t added) && asks_it t l) ts
  list_agrees l added flags told = same_tests _ _ to from
    where
      to : list_any test l ≡ true → list_any (λ t. test (datom_of t added) && asks_it t l) ts ≡ true
      to some =
          let d = some_member test l some in
          let t = some_member (is_triple d.member.e d.member.a d.member.v) ts (told d.member d.among) in
          let parts = and_parts (eqb t.member.e d.member.e && eqb t.member.a d.member.a) (value_eq t.member.v d.member.v) t.passes in
          let numbers = and_parts (eqb t.member.e d.member.e) (eqb t.member.a d.member.a) parts.0 in
          let e_is = sym (eqb-true t.member.e d.member.e numbers.0) in
          let a_is = sym (eqb-true t.member.a d.member.a numbers.1) in
          let v_is = sym (value_eq-true t.member.v d.member.v parts.1) in
          any_member (λ t. test (datom_of t added) && asks_it t l) ts t.member t.among
          (and_from _ _ (sym (tests_alike t.member d.member added e_is a_is v_is (flags d.member d.among)) ∙ d.passes)
          (any_member (is_of t.member.e t.member.a t.member.v) l d.member d.among
          (and_from _ _ (and_from _ _ (eq-eqb d.member.e t.member.e e_is) (eq-eqb d.member.a t.member.a a_is))
          (subst (λ v. value_eq d.member.v v ≡ true) v_is (value_eq-refl d.member.v)))))

      from : list_any (λ t. test (datom_of t added) && asks_it t l) ts ≡ true → list_any test l ≡ true
      from some =
          let t = some_member (λ t. test (datom_of t added) && asks_it t l) ts some in
          let parts = and_parts (test (datom_of t.member added)) (asks_it t.member l) t.passes in
          let d = some_member (is_of t.member.e t.member.a t.member.v) l parts.1 in
          let of = is_of-true t.member.e t.member.a t.member.v d.member d.passes in
          any_member test l d.member d.among
          (tests_alike t.member d.member added of.e_is of.a_is of.v_is (flags d.member d.among) ∙ parts.0)

  -- the first form that asks in one way what passes
  by_way : (lists : List (List Datom)) (added : Bool) (way : IsWay tx lists added)
      → by_place tx (λ k. list_any test (at lists k)) ≡ first_where (λ t. test (datom_of t added)) (λ t. first_asking lists t.e t.a t.v) ts
  by_way lists added way =
      ap (first_yes 0) (tests-map (λ k. list_any test (at lists k)) (list_any test) [] 0 tx.asks lists way.long (λ k within. same k))
      ∙ first_yes-triples (list_any test) (λ t. test (datom_of t added)) asks_it ts lists
      (λ l among. list_agrees l added (λ d member. (way.own l d among member).flag) (λ d member. triples.whole d.e d.a d.v (way.part d.e d.a
      d.v (any_member (list_any (is_of d.e d.a d.v)) lists l among (any_member (is_of d.e d.a d.v) l d member (of_itself d))))))
    where
      same : (k : ℕ) → list_any test (at lists (0 + k)) ≡ list_any test (get_or lists k [])
      same k = ap (λ n. list_any test (get_or lists n [])) (zero_plus k)
        where
          zero_plus : (k : ℕ) → 0 + k ≡ k
          zero_plus k = omega arith

      of_itself : (d : Datom) → is_of d.e d.a d.v d ≡ true
      of_itself d = and_from _ _ (and_from _ _ (eq-eqb d.e d.e refl) (eq-eqb d.a d.a refl)) (value_eq-refl d.v)

  pub told : (t : Triple) → Contains ts t → IsExact tx t
  told t member = All-contains (IsExact tx) ts t triples.exact member

  module _ (built : IsBuilt tx) where
    abbrev added_place : Triple → Option ℕ
    added_place t = cond (test (datom_of t true)) t.added None

    abbrev gone_place : (Triple → Option ℕ) → Triple → Option ℕ
    gone_place place t = cond (test (datom_of t false)) (place t) None

    of_way : (lists : List (List Datom)) (added : Bool) (way : IsWay tx lists added) (place : Triple → Option ℕ)
        → ((t : Triple) → Contains ts t → first_asking lists t.e t.a t.v ≡ place t)
        → by_place tx (λ k. list_any test (at lists k)) ≡ first_where (λ t. test (datom_of t added)) place ts
    of_way lists added way place is =
        by_way lists added way
        ∙ first_where-members (λ t. test (datom_of t added)) (λ t. test (datom_of t added)) (λ t. first_asking lists t.e t.a t.v) place ts
        (λ t member. ap (λ o. cond (test (datom_of t added)) o None) (is t member))

    pub of_added : by_place tx (λ k. list_any test (at tx.added k)) ≡ first_where (λ t. test (datom_of t true)) (λ t. t.added) ts
    of_added = of_way tx.added true (added_way tx built) (λ t. t.added) (λ t member. sym (told t member).added)

    of_retracted : by_place tx (λ k. list_any test (at tx.retracted k)) ≡ first_where (λ t. test (datom_of t false)) (λ t. t.retracted) ts
    of_retracted = of_way tx.retracted false (retracted_way tx built) (λ t. t.retracted) (λ t member. sym (told t member).retracted)

    of_swept : by_place tx (λ k. list_any test (at tx.swept k)) ≡ first_where (λ t. test (datom_of t false)) (λ t. t.swept) ts
    of_swept = of_way tx.swept false (swept_way tx built) (λ t. t.swept) (λ t member. sym (told t member).swept)

    of_replaced : by_place tx (λ k. list_any test (at tx.replaced k)) ≡ first_where (λ t. test (datom_of t false)) (λ t. t.replaced) ts
    of_replaced = of_way tx.replaced false (replaced_way tx built) (λ t. t.replaced) (λ t member. sym (told t member).replaced)

    yes : Triple → Bool
    yes t = true

    -- in two ways
    either : (xs ys : ℕ → List Datom)
        → by_place tx (λ k. list_any test (xs k ++ ys k))
        ≡ earlier (by_place tx (λ k. list_any test (xs k))) (by_place tx (λ k. list_any test (ys k)))
    either xs ys =
        ap (by_place tx) (λ i k. list_any-append test (xs k) (ys k) i)
        ∙ first_yes-or (λ k. list_any test (xs k)) (λ k. list_any test (ys k)) 0 tx.asks

    -- the first form that asks it as a triple
    pub of_named : (q : Triple → Bool) (place : Triple → Option ℕ)
        → ((t : Triple) → Contains ts t → earlier (added_place t) (gone_place (λ t. t.retracted) t) ≡ cond (q t) (place t) None)
        → by_place tx (λ k. list_any test (asked_triples tx k)) ≡ first_where q place ts
    of_named q place is =
        either (λ k. at tx.added k) (λ k. at tx.retracted k)
        ∙ ap (λ x. earlier x (by_place tx (λ k. list_any test (at tx.retracted k)))) of_added
        ∙ ap (earlier (first_where (λ t. test (datom_of t true)) (λ t. t.added) ts)) of_retracted
        ∙ first_where-join (λ t. test (datom_of t true)) (λ t. test (datom_of t false)) q (λ t. t.added) (λ t. t.retracted) place ts is

    abbrev named : Triple → Option ℕ
    named t = earlier (added_place t) (gone_place (λ t. t.retracted) t)

    abbrev not_replaced : Triple → Option ℕ
    not_replaced t = earlier (named t) (gone_place (λ t. t.swept) t)

    -- the first form that asks it in whatever way
    pub of_asked : (q : Triple → Bool) (place : Triple → Option ℕ)
        → ((t : Triple) → Contains ts t → earlier (added_place t) (earlier (gone_place (λ t. t.retracted) t)
        (earlier (gone_place (λ t. t.swept) t) (gone_place (λ t. t.replaced) t))) ≡ cond (q t) (place t) None)
        → by_place tx (λ k. list_any test (asked tx k)) ≡ first_where q place ts
    of_asked q place is =
        either (λ k. asked_triples tx k ++ at tx.swept k) (λ k. at tx.replaced k)
        ∙ ap (λ x. earlier x (by_place tx (λ k. list_any test (at tx.replaced k)))) front
        ∙ ap (earlier (first_where (λ t. true) not_replaced ts)) of_replaced
        ∙ first_where-join (λ t. true) (λ t. test (datom_of t false)) q not_replaced (λ t. t.replaced) place ts
        (λ t member. sym (earlier-assoc (named t) (gone_place (λ t. t.swept) t) (gone_place (λ t. t.replaced) t))
        ∙ sym (earlier-assoc (added_place t) (gone_place (λ t. t.retracted) t)
        (earlier (gone_place (λ t. t.swept) t) (gone_place (λ t. t.replaced) t)))
        ∙ is t member)
      where
        front : by_place tx (λ k. list_any test (asked_triples tx k ++ at tx.swept k)) ≡ first_where (λ t. true) not_replaced ts
        front =
            either (λ k. asked_triples tx k) (λ k. at tx.swept k)
            ∙ ap (λ x. earlier x (by_place tx (λ k. list_any test (at tx.swept k)))) (of_named (λ t. true) named (λ t member. refl))
            ∙ ap (earlier (first_where (λ t. true) named ts)) of_swept
            ∙ first_where-join (λ t. true) (λ t. test (datom_of t false)) (λ t. true) named (λ t. t.swept) not_replaced ts
            (λ t member. refl)
