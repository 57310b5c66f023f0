-- Compare and set, form by form: by asks and by acts.
use Rattle.std.proofs.Common.{◌≡◌, ℕ, ◌+◌, Bool, true, false, cond, not, ◌&&◌, ◌||◌, eqb, List, [], ◌∷◌, map, get_or, refl, ap, sym, ◌∙◌}
use Rattle.std.proofs.Common.{subst, arith, Option, Some, None, inl, inr}
use Rattle.std.specs.List.{cons_option}
use Rattle.std.specs.Prelude.{Contains, filter, filter_map, option_and_then, option_map, IsTrue}
use Rattle.std.specs.List.{All, list_any, list_all}
use Rattle.std.specs.Option.{option_map_or}
use Rattle.std.specs.Ordering.{is_lt}
use Rattle.std.proofs.lemmas.Bool.{and_parts, and_from, eq-eqb, cases_Bool}
use Rattle.std.proofs.lemmas.List.Elements.{All-head, All-tail, All-cons, Contains-get_or}
use Rattle.fb_values.specs.declared.facts.Datom.{Datom}
use Rattle.fb_values.specs.declared.facts.Entry.{Entry}
use Rattle.fb_values.specs.declared.facts.Value.{Value}
use Rattle.fb_values.specs.declared.indexes.Order.TheVariants.{Eavt}
use Rattle.fb_values.specs.Orders.{key_cmp}
use Rattle.fb_model.specs.Rising.{in_order, put_in_order}
use Rattle.fb_model.specs.Facts.{is_of, value_eq, holds, Holds, facts, values_of, value_of}
use Rattle.fb_model.specs.Schema.{Attribute, attribute_of, attribute_from, attribute_named, named, keyword_of, entity_of as entity_under}
use Rattle.fb_model.specs.Schema.{truth_of, is_one, is_about}
use Rattle.fb_numbers.specs.Numbers.{ident, value_type, cardinality, unique, is_component, index}
use Rattle.fb_facts.specs.FactLists as fact_lists
use Rattle.tx_model.specs.Asks.{Ask, adds, retracts, retracts_all, compares, retracts_entity, meets, mentions, lacks_id}
use Rattle.tx_model.specs.Tempids.{entity_of}
use Rattle.tx_model.specs.Changes.{value_of_part}
use Rattle.tx_model.specs.Transaction.{Transaction}
use Rattle.tx_model.specs.ChangeRules.{at, is_value, compares_many, breaks_cas_many, compares_another, breaks_cas_failed}
use Rattle.tx_model.specs.Step.{first_yes, by_place}
use Rattle.tx_asks.specs.Acts as acts
use Rattle.tx_asks.specs.Acts.{Act, act_of, old_value_of, is_cas_of_many, is_cas_of_another, IsSettled, AreActs}
use Rattle.tx_rules.specs.Cas.{first_value, finds_another, first_of_many, first_failed}
use Rattle.tx_rules.proofs.Members.{first_of, later_of, which, any_member, none_passes}
use Rattle.tx_rules.proofs.Reached.{tests-map}
use Rattle.tx_rules.proofs.Triples.{value_eq-true, value_eq-refl}

-- ---- the one value

all-put : (p : Datom → Bool) (d : Datom) (ds : List Datom) → p d ≡ true → list_all p ds ≡ true → list_all p (put_in_order Eavt d ds) ≡ true
all-put p d [] first every = and_from _ _ first refl
all-put p d (x ∷ ds) first every =
    go (is_lt (key_cmp Eavt d x)) (is_lt (key_cmp Eavt x d)) (all-put p d ds first (and_parts (p x) (list_all p ds) every).1)
  where
    go : (b c : Bool) → list_all p (put_in_order Eavt d ds) ≡ true
        → list_all p (cond b (d ∷ x ∷ ds) (cond c (x ∷ put_in_order Eavt d ds) (x ∷ ds))) ≡ true
    go true c rest = and_from _ _ first every
    go false true rest = and_from _ _ (and_parts (p x) (list_all p ds) every).0 rest
    go false false rest = every

pub all-in_order : (p : Datom → Bool) (ds : List Datom) → list_all p ds ≡ true → list_all p (in_order Eavt ds) ≡ true
all-in_order p [] every = refl
all-in_order p (d ∷ ds) every =
    let parts = and_parts (p d) (list_all p ds) every in all-put p d (in_order Eavt ds) parts.0 (all-in_order p ds parts.1)

first-put : (w : Value) (d : Datom) (ds : List Datom) → value_eq d.v w ≡ true → list_all (λ x. value_eq x.v w) ds ≡ true
    → first_value (map (λ x. x.v) (put_in_order Eavt d ds)) ≡ Some w
first-put w d [] first every = ap Some (value_eq-true d.v w first)
first-put w d (x ∷ ds) first every = go (is_lt (key_cmp Eavt d x)) (is_lt (key_cmp Eavt x d))
  where
    second : x.v ≡ w
    second = value_eq-true x.v w (and_parts (value_eq x.v w) (list_all (λ x. value_eq x.v w) ds) every).0

    go : (b c : Bool) → first_value (map (λ x. x.v) (cond b (d ∷ x ∷ ds) (cond c (x ∷ put_in_order Eavt d ds) (x ∷ ds)))) ≡ Some w
    go true c = ap Some (value_eq-true d.v w first)
    go false true = ap Some second
    go false false = ap Some second

-- where all are of one value, it is the first in whatever order
first-in_order : (w : Value) (ds : List Datom) → list_all (λ x. value_eq x.v w) ds ≡ true
    → first_value (map (λ x. x.v) (in_order Eavt ds)) ≡ first_value (map (λ x. x.v) ds)
first-in_order w [] every = refl
first-in_order w (d ∷ ds) every =
    let parts = and_parts (value_eq d.v w) (list_all (λ x. value_eq x.v w) ds) every in
    first-put w d (in_order Eavt ds) parts.0 (all-in_order (λ x. value_eq x.v w) ds parts.1) ∙ ap Some (sym (value_eq-true d.v w parts.0))

-- what the laws say of the history
pub record HasOneValues (h : List Entry) : Type 0 where
  pub facts_hold : (e a : ℕ) (v : Value) → holds h e a v ≡ list_any (is_of e a v) (facts h)
  pub one_value : (e a : ℕ) (v w : Value) → IsTrue (is_one (facts h) a) → Holds h e a v → Holds h e a w → v ≡ w

pub of_itself : (d : Datom) → is_of d.e d.a d.v d ≡ true
of_itself d = and_from _ _ (and_from _ _ (eq-eqb d.e d.e refl) (eq-eqb d.a d.a refl)) (value_eq-refl d.v)

pub kept_passes : (p q : Datom → Bool) (ds : List Datom)
    → ((d : Datom) → Contains ds d → p d ≡ true → q d ≡ true) → list_all q (filter p ds) ≡ true
kept_passes p q [] each = refl
kept_passes p q (d ∷ ds) each = go (p d) refl (kept_passes p q ds (λ x member. each x (later_of d x ds member)))
  where
    go : (b : Bool) → p d ≡ b → list_all q (filter p ds) ≡ true → list_all q (cond b (d ∷ filter p ds) (filter p ds)) ≡ true
    go true is rest = and_from _ _ (each d (first_of d ds) is) rest
    go false is rest = rest

module _ (h : List Entry) (laws : HasOneValues h) (e a : ℕ) (one : is_one (facts h) a ≡ true) where
  holding : (d : Datom) → Contains (facts h) d → is_about e a d ≡ true → holds h e a d.v ≡ true
  holding d member about =
      let parts = and_parts (eqb d.e e) (eqb d.a a) about in
      laws.facts_hold e a d.v ∙ any_member (is_of e a d.v) (facts h) d member (and_from _ _ about (value_eq-refl d.v))

  all_one : (w : Value) → holds h e a w ≡ true → list_all (λ x. value_eq x.v w) (filter (is_about e a) (facts h)) ≡ true
  all_one w held =
      kept_passes (is_about e a) (λ x. value_eq x.v w) (facts h) (λ d member about.
      subst (λ v. value_eq d.v v ≡ true) (laws.one_value e a d.v w one (holding d member about) held) (value_eq-refl d.v))

  raw_first : (ds : List Datom)
      → ((w : Value) → first_value (map (λ (d : Datom). d.v) ds) ≡ Some w → list_all (λ x. value_eq x.v w) ds ≡ true)
      → first_value (map (λ (d : Datom). d.v) (in_order Eavt ds)) ≡ first_value (map (λ (d : Datom). d.v) ds)
  raw_first [] each = refl
  raw_first (d ∷ ds) each = first-in_order d.v (d ∷ ds) (each d.v refl)

  head_holds : (ds : List Datom)
      → ((d : Datom) → Contains ds d → holds h e a d.v ≡ true) → (w : Value) → first_value (map (λ (d : Datom). d.v) ds) ≡ Some w
      → holds h e a w ≡ true
  head_holds [] each w is = absurd (cc)
  head_holds (d ∷ ds) each w is = subst (λ v. holds h e a v ≡ true) (some_is d.v w is) (each d (first_of d ds))
    where
      some_is : (v w : Value) → Some v ≡ Some w → v ≡ w
      some_is v w same = cc

  member_kept : (d : Datom) (ds : List Datom) → Contains (filter (is_about e a) ds) d → Contains ds d × (is_about e a d ≡ true)
  member_kept d [] member = absurd (omega (arith, member.1))
  member_kept d (x ∷ ds) member = go (is_about e a x) refl (member_kept d ds) member
    where
      later : Contains ds d × (is_about e a d ≡ true) → Contains (x ∷ ds) d × (is_about e a d ≡ true)
      later is = (later_of x d ds is.0, is.1)

      go : (b : Bool) → is_about e a x ≡ b → (Contains (filter (is_about e a) ds) d → Contains ds d × (is_about e a d ≡ true))
          → Contains (cond b (x ∷ filter (is_about e a) ds) (filter (is_about e a) ds)) d → Contains (x ∷ ds) d × (is_about e a d ≡ true)
      go false is next rest = later (next rest)
      go true is next rest = elim (which x d (filter (is_about e a) ds) rest) [
        | inl same ↦ (subst (λ y. Contains (x ∷ ds) y) same (first_of x ds), subst (λ y. is_about e a y ≡ true) same is)
        | inr more ↦ later (next more)
      ]

  -- under an attribute of cardinality one the first value is the value
  pub value-first : value_of (facts h) e a ≡ first_value (fact_lists.values_of h e a)
  value-first =
      as_first (facts h)
      ∙ sym (raw_first (filter (is_about e a) (facts h))
      (λ w is. all_one w (head_holds (filter (is_about e a) (facts h))
      (λ d member. let kept = member_kept d (facts h) member in holding d kept.0 kept.1) w is)))
    where
      as_first : (ds : List Datom) → value_of ds e a ≡ first_value (values_of ds e a)
      as_first [] = refl
      as_first (d ∷ ds) = elim (cases_Bool (eqb d.e e && eqb d.a a)) [ inl is ↦ rw is refl | inr is ↦ rw is (as_first ds) ]

-- ---- asks and their acts

any-acts : (p : Ask → Bool) (q : Act → Bool) (f : Ask → Option Act) (P : Ask → Type 0)
    → ((ask : Ask) → P ask → p ask ≡ option_map_or q (f ask) false) → (group : List Ask) → All P group
    → list_any p group ≡ list_any q (filter_map f group)
any-acts p q f P same [] settled = refl
any-acts p q f P same (ask ∷ group) settled =
    go (f ask) (same ask (All-head P ask group settled)) (any-acts p q f P same group (All-tail P ask group settled))
  where
    go : (o : Option Act) → p ask ≡ option_map_or q o false → list_any p group ≡ list_any q (filter_map f group)
        → (p ask || list_any p group) ≡ list_any q (cons_option o (filter_map f group))
    go None is rest = ap (λ b. b || list_any p group) is ∙ rest
    go (Some act) is rest = ap (λ b. b || list_any p group) is ∙ ap (λ b. q act || b) rest

groups-same : (p : Ask → Bool) (q : Act → Bool) (f : Ask → Option Act) (P : Ask → Type 0)
    → ((ask : Ask) → P ask → p ask ≡ option_map_or q (f ask) false) → (groups : List (List Ask)) → All (All P) groups
    → map (list_any p) groups ≡ map (list_any q) (map (filter_map f) groups)
groups-same p q f P same [] settled = refl
groups-same p q f P same (group ∷ groups) settled =
    rw (
      any-acts p q f P same group (All-head (All P) group groups settled),
      groups-same p q f P same groups (All-tail (All P) group groups settled),
    ) refl

by_groups : (tx : Transaction) (p : Ask → Bool) → by_place tx (λ k. list_any p (at tx.asks k)) ≡ first_yes 0 (map (list_any p) tx.asks)
by_groups tx p =
    ap (first_yes 0) (tests-map (λ k. list_any p (at tx.asks k)) (list_any p) [] 0 tx.asks tx.asks refl
    (λ k within. ap (λ n. list_any p (get_or tx.asks n [])) (zero_plus k)))
  where
    zero_plus : (k : ℕ) → 0 + k ≡ k
    zero_plus k = omega arith

-- ---- the two rules

module _ (tx : Transaction) (forms : List (List Act)) (are : AreActs forms tx)
    (many : (ask : Ask) → IsSettled tx.db tx.names ask
    → compares_many tx.db ask ≡ option_map_or is_cas_of_many (act_of tx.db tx.names ask) false)
    (another : (ask : Ask) → IsSettled tx.db tx.names ask
    → compares_another tx ask ≡ option_map_or (is_cas_of_another tx.db) (act_of tx.db tx.names ask) false) where
  pub cas_many : by_place tx (breaks_cas_many tx) ≡ first_of_many forms
  cas_many =
      by_groups tx (compares_many tx.db)
      ∙ ap (first_yes 0)
      (groups-same (compares_many tx.db) is_cas_of_many (act_of tx.db tx.names) (IsSettled tx.db tx.names) many tx.asks are.settled)
      ∙ ap (λ l. first_yes 0 (map (list_any is_cas_of_many) l)) (sym are.same)

  module _ (laws : HasOneValues tx.db.history) (facts_are : tx.db.facts ≡ facts tx.db.history)
      (none : by_place tx (breaks_cas_many tx) ≡ None) where
    -- an attribute that is found by its name says of itself what the facts say
    named_one : (o : Option ℕ) (a : Attribute) → option_and_then (attribute_of tx.db.facts) o ≡ Some a → a.many ≡ false
        → is_one (facts tx.db.history) a.id ≡ true
    named_one None a is single = absurd (cc)
    named_one (Some e) a is single =
        subst (λ ds. is_one ds a.id ≡ true) facts_are
        (ap (λ o. option_map_or (λ (attribute : Attribute). not attribute.many) o false) (ap (attribute_of tx.db.facts)
        (same_id e (keyword_of tx.db.facts e ident) (entity_under tx.db.facts e value_type) (entity_under tx.db.facts e cardinality)
        (entity_under tx.db.facts e unique) (truth_of tx.db.facts e is_component) (truth_of tx.db.facts e index) a is) ∙ is)
        ∙ ap not single)
      where
        same_id : (e : ℕ) (name : Option (List ℕ)) (kind count uniqueness : Option ℕ) (component indexed : Bool) (a : Attribute)
            → attribute_from e name kind count uniqueness component indexed ≡ Some a → a.id ≡ e
        same_id e None kind count uniqueness component indexed a is = absurd (cc)
        same_id e (Some n) None count uniqueness component indexed a is = absurd (cc)
        same_id e (Some n) (Some k) None uniqueness component indexed a is = absurd (cc)
        same_id e (Some n) (Some k) (Some c) uniqueness component indexed a is = sym (ap id_of is)
          where
            id_of : Option Attribute → ℕ
            id_of None = 0
            id_of (Some a) = a.id

    chain : (oe : Option ℕ) (oa : Option Attribute) (ov : Attribute → Option Value) (old : Attribute → Option Value)
        → ((a : Attribute) → oa ≡ Some a → a.many ≡ false → is_one (facts tx.db.history) a.id ≡ true)
        → option_map_or is_cas_of_many
        (option_and_then (λ e. option_and_then (λ (a : Attribute). option_map (acts.compares e a (old a)) (ov a)) oa) oe) false ≡ false
        → option_map_or (is_cas_of_another tx.db)
        (option_and_then (λ e. option_and_then (λ (a : Attribute). option_map (acts.compares e a (old a)) (ov a)) oa) oe) false
        ≡ option_map_or (finds_another tx.db.history)
        (option_and_then (λ e. option_and_then (λ (a : Attribute). option_map (acts.compares e a (old a)) (ov a)) oa) oe) false
    chain None oa ov old known single = refl
    chain (Some e) None ov old known single = refl
    chain (Some e) (Some a) ov old known single = go (ov a) single
      where
        go : (o : Option Value) → option_map_or is_cas_of_many (option_map (acts.compares e a (old a)) o) false ≡ false
            → option_map_or (is_cas_of_another tx.db) (option_map (acts.compares e a (old a)) o) false
            ≡ option_map_or (finds_another tx.db.history) (option_map (acts.compares e a (old a)) o) false
        go None single = refl
        go (Some v) single =
            ap (λ x. not (is_value x (old a)))
            (ap (λ ds. value_of ds e a.id) facts_are ∙ value-first tx.db.history laws e a.id (known a refl single))

    same_ask : (ask : Ask) → IsSettled tx.db tx.names ask × (compares_many tx.db ask ≡ false)
        → compares_another tx ask ≡ option_map_or (finds_another tx.db.history) (act_of tx.db tx.names ask) false
    same_ask ask is = another ask is.0 ∙ by_ask ask (sym (many ask is.0) ∙ is.1)
      where
        plain_chain : (oe : Option ℕ) (oa : Option Attribute) (make : ℕ → Attribute → Option Act)
            → ((e : ℕ) (a : Attribute)
            → option_map_or (is_cas_of_another tx.db) (make e a) false ≡ option_map_or (finds_another tx.db.history) (make e a) false)
            → option_map_or (is_cas_of_another tx.db) (option_and_then (λ e. option_and_then (make e) oa) oe) false
            ≡ option_map_or (finds_another tx.db.history) (option_and_then (λ e. option_and_then (make e) oa) oe) false
        plain_chain None oa make same = refl
        plain_chain (Some e) None make same = refl
        plain_chain (Some e) (Some a) make same = same e a

        neither : (make : Value → Act)
            → ((v : Value) → is_cas_of_another tx.db (make v) ≡ finds_another tx.db.history (make v)) → (o : Option Value)
            → option_map_or (is_cas_of_another tx.db) (option_map make o) false
            ≡ option_map_or (finds_another tx.db.history) (option_map make o) false
        neither make same None = refl
        neither make same (Some v) = same v

        all_of : (oe : Option ℕ) (oa : Option Attribute)
            → option_map_or (is_cas_of_another tx.db) (option_and_then (λ e. option_map (acts.retracts_all e) oa) oe) false
            ≡ option_map_or (finds_another tx.db.history) (option_and_then (λ e. option_map (acts.retracts_all e) oa) oe) false
        all_of None oa = refl
        all_of (Some e) None = refl
        all_of (Some e) (Some a) = refl

        entity : (oe : Option ℕ)
            → option_map_or (is_cas_of_another tx.db) (option_map acts.retracts_entity oe) false
            ≡ option_map_or (finds_another tx.db.history) (option_map acts.retracts_entity oe) false
        entity None = refl
        entity (Some e) = refl

        by_ask : (ask : Ask) → option_map_or is_cas_of_many (act_of tx.db tx.names ask) false ≡ false
            → option_map_or (is_cas_of_another tx.db) (act_of tx.db tx.names ask) false
            ≡ option_map_or (finds_another tx.db.history) (act_of tx.db tx.names ask) false
        by_ask (adds name k part) single =
            plain_chain (entity_of tx.db tx.names name)
            (attribute_named tx.db.facts k) (λ e a. option_map (acts.adds e a) (value_of_part tx.db tx.names a part))
            (λ e a. neither (acts.adds e a) (λ v. refl) (value_of_part tx.db tx.names a part))
        by_ask (retracts name k part) single =
            plain_chain (entity_of tx.db tx.names name)
            (attribute_named tx.db.facts k) (λ e a. option_map (acts.retracts e a) (value_of_part tx.db tx.names a part))
            (λ e a. neither (acts.retracts e a) (λ v. refl) (value_of_part tx.db tx.names a part))
        by_ask (retracts_all name k) single = all_of (entity_of tx.db tx.names name) (attribute_named tx.db.facts k)
        by_ask (compares name k old new) single =
            chain (entity_of tx.db tx.names name) (attribute_named tx.db.facts k) (λ a. value_of_part tx.db tx.names a new)
            (λ a. old_value_of tx.db tx.names a old) (λ a is. named_one (named tx.db.facts k) a is) single
        by_ask (retracts_entity name) single = entity (entity_of tx.db tx.names name)
        by_ask (meets name) single = refl
        by_ask (mentions k) single = refl
        by_ask lacks_id single = refl

    none_each : (groups : List (List Ask)) (m : ℕ)
        → first_yes m (map (list_any (compares_many tx.db)) groups) ≡ None → All (All (IsSettled tx.db tx.names)) groups
        → All (All (λ ask. IsSettled tx.db tx.names ask × (compares_many tx.db ask ≡ false))) groups
    none_each [] m none settled = λ k d within. absurd (omega (arith, within))
    none_each (group ∷ groups) m none settled =
        All-cons (All (λ ask. IsSettled tx.db tx.names ask × (compares_many tx.db ask ≡ false))) group groups (in_group group
        (not_first (list_any (compares_many tx.db) group) none) (All-head (All (IsSettled tx.db tx.names)) group groups settled))
        (none_each groups (m + 1) (behind (list_any (compares_many tx.db) group) none)
        (All-tail (All (IsSettled tx.db tx.names)) group groups settled))
      where
        not_first : (b : Bool) → cond b (Some m) (first_yes (m + 1) (map (list_any (compares_many tx.db)) groups)) ≡ None → b ≡ false
        not_first true is = absurd (cc)
        not_first false is = refl

        behind : (b : Bool) → cond b (Some m) (first_yes (m + 1) (map (list_any (compares_many tx.db)) groups)) ≡ None
            → first_yes (m + 1) (map (list_any (compares_many tx.db)) groups) ≡ None
        behind true is = absurd (cc)
        behind false is = is

        in_group : (group : List Ask) → list_any (compares_many tx.db) group ≡ false → All (IsSettled tx.db tx.names) group
            → All (λ ask. IsSettled tx.db tx.names ask × (compares_many tx.db ask ≡ false)) group
        in_group group none settled =
            λ k d within.
            (settled k d within, none_passes (compares_many tx.db) group (get_or group k d) none (Contains-get_or group k d within))

    pub cas_failed : by_place tx (breaks_cas_failed tx) ≡ first_failed tx.db.history forms
    cas_failed =
        by_groups tx (compares_another tx)
        ∙ ap (first_yes 0) (groups-same (compares_another tx) (finds_another tx.db.history)
        (act_of tx.db tx.names) (λ ask. IsSettled tx.db tx.names ask × (compares_many tx.db ask ≡ false)) same_ask tx.asks
        (none_each tx.asks 0 (sym (by_groups tx (compares_many tx.db)) ∙ none) are.settled))
        ∙ ap (λ l. first_yes 0 (map (list_any (finds_another tx.db.history)) l)) (sym are.same)
