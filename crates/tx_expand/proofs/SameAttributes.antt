-- The walk and the rules that need the schema alone look at facts by the attributes that keywords name.
use Rattle.std.proofs.Common.{◌≡◌, ℕ, ◌+◌, Bool, false, not, List, [], ◌∷◌, ◌++◌, ◌&&◌, ◌||◌, cond, refl, ap, ◌∙◌}
use Rattle.std.specs.Prelude.{nat_eq, is_none, Option, Some, None}
use Rattle.std.specs.Option.{option_map_or}
use Rattle.std.specs.List.{list_any}
use Rattle.edn_model.specs.Form as edn
use Rattle.edn_model.specs.Form.{Form, Forms, no_forms, form, Pairs, no_pairs, pair, items}
use Rattle.fb_values.specs.declared.facts.Datom.{Datom}
use Rattle.fb_numbers.specs.Numbers.{type_ref, tx_instant, ident as ident_attribute}
use Rattle.fb_model.specs.Schema.{attribute_named}
use Rattle.tx_model.specs.Asks.{Name, number, ident, lookup, tempid, nameless, plain, entity, Ask, adds, retracts, retracts_all, compares}
use Rattle.tx_model.specs.Asks.{retracts_entity, meets, mentions, lacks_id, lookup_in, Key, own, forward, backward, key_in, names_of}
use Rattle.tx_model.specs.Asks.{attribute_of_ask}
use Rattle.tx_model.specs.Shapes.{Verb, add, retract, cas, verb_in}
use Rattle.tx_model.specs.Walk.{has_ref, has_many, has_parts, has_uniqueness, scalar, value_part, old_value_part, keyword_in, entity_in}
use Rattle.tx_model.specs.Walk.{list_asks, verb_asks, identifies, has_identity, name_of_map, links, need, nested_asks, scalar_asks}
use Rattle.tx_model.specs.Walk.{vector_asks, sequence_asks, pair_asks, map_asks, value_asks, members_asks, member_asks, form_asks}
use Rattle.tx_model.specs.Walk.{asks_from, flat}
use Rattle.tx_model.specs.NameRules.{lookups_from, lookups_in, is_unknown, names_no_attribute, is_protected, is_ident, is_reserved_part}
use Rattle.tx_model.specs.NameRules.{adds_reserved_ident, has_wrong_part, is_wrong_lookup, has_wrong_lookup, has_other_lookup}
use Rattle.tx_expand.specs.Faults.{form_faults, is_of_protected, has_wrong_value}
use Rattle.tx_expand.proofs.Together.{all_five}

module _ (f g : List Datom) (same : (k : List ℕ) → attribute_named f k ≡ attribute_named g k) where
  ref_same : (k : List ℕ) → has_ref f k ≡ has_ref g k
  ref_same k = ap (λ found. option_map_or (λ attribute. nat_eq attribute.kind type_ref) found false) (same k)

  many_same : (k : List ℕ) → has_many f k ≡ has_many g k
  many_same k = ap (λ found. option_map_or (λ attribute. attribute.many) found false) (same k)

  parts_same : (k : List ℕ) → has_parts f k ≡ has_parts g k
  parts_same k = ap (λ found. option_map_or (λ attribute. attribute.component) found false) (same k)

  uniqueness_same : (k : List ℕ) → has_uniqueness f k ≡ has_uniqueness g k
  uniqueness_same k = ap (λ found. option_map_or (λ attribute. not (nat_eq attribute.uniqueness 0)) found false) (same k)

  -- ---- list forms

  list_same : (verb : Option Verb) (fs : List Form) → list_asks f verb fs ≡ list_asks g verb fs
  list_same (Some add) (e ∷ a ∷ v ∷ []) = ap (λ b. adds (entity_in e) (keyword_in a) (value_part b v) ∷ []) (ref_same (keyword_in a))
  list_same (Some retract) (e ∷ a ∷ v ∷ []) =
      ap (λ b. retracts (entity_in e) (keyword_in a) (old_value_part b v) ∷ []) (ref_same (keyword_in a))
  list_same (Some cas) (e ∷ a ∷ old ∷ new ∷ []) =
      ap (λ b. compares (entity_in e) (keyword_in a) (old_value_part b old) (old_value_part b new) ∷ []) (ref_same (keyword_in a))
  list_same verb fs = refl

  verb_same : (fs : List Form) → verb_asks f fs ≡ verb_asks g fs
  verb_same [] = refl
  verb_same (verb ∷ arguments) = list_same (verb_in verb) arguments

  -- ---- maps

  identifies_same : (key : Key) → identifies f key ≡ identifies g key
  identifies_same own = refl
  identifies_same (forward k) = uniqueness_same k
  identifies_same (backward k) = refl

  identity_same : (ps : Pairs) → has_identity f ps ≡ has_identity g ps
  identity_same no_pairs = refl
  identity_same (pair key value rest) =
      ap (λ b. b || has_identity f rest) (identifies_same (key_in key)) ∙ ap (λ b. identifies g (key_in key) || b) (identity_same rest)

  nested_same : (self : Name) (key : Key) (name : Name) (ps : Pairs) (inner : List Ask)
      → nested_asks f self key name ps inner ≡ nested_asks g self key name ps inner
  nested_same self own name ps inner = refl
  nested_same self (forward k) name ps inner =
      ap (λ b. cond b (adds self k (entity name) ∷ (need (not (has_parts f k || has_identity f ps)) ++ inner))
      (adds self k (plain (edn.map ps)) ∷ [])) (ref_same k)
      ∙ ap (λ b. cond (has_ref g k) (adds self k (entity name) ∷ (need (not (b || has_identity f ps)) ++ inner))
      (adds self k (plain (edn.map ps)) ∷ [])) (parts_same k)
      ∙ ap (λ b. cond (has_ref g k) (adds self k (entity name) ∷ (need (not (has_parts g k || b)) ++ inner))
      (adds self k (plain (edn.map ps)) ∷ [])) (identity_same ps)
  nested_same self (backward k) name ps inner = ap (λ b. adds name k (entity self) ∷ (need (not b) ++ inner)) (identity_same ps)

  scalar_same : (self : Name) (key : Key) (v : Form) → scalar_asks f self key v ≡ scalar_asks g self key v
  scalar_same self own v = refl
  scalar_same self (forward k) v = ap (λ b. links self (forward k) (scalar b v)) (ref_same k)
  scalar_same self (backward k) (edn.integer z) = refl
  scalar_same self (backward k) v = refl

  vector_same : (self : Name) (key : Key) (fs : Forms) (found : Option (List ℕ × Form)) (members : List Ask)
      → vector_asks f self key fs found members ≡ vector_asks g self key fs found members
  vector_same self own fs found members = refl
  vector_same self (forward k) fs None members = ap (λ b. cond b members (adds self k (plain (edn.vector fs)) ∷ [])) (many_same k)
  vector_same self (forward k) fs (Some found) members =
      ap (λ b. cond (b && has_uniqueness f found.0) (adds self k (entity (lookup found.0 found.1)) ∷ [])
      (cond (has_many f k) members (adds self k (cond b (entity (lookup found.0 found.1)) (plain (edn.vector fs))) ∷ []))) (ref_same k)
      ∙ ap (λ b. cond (has_ref g k && b) (adds self k (entity (lookup found.0 found.1)) ∷ [])
      (cond (has_many f k) members (adds self k (cond (has_ref g k) (entity (lookup found.0 found.1)) (plain (edn.vector fs))) ∷ [])))
      (uniqueness_same found.0)
      ∙ ap (λ b. cond (has_ref g k && has_uniqueness g found.0) (adds self k (entity (lookup found.0 found.1)) ∷ [])
      (cond b members (adds self k (cond (has_ref g k) (entity (lookup found.0 found.1)) (plain (edn.vector fs))) ∷ []))) (many_same k)
  vector_same self (backward k) fs None members = refl
  vector_same self (backward k) fs (Some found) members =
      ap (λ b. cond b (links self (backward k) (entity (lookup found.0 found.1))) members) (uniqueness_same found.0)

  sequence_same : (self : Name) (key : Key) (v : Form) (members : List Ask)
      → sequence_asks f self key v members ≡ sequence_asks g self key v members
  sequence_same self own v members = refl
  sequence_same self (forward k) v members = ap (λ b. cond b members (adds self k (plain v) ∷ [])) (many_same k)
  sequence_same self (backward k) v members = refl

  pair_same : (self : Name) (key : Key) (values : List Ask) → pair_asks f self key values ≡ pair_asks g self key values
  pair_same self own values = refl
  pair_same self (forward k) values = refl
  pair_same self (backward k) values = ap (λ b. mentions k ∷ cond b values (adds self k (entity self) ∷ [])) (ref_same k)

  mutual
    map_same : (self : Name) (path : List ℕ) (n : ℕ) (ps : Pairs) → map_asks f self path n ps ≡ map_asks g self path n ps
    map_same self path n no_pairs = refl
    map_same self path n (pair key value rest) =
        ap (λ values. pair_asks f self (key_in key) values ++ map_asks f self path (n + 1) rest)
        (value_same self (key_in key) (n ∷ path) value)
        ∙ ap (λ asks. asks ++ map_asks f self path (n + 1) rest)
        (pair_same self (key_in key) (value_asks g self (key_in key) (n ∷ path) value))
        ∙ ap (λ asks. pair_asks g self (key_in key) (value_asks g self (key_in key) (n ∷ path) value) ++ asks)
        (map_same self path (n + 1) rest)

    value_same : (self : Name) (key : Key) (path : List ℕ) (v : Form) → value_asks f self key path v ≡ value_asks g self key path v
    value_same self key path (edn.map ps) =
        ap (nested_asks f self key (name_of_map path ps) ps) (map_same (name_of_map path ps) path 0 ps)
        ∙ nested_same self key (name_of_map path ps) ps (map_asks g (name_of_map path ps) path 0 ps)
    value_same self key path (edn.set fs) = members_same self key path 0 fs
    value_same self key path (edn.vector fs) =
        ap (vector_asks f self key fs (lookup_in fs)) (members_same self key path 0 fs)
        ∙ vector_same self key fs (lookup_in fs) (members_asks g self key path 0 fs)
    value_same self key path (edn.list fs) =
        ap (sequence_asks f self key (edn.list fs)) (members_same self key path 0 fs)
        ∙ sequence_same self key (edn.list fs) (members_asks g self key path 0 fs)
    value_same self key path v = scalar_same self key v

    members_same : (self : Name) (key : Key) (path : List ℕ) (n : ℕ) (fs : Forms)
        → members_asks f self key path n fs ≡ members_asks g self key path n fs
    members_same self key path n no_forms = refl
    members_same self key path n (form v fs) =
        ap (λ asks. asks ++ members_asks f self key path (n + 1) fs) (member_same self key (n ∷ path) v)
        ∙ ap (λ asks. member_asks g self key (n ∷ path) v ++ asks) (members_same self key path (n + 1) fs)

    member_same : (self : Name) (key : Key) (path : List ℕ) (v : Form) → member_asks f self key path v ≡ member_asks g self key path v
    member_same self key path (edn.map ps) =
        ap (nested_asks f self key (name_of_map path ps) ps) (map_same (name_of_map path ps) path 0 ps)
        ∙ nested_same self key (name_of_map path ps) ps (map_asks g (name_of_map path ps) path 0 ps)
    member_same self key path (edn.vector fs) = vector_same self key fs (lookup_in fs) (links self key (plain (edn.vector fs)))
    member_same self key path v = scalar_same self key v

  form_same : (place : ℕ) (v : Form) → form_asks f place v ≡ form_asks g place v
  form_same place (edn.vector fs) = verb_same (items fs)
  form_same place (edn.list fs) = verb_same (items fs)
  form_same place (edn.map ps) =
      ap (λ asks. meets (name_of_map (place ∷ []) ps) ∷ asks) (map_same (name_of_map (place ∷ []) ps) (place ∷ []) 0 ps)
  form_same place v = refl

  forms_same : (n : ℕ) (fs : List Form) → asks_from f n fs ≡ asks_from g n fs
  forms_same n [] = refl
  forms_same n (v ∷ fs) =
      ap (λ asks. asks ∷ asks_from f (n + 1) fs) (form_same n v) ∙ ap (λ lists. form_asks g n v ∷ lists) (forms_same (n + 1) fs)

  pub flat_same : (fs : List Form) → flat f fs ≡ flat g fs
  flat_same fs = forms_same 0 fs

  -- ---- what is wrong

  any_same : {A : Type 0} (p q : A → Bool) → ((x : A) → p x ≡ q x) → (xs : List A) → list_any p xs ≡ list_any q xs
  any_same p q are [] = refl
  any_same p q are (x ∷ xs) = ap (λ b. b || list_any p xs) (are x) ∙ ap (λ b. q x || b) (any_same p q are xs)

  or_same : (a b c d : Bool) → a ≡ b → c ≡ d → (a || c) ≡ (b || d)
  or_same a b c d one other = ap (λ x. x || c) one ∙ ap (λ x. b || x) other

  lookups_same : (k : List ℕ) (v : Form) → lookups_from f k v ≡ lookups_from g k v
  lookups_same k (edn.vector (form (edn.keyword inner) (form value no_forms))) =
      ap (λ b. (k, edn.vector (form (edn.keyword inner) (form value no_forms))) ∷ cond b (lookups_from f inner value) []) (ref_same k)
      ∙ ap (λ refs. (k, edn.vector (form (edn.keyword inner) (form value no_forms))) ∷ cond (has_ref g k) refs [])
      (lookups_same inner value)
  lookups_same k v = refl

  name_same : (name : Name) → lookups_in f name ≡ lookups_in g name
  name_same (lookup k v) = lookups_same k v
  name_same (number z) = refl
  name_same (ident k) = refl
  name_same (tempid s) = refl
  name_same (nameless path) = refl

  names_same : (p q : List ℕ × Form → Bool) → ((ref : List ℕ × Form) → p ref ≡ q ref) → (names : List Name)
      → list_any (λ name. list_any p (lookups_in f name)) names ≡ list_any (λ name. list_any q (lookups_in g name)) names
  names_same p q are names =
      any_same (λ name. list_any p (lookups_in f name)) (λ name. list_any q (lookups_in g name))
      (λ name. ap (list_any p) (name_same name) ∙ any_same p q are (lookups_in g name)) names

  unknown_same : (k : List ℕ) → is_unknown f k ≡ is_unknown g k
  unknown_same k = ap (λ found. is_none found) (same k)

  of_unknown_same : (k : Option (List ℕ)) → option_map_or (is_unknown f) k false ≡ option_map_or (is_unknown g) k false
  of_unknown_same None = refl
  of_unknown_same (Some k) = unknown_same k

  is_protected_same : (k : List ℕ) → is_protected f k ≡ is_protected g k
  is_protected_same k = ap (λ found. option_map_or (λ attribute. nat_eq attribute.id tx_instant) found false) (same k)

  of_protected_same : (k : Option (List ℕ)) → option_map_or (is_protected f) k false ≡ option_map_or (is_protected g) k false
  of_protected_same None = refl
  of_protected_same (Some k) = is_protected_same k

  ident_same : (k : List ℕ) → is_ident f k ≡ is_ident g k
  ident_same k = ap (λ found. option_map_or (λ attribute. nat_eq attribute.id ident_attribute) found false) (same k)

  reserved_same : (ask : Ask) → adds_reserved_ident f ask ≡ adds_reserved_ident g ask
  reserved_same (adds name k part) = ap (λ b. b && is_reserved_part part) (ident_same k)
  reserved_same (retracts name k part) = refl
  reserved_same (retracts_all name k) = refl
  reserved_same (compares name k old new) = ap (λ b. b && is_reserved_part new) (ident_same k)
  reserved_same (retracts_entity name) = refl
  reserved_same (meets name) = refl
  reserved_same (mentions k) = refl
  reserved_same lacks_id = refl

  found_same : (k : Option (List ℕ)) → option_map_or (attribute_named f) k None ≡ option_map_or (attribute_named g) k None
  found_same None = refl
  found_same (Some k) = same k

  wrong_value_same : (ask : Ask) → has_wrong_value f ask ≡ has_wrong_value g ask
  wrong_value_same ask = ap (λ found. option_map_or (has_wrong_part ask) found false) (found_same (attribute_of_ask ask))

  pub faults_same : (asks : List Ask) → form_faults f asks ≡ form_faults g asks
  faults_same asks =
      let found = form_faults g asks in
      all_five found.unknown found.protected found.wrong found.not_unique found.lacking
      (any_same (names_no_attribute f) (names_no_attribute g)
      (λ ask. or_same (option_map_or (is_unknown f) (attribute_of_ask ask) false)
      (option_map_or (is_unknown g) (attribute_of_ask ask) false) _ _ (of_unknown_same (attribute_of_ask ask))
      (names_same (λ (ref : List ℕ × Form). is_unknown f ref.0) (λ (ref : List ℕ × Form). is_unknown g ref.0) (λ ref. unknown_same ref.0)
      (names_of ask))) asks)
      (any_same (is_of_protected f) (is_of_protected g)
      (λ ask. or_same (option_map_or (is_protected f) (attribute_of_ask ask) false)
      (option_map_or (is_protected g) (attribute_of_ask ask) false) (adds_reserved_ident f ask) (adds_reserved_ident g ask)
      (of_protected_same (attribute_of_ask ask)) (reserved_same ask)) asks)
      (any_same (λ ask. has_wrong_value f ask || list_any (has_wrong_lookup f) (names_of ask))
      (λ ask. has_wrong_value g ask || list_any (has_wrong_lookup g) (names_of ask))
      (λ ask. or_same (has_wrong_value f ask) (has_wrong_value g ask) _ _ (wrong_value_same ask)
      (names_same (λ (ref : List ℕ × Form). option_map_or (is_wrong_lookup ref.1) (attribute_named f ref.0) false)
      (λ (ref : List ℕ × Form). option_map_or (is_wrong_lookup ref.1) (attribute_named g ref.0) false)
      (λ ref. ap (λ o. option_map_or (is_wrong_lookup ref.1) o false) (same ref.0)) (names_of ask))) asks)
      (any_same (λ ask. list_any (has_other_lookup f) (names_of ask)) (λ ask. list_any (has_other_lookup g) (names_of ask))
      (λ ask.
      names_same (λ (ref : List ℕ × Form). option_map_or (λ attribute. nat_eq attribute.uniqueness 0) (attribute_named f ref.0) false)
      (λ (ref : List ℕ × Form). option_map_or (λ attribute. nat_eq attribute.uniqueness 0) (attribute_named g ref.0) false)
      (λ ref. ap (λ o. option_map_or (λ attribute. nat_eq attribute.uniqueness 0) o false) (same ref.0)) (names_of ask)) asks)
      refl
