-- Maps without `:db/id` by their numbers and by their places: a list of places gives each number its place, and nothing that a
-- rule looks at tells the two apart.
use Rattle.std.proofs.Common.{◌≡◌, ℕ, pos, negsuc, Bool, true, false, List, [], ◌∷◌, ◌++◌, ◌||◌, ◌&&◌, map, cond, refl, ap, ◌∙◌}
use Rattle.std.specs.Prelude.{unwrap_or, not, nat_eq, Option, Some, None}
use Rattle.std.specs.Option.{option_map_or}
use Rattle.std.specs.List.{list_any}
use Rattle.edn_model.specs.Form as edn
use Rattle.edn_model.specs.Form.{Form, Forms, Pairs}
use Rattle.fb_values.specs.declared.facts.Datom.{Datom}
use Rattle.fb_model.specs.Schema.{Attribute, attribute_named}
use Rattle.tx_model.specs.Shapes.{Verb, add, retract, cas, retract_entity}
use Rattle.tx_model.specs.Asks.{Name, number, ident, lookup, tempid, nameless, lookup_in, name_of_pair, attribute_of_ask, Operand, plain}
use Rattle.tx_model.specs.Asks.{entity, Ask, adds, retracts, retracts_all, compares, retracts_entity, meets, mentions, lacks_id, Key, own}
use Rattle.tx_model.specs.Asks.{forward, backward, names_of}
use Rattle.tx_model.specs.Walk.{has_ref, has_many, has_uniqueness, scalar, lookup_or, value_part, old_value_part, keyword_in, entity_in}
use Rattle.tx_model.specs.Walk.{list_asks, links, need, nested_asks, scalar_asks, vector_asks, sequence_asks, pair_asks}
use Rattle.tx_model.specs.NameRules.{lookups_in, is_unknown, names_no_attribute, is_protected, is_ident, is_reserved_part}
use Rattle.tx_model.specs.NameRules.{adds_reserved_ident, is_wrong_part, is_wrong_old_part, has_wrong_part, attribute_in, is_wrong_lookup}
use Rattle.tx_model.specs.NameRules.{has_wrong_lookup, has_other_lookup, is_lacking}
use Rattle.tx_asks.specs.Asks.{matters}
use Rattle.tx_expand.specs.Faults.{form_faults, is_of_unknown, is_of_protected, has_wrong_value, is_kept}
use Rattle.tx_expand.specs.Placed.{placed, part_placed, ask_placed}
use Rattle.tx_expand.proofs.Together.{all_five}

-- ---- the walk's steps

module _ (places : List (List ℕ)) where
  map_cond : (b : Bool) (xs ys : List Ask)
      → map (ask_placed places) (cond b xs ys) ≡ cond b (map (ask_placed places) xs) (map (ask_placed places) ys)
  map_cond true xs ys = refl
  map_cond false xs ys = refl

  pub map_append : (xs ys : List Ask) → map (ask_placed places) (xs ++ ys) ≡ map (ask_placed places) xs ++ map (ask_placed places) ys
  map_append [] ys = refl
  map_append (x ∷ xs) ys = ap (λ rest. ask_placed places x ∷ rest) (map_append xs ys)

  pub links_placed : (self : Name) (key : Key) (part : Operand)
      → map (ask_placed places) (links self key part) ≡ links (placed places self) key (part_placed places part)
  links_placed self own part = refl
  links_placed self (forward k) part = refl
  links_placed self (backward k) (entity other) = refl
  links_placed self (backward k) (plain f) = refl

  scalar_placed : (is_ref : Bool) (f : Form) → part_placed places (scalar is_ref f) ≡ scalar is_ref f
  scalar_placed true (edn.integer (pos n)) = refl
  scalar_placed true (edn.integer (negsuc n)) = refl
  scalar_placed true (edn.keyword k) = refl
  scalar_placed true (edn.string s) = refl
  scalar_placed true f = refl
  scalar_placed false f = refl

  one_scalar : (self : Name) (key : Key) (is_ref : Bool) (f : Form)
      → map (ask_placed places) (links self key (scalar is_ref f)) ≡ links (placed places self) key (scalar is_ref f)
  one_scalar self key is_ref f = links_placed self key (scalar is_ref f) ∙ ap (links (placed places self) key) (scalar_placed is_ref f)

  pub scalar_asks_placed : (facts : List Datom) (self : Name) (key : Key) (f : Form)
      → map (ask_placed places) (scalar_asks facts self key f) ≡ scalar_asks facts (placed places self) key f
  scalar_asks_placed facts self own f = refl
  scalar_asks_placed facts self (forward k) f = one_scalar self (forward k) (has_ref facts k) f
  scalar_asks_placed facts self (backward k) (edn.integer z) = refl
  scalar_asks_placed facts self (backward k) f = one_scalar self (backward k) true f

  need_placed : (lacks : Bool) → map (ask_placed places) (need lacks) ≡ need lacks
  need_placed true = refl
  need_placed false = refl

  need_then : (lacks : Bool) (inner : List Ask)
      → map (ask_placed places) (need lacks ++ inner) ≡ need lacks ++ map (ask_placed places) inner
  need_then lacks inner = map_append (need lacks) inner ∙ ap (λ asks. asks ++ map (ask_placed places) inner) (need_placed lacks)

  pub nested_asks_placed : (facts : List Datom) (self : Name) (key : Key) (name : Name) (ps : Pairs) (inner : List Ask)
      → map (ask_placed places) (nested_asks facts self key name ps inner)
      ≡ nested_asks facts (placed places self) key (placed places name) ps (map (ask_placed places) inner)
  nested_asks_placed facts self own name ps inner = refl
  nested_asks_placed facts self (forward k) name ps inner =
      map_cond (has_ref facts k) _ _
      ∙ ap (λ asks. cond (has_ref facts k) (adds (placed places self) k (entity (placed places name)) ∷ asks)
      (adds (placed places self) k (plain (edn.map ps)) ∷ []))
      (need_then _ inner)
  nested_asks_placed facts self (backward k) name ps inner =
      ap (λ asks. adds (placed places name) k (entity (placed places self)) ∷ asks) (need_then _ inner)

  pub vector_asks_placed : (facts : List Datom) (self : Name) (key : Key) (fs : Forms) (found : Option (List ℕ × Form)) (members : List Ask)
      → map (ask_placed places) (vector_asks facts self key fs found members)
      ≡ vector_asks facts (placed places self) key fs found (map (ask_placed places) members)
  vector_asks_placed facts self own fs found members = refl
  vector_asks_placed facts self (forward k) fs None members = map_cond (has_many facts k) _ _
  vector_asks_placed facts self (forward k) fs (Some found) members =
      map_cond (has_ref facts k && has_uniqueness facts found.0) _ _
      ∙ ap (λ asks.
      cond (has_ref facts k && has_uniqueness facts found.0) (adds (placed places self) k (entity (lookup found.0 found.1)) ∷ []) asks)
      (map_cond (has_many facts k) _ _
      ∙ ap (λ part. cond (has_many facts k) (map (ask_placed places) members) (adds (placed places self) k part ∷ []))
      (of_part (has_ref facts k)))
    where
      of_part : (b : Bool)
          → part_placed places (cond b (entity (lookup found.0 found.1)) (plain (edn.vector fs)))
          ≡ cond b (entity (lookup found.0 found.1)) (plain (edn.vector fs))
      of_part true = refl
      of_part false = refl
  vector_asks_placed facts self (backward k) fs None members = refl
  vector_asks_placed facts self (backward k) fs (Some found) members = map_cond (has_uniqueness facts found.0) _ _

  pub sequence_asks_placed : (facts : List Datom) (self : Name) (key : Key) (f : Form) (members : List Ask)
      → map (ask_placed places) (sequence_asks facts self key f members)
      ≡ sequence_asks facts (placed places self) key f (map (ask_placed places) members)
  sequence_asks_placed facts self own f members = refl
  sequence_asks_placed facts self (forward k) f members = map_cond (has_many facts k) _ _
  sequence_asks_placed facts self (backward k) f members = refl

  pub pair_asks_placed : (facts : List Datom) (self : Name) (key : Key) (values : List Ask)
      → map (ask_placed places) (pair_asks facts self key values)
      ≡ pair_asks facts (placed places self) key (map (ask_placed places) values)
  pair_asks_placed facts self own values = refl
  pair_asks_placed facts self (forward k) values = refl
  pair_asks_placed facts self (backward k) values = ap (λ asks. mentions k ∷ asks) (map_cond (has_ref facts k) _ _)

  -- ---- list forms

  lookup_stays : (found : Option (List ℕ × Form)) (f : Form) → part_placed places (lookup_or found (plain f)) ≡ lookup_or found (plain f)
  lookup_stays None f = refl
  lookup_stays (Some p) f = refl

  value_stays : (is_ref : Bool) (f : Form) → part_placed places (value_part is_ref f) ≡ value_part is_ref f
  value_stays true (edn.vector fs) = lookup_stays (lookup_in fs) (edn.vector fs)
  value_stays true f = scalar_placed true f
  value_stays false f = scalar_placed false f

  old_value_stays : (is_ref : Bool) (f : Form) → part_placed places (old_value_part is_ref f) ≡ old_value_part is_ref f
  old_value_stays is_ref (edn.string s) = refl
  old_value_stays is_ref f = value_stays is_ref f

  found_stays : (found : Option (List ℕ × Form))
      → placed places (unwrap_or (name_of_pair found) (nameless [])) ≡ unwrap_or (name_of_pair found) (nameless [])
  found_stays None = refl
  found_stays (Some p) = refl

  entity_stays : (f : Form) → placed places (entity_in f) ≡ entity_in f
  entity_stays (edn.integer z) = refl
  entity_stays (edn.keyword k) = refl
  entity_stays (edn.string s) = refl
  entity_stays (edn.vector fs) = found_stays (lookup_in fs)
  entity_stays f = refl

  pub list_stays : (facts : List Datom) (verb : Option Verb) (fs : List Form)
      → map (ask_placed places) (list_asks facts verb fs) ≡ list_asks facts verb fs
  list_stays facts (Some add) (e ∷ a ∷ v ∷ []) =
      ap (λ name. adds name (keyword_in a) (part_placed places (value_part (has_ref facts (keyword_in a)) v)) ∷ []) (entity_stays e)
      ∙ ap (λ part. adds (entity_in e) (keyword_in a) part ∷ []) (value_stays (has_ref facts (keyword_in a)) v)
  list_stays facts (Some retract) (e ∷ a ∷ v ∷ []) =
      ap (λ name. retracts name (keyword_in a) (part_placed places (old_value_part (has_ref facts (keyword_in a)) v)) ∷ []) (entity_stays e)
      ∙ ap (λ part. retracts (entity_in e) (keyword_in a) part ∷ []) (old_value_stays (has_ref facts (keyword_in a)) v)
  list_stays facts (Some retract) (e ∷ a ∷ []) = ap (λ name. retracts_all name (keyword_in a) ∷ []) (entity_stays e)
  list_stays facts (Some cas) (e ∷ a ∷ old ∷ new ∷ []) =
      ap (λ name. compares name (keyword_in a) (part_placed places (old_value_part (has_ref facts (keyword_in a)) old))
      (part_placed places (old_value_part (has_ref facts (keyword_in a)) new)) ∷ []) (entity_stays e)
      ∙ ap
      (λ part. compares (entity_in e) (keyword_in a) part (part_placed places (old_value_part (has_ref facts (keyword_in a)) new)) ∷ [])
      (old_value_stays (has_ref facts (keyword_in a)) old)
      ∙ ap (λ part. compares (entity_in e) (keyword_in a) (old_value_part (has_ref facts (keyword_in a)) old) part ∷ [])
      (old_value_stays (has_ref facts (keyword_in a)) new)
  list_stays facts (Some retract_entity) (e ∷ []) = ap (λ name. retracts_entity name ∷ []) (entity_stays e)
  list_stays facts verb fs = refl

  -- ---- what the rules look at

  names_placed : (ask : Ask) → names_of (ask_placed places ask) ≡ map (placed places) (names_of ask)
  names_placed (adds name k (plain f)) = refl
  names_placed (adds name k (entity other)) = refl
  names_placed (retracts name k (plain f)) = refl
  names_placed (retracts name k (entity other)) = refl
  names_placed (retracts_all name k) = refl
  names_placed (compares name k (plain f) (plain g)) = refl
  names_placed (compares name k (plain f) (entity y)) = refl
  names_placed (compares name k (entity x) (plain g)) = refl
  names_placed (compares name k (entity x) (entity y)) = refl
  names_placed (retracts_entity name) = refl
  names_placed (meets name) = refl
  names_placed (mentions k) = refl
  names_placed lacks_id = refl

  lookups_placed : (facts : List Datom) (name : Name) → lookups_in facts (placed places name) ≡ lookups_in facts name
  lookups_placed facts (number z) = refl
  lookups_placed facts (ident k) = refl
  lookups_placed facts (lookup k f) = refl
  lookups_placed facts (tempid s) = refl
  lookups_placed facts (nameless path) = refl

  -- a test of the lookup refs in names
  any_placed : (facts : List Datom) (test : List ℕ × Form → Bool) (names : List Name)
      → list_any (λ name. list_any test (lookups_in facts name)) (map (placed places) names)
      ≡ list_any (λ name. list_any test (lookups_in facts name)) names
  any_placed facts test [] = refl
  any_placed facts test (name ∷ names) =
      ap (λ refs. list_any test refs || list_any (λ other. list_any test (lookups_in facts other)) (map (placed places) names))
      (lookups_placed facts name)
      ∙ ap (λ b. list_any test (lookups_in facts name) || b) (any_placed facts test names)

  names_tested : (facts : List Datom) (test : List ℕ × Form → Bool) (ask : Ask)
      → list_any (λ name. list_any test (lookups_in facts name)) (names_of (ask_placed places ask))
      ≡ list_any (λ name. list_any test (lookups_in facts name)) (names_of ask)
  names_tested facts test ask =
      ap (list_any (λ name. list_any test (lookups_in facts name))) (names_placed ask) ∙ any_placed facts test (names_of ask)

  attribute_placed : (ask : Ask) → attribute_of_ask (ask_placed places ask) ≡ attribute_of_ask ask
  attribute_placed (adds name k part) = refl
  attribute_placed (retracts name k part) = refl
  attribute_placed (retracts_all name k) = refl
  attribute_placed (compares name k old new) = refl
  attribute_placed (retracts_entity name) = refl
  attribute_placed (meets name) = refl
  attribute_placed (mentions k) = refl
  attribute_placed lacks_id = refl

  wrong_placed : (attribute : Attribute) (part : Operand) → is_wrong_part attribute (part_placed places part) ≡ is_wrong_part attribute part
  wrong_placed attribute (plain f) = refl
  wrong_placed attribute (entity name) = refl

  wrong_old_placed : (attribute : Attribute) (part : Operand)
      → is_wrong_old_part attribute (part_placed places part) ≡ is_wrong_old_part attribute part
  wrong_old_placed attribute (plain f) = refl
  wrong_old_placed attribute (entity name) = refl

  has_wrong_placed : (ask : Ask) (attribute : Attribute) → has_wrong_part (ask_placed places ask) attribute ≡ has_wrong_part ask attribute
  has_wrong_placed (adds name k part) attribute = ap (λ b. b || false) (wrong_placed attribute part)
  has_wrong_placed (retracts name k part) attribute = ap (λ b. b || false) (wrong_placed attribute part)
  has_wrong_placed (retracts_all name k) attribute = refl
  has_wrong_placed (compares name k old new) attribute =
      ap (λ b. b || is_wrong_part attribute (part_placed places new)) (wrong_old_placed attribute old)
      ∙ ap (λ b. is_wrong_old_part attribute old || b) (wrong_placed attribute new)
  has_wrong_placed (retracts_entity name) attribute = refl
  has_wrong_placed (meets name) attribute = refl
  has_wrong_placed (mentions k) attribute = refl
  has_wrong_placed lacks_id attribute = refl

  by_attribute : (ask : Ask) (found : Option Attribute)
      → option_map_or (has_wrong_part (ask_placed places ask)) found false ≡ option_map_or (has_wrong_part ask) found false
  by_attribute ask None = refl
  by_attribute ask (Some attribute) = has_wrong_placed ask attribute

  pub unknown_placed : (facts : List Datom) (ask : Ask) → is_of_unknown facts (ask_placed places ask) ≡ is_of_unknown facts ask
  unknown_placed facts ask = ap (λ k. option_map_or (is_unknown facts) k false) (attribute_placed ask)

  pub wrong_value_placed : (facts : List Datom) (ask : Ask) → has_wrong_value facts (ask_placed places ask) ≡ has_wrong_value facts ask
  wrong_value_placed facts ask =
      ap (λ k. option_map_or (has_wrong_part (ask_placed places ask)) (option_map_or (attribute_named facts) k None) false)
      (attribute_placed ask)
      ∙ by_attribute ask (attribute_in facts ask)

  reserved_part_placed : (part : Operand) → is_reserved_part (part_placed places part) ≡ is_reserved_part part
  reserved_part_placed (plain f) = refl
  reserved_part_placed (entity name) = refl

  reserved_placed : (facts : List Datom) (ask : Ask) → adds_reserved_ident facts (ask_placed places ask) ≡ adds_reserved_ident facts ask
  reserved_placed facts (adds name k part) = ap (λ b. is_ident facts k && b) (reserved_part_placed part)
  reserved_placed facts (retracts name k part) = refl
  reserved_placed facts (retracts_all name k) = refl
  reserved_placed facts (compares name k old new) = ap (λ b. is_ident facts k && b) (reserved_part_placed new)
  reserved_placed facts (retracts_entity name) = refl
  reserved_placed facts (meets name) = refl
  reserved_placed facts (mentions k) = refl
  reserved_placed facts lacks_id = refl

  protected_placed : (facts : List Datom) (ask : Ask) → is_of_protected facts (ask_placed places ask) ≡ is_of_protected facts ask
  protected_placed facts ask =
      ap (λ k. option_map_or (is_protected facts) k false || adds_reserved_ident facts (ask_placed places ask)) (attribute_placed ask)
      ∙ ap (λ b. option_map_or (is_protected facts) (attribute_of_ask ask) false || b) (reserved_placed facts ask)

  lacking_placed : (ask : Ask) → is_lacking (ask_placed places ask) ≡ is_lacking ask
  lacking_placed (adds name k part) = refl
  lacking_placed (retracts name k part) = refl
  lacking_placed (retracts_all name k) = refl
  lacking_placed (compares name k old new) = refl
  lacking_placed (retracts_entity name) = refl
  lacking_placed (meets name) = refl
  lacking_placed (mentions k) = refl
  lacking_placed lacks_id = refl

  pub matters_placed : (ask : Ask) → matters (ask_placed places ask) ≡ matters ask
  matters_placed (adds name k part) = refl
  matters_placed (retracts name k part) = refl
  matters_placed (retracts_all name k) = refl
  matters_placed (compares name k old new) = refl
  matters_placed (retracts_entity name) = refl
  matters_placed (meets name) = refl
  matters_placed (mentions k) = refl
  matters_placed lacks_id = refl

  pub kept_placed : (facts : List Datom) (ask : Ask) → is_kept facts (ask_placed places ask) ≡ is_kept facts ask
  kept_placed facts ask =
      ap (λ b. b && not (is_of_unknown facts (ask_placed places ask) || has_wrong_value facts (ask_placed places ask))) (matters_placed ask)
      ∙ ap (λ b. matters ask && not (b || has_wrong_value facts (ask_placed places ask))) (unknown_placed facts ask)
      ∙ ap (λ b. matters ask && not (is_of_unknown facts ask || b)) (wrong_value_placed facts ask)

  any_mapped : (f : Ask → Ask) (test : Ask → Bool)
      → ((ask : Ask) → test (f ask) ≡ test ask) → (asks : List Ask) → list_any test (map f asks) ≡ list_any test asks
  any_mapped f test same [] = refl
  any_mapped f test same (ask ∷ asks) =
      ap (λ b. b || list_any test (map f asks)) (same ask) ∙ ap (λ b. test ask || b) (any_mapped f test same asks)

  or_same : (a b c d : Bool) → a ≡ b → c ≡ d → (a || c) ≡ (b || d)
  or_same a b c d same other = ap (λ x. x || c) same ∙ ap (λ x. b || x) other

  -- nothing that is wrong tells numbers and places apart
  pub faults_placed : (facts : List Datom) (asks : List Ask) → form_faults facts (map (ask_placed places) asks) ≡ form_faults facts asks
  faults_placed facts asks =
      let found = form_faults facts asks in
      all_five found.unknown found.protected found.wrong found.not_unique found.lacking
      (any_mapped (ask_placed places) (names_no_attribute facts)
      (λ ask. or_same (is_of_unknown facts (ask_placed places ask)) (is_of_unknown facts ask) _ _ (unknown_placed facts ask)
      (names_tested facts (λ (ref : List ℕ × Form). is_unknown facts ref.0) ask)) asks)
      (any_mapped (ask_placed places) (is_of_protected facts) (protected_placed facts) asks)
      (any_mapped (ask_placed places) (λ ask. has_wrong_value facts ask || list_any (has_wrong_lookup facts) (names_of ask))
      (λ ask. or_same (has_wrong_value facts (ask_placed places ask)) (has_wrong_value facts ask) _ _ (wrong_value_placed facts ask)
      (names_tested facts (λ (ref : List ℕ × Form). option_map_or (is_wrong_lookup ref.1) (attribute_named facts ref.0) false) ask)) asks)
      (any_mapped (ask_placed places) (λ ask. list_any (has_other_lookup facts) (names_of ask))
      (λ ask. names_tested facts
      (λ (ref : List ℕ × Form). option_map_or (λ attribute. nat_eq attribute.uniqueness 0) (attribute_named facts ref.0) false) ask) asks)
      (any_mapped (ask_placed places) is_lacking lacking_placed asks)
