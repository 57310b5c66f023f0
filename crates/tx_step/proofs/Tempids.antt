-- The tempids of a transaction are the entities that are assigned to them, and a cas of a form that has a shape names none.
use Rattle.std.proofs.Common.{◌≡◌, ℕ, ◌+◌, Bool, true, false, cond, not, ◌&&◌, List, [], ◌∷◌, ◌++◌, map, refl, ap, sym, ◌∙◌}
use Rattle.std.specs.Prelude.{◌||◌, Option, Some, None, is_some, unwrap_or}
use Rattle.std.specs.List.{list_all}
use Rattle.std.proofs.lemmas.Bool.{true≢false, and_parts, and_from}
use Rattle.std.proofs.lemmas.List.Folds.{list_all-append}
use Rattle.edn_model.specs.Form as edn
use Rattle.edn_model.specs.Form.{Form, Forms, no_forms, form, Pairs, no_pairs, pair, items}
use Rattle.fb_values.specs.declared.facts.Datom.{Datom}
use Rattle.fb_values.specs.declared.facts.Entry.{Entry}
use Rattle.fb_model.specs.Facts.{facts}
use Rattle.tx_model.specs.Asks.{Name, nameless, Operand, plain, entity, Ask, is_tempid, lookup_in, name_of_pair, Key, own, forward, backward}
use Rattle.tx_model.specs.Asks.{key_in}
use Rattle.tx_model.specs.Shapes.{Verb, add, retract, cas, retract_entity, verb_in, names_an_old_entity, has_arguments}
use Rattle.tx_model.specs.Shapes.{has_list_shape, has_shape}
use Rattle.tx_model.specs.Walk.{has_ref, has_many, has_parts, has_uniqueness, scalar, entity_in, list_asks, name_of_map, has_identity, links}
use Rattle.tx_model.specs.Walk.{need, nested_asks, scalar_asks, vector_asks, sequence_asks, pair_asks, map_asks, value_asks, members_asks}
use Rattle.tx_model.specs.Walk.{verb_asks, member_asks, form_asks, asks_from}
use Rattle.tx_model.specs.Transaction.{joined, transaction}
use Rattle.tx_model.specs.Step.{first_yes, first_without_shape}
use Rattle.tx_rules.specs.Tempids.{compares_no_tempid, HasAssignedTempids}

abbrev compare_none : List Ask → Bool
compare_none asks = list_all compares_no_tempid asks

both_none : (xs ys : List Ask) → compare_none xs ≡ true → compare_none ys ≡ true → compare_none (xs ++ ys) ≡ true
both_none xs ys first rest = list_all-append compares_no_tempid xs ys ∙ and_from _ _ first rest

either_none : (b : Bool) (xs ys : List Ask) → compare_none xs ≡ true → compare_none ys ≡ true → compare_none (cond b xs ys) ≡ true
either_none true xs ys first other = first
either_none false xs ys first other = other

-- ---- list forms

old_name : (e : Form) → names_an_old_entity e ≡ true → is_tempid (entity_in e) ≡ false
old_name (edn.integer z) is = refl
old_name (edn.keyword k) is = refl
old_name (edn.vector fs) is = go (lookup_in fs) (and_parts _ _ is).0
  where
    go : (found : Option (List ℕ × Form)) → is_some (name_of_pair found) ≡ true
        → is_tempid (unwrap_or (name_of_pair found) (nameless [])) ≡ false
    go None is = absurd (true≢false (sym is))
    go (Some ref) is = refl
old_name e is = absurd (true≢false (sym is))

module _ (facts : List Datom) where
  list_none : (verb : Option Verb) (arguments : List Form) → has_arguments verb arguments ≡ true
      → compare_none (list_asks facts verb arguments) ≡ true
  list_none (Some cas) (e ∷ a ∷ old ∷ new ∷ []) is = and_from _ _ (ap not (old_name e (and_parts _ _ is).0)) refl
  list_none (Some add) (e ∷ a ∷ v ∷ []) is = refl
  list_none (Some retract) (e ∷ a ∷ v ∷ []) is = refl
  list_none (Some retract) (e ∷ a ∷ []) is = refl
  list_none (Some retract_entity) (e ∷ []) is = refl
  list_none verb arguments is = absurd (true≢false (sym is))

  -- ---- maps

  links_none : (self : Name) (key : Key) (part : Operand) → compare_none (links self key part) ≡ true
  links_none self own part = refl
  links_none self (forward k) part = refl
  links_none self (backward k) (entity other) = refl
  links_none self (backward k) (plain f) = refl

  need_none : (lacks : Bool) → compare_none (need lacks) ≡ true
  need_none true = refl
  need_none false = refl

  nested_none : (self : Name) (key : Key) (name : Name) (ps : Pairs) (inner : List Ask) → compare_none inner ≡ true
      → compare_none (nested_asks facts self key name ps inner) ≡ true
  nested_none self own name ps inner none = refl
  nested_none self (forward k) name ps inner none =
      either_none (has_ref facts k) _ _ (both_none (need (not (has_parts facts k || has_identity facts ps))) inner (need_none _) none) refl
  nested_none self (backward k) name ps inner none = both_none (need (not (has_identity facts ps))) inner (need_none _) none

  scalar_none : (self : Name) (key : Key) (v : Form) → compare_none (scalar_asks facts self key v) ≡ true
  scalar_none self own v = refl
  scalar_none self (forward k) v = links_none self (forward k) (scalar (has_ref facts k) v)
  scalar_none self (backward k) (edn.integer z) = refl
  scalar_none self (backward k) v = links_none self (backward k) (scalar true v)

  vector_none : (self : Name) (key : Key) (fs : Forms) (found : Option (List ℕ × Form)) (members : List Ask)
      → compare_none members ≡ true → compare_none (vector_asks facts self key fs found members) ≡ true
  vector_none self own fs found members none = refl
  vector_none self (forward k) fs None members none = either_none (has_many facts k) members _ none refl
  vector_none self (forward k) fs (Some found) members none =
      either_none (has_ref facts k && has_uniqueness facts found.0) _ _ refl (either_none (has_many facts k) members _ none refl)
  vector_none self (backward k) fs None members none = none
  vector_none self (backward k) fs (Some found) members none =
      either_none (has_uniqueness facts found.0) _ members refl none

  sequence_none : (self : Name) (key : Key) (v : Form) (members : List Ask) → compare_none members ≡ true
      → compare_none (sequence_asks facts self key v members) ≡ true
  sequence_none self own v members none = refl
  sequence_none self (forward k) v members none = either_none (has_many facts k) members _ none refl
  sequence_none self (backward k) v members none = none

  pair_none : (self : Name) (key : Key) (values : List Ask) → compare_none values ≡ true → compare_none (pair_asks facts self key values) ≡ true
  pair_none self own values none = refl
  pair_none self (forward k) values none = none
  pair_none self (backward k) values none = either_none (has_ref facts k) values _ none refl

  mutual
    map_none : (self : Name) (path : List ℕ) (n : ℕ) (ps : Pairs) → compare_none (map_asks facts self path n ps) ≡ true
    map_none self path n no_pairs = refl
    map_none self path n (pair key value rest) =
        both_none (pair_asks facts self (key_in key) (value_asks facts self (key_in key) (n ∷ path) value))
        (map_asks facts self path (n + 1) rest)
        (pair_none self (key_in key) (value_asks facts self (key_in key) (n ∷ path) value) (value_none self (key_in key) (n ∷ path) value))
        (map_none self path (n + 1) rest)

    value_none : (self : Name) (key : Key) (path : List ℕ) (v : Form) → compare_none (value_asks facts self key path v) ≡ true
    value_none self key path (edn.map ps) =
        nested_none self key (name_of_map path ps) ps (map_asks facts (name_of_map path ps) path 0 ps)
        (map_none (name_of_map path ps) path 0 ps)
    value_none self key path (edn.set fs) = members_none self key path 0 fs
    value_none self key path (edn.vector fs) =
        vector_none self key fs (lookup_in fs) (members_asks facts self key path 0 fs) (members_none self key path 0 fs)
    value_none self key path (edn.list fs) =
        sequence_none self key (edn.list fs) (members_asks facts self key path 0 fs) (members_none self key path 0 fs)
    value_none self key path v = scalar_none self key v

    members_none : (self : Name) (key : Key) (path : List ℕ) (n : ℕ) (fs : Forms)
        → compare_none (members_asks facts self key path n fs) ≡ true
    members_none self key path n no_forms = refl
    members_none self key path n (form v fs) =
        both_none (member_asks facts self key (n ∷ path) v) (members_asks facts self key path (n + 1) fs)
        (member_none self key (n ∷ path) v) (members_none self key path (n + 1) fs)

    member_none : (self : Name) (key : Key) (path : List ℕ) (v : Form) → compare_none (member_asks facts self key path v) ≡ true
    member_none self key path (edn.map ps) =
        nested_none self key (name_of_map path ps) ps (map_asks facts (name_of_map path ps) path 0 ps)
        (map_none (name_of_map path ps) path 0 ps)
    member_none self key path (edn.vector fs) =
        vector_none self key fs (lookup_in fs) (links self key (plain (edn.vector fs))) (links_none self key (plain (edn.vector fs)))
    member_none self key path v = scalar_none self key v

  -- ---- forms

  verb_none : (fs : List Form) → has_list_shape fs ≡ true → compare_none (verb_asks facts fs) ≡ true
  verb_none [] is = absurd (true≢false (sym is))
  verb_none (verb ∷ arguments) is = list_none (verb_in verb) arguments is

  form_none : (place : ℕ) (v : Form) → has_shape v ≡ true → compare_none (form_asks facts place v) ≡ true
  form_none place (edn.vector fs) is = verb_none (items fs) is
  form_none place (edn.list fs) is = verb_none (items fs) is
  form_none place (edn.map ps) is = map_none (name_of_map (place ∷ []) ps) (place ∷ []) 0 ps
  form_none place v is = absurd (true≢false (sym is))

  forms_none : (place n : ℕ) (fs : List Form) → first_yes n (map (λ f. not (has_shape f)) fs) ≡ None
      → compare_none (joined (asks_from facts place fs)) ≡ true
  forms_none place n [] none = refl
  forms_none place n (v ∷ fs) none = go (has_shape v) refl none (forms_none (place + 1) (n + 1) fs)
    where
      go : (b : Bool) → has_shape v ≡ b → cond (not b) (Some n) (first_yes (n + 1) (map (λ f. not (has_shape f)) fs)) ≡ None
          → (first_yes (n + 1) (map (λ f. not (has_shape f)) fs) ≡ None → compare_none (joined (asks_from facts (place + 1) fs)) ≡ true)
          → compare_none (joined (asks_from facts place (v ∷ fs))) ≡ true
      go true is none rest =
          both_none (form_asks facts place v) (joined (asks_from facts (place + 1) fs)) (form_none place v is) (rest none)
      go false is none rest = absurd (cc)

pub assigned : (h : List Entry) (fs : List Form) → first_without_shape fs ≡ None → HasAssignedTempids (transaction h fs)
assigned h fs none = record { assigned_ones = refl; compared_ones = forms_none (facts h) 0 0 fs none }
