-- What checks bar: a value that fails the test of its attribute, and an entity that lacks an
-- attribute which it is required to have.
-- Datomic, Schema (attribute predicates) and Transaction Data (required attributes of entity specs);
-- that a guard says them, of names, is this project's own choice.
use Rattle.std.specs.Prelude.{ℕ, Bool, false, not, ◌&&◌, List, map, length, nat_eq, Option, Some, None}
use Rattle.std.specs.Prelude.{if◌then◌else◌, option_map}
use Rattle.std.specs.List.{list_any}
use Rattle.std.specs.Option.{option_map_or}
use Rattle.fb_values.specs.declared.facts.Datom.{Datom}
use Rattle.fb_values.specs.declared.facts.Value.{Value}
use Rattle.fb_values.specs.declared.facts.Value.TheVariants.{Str}
use Rattle.fb_model.specs.Facts.{facts}
use Rattle.fb_model.specs.Schema.{Attribute, attribute_named, is_about}
use Rattle.tx_refusals.specs.declared.reasons.Bar.TheVariants.{AttrPred, MissingRequired}
use Rattle.tx_model.specs.Step.{Guard}
use Rattle.tx_after.specs.After.{after}
use Rattle.fb_checks.specs.declared.tests.Test.{Test}
use Rattle.fb_checks.specs.declared.tests.Test.TheVariants.{NotEmpty, Stored, Closure}
use Rattle.fb_checks.specs.declared.tests.AttrTest.{AttrTest}
use Rattle.fb_checks.specs.declared.tests.Need.{Need as TheNeed}

-- the name of an attribute, and the test that each added value of it has to pass
abbrev pub Pred : Type 0
Pred = List ℕ × (Datom → Bool)

-- who has a value of the first name's attribute has one of the second's
abbrev pub Need : Type 0
Need = List ℕ × List ℕ

-- the attribute of the name, if there is one
abbrev pub id_of : List Datom → List ℕ → Option ℕ
id_of facts name = option_map (λ (attribute : Attribute). attribute.id) (attribute_named facts name)

-- ---- values

-- the datom adds a value that fails the test of its attribute
abbrev pub fails : List Datom → Datom → Pred → Bool
fails facts d pred =
    d.added && option_map_or (nat_eq d.a) (id_of facts pred.0) false && not (pred.1 d)

-- ---- entities

-- the entity has a value of the attribute: of none nobody has one
abbrev pub has : List Datom → ℕ → Option ℕ → Bool
has held e id = option_map_or (λ a. list_any (is_about e a) held) id false

abbrev pub lacks : List Datom → List Datom → ℕ → Need → Bool
lacks facts held e need = has held e (id_of facts need.0) && not (has held e (id_of facts need.1))

-- ---- the guard

-- names are those of the schema before the changes, and entities have what holds after them
abbrev pub bars_of : List Pred → List Need → Guard
bars_of preds needs h changes =
    if list_any (λ d. list_any (fails (facts h) d) preds) changes then Some AttrPred
    else (if list_any (λ d. list_any (lacks (facts h) (after h changes) d.e) needs) changes
    then Some MissingRequired
    else None)

-- ---- what a program stores

-- a string without a character
abbrev pub is_empty_text : Value → Bool
is_empty_text (Str text) = nat_eq (length text) 0
is_empty_text v = false

-- what passes a test, where it is given of what callers have stored and of closures
abbrev pub passes_test : {S K : Type 0} → (S → Datom → Bool) → (K → Datom → Bool) → Test S K → Datom → Bool
passes_test stored kept NotEmpty d = not (is_empty_text d.v)
passes_test stored kept (Stored s) d = stored s d
passes_test stored kept (Closure k) d = kept k d

abbrev pub pred_of : {T : Type 0} → (T → Datom → Bool) → AttrTest T → Pred
pred_of passes pred = (pred.attr, passes pred.test)

abbrev pub preds_of : {T : Type 0} → (T → Datom → Bool) → List (AttrTest T) → List Pred
preds_of passes preds = map (pred_of passes) preds

abbrev pub need_of : TheNeed → Need
need_of need = (need.marker, need.needed)

abbrev pub needs_of : List TheNeed → List Need
needs_of needs = map need_of needs
