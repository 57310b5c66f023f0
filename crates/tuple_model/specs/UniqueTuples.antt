-- Unique tuples: which changes a guard on composites bars.
-- Datomic, Schema (Composite tuples, :db/unique). That whole tuples alone are compared is this
-- project's own choice.
use Rattle.std.specs.Prelude.{◌≡◌, ◌≢◌, ℕ, Bool, false, not, ◌&&◌, List, ◌++◌, is_some, nat_eq}
use Rattle.std.specs.Prelude.{if◌then◌else◌, Option, Some, None, IsTrue, Contains}
use Rattle.std.specs.List.{list_all, list_any}
use Rattle.std.specs.Option.{option_map_or}
use Rattle.std.specs.Ordering.{is_eq}
use Rattle.fb_values.specs.declared.facts.Datom.{Datom}
use Rattle.fb_values.specs.declared.facts.Entry.{Entry}
use Rattle.fb_model.specs.History.{said}
use Rattle.fb_model.specs.Facts.{facts, standing}
use Rattle.tx_refusals.specs.declared.reasons.Bar.{Bar}
use Rattle.tx_refusals.specs.declared.reasons.Bar.TheVariants.{UniqueTuple}
use Rattle.tx_model.specs.Step.{Guard}
use Rattle.tuple_model.specs.Composite.{is_composite, attributes_named}
use Rattle.tuple_model.specs.Tuples.{Tuple, tuple_cmp, tuple_of}

-- no member is nil
abbrev pub is_whole : Tuple → Bool
is_whole tuple = list_all is_some tuple

-- Two entities have one whole tuple of these attributes after the changes, and one of them is the
-- entity of a change.
pub record AreShared (h : List Entry) (changes : List Datom) (attrs : List ℕ) : Type 0 where
  pub changed : Datom
  pub is_change : Contains changes changed
  pub other : ℕ
  pub apart : changed.e ≢ other
  pub whole : IsTrue (is_whole (tuple_of (standing (said h ++ changes)) attrs changed.e))
  pub same : tuple_of (standing (said h ++ changes)) attrs changed.e
      ≡ tuple_of (standing (said h ++ changes)) attrs other

-- The changes are barred: some list of keywords names a composite of the schema before them, and
-- its tuples are shared. A list that names none bars nothing.
pub record IsBarred (lists : List (List (List ℕ))) (h : List Entry) (changes : List Datom)
    : Type 0 where
  pub names : List (List ℕ)
  pub listed : Contains lists names
  pub attrs : List ℕ
  pub named : attributes_named (facts h) names ≡ Some attrs
  pub composite : IsTrue (is_composite (facts h) attrs)
  pub shared : AreShared h changes attrs

-- ---- the same as a guard

-- two entities have one whole tuple
abbrev pub is_shared_by : List Datom → List ℕ → ℕ → ℕ → Bool
is_shared_by facts attrs e other =
    not (nat_eq e other) && (is_whole (tuple_of facts attrs e)
    && is_eq (tuple_cmp (tuple_of facts attrs e) (tuple_of facts attrs other)))

-- the entity of a change shares its tuple with an entity of the facts
abbrev pub are_shared : List Datom → List Datom → List ℕ → Bool
are_shared facts changes attrs =
    list_any (λ change. list_any (λ fact. is_shared_by facts attrs change.e fact.e) facts) changes

abbrev pub bars_list : List Entry → List Datom → List (List ℕ) → Bool
bars_list h changes names =
    option_map_or
    (λ attrs. is_composite (facts h) attrs && are_shared (standing (said h ++ changes)) changes attrs)
    (attributes_named (facts h) names) false

abbrev pub bars_unique : List (List (List ℕ)) → Guard
bars_unique lists h changes = if list_any (bars_list h changes) lists then Some UniqueTuple else None

-- ---- two guards as one

-- the first one's answer, where it has one
abbrev pub or_else : Option Bar → Option Bar → Option Bar
or_else None second = second
or_else (Some bar) second = Some bar

abbrev pub both : Guard → Guard → Guard
both first second h changes = or_else (first h changes) (second h changes)
