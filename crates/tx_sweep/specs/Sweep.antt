-- What retractions have found so far, and what one more finds.
-- Datomic, Transaction Data (:db/retract without a value, :db/retractEntity).
use Rattle.std.specs.Prelude.{◌≡◌, ℕ, Bool, false, not, ◌&&◌, ◌||◌, List, ◌++◌, map, filter_map}
use Rattle.std.specs.Prelude.{nat_eq, nat_le, if◌then◌else◌, IsTrue, Contains, Option, None, Vec}
use Rattle.std.specs.List.{All, list_any, list_all}
use Rattle.std.specs.Ordering.{nat_cmp, ordering_then}
use Rattle.std.specs.declared.cmp.Ordering.{Ordering}
use Rattle.std.specs.declared.alloc.Global.{Global}
use Rattle.std.specs.BTreeSet.{contains}
use Rattle.fb_values.specs.declared.facts.Datom.{Datom}
use Rattle.fb_values.specs.declared.facts.Entry.{Entry}
use Rattle.fb_values.specs.declared.facts.Value.{Value}
use Rattle.fb_values.specs.declared.facts.Value.TheVariants.{Ref}
use Rattle.fb_model.specs.Facts.{is_of, Holds}
use Rattle.fb_model.specs.Schema.{entity_in, is_part}
use Rattle.fb_facts.specs.FactLists.{facts_of, refs_to}
use Rattle.tx_model.specs.Changes.{component_links}
use Rattle.tx_asks.specs.declared.acts.Act as program
use Rattle.tx_asks.specs.declared.triples.Asking.{Asking}
use Rattle.tx_asks.specs.Acts.{Act, acts_in}
use Rattle.tx_asks.specs.Triples.{is_asking_of}
use Rattle.tx_sweep.specs.declared.found.Sweep.{Sweep}

abbrev pub acts_of : List (Vec program.Act Global) → List (List Act)
acts_of forms = acts_in (map (λ form. form.items) forms)

-- ---- askings

abbrev pub value_at : ℕ → ℕ → ℕ → Value → Asking
value_at place e a v = record { e = e; a = a; v = v; place = place }

-- the fact, asked by the form at the place
abbrev pub asking_at : ℕ → Datom → Asking
asking_at place d = value_at place d.e d.a d.v

-- its triple holds
abbrev pub IsHeld : List Entry → Asking → Type 0
IsHeld h asking = Holds h asking.e asking.a asking.v

-- all facts of an entity, and all references to it
abbrev pub said_of : List Entry → ℕ → ℕ → List Asking
said_of h place e = map (asking_at place) (facts_of h e) ++ map (asking_at place) (refs_to h e)

-- the triple is asked by the form at the place, or by an earlier one
abbrev pub is_asked_upto : ℕ → List Asking → Datom → Bool
is_asked_upto place askings d =
    list_any (λ asking. is_asking_of d asking && nat_le asking.place place) askings

-- ---- parts

abbrev pub part_to : List Datom → Datom → Option ℕ
part_to schema d = if is_part schema d.a then entity_in d.v else None

-- no link leads from what passes to what does not
abbrev pub keeps : (ℕ → Bool) → List (ℕ × ℕ) → Bool
keeps has links = list_all (λ (link : ℕ × ℕ). not (has link.0) || has link.1) links

-- ---- what was found

abbrev pub has_visited : Sweep → ℕ → Bool
has_visited found e = contains nat_cmp found.visited e

abbrev pub pair_cmp : ℕ × ℕ → ℕ × ℕ → Ordering
pair_cmp x y = ordering_then (nat_cmp x.0 y.0) (nat_cmp x.1 y.1)

abbrev pub has_pair : Sweep → ℕ → ℕ → Bool
has_pair found e a = contains pair_cmp found.pairs (e, a)

abbrev pub is_ref_to_one : (ℕ → Bool) → Value → Bool
is_ref_to_one has (Ref e) = has e
is_ref_to_one has v = false

-- the fact is about such an entity, or its value is one
abbrev pub is_about_one : (ℕ → Bool) → Datom → Bool
is_about_one has d = has d.e || is_ref_to_one has d.v

-- the visited entities are visited with their parts,
-- and all that they and the pairs retract was found, up to the form at the place
pub record AreSwept (facts : List Datom) (place : ℕ) (found : Sweep) : Type 0 where
  pub closed : IsTrue (keeps (has_visited found) (component_links facts))
  pub about : (d : Datom) → Contains facts d → IsTrue (is_about_one (has_visited found) d)
      → IsTrue (is_asked_upto place found.askings.items d)
  pub paired : (d : Datom) → Contains facts d → IsTrue (has_pair found d.e d.a)
      → IsTrue (is_asked_upto place found.askings.items d)

abbrev pub IsAskedOf : ℕ → List Datom → Asking → Type 0
IsAskedOf place asked asking =
    (asking.place ≡ place) × IsTrue (list_any (is_of asking.e asking.a asking.v) asked)

-- from what was found to what is found then, where the form at the place asks these triples
pub record Sweeps (facts : List Datom) (place : ℕ) (asked : List Datom) (before after : Sweep)
    : Type 0 where
  pub more : List Asking
  pub grown : after.askings.items ≡ before.askings.items ++ more
  pub asks : All (IsAskedOf place asked) more
  pub told : (d : Datom) → Contains asked d → IsTrue (is_asked_upto place after.askings.items d)
  pub kept : AreSwept facts place after

-- a visit of one entity
pub record Visits (h : List Entry) (schema : List Datom) (place e : ℕ) (stack rest : List ℕ)
    (before after : Sweep) : Type 0 where
  pub visited : (x : ℕ) → has_visited after x ≡ (nat_eq e x || has_visited before x)
  pub pairs : (x a : ℕ) → has_pair after x a ≡ has_pair before x a
  pub askings : after.askings.items
      ≡ (if has_visited before e then before.askings.items
      else before.askings.items ++ said_of h place e)
  pub parts : rest
      ≡ (if has_visited before e then stack
      else stack ++ filter_map (part_to schema) (facts_of h e))
