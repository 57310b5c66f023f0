-- What acts ask as triples, and what their additions replace, as askings.
-- Datomic, Transaction Data (:db/add, :db/retract, :db/cas, cardinality one).
use Rattle.std.specs.Prelude.{◌≡◌, ℕ, ◌+◌, Bool, List, [], ◌∷◌, ◌++◌, flat_map, if◌then◌else◌, Vec}
use Rattle.std.specs.Option.{option_map_or}
use Rattle.std.specs.declared.alloc.Global.{Global}
use Rattle.std.specs.BTreeMap.{BTreeMap, get}
use Rattle.fb_values.specs.declared.facts.Datom.{Datom}
use Rattle.fb_values.specs.declared.facts.Entry.{Entry}
use Rattle.fb_values.specs.declared.facts.Value.{Value}
use Rattle.fb_model.specs.Facts.{value_eq, holds}
use Rattle.fb_model.specs.Schema.{is_one}
use Rattle.fb_facts.specs.FactLists.{values_of}
use Rattle.tx_asks.specs.declared.triples.Asking.{Asking}
use Rattle.tx_asks.specs.Acts.{Act, adds, retracts, compares}
use Rattle.tx_sweep.specs.Sweep.{value_at, pair_cmp}
use Rattle.tx_changes.specs.declared.noted.AskedAs.{AskedAs}
use Rattle.tx_changes.specs.declared.noted.AskedAs.TheVariants.{Added, Retracted}

-- whether the triple of an asking holds
abbrev pub asking_holds : List Entry → Asking → Bool
asking_holds h asking = holds h asking.e asking.a asking.v

-- by the act of a form at the place
abbrev pub asked_by : AskedAs → ℕ → Act → List Asking
asked_by Added place (adds e a v) = value_at place e a.id v ∷ []
asked_by Added place (compares e a old new) = value_at place e a.id new ∷ []
asked_by Retracted place (retracts e a v) = value_at place e a.id v ∷ []
asked_by way place act = []

-- by forms, of which the first is at the place
abbrev pub asked_from : AskedAs → ℕ → List (List Act) → List Asking
asked_from way place [] = []
asked_from way place (acts ∷ forms) =
    flat_map (asked_by way place) acts ++ asked_from way (place + 1) forms

-- the value, where it is not the one that is added
abbrev pub other_of : Asking → Value → List Asking
other_of addition v =
    if value_eq addition.v v then [] else value_at addition.place addition.e addition.a v ∷ []

abbrev pub others_of : Asking → List Value → List Asking
others_of addition values = flat_map (other_of addition) values

abbrev pub replaced_of : List Entry → List Datom → Asking → List Asking
replaced_of h schema addition =
    if is_one schema addition.a then others_of addition (values_of h addition.e addition.a) else []

-- the values that a map has of entities under attributes
abbrev pub known_values : BTreeMap (ℕ × ℕ) (Vec Value Global) → ℕ → ℕ → List Value
known_values known e a =
    option_map_or (λ (values : Vec Value Global). values.items) (get pair_cmp known (e, a)) []

-- where it has any, they are those of the history
abbrev pub KnowsValues : List Entry → BTreeMap (ℕ × ℕ) (Vec Value Global) → Type 0
KnowsValues h known =
    (e a : ℕ)
    → option_map_or (λ (values : Vec Value Global). values.items) (get pair_cmp known (e, a))
    (values_of h e a)
    ≡ values_of h e a
