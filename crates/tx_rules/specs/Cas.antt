-- Compare and set, by what holds in the history. Datomic, Transaction Data (:db/cas).
use Rattle.std.specs.Prelude.{ℕ, Bool, false, not, List, [], ◌∷◌, Option, Some, None, map, Vec}
use Rattle.std.specs.declared.alloc.Global.{Global}
use Rattle.std.specs.List.{list_any}
use Rattle.fb_values.specs.declared.facts.Entry.{Entry}
use Rattle.fb_values.specs.declared.facts.Value.{Value}
use Rattle.fb_facts.specs.FactLists.{values_of}
use Rattle.tx_model.specs.ChangeRules.{is_value}
use Rattle.tx_model.specs.Step.{first_yes}
use Rattle.tx_asks.specs.declared.acts.Act as program
use Rattle.tx_asks.specs.Acts.{Act, compares, is_cas_of_many, acts_in}

-- the present value, under an attribute that has one value of each entity
abbrev pub first_value : List Value → Option Value
first_value [] = None
first_value (v ∷ vs) = Some v

abbrev pub finds_another : List Entry → Act → Bool
finds_another h (compares e a old new) = not (is_value (first_value (values_of h e a.id)) old)
finds_another h act = false

-- ---- the first form with such an act

abbrev pub first_of_many : List (List Act) → Option ℕ
first_of_many forms = first_yes 0 (map (list_any is_cas_of_many) forms)

abbrev pub first_failed : List Entry → List (List Act) → Option ℕ
first_failed h forms = first_yes 0 (map (list_any (finds_another h)) forms)

-- the acts of forms as the program has them
abbrev pub acts_of : List (Vec program.Act Global) → List (List Act)
acts_of forms = acts_in (map (λ form. form.items) forms)
