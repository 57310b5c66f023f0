-- A table whose datoms are all in the lists has no twins with what may come into them.
use Rattle.std.proofs.Common.{◌≡◌, inl, inr, List, ◌++◌, sym}
use Rattle.std.specs.Prelude.{Contains}
use Rattle.std.proofs.lemmas.List.Elements.{Contains-append_left, Contains-append_right, Contains-append_cases}
use Rattle.fb_values.specs.declared.facts.Datom.{Datom}
use Rattle.fb_values.specs.declared.indexes.Order.{Order}
use Rattle.fb_values.specs.declared.indexes.Order.TheVariants.{Eavt}
use Rattle.fb_values.specs.Lists.{Lists, list_in}
use Rattle.fb_values.specs.OrderLaws.{IsAtOnePlace}
use Rattle.live_index.specs.Growth.{HasNoTwins}
use Rattle.live_index.specs.Lists.{AreUsed}

other_way : (x y : Datom) → IsAtOnePlace x y → IsAtOnePlace y x
other_way x y at = record { e = sym at.e; a = sym at.a; v = sym at.v; t = sym at.t }

pub single_with : (table : List Datom) (lists : Lists) (more : List Datom) → HasNoTwins table → AreUsed table lists
    → ((order : Order) → HasNoTwins (list_in lists order ++ more)) → HasNoTwins (table ++ more)
single_with table lists more single used each x y x_in y_in at =
    elim (Contains-append_cases table more x x_in) [
      | inl x_old ↦ elim (Contains-append_cases table more y y_in) [
        | inl y_old ↦ single x y x_old y_old at
        | inr y_new ↦ across x y x_old y_new at
      ]
      | inr x_new ↦ elim (Contains-append_cases table more y y_in) [
        | inl y_old ↦ sym (across y x y_old x_new (other_way x y at))
        | inr y_new ↦
            each Eavt x y (Contains-append_right (list_in lists Eavt) more x x_new) (Contains-append_right (list_in lists Eavt) more y y_new) at
      ]
    ]
  where
    across : (x y : Datom) → Contains table x → Contains more y → IsAtOnePlace x y → x ≡ y
    across x y x_old y_new at =
        let found = used x x_old in
        each found.0 x y (Contains-append_left (list_in lists found.0) more x found.1)
        (Contains-append_right (list_in lists found.0) more y y_new) at
