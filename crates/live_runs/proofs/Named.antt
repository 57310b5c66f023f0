-- Changes whose datoms are of a table.
use Rattle.std.proofs.Common.{ℕ, ◌<◌, inl, inr, Bool, true, false, cond, List, [], ◌∷◌, length, subst}
use Rattle.std.specs.Prelude.{Contains}
use Rattle.std.specs.List.{All}
use Rattle.std.proofs.lemmas.List.{get_or_default}
use Rattle.std.proofs.lemmas.List.Elements.{All-head, All-tail}
use Rattle.fb_values.specs.declared.facts.Datom.{Datom}
use Rattle.fb_values.specs.declared.indexes.Order.{Order}
use Rattle.fb_values.specs.Rising.{IsBelowAll, IsRising}
use Rattle.fb_model.proofs.Members.{here, there, cases_of, none_of}
use Rattle.live_runs.specs.declared.members.Change.{Change}
use Rattle.live_runs.specs.declared.members.Member.{Member}
use Rattle.live_runs.specs.Changed.{IsWithin, MayChange}
use Rattle.live_runs.specs.Changes.{AreChanges, added, removed}
use Rattle.live_runs.specs.Members.{IsMember, changing, datom_by, datom_of, held_by, nothing}
use Rattle.live_runs.proofs.Rises.{before_member, before_all}

pub datom_within : (table : List Datom) (n : ℕ) → n < length table → Contains table (datom_of table n)
datom_within table n within = (n, within, get_or_default table n (datom_of table n) nothing within)

pub held_within : {X : Type 0} (member_of : X → Member) (order : Order) (table : List Datom) (xs : List X) (d : Datom)
    → All (λ x. IsMember order table (member_of x)) xs → Contains (held_by member_of table xs) d → Contains table d
held_within member_of order table [] d all inside = absurd (none_of d inside)
held_within member_of order table (x ∷ xs) d all inside =
    elim (cases_of (datom_by member_of table x) d (held_by member_of table xs) inside) [
      | inl same ↦
          subst (Contains table) same
          (datom_within table (member_of x).number (All-head (λ y. IsMember order table (member_of y)) x xs all).within)
      | inr behind ↦
          held_within member_of order table xs d (All-tail (λ y. IsMember order table (member_of y)) x xs all) behind
    ]

pub removed_of : (table : List Datom) (cs : List Change) (d : Datom) → Contains (removed table cs) d → Contains (held_by changing table cs) d
removed_of table [] d inside = absurd (none_of d inside)
removed_of table (c ∷ cs) d inside = go c.removes inside (λ behind. removed_of table cs d behind)
  where
    go : (b : Bool) → Contains (cond b (datom_of table c.number ∷ removed table cs) (removed table cs)) d
        → (Contains (removed table cs) d → Contains (held_by changing table cs) d)
        → Contains (datom_of table c.number ∷ held_by changing table cs) d
    go true found rest = elim (cases_of (datom_of table c.number) d (removed table cs) found) [
      | inl same ↦
          subst (Contains (datom_of table c.number ∷ held_by changing table cs)) same
          (here (datom_of table c.number) (held_by changing table cs))
      | inr behind ↦ there (datom_of table c.number) d (held_by changing table cs) (rest behind)
    ]
    go false found rest = there (datom_of table c.number) d (held_by changing table cs) (rest found)

pub added_of : (table : List Datom) (cs : List Change) (d : Datom) → Contains (added table cs) d → Contains (held_by changing table cs) d
added_of table [] d inside = absurd (none_of d inside)
added_of table (c ∷ cs) d inside = go c.removes inside (λ behind. added_of table cs d behind)
  where
    go : (b : Bool) → Contains (cond b (added table cs) (datom_of table c.number ∷ added table cs)) d
        → (Contains (added table cs) d → Contains (held_by changing table cs) d)
        → Contains (datom_of table c.number ∷ held_by changing table cs) d
    go false found rest = elim (cases_of (datom_of table c.number) d (added table cs) found) [
      | inl same ↦
          subst (Contains (datom_of table c.number ∷ held_by changing table cs)) same
          (here (datom_of table c.number) (held_by changing table cs))
      | inr behind ↦ there (datom_of table c.number) d (held_by changing table cs) (rest behind)
    ]
    go true found rest = there (datom_of table c.number) d (held_by changing table cs) (rest found)

pub below_removed : (order : Order) (table : List Datom) (x : Datom) (cs : List Change) → IsBelowAll order x (held_by changing table cs)
    → IsBelowAll order x (removed table cs)
below_removed order table x cs before =
    before_all order x (removed table cs)
    (λ d inside. before_member order x (held_by changing table cs) d before (removed_of table cs d inside))

pub below_added : (order : Order) (table : List Datom) (x : Datom) (cs : List Change) → IsBelowAll order x (held_by changing table cs)
    → IsBelowAll order x (added table cs)
below_added order table x cs before =
    before_all order x (added table cs)
    (λ d inside. before_member order x (held_by changing table cs) d before (added_of table cs d inside))

pub removed_rises : (order : Order) (table : List Datom) (cs : List Change) → IsRising order (held_by changing table cs)
    → IsRising order (removed table cs)
removed_rises order table [] rising = tt
removed_rises order table (c ∷ cs) rising = go c.removes (removed_rises order table cs rising.1)
  where
    go : (b : Bool) → IsRising order (removed table cs)
        → IsRising order (cond b (datom_of table c.number ∷ removed table cs) (removed table cs))
    go true rest = (below_removed order table (datom_of table c.number) cs rising.0, rest)
    go false rest = rest

pub added_rises : (order : Order) (table : List Datom) (cs : List Change) → IsRising order (held_by changing table cs)
    → IsRising order (added table cs)
added_rises order table [] rising = tt
added_rises order table (c ∷ cs) rising = go c.removes (added_rises order table cs rising.1)
  where
    go : (b : Bool) → IsRising order (added table cs) → IsRising order (cond b (added table cs) (datom_of table c.number ∷ added table cs))
    go true rest = rest
    go false rest = (below_added order table (datom_of table c.number) cs rising.0, rest)

pub may_change : (order : Order) (table : List Datom) (cs : List Change) (base : List Datom) → AreChanges order table cs base
    → IsRising order base → IsWithin table base → MayChange order table (removed table cs) (added table cs) base
may_change order table cs base are rising within =
    record {
      rising = rising;
      gone_rises = removed_rises order table cs are.rising;
      come_rises = added_rises order table cs are.rising;
      within = within;
      come_within = λ d inside. held_within changing order table cs d are.members (added_of table cs d inside);
      there = are.there;
      fresh = are.fresh;
    }
