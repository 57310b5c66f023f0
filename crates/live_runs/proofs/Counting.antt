-- How many members and parts there are to search, by how many datoms there are in all.
use Rattle.std.proofs.Common.{◌≡◌, ◌∙◌, ℕ, zero, suc, ◌+◌, ◌*◌, ◌^◌, ◌<◌, ◌≤◌, inl, inr, Bool, true, false, cond, List, [], ◌∷◌, ◌++◌, length, length-append, get_or, sym, subst, arith}
use Rattle.std.specs.Prelude.{Contains, slice_index}
use Rattle.std.specs.List.{remove}
use Rattle.std.proofs.lemmas.List.Edits.{length-remove}
use Rattle.std.proofs.lemmas.List.Elements.{Contains-append_left, Contains-append_right}
use Rattle.std.proofs.lemmas.Nat.{pow-add}
use Rattle.fb_values.specs.declared.facts.Datom.{Datom}
use Rattle.fb_values.specs.declared.indexes.Order.{Order}
use Rattle.fb_values.specs.Rising.{IsRising}
use Rattle.fb_model.proofs.Members.{here, there, cases_of, none_of}
use Rattle.live_runs.specs.declared.members.Change.{Change}
use Rattle.live_runs.specs.declared.parts.Part.{Part}
use Rattle.live_runs.specs.declared.parts.TheConstants.{MOST}
use Rattle.live_runs.specs.Bounds.{blocks_at_least}
use Rattle.live_runs.specs.declared.settled.TheConstants.{REMOVALS}
use Rattle.live_runs.specs.Changed.{HasNoTwins, IsWithin, changed, MayChange}
use Rattle.live_runs.specs.Changes.{AreChanges, added, changed_by, removed}
use Rattle.live_runs.specs.Members.{datom_of}
use Rattle.live_runs.specs.Runs.{AreRuns, Layers, runs_datoms, settled_datoms}
use Rattle.live_runs.specs.Parts.{AreFull, members_in, members_of, sizes}
use Rattle.live_runs.proofs.Rises.{not_behind_itself}
use Rattle.live_runs.proofs.Changed.{decided, into_changed}
use Rattle.live_runs.proofs.Named.{may_change}
use Rattle.live_runs.proofs.Running.{settled_rises, settled_within}

-- ---- lists

-- all but the one that is taken out stay
left_in : (ds : List Datom) (i : ℕ) (d x : Datom) → Contains ds x → (x ≡ get_or ds i d → ⊥) → Contains (remove ds i) x
left_in [] zero d x inside other = absurd (none_of x inside)
left_in [] (suc i) d x inside other = absurd (none_of x inside)
left_in (y ∷ ds) zero d x inside other = elim (cases_of y x ds inside) [
  | inl same ↦ absurd (other (sym same))
  | inr behind ↦ behind
]
left_in (y ∷ ds) (suc i) d x inside other = elim (cases_of y x ds inside) [
  | inl same ↦ subst (Contains (y ∷ remove ds i)) same (here y (remove ds i))
  | inr behind ↦ there y x (remove ds i) (left_in ds i d x behind other)
]

-- a rising list is no longer than a list that has all its datoms
pub no_longer : (order : Order) (ds es : List Datom) → IsRising order ds → ((d : Datom) → Contains ds d → Contains es d)
    → length ds ≤ length es
no_longer order [] es rising inside = omega arith
no_longer order (d ∷ ds) es rising inside =
    let at : Contains es d = inside d (here d ds) in
    let rest : length ds ≤ length (remove es at.0) =
    no_longer order ds (remove es at.0) rising.1
    (λ x x_in. left_in es at.0 d x (inside x (there d x ds x_in))
    (λ same. not_behind_itself order d ds rising.0 (subst (Contains ds) (same ∙ at.2) x_in))) in
    omega (arith, rest, length-remove es at.0 at.1)

pub changed_long : (order : Order) (table gone come base : List Datom) → HasNoTwins table → MayChange order table gone come base
    → length base ≤ length (changed order gone come base) + length gone
changed_long order table gone come base single may =
    omega (
      arith,
      no_longer order base (changed order gone come base ++ gone) may.rising
          (λ d inside. elim (decided order table gone d single (λ x x_in. may.within x (may.there x x_in)) (may.within d inside)) [
            | inl goes ↦ Contains-append_right (changed order gone come base) gone d goes
            | inr stays ↦
                Contains-append_left (changed order gone come base) gone d
                (into_changed order table gone come base single may d (inl (inside, stays)))
          ]),
      length-append (changed order gone come base) gone,
    )

pub removed_short : (table : List Datom) (cs : List Change) → length (removed table cs) ≤ length cs
removed_short table [] = omega arith
removed_short table (c ∷ cs) = go c.removes (removed_short table cs)
  where
    go : (b : Bool) → length (removed table cs) ≤ length cs
        → length (cond b (datom_of table c.number ∷ removed table cs) (removed table cs)) ≤ suc (length cs)
    go true rest = omega (arith, rest)
    go false rest = omega (arith, rest)

pub base_long : (order : Order) (table : List Datom) (cs : List Change) (base : List Datom) → HasNoTwins table → AreChanges order table cs base
    → IsRising order base → IsWithin table base → length base ≤ length (changed_by order table cs base) + length cs
base_long order table cs base single are rises within =
    omega (
      arith,
      changed_long order table (removed table cs) (added table cs) base single (may_change order table cs base are rises within),
      removed_short table cs,
    )

-- not many members are gone
pub members_long : (order : Order) (table : List Datom) (r : Layers) → AreRuns order table r
    → length r.settled ≤ length (runs_datoms order table r) + length r.newest + 2 * REMOVALS
members_long order table r are =
    omega (
      arith,
      base_long order table r.newest (settled_datoms order table r.middle r.settled) are.single are.newest
          (settled_rises order table r.middle r.settled are.single are.settled)
          (settled_within order table r.middle r.settled are.single are.settled),
      are.settled.few,
    )

-- ---- parts

-- two neighbours have more than 511 members
pub few_parts : (p : Part) (rest : List Part) → AreFull (p ∷ rest) → 256 * length rest ≤ length (members_of (p ∷ rest))
few_parts p [] full = omega arith
few_parts p (q ∷ []) full =
    omega (
      arith,
      full 0 (omega arith),
      length-append (members_in p) (members_in q ++ []),
      length-append (members_in q) [],
    )
few_parts p (q ∷ r ∷ rest) full =
    omega (
      arith,
      full 0 (omega arith),
      few_parts r rest (λ k within. later k (full (suc (suc k)) (omega (arith, within)))),
      length-append (members_in p) (members_in q ++ members_of (r ∷ rest)),
      length-append (members_in q) (members_of (r ∷ rest)),
    )
  where
    later : (k : ℕ) → MOST < slice_index (sizes (p ∷ q ∷ r ∷ rest)) (suc (suc k)) + slice_index (sizes (p ∷ q ∷ r ∷ rest)) (suc (suc k) + 1)
        → MOST < slice_index (sizes (r ∷ rest)) k + slice_index (sizes (r ∷ rest)) (k + 1)
    later k more =
        let next : suc (suc k) + 1 ≡ suc (suc (k + 1)) = omega arith in
        rw next at more

pub parts_within : (p : Part) (rest : List Part) (digits : ℕ) → AreFull (p ∷ rest) → length (members_of (p ∷ rest)) < 2 ^ (digits + 8)
    → length rest < 2 ^ digits
parts_within p rest digits full within = omega (arith, few_parts p rest full, within, pow-add 2 digits 8)

-- ---- digits

pub members_digits : (members datoms digits : ℕ) → members ≤ datoms + 95 → blocks_at_least datoms < 2 ^ digits → members < 2 ^ (digits + 8)
members_digits members datoms digits long few = omega (arith, long, few, pow-add 2 digits 8)

pub middle_digits : (middle members digits : ℕ) → 16 * middle ≤ members → members < 2 ^ (digits + 8) → middle < 2 ^ (digits + 4)
middle_digits middle members digits short within = omega (arith, short, within, pow-add 2 digits 8, pow-add 2 digits 4)
