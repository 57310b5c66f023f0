-- The first datom of a triple in runs.
use Rattle.std.proofs.Common.{◌≡◌, ℕ, ◌<◌, true, false, List, [], ◌∷◌, length, sym, subst, Some, None, Option}
use Rattle.std.specs.Prelude.{Contains, is_some}
use Rattle.std.specs.List.{list_any}
use Rattle.std.proofs.lemmas.List.{take-append-drop}
use Rattle.fb_values.specs.declared.facts.Datom.{Datom}
use Rattle.fb_values.specs.declared.indexes.Order.{Order}
use Rattle.fb_values.specs.Rising.{IsRising}
use Rattle.fb_model.proofs.Members.{here}
use Rattle.fb_search.specs.Places.{place_of}
use Rattle.fb_search.proofs.Ends.{rising-append_right}
use Rattle.live_runs.specs.Changed.{from_probe}
use Rattle.live_runs.specs.Changes.{added, removed}
use Rattle.live_runs.specs.Mates.{IsMateIn, is_mate, triple_of}
use Rattle.live_runs.specs.Members.{datom_of}
use Rattle.live_runs.specs.Runs.{AreRuns, Layers, runs_datoms, settled_datoms}
use Rattle.live_runs.proofs.Beside.{from_above, upto_probe}
use Rattle.live_runs.proofs.Changed.{changed_rises}
use Rattle.live_runs.proofs.Named.{may_change}
use Rattle.live_runs.proofs.Running.{settled_rises, settled_within}
use Rattle.live_runs.proofs.Triples.{mate_any, mate_first, mate_none, no_mate, no_mate_first}

pub runs_rise : (order : Order) (table : List Datom) (r : Layers) → AreRuns order table r → IsRising order (runs_datoms order table r)
runs_rise order table r are =
    changed_rises order table (removed table r.newest) (added table r.newest) (settled_datoms order table r.middle r.settled) are.single
    (may_change order table r.newest (settled_datoms order table r.middle r.settled) are.newest
    (settled_rises order table r.middle r.settled are.single are.settled)
    (settled_within order table r.middle r.settled are.single are.settled))

module _ (order : Order) (table : List Datom) (r : Layers) (d : Datom) (are : AreRuns order table r) where
  pub none_mates : from_probe (triple_of order d) (runs_datoms order table r) ≡ [] → IsMateIn table (runs_datoms order table r) d None
  none_mates none = no_mate order table (runs_datoms order table r) d (runs_rise order table r are) none

  pub first_mates : (number : ℕ) (rest : List Datom) → number < length table
      → from_probe (triple_of order d) (runs_datoms order table r) ≡ datom_of table number ∷ rest
      → is_mate d (datom_of table number) ≡ true → IsMateIn table (runs_datoms order table r) d (Some number)
  first_mates number rest within first is =
      mate_first order table (runs_datoms order table r) d (runs_rise order table r are) number rest within first is

  pub first_does_not : (number : ℕ) (rest : List Datom) → from_probe (triple_of order d) (runs_datoms order table r) ≡ datom_of table number ∷ rest
      → is_mate d (datom_of table number) ≡ false → IsMateIn table (runs_datoms order table r) d None
  first_does_not number rest first other =
      let ds = runs_datoms order table r in
      let rises = runs_rise order table r are in
      let from_rises : IsRising order (from_probe (triple_of order d) (runs_datoms order table r)) =
      rising-append_right order (upto_probe (triple_of order d) (runs_datoms order table r))
      (from_probe (triple_of order d) (runs_datoms order table r))
      (subst (IsRising order) (sym (take-append-drop (place_of (triple_of order d) (runs_datoms order table r)) (runs_datoms order table r)))
      rises) in
      no_mate_first order table (runs_datoms order table r) d rises (datom_of table number) rest first
      (from_above (triple_of order d) (runs_datoms order table r) (datom_of table number) rises
      (subst (λ (l : List Datom). Contains l (datom_of table number)) (sym first) (here (datom_of table number) rest)))
      (subst (IsRising order) first from_rises) other

pub mate_is_some : (table ds : List Datom) (d : Datom) (found : Option ℕ) → IsMateIn table ds d found
    → is_some found ≡ list_any (is_mate d) ds
mate_is_some table ds d None is = sym (mate_none table ds d is)
mate_is_some table ds d (Some n) is = sym (mate_any table ds d n is)
