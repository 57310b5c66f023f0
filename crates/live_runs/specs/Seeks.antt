-- Where a probe leads among members.
-- This project's own choice.
use Rattle.std.specs.Prelude.{◌≡◌, true, false, List, ◌++◌, Contains}
use Rattle.fb_values.specs.declared.facts.Datom.{Datom}
use Rattle.fb_values.specs.declared.indexes.Probe.{Probe}
use Rattle.fb_prefix.specs.declared.probes.Sought.{Sought}
use Rattle.fb_prefix.specs.Prefixes.{prefix_in, is_lesser}
use Rattle.fb_search.specs.Places.{is_below}
use Rattle.live_runs.specs.declared.aim.What.{What}
use Rattle.live_runs.specs.declared.aim.What.TheVariants.{Probe as ByProbe, Triple}
use Rattle.live_runs.specs.declared.members.Member.{Member}
use Rattle.live_runs.specs.Mates.{triple_of}
use Rattle.live_runs.specs.Members.{named}

-- the probe that stands for what is looked for
abbrev pub aim_of : What → Probe
aim_of (ByProbe p) = p.now
aim_of (Triple order d) = triple_of order d.now

-- what the prefixes of datoms tell of the probe
pub record IsSoughtBy (p : Probe) (s : Sought) : Type 0 where
  pub below : (d : Datom) → is_lesser (prefix_in p.order d) s.from ≡ true → is_below p d ≡ true
  pub above : (d : Datom) → is_lesser s.from (prefix_in p.order d) ≡ true → is_below p d ≡ false
  pub whole : s.is_whole ≡ true → (d : Datom) → prefix_in p.order d ≡ s.from → is_below p d ≡ false

-- the members that are left are those that are not below the probe
pub record IsCut (p : Probe) (table : List Datom) (whole left : List Member) : Type 0 where
  pub front : List Member
  pub both : whole ≡ front ++ left
  pub below : (d : Datom) → Contains (named table front) d → is_below p d ≡ true
  pub above : (d : Datom) → Contains (named table left) d → is_below p d ≡ false
