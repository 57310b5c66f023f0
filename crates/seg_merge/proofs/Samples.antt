-- Trees and live lists of the tests' datoms.
use Rattle.std.proofs.Common.{◌≡◌, ℕ, List, [], ◌++◌, subst, sym, inl, inr}
use Rattle.fb_values.specs.declared.facts.Datom.{Datom}
use Rattle.fb_values.specs.declared.indexes.Order.{Order}
use Rattle.fb_covers.specs.Coverage.{Coverage}
use Rattle.live_index.specs.Growth.{IsGrown}
use Rattle.live_index.specs.Samples.{AreSamples, AreRisingSamples}
use Rattle.live_index.proofs.Samples.{no_twins, both, none, grown}
use Rattle.seg_merge.specs.Merged.{IsMerged, IsMergeable}

pub none_rising : (order : Order) (ds : List Datom) → ds ≡ [] → AreRisingSamples order ds
none_rising order ds is = subst (AreRisingSamples order) (sym is) (tt, none)

pub grown_rising : (order : Order) (c : Coverage) (old refill datoms new : List Datom) → AreRisingSamples order old → AreSamples refill
    → AreSamples datoms → IsGrown order c old refill datoms new → AreRisingSamples order new
grown_rising order c old refill datoms new all_old all_refill all_new g =
    (g.rising, grown order c old refill datoms new all_old.1 all_refill all_new g)

pub may_merge : (order : Order) (old live : List Datom) → AreRisingSamples order old → AreRisingSamples order live
    → IsMergeable order old live
may_merge order old live a b = record { old_rises = a.0; live_rises = b.0; single = no_twins (old ++ live) (both old live a.1 b.1) }

pub merged_rising : (order : Order) (coverage : Coverage) (c : ℕ) (old live new : List Datom) → AreRisingSamples order old
    → AreRisingSamples order live → IsMerged order coverage c old live new → AreRisingSamples order new
merged_rising order coverage c old live new a b m =
    (m.rising, λ d there. elim ((m.members d).0 there) [ inl x ↦ a.1 d x.0 | inr y ↦ b.1 d y.0 ])
