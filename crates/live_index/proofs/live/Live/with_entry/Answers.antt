use Rattle.std.proofs.Common.{[], List, sym, subst}
use Rattle.fb_values.specs.declared.facts.Datom.{Datom}
use Rattle.fb_values.specs.declared.indexes.Order.TheVariants.{Eavt}
use Rattle.fb_values.specs.Lists.{list_in}
use Rattle.fb_values.specs.Rising.{IsRising}
use Rattle.live_index.specs.Growth.{IsGrown}
use Rattle.live_index.specs.Halves.{MayFollow}
use Rattle.live_index.proofs.Growing.{both_ok}
use Rattle.live_index.proofs.Standing.{stands}
use Rattle.live_index.proofs.live.Live.with_entry.Goals as goal

pub grown-requires-clause-follow : goal.grown-requires-clause-follow
grown-requires-clause-follow c = λ order.
    subst (λ (ds : List Datom). MayFollow (list_in c.args.self.now order) ds) (sym c.as_slice.ensures) (c.requires.follow order)

pub returns-clause-grown : goal.returns-clause-grown
returns-clause-grown c =
    both_ok c.grown.result _ _ _ (λ live grown also order.
    subst (λ (ds : List Datom). IsGrown order c.args.covers.now (list_in c.args.self.now order) [] ds (list_in live order))
    c.as_slice.ensures (grown order)) c.grown.ensures c.grown.ensures

pub returns-clause-stands : goal.returns-clause-stands
returns-clause-stands c =
    both_ok c.grown.result _ _ _ (λ live grown also h at is was.
    stands h at c.args.entry.now c.args.covers.now [] is c.args.self.now was live (λ order.
    subst (λ (ds : List Datom). IsGrown order c.args.covers.now (list_in c.args.self.now order) [] ds (list_in live order))
    c.as_slice.ensures (grown order))) c.grown.ensures c.grown.ensures

pub grown-requires-clause-order : goal.grown-requires-clause-order
grown-requires-clause-order c = subst (IsRising Eavt) (sym c.as_slice.ensures) c.requires.order
