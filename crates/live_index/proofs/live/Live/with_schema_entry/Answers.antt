use Rattle.std.proofs.Common.{◌++◌, [], inl, inr, List, sym, subst}
use Rattle.std.proofs.lemmas.List.Elements.{Contains-append_left, Contains-append_cases}
use Rattle.fb_values.specs.declared.facts.Datom.{Datom}
use Rattle.fb_values.specs.declared.indexes.Order.TheVariants.{Eavt}
use Rattle.fb_values.specs.Lists.{list_in}
use Rattle.fb_values.specs.Rising.{IsRising}
use Rattle.live_index.specs.Growth.{IsGrown}
use Rattle.live_index.specs.Halves.{MayFollow}
use Rattle.live_index.proofs.Growing.{both_ok, grown_held, grown_twice, single_part}
use Rattle.live_index.proofs.Members.{contains_none}
use Rattle.live_index.proofs.Standing.{stands}
use Rattle.live_index.proofs.live.Live.with_schema_entry.Goals as goal

pub made_anew-requires-clause-single : goal.made_anew-requires-clause-single
made_anew-requires-clause-single c = λ order.
    let first = list_in c.args.self.now order ++ c.args.refill.now in
    single_part (first ++ []) (first ++ c.args.entry.now.datoms) (λ d there. elim (Contains-append_cases first [] d there) [
      | inl older ↦ Contains-append_left first c.args.entry.now.datoms d older
      | inr none ↦ absurd (contains_none d none)
    ]) (c.requires.single order)

pub grown-requires-clause-held : goal.grown-requires-clause-held
grown-requires-clause-held c = λ order. grown_held order _ _ _ _ _ (c.in_ok-filled.ensures order)

pub grown-requires-clause-follow : goal.grown-requires-clause-follow
grown-requires-clause-follow c = λ order.
    subst (λ (ds : List Datom). MayFollow (list_in c.in_ok-filled.filled order) ds) (sym c.as_slice.ensures)
    (c.requires.follow c.in_ok-filled.filled c.in_ok-filled.ensures order)

pub returns-clause-grown : goal.returns-clause-grown
returns-clause-grown c =
    both_ok c.grown.result _ _ _ (λ live grown also order.
    grown_twice order c.args.after.now (list_in c.args.self.now order) c.args.refill.now
    (list_in c.in_ok-filled.filled order) c.args.entry.now.datoms (list_in live order) (c.in_ok-filled.ensures order)
    (subst (λ (ds : List Datom). IsGrown order c.args.after.now (list_in c.in_ok-filled.filled order) [] ds (list_in live order))
    c.as_slice.ensures (grown order))) c.grown.ensures c.grown.ensures

pub returns-clause-stands : goal.returns-clause-stands
returns-clause-stands c =
    both_ok c.grown.result _ _ _ (λ live grown also h at is was.
    stands h at c.args.entry.now c.args.after.now c.args.refill.now is c.args.self.now was live (λ order.
    grown_twice order c.args.after.now (list_in c.args.self.now order) c.args.refill.now
    (list_in c.in_ok-filled.filled order) c.args.entry.now.datoms (list_in live order) (c.in_ok-filled.ensures order)
    (subst (λ (ds : List Datom). IsGrown order c.args.after.now (list_in c.in_ok-filled.filled order) [] ds (list_in live order))
    c.as_slice.ensures (grown order)))) c.grown.ensures c.grown.ensures

pub grown-requires-clause-order : goal.grown-requires-clause-order
grown-requires-clause-order c = subst (IsRising Eavt) (sym c.as_slice.ensures) c.requires.order
