use Rattle.std.proofs.Common.{◌≡◌, ◌∙◌, true, ◌-◌, List, drop, length, length-append, sym, ap, subst, refl, arith, Option}
use Rattle.std.specs.Prelude.{Contains}
use Rattle.std.specs.List.{slice_get}
use Rattle.fb_values.specs.declared.facts.Datom.{Datom}
use Rattle.fb_values.specs.declared.indexes.Order.{Order}
use Rattle.fb_values.specs.declared.indexes.Order.TheVariants.{Eavt}
use Rattle.fb_values.specs.Lists.{list_in}
use Rattle.fb_values.specs.Rising.{IsRising}
use Rattle.live_index.specs.declared.orders.Orders.{Orders}
use Rattle.live_index.specs.Ending.{IsRetracted, MayEndAll}
use Rattle.live_index.specs.Growth.{takes}
use Rattle.live_index.specs.Lists.{AreIf, AreOrders, lists_if, lists_of, numbered}
use Rattle.live_index.specs.Walks.{later_of}
use Rattle.live_index.proofs.Entering.{IsBefore, grown_made, holding_longer, index_made, is_fresh, last_longer, may_end_longer, past_longer, single_longer}
use Rattle.live_index.proofs.Growing.{Gains}
use Rattle.live_index.proofs.Spans.{drop_front}
use Rattle.live_index.proofs.live.Live.with_each.Goals as goal

pub retracted-requires-clause-single : goal.retracted-requires-clause-single
retracted-requires-clause-single c =
    let old = c.self.inside.table in
    let table = c.in_ok-table.table in
    let H = c.self.inside.holding in
    let P = c.self.inside.past in
    let L = c.self.inside.last in
    let now = c.args.self.now in
    let ds = c.args.datoms.now in
    let first = c.count_of-first.result in
    let before : IsBefore old table H P L now ds =
    record { are = c.self.invariant; is = c.self.view_is; table_is = c.in_ok-table.ensures; follow = c.requires.follow } in
    single_longer old table H P L now ds before

pub retracted-requires-clause-holding : goal.retracted-requires-clause-holding
retracted-requires-clause-holding c =
    let old = c.self.inside.table in
    let table = c.in_ok-table.table in
    let H = c.self.inside.holding in
    let P = c.self.inside.past in
    let L = c.self.inside.last in
    let now = c.args.self.now in
    let ds = c.args.datoms.now in
    let first = c.count_of-first.result in
    let before : IsBefore old table H P L now ds =
    record { are = c.self.invariant; is = c.self.view_is; table_is = c.in_ok-table.ensures; follow = c.requires.follow } in
    subst (AreOrders table) (sym c.in_ok-halves.ensures.holding) (holding_longer old table H P L now ds before)

pub retracted-requires-clause-past : goal.retracted-requires-clause-past
retracted-requires-clause-past c =
    let old = c.self.inside.table in
    let table = c.in_ok-table.table in
    let H = c.self.inside.holding in
    let P = c.self.inside.past in
    let L = c.self.inside.last in
    let now = c.args.self.now in
    let ds = c.args.datoms.now in
    let first = c.count_of-first.result in
    let before : IsBefore old table H P L now ds =
    record { are = c.self.invariant; is = c.self.view_is; table_is = c.in_ok-table.ensures; follow = c.requires.follow } in
    subst (AreIf table) (sym c.in_ok-halves.ensures.past) (past_longer old table H P L now ds before)

pub retracted-requires-clause-within : goal.retracted-requires-clause-within
retracted-requires-clause-within c =
    omega (arith, c.count_of-first.ensures, ap length c.in_ok-table.ensures, length-append c.self.inside.table c.args.datoms.now)

pub retracted-requires-clause-rising : goal.retracted-requires-clause-rising
retracted-requires-clause-rising c =
    let old = c.self.inside.table in
    let table = c.in_ok-table.table in
    let H = c.self.inside.holding in
    let P = c.self.inside.past in
    let L = c.self.inside.last in
    let now = c.args.self.now in
    let ds = c.args.datoms.now in
    let first = c.count_of-first.result in
    let before : IsBefore old table H P L now ds =
    record { are = c.self.invariant; is = c.self.view_is; table_is = c.in_ok-table.ensures; follow = c.requires.follow } in
    let coming : drop first table ≡ ds = drop_front first table old ds c.count_of-first.ensures c.in_ok-table.ensures in
    subst (IsRising Eavt) (sym coming) c.requires.order

pub retracted-requires-clause-may : goal.retracted-requires-clause-may
retracted-requires-clause-may c = λ order.
    let old = c.self.inside.table in
    let table = c.in_ok-table.table in
    let H = c.self.inside.holding in
    let P = c.self.inside.past in
    let L = c.self.inside.last in
    let now = c.args.self.now in
    let ds = c.args.datoms.now in
    let first = c.count_of-first.result in
    let before : IsBefore old table H P L now ds =
    record { are = c.self.invariant; is = c.self.view_is; table_is = c.in_ok-table.ensures; follow = c.requires.follow } in
    let coming : drop first table ≡ ds = drop_front first table old ds c.count_of-first.ensures c.in_ok-table.ensures in
    subst (λ (l : List Datom). MayEndAll (list_in (lists_of table c.in_ok-halves.halves.holding) order)
    (list_in (lists_if table c.in_ok-halves.halves.past) order) l) (sym coming)
    (subst (λ (p : Option Orders). MayEndAll (list_in (lists_of table c.in_ok-halves.halves.holding) order) (list_in (lists_if table p) order) ds)
    (sym c.in_ok-halves.ensures.past)
    (subst (λ (h : Orders). MayEndAll (list_in (lists_of table h) order) (list_in (lists_if table P) order) ds)
    (sym c.in_ok-halves.ensures.holding) (may_end_longer old table H P L now ds before order)))

pub with_additions-requires-clause-within : goal.with_additions-requires-clause-within
with_additions-requires-clause-within c =
    omega (arith, c.count_of-first.ensures, ap length c.in_ok-table.ensures, length-append c.self.inside.table c.args.datoms.now)

pub with_additions-requires-clause-rising : goal.with_additions-requires-clause-rising
with_additions-requires-clause-rising c =
    let old = c.self.inside.table in
    let table = c.in_ok-table.table in
    let H = c.self.inside.holding in
    let P = c.self.inside.past in
    let L = c.self.inside.last in
    let now = c.args.self.now in
    let ds = c.args.datoms.now in
    let first = c.count_of-first.result in
    let before : IsBefore old table H P L now ds =
    record { are = c.self.invariant; is = c.self.view_is; table_is = c.in_ok-table.ensures; follow = c.requires.follow } in
    let coming : drop first table ≡ ds = drop_front first table old ds c.count_of-first.ensures c.in_ok-table.ensures in
    subst (IsRising Eavt) (sym coming) c.requires.order

pub with_additions-requires-clause-fresh : goal.with_additions-requires-clause-fresh
with_additions-requires-clause-fresh c = λ order d there holds.
    let old = c.self.inside.table in
    let table = c.in_ok-table.table in
    let H = c.self.inside.holding in
    let P = c.self.inside.past in
    let L = c.self.inside.last in
    let now = c.args.self.now in
    let ds = c.args.datoms.now in
    let first = c.count_of-first.result in
    let before : IsBefore old table H P L now ds =
    record { are = c.self.invariant; is = c.self.view_is; table_is = c.in_ok-table.ensures; follow = c.requires.follow } in
    let coming : drop first table ≡ ds = drop_front first table old ds c.count_of-first.ensures c.in_ok-table.ensures in
    is_fresh old table H P L now ds before order d (subst (λ (l : List Datom). Contains l d) coming there)
    (subst (λ (h : Orders). Contains (list_in (lists_of table h) order) d) c.in_ok-halves.ensures.holding
    (((c.in_ok-halves-2.ensures.retracted order).new_is d).0 holds).0)

pub invariant_of-result : goal.invariant_of-result
invariant_of-result c =
    let old = c.self.inside.table in
    let table = c.in_ok-table.table in
    let H = c.self.inside.holding in
    let P = c.self.inside.past in
    let L = c.self.inside.last in
    let now = c.args.self.now in
    let ds = c.args.datoms.now in
    let first = c.count_of-first.result in
    let before : IsBefore old table H P L now ds =
    record { are = c.self.invariant; is = c.self.view_is; table_is = c.in_ok-table.ensures; follow = c.requires.follow } in
    let coming : drop first table ≡ ds = drop_front first table old ds c.count_of-first.ensures c.in_ok-table.ensures in
    let made = c.in_ok-holding.holding in
    let gone = c.in_ok-halves-2.halves.past in
    let h = lists_of table c.in_ok-halves-2.halves.holding in
    let retracted : (order : Order) → IsRetracted order c.args.covers.now (list_in (lists_of table H) order)
    (list_in (lists_if table P) order) ds (list_in h order) (list_in (lists_if table gone) order) =
    λ order.
    subst (λ (o : Orders). IsRetracted order c.args.covers.now (list_in (lists_of table o) order) (list_in (lists_if table P) order) ds
    (list_in h order) (list_in (lists_if table gone) order)) c.in_ok-halves.ensures.holding
    (subst (λ (o : Option Orders). IsRetracted order c.args.covers.now (list_in (lists_of table c.in_ok-halves.halves.holding) order)
    (list_in (lists_if table o) order) ds (list_in h order) (list_in (lists_if table gone) order)) c.in_ok-halves.ensures.past
    (subst (λ (l : List Datom). IsRetracted order c.args.covers.now (list_in (lists_of table c.in_ok-halves.halves.holding) order)
    (list_in (lists_if table c.in_ok-halves.halves.past) order) l (list_in h order) (list_in (lists_if table gone) order)) coming
    (c.in_ok-halves-2.ensures.retracted order))) in
    let gains : (order : Order) → Gains (list_in h order) (λ d. Contains ds d × (takes c.args.covers.now order d ≡ true))
    (list_in (lists_of table made) order) =
    λ order.
    subst (λ (l : List Datom). Gains (list_in h order) (λ d. Contains l d × (takes c.args.covers.now order d ≡ true))
    (list_in (lists_of table made) order)) coming (c.in_ok-holding.ensures.members order) in
    index_made old table H P L now ds before c.args.covers.now c.requires.held h (lists_of table made) made gone refl retracted gains
    c.in_ok-holding.ensures.are c.in_ok-halves-2.ensures.past c.requires.order c.last_with-last.result c.last_with-last.ensures.within
    (c.last_with-last.ensures.value ∙ ap (λ (l : List Datom). later_of Eavt (numbered table L) (slice_get l (length l - 1))) coming)

pub returns : goal.returns
returns c =
    let old = c.self.inside.table in
    let table = c.in_ok-table.table in
    let H = c.self.inside.holding in
    let P = c.self.inside.past in
    let L = c.self.inside.last in
    let now = c.args.self.now in
    let ds = c.args.datoms.now in
    let first = c.count_of-first.result in
    let before : IsBefore old table H P L now ds =
    record { are = c.self.invariant; is = c.self.view_is; table_is = c.in_ok-table.ensures; follow = c.requires.follow } in
    let coming : drop first table ≡ ds = drop_front first table old ds c.count_of-first.ensures c.in_ok-table.ensures in
    let made = c.in_ok-holding.holding in
    let gone = c.in_ok-halves-2.halves.past in
    let h = lists_of table c.in_ok-halves-2.halves.holding in
    let retracted : (order : Order) → IsRetracted order c.args.covers.now (list_in (lists_of table H) order)
    (list_in (lists_if table P) order) ds (list_in h order) (list_in (lists_if table gone) order) =
    λ order.
    subst (λ (o : Orders). IsRetracted order c.args.covers.now (list_in (lists_of table o) order) (list_in (lists_if table P) order) ds
    (list_in h order) (list_in (lists_if table gone) order)) c.in_ok-halves.ensures.holding
    (subst (λ (o : Option Orders). IsRetracted order c.args.covers.now (list_in (lists_of table c.in_ok-halves.halves.holding) order)
    (list_in (lists_if table o) order) ds (list_in h order) (list_in (lists_if table gone) order)) c.in_ok-halves.ensures.past
    (subst (λ (l : List Datom). IsRetracted order c.args.covers.now (list_in (lists_of table c.in_ok-halves.halves.holding) order)
    (list_in (lists_if table c.in_ok-halves.halves.past) order) l (list_in h order) (list_in (lists_if table gone) order)) coming
    (c.in_ok-halves-2.ensures.retracted order))) in
    let gains : (order : Order) → Gains (list_in h order) (λ d. Contains ds d × (takes c.args.covers.now order d ≡ true))
    (list_in (lists_of table made) order) =
    λ order.
    subst (λ (l : List Datom). Gains (list_in h order) (λ d. Contains l d × (takes c.args.covers.now order d ≡ true))
    (list_in (lists_of table made) order)) coming (c.in_ok-holding.ensures.members order) in
    grown_made old table H P L now ds before c.args.covers.now c.requires.held h (lists_of table made) made gone refl retracted gains
    c.in_ok-holding.ensures.are c.in_ok-halves-2.ensures.past c.requires.order c.last_with-last.result c.last_with-last.ensures.within
    (c.last_with-last.ensures.value ∙ ap (λ (l : List Datom). later_of Eavt (numbered table L) (slice_get l (length l - 1))) coming)

pub last_with-last-requires-clause-last : goal.last_with-last-requires-clause-last
last_with-last-requires-clause-last c =
    let old = c.self.inside.table in
    let table = c.in_ok-table.table in
    let H = c.self.inside.holding in
    let P = c.self.inside.past in
    let L = c.self.inside.last in
    let now = c.args.self.now in
    let ds = c.args.datoms.now in
    let first = c.count_of-first.result in
    let before : IsBefore old table H P L now ds =
    record { are = c.self.invariant; is = c.self.view_is; table_is = c.in_ok-table.ensures; follow = c.requires.follow } in
    last_longer old table H P L now ds before

pub last_with-last-requires-clause-within : goal.last_with-last-requires-clause-within
last_with-last-requires-clause-within c =
    omega (arith, c.count_of-first.ensures, ap length c.in_ok-table.ensures, length-append c.self.inside.table c.args.datoms.now)
