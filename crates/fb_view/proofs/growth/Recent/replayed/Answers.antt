use Rattle.std.proofs.Common.{◌∙◌, ◌++◌, ap, subst, sym, flat_map, List}
use Rattle.fb_values.specs.declared.facts.Datom.{Datom}
use Rattle.fb_values.specs.declared.indexes.Order.TheVariants.{Aevt}
use Rattle.fb_values.specs.Lists.{list_in}
use Rattle.fb_values.proofs.Rising.{rising_from}
use Rattle.live_index.specs.Growth.{HasNoTwins, IsGrown}
use Rattle.seg_tree.specs.Nodes.{tree_datoms}
use Rattle.fb_view.specs.Refills.{gained_of}
use Rattle.fb_view.proofs.Alone.{none_held}
use Rattle.fb_view.proofs.Bulk.{nothing_live, replay_single, replay_stands}
use Rattle.fb_view.proofs.growth.Recent.replayed.Goals as goal

pub refill_of-requires : goal.refill_of-requires
refill_of-requires c =
    rising_from Aevt (tree_datoms c.args.older.now.roots.aevt) (c.requires.stands.history.roots_stand.trees Aevt).rising

pub made_anew-requires-clause-held : goal.made_anew-requires-clause-held
made_anew-requires-clause-held c = λ order.
    none_held c.covers-before.result.now order (list_in c.args.self.live order)
    (nothing_live c.args.entries.now c.args.self c.args.older.now c.requires.lawful c.requires.within c.requires.stands order)

pub made_anew-requires-clause-single : goal.made_anew-requires-clause-single
made_anew-requires-clause-single c = λ order.
    let older = c.args.older.now in
    let replay = c.in_ok-replay.replay in
    let is = c.in_ok-replay.ensures in
    let after = c.covers-after.result.now in
    let old = list_in c.args.self.live order in
    let filled = flat_map (gained_of after older) replay.gained.items in
    let refill = c.deref-3.ensures.value ∙ c.in_ok-refill.ensures ∙ ap (flat_map (gained_of after older)) c.deref.ensures.value in
    subst (λ (ds : List Datom). HasNoTwins (old ++ ds ++ c.deref-2.result.now)) (sym refill)
    (subst (λ (ds : List Datom). HasNoTwins (old ++ filled ++ ds)) (sym c.deref-2.ensures.value)
    (replay_single c.args.entries.now c.args.self older c.requires.lawful c.requires.within c.requires.stands
    replay.said.items is.said replay.schema is.schema after c.covers-after.ensures replay.gained.items is.gained order))

pub returns : goal.returns
returns c =
    let older = c.args.older.now in
    let replay = c.in_ok-replay.replay in
    let is = c.in_ok-replay.ensures in
    let after = c.covers-after.result.now in
    let live = c.in_ok-live.live in
    let filled = flat_map (gained_of after older) replay.gained.items in
    let refill = c.deref-3.ensures.value ∙ c.in_ok-refill.ensures ∙ ap (flat_map (gained_of after older)) c.deref.ensures.value in
    replay_stands c.args.entries.now c.args.self older c.requires.lawful c.requires.within c.requires.stands
    replay.said.items is.said replay.schema is.schema after c.covers-after.ensures replay.gained.items is.gained live
    (λ order.
    let old = list_in c.args.self.live order in
    let new = list_in live order in
    subst (λ (ds : List Datom). IsGrown order after old filled ds new) c.deref-2.ensures.value
    (subst (λ (ds : List Datom). IsGrown order after old ds c.deref-2.result.now new) refill (c.in_ok-live.ensures order)))
