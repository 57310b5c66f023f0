use Rattle.std.proofs.Common.{◌≡◌, suc, ◌<◌, ◌++◌, ◌≤◌, List, length, drop, get_or, sym, subst, map, arith}
use Rattle.std.specs.Prelude.{Contains}
use Rattle.std.specs.List.{All}
use Rattle.std.specs.Arc.{arc_value}
use Rattle.std.proofs.lemmas.List.{take_all}
use Rattle.std.proofs.lemmas.Result.{IfOk-weaker}
use Rattle.std.proofs.lemmas.List.Elements.{Contains-append_right, Contains-get_or}
use Rattle.fb_values.specs.declared.facts.Datom.{Datom}
use Rattle.fb_values.specs.Rising.{IsRising}
use Rattle.live_index.specs.Growth.{HasNoTwins}
use Rattle.seg_tree.specs.Nodes.{LeafNode, leaf_datoms}
use Rattle.seg_merge.specs.Merged.{KeepsLeaves}
use Rattle.seg_merge.specs.Plans.{Planned, IsUnion, RepeatsNone}
use Rattle.seg_merge.proofs.Lists.{read_at, length_map}
use Rattle.seg_merge.proofs.Planning.{IsPlanning, planning_none, planning_next, leaf_held, left_rises_at, taken_rises, leaf_and_rest_rise}
use Rattle.seg_merge.proofs.Planning.{single_leaf, single_part, union_all, keeps_all}
use Rattle.fb_search.proofs.Ends.{rising-append_left}
use Rattle.seg_merge.proofs.order.planned.Goals as goal

pub loop-place-init : goal.loop-place-init
loop-place-init c =
    let ls = map arc_value c.args.leaves.now in
    subst (IsPlanning c.args.order c.args.covers.now ls c.args.added.now 0 c.args.added.now) (sym c.new-plan.ensures)
    (planning_none c.args.order c.args.covers.now ls c.args.added.now)

pub before_leaf-requires : goal.before_leaf-requires
before_leaf-requires c =
    left_rises_at c.args.order c.args.covers.now (map arc_value c.args.leaves.now) c.args.added.now c.loop-place.place c.loop-place.left.now
    c.loop-place.plan c.requires.added_rises c.loop-place.invariant

pub with_leaf-requires-clause-leaf_rises : goal.with_leaf-requires-clause-leaf_rises
with_leaf-requires-clause-leaf_rises c =
    let order = c.args.order in
    let leaves = c.args.leaves.now in
    let ls = map arc_value leaves in
    let place = c.loop-place.place in
    let within : place < length leaves = omega arith in
    let leaf = arc_value c.index-leaves-place.result in
    let read = read_at arc_value leaves place c.index-leaves-place.result within c.index-leaves-place.is in
    rising-append_left order leaf.datoms (leaf_datoms (drop (suc place) ls))
    (leaf_and_rest_rise order ls place leaf read c.requires.leaves_rise)

pub with_leaf-requires-clause-added_rises : goal.with_leaf-requires-clause-added_rises
with_leaf-requires-clause-added_rises c =
    let left = c.loop-place.left.now in
    let rises =
    left_rises_at c.args.order c.args.covers.now (map arc_value c.args.leaves.now) c.args.added.now c.loop-place.place left
    c.loop-place.plan c.requires.added_rises c.loop-place.invariant in
    subst (IsRising c.args.order) (sym c.split_at.ensures.front) (taken_rises c.args.order c.before_leaf.result left rises)

pub with_leaf-requires-clause-single : goal.with_leaf-requires-clause-single
with_leaf-requires-clause-single c =
    let order = c.args.order in
    let coverage = c.args.covers.now in
    let leaves = c.args.leaves.now in
    let ls = map arc_value leaves in
    let added = c.args.added.now in
    let place = c.loop-place.place in
    let left = c.loop-place.left.now in
    let plan = c.loop-place.plan in
    let p = c.loop-place.invariant in
    let within : place < length leaves = omega arith in
    let leaf = arc_value c.index-leaves-place.result in
    let read = read_at arc_value leaves place c.index-leaves-place.result within c.index-leaves-place.is in
    subst (λ (ds : List Datom). HasNoTwins (leaf.datoms ++ ds)) (sym c.split_at.ensures.front)
    (single_leaf order coverage ls added place left plan c.before_leaf.result leaf c.requires.single read p)

pub with_leaf-requires-clause-known : goal.with_leaf-requires-clause-known
with_leaf-requires-clause-known c = λ all_stay.
    let leaves = c.args.leaves.now in
    let place = c.loop-place.place in
    let within : place < length leaves = omega arith in
    let leaf = arc_value c.index-leaves-place.result in
    let read = read_at arc_value leaves place c.index-leaves-place.result within c.index-leaves-place.is in
    leaf_held c.args.order c.args.covers.now (map arc_value leaves) place leaf read (c.requires.known all_stay)

pub loop-place-preserved : goal.loop-place-preserved
loop-place-preserved c =
    let order = c.args.order in
    let coverage = c.args.covers.now in
    let leaves = c.args.leaves.now in
    let ls = map arc_value leaves in
    let added = c.args.added.now in
    let place = c.loop-place.place in
    let left = c.loop-place.left.now in
    let plan = c.loop-place.plan in
    let p = c.loop-place.invariant in
    let within : place < length leaves = omega arith in
    let leaf = arc_value c.index-leaves-place.result in
    let read = read_at arc_value leaves place c.index-leaves-place.result within c.index-leaves-place.is in
    let before = c.before_leaf.ensures in
    planning_next order coverage ls added place left plan c.in_ok-plan.plan c.before_leaf.result leaf c.split_at.result.0.now
    c.split_at.result.1.now c.split_at.ensures.front c.split_at.ensures.back c.requires.leaves_rise c.requires.added_rises read before.some
    before.front before.back c.in_ok-plan.ensures p

pub union-requires-clause-added_rises : goal.union-requires-clause-added_rises
union-requires-clause-added_rises c =
    left_rises_at c.args.order c.args.covers.now (map arc_value c.args.leaves.now) c.args.added.now c.loop-place.place c.loop-place.left.now
    c.loop-place.plan c.requires.added_rises c.loop-place.invariant

pub union-requires-clause-single : goal.union-requires-clause-single
union-requires-clause-single c =
    let order = c.args.order in
    let coverage = c.args.covers.now in
    let leaves = c.args.leaves.now in
    let ls = map arc_value leaves in
    let added = c.args.added.now in
    let place = c.loop-place.place in
    let left = c.loop-place.left.now in
    let plan = c.loop-place.plan in
    let p = c.loop-place.invariant in
    single_part (leaf_datoms ls ++ added) left c.requires.single
    (λ x there. Contains-append_right (leaf_datoms ls) added x
    (subst (λ (ds : List Datom). Contains ds x) p.parts (Contains-append_right p.taken left x there)))

pub returns-clause-union : goal.returns-clause-union
returns-clause-union c =
    let order = c.args.order in
    let coverage = c.args.covers.now in
    let leaves = c.args.leaves.now in
    let ls = map arc_value leaves in
    let added = c.args.added.now in
    let place = c.loop-place.place in
    let left = c.loop-place.left.now in
    let plan = c.loop-place.plan in
    let p = c.loop-place.invariant in
    let past : length ls ≤ place = omega (arith, length_map arc_value leaves, c.loop-place-test.false) in
    let piece = c.in_ok-union.field-0.items in
    let new : Planned = record plan { datoms = plan.datoms ++ piece } in
    let all = union_all order coverage ls added place left plan piece past p c.in_ok-union.ensures in
    IfOk-weaker c.add.result (λ v. v ≡ new) (λ v. IsUnion order coverage (leaf_datoms ls) added v.datoms)
    (λ v is. subst (λ (q : Planned). IsUnion order coverage (leaf_datoms ls) added q.datoms) (sym is) all) c.add.ensures

pub returns-clause-older : goal.returns-clause-older
returns-clause-older c =
    let order = c.args.order in
    let coverage = c.args.covers.now in
    let leaves = c.args.leaves.now in
    let ls = map arc_value leaves in
    let added = c.args.added.now in
    let place = c.loop-place.place in
    let left = c.loop-place.left.now in
    let plan = c.loop-place.plan in
    let p = c.loop-place.invariant in
    let past : length ls ≤ place = omega (arith, length_map arc_value leaves, c.loop-place-test.false) in
    let piece = c.in_ok-union.field-0.items in
    let new : Planned = record plan { datoms = plan.datoms ++ piece } in
    let older : All (Contains ls) plan.kept = λ k d within. p.older (get_or plan.kept k d) (Contains-get_or plan.kept k d within) in
    IfOk-weaker c.add.result (λ v. v ≡ new) (λ v. All (Contains ls) v.kept)
    (λ v is. subst (λ (q : Planned). All (Contains ls) q.kept) (sym is) older) c.add.ensures

pub returns-clause-stays : goal.returns-clause-stays
returns-clause-stays c =
    let order = c.args.order in
    let coverage = c.args.covers.now in
    let leaves = c.args.leaves.now in
    let ls = map arc_value leaves in
    let added = c.args.added.now in
    let place = c.loop-place.place in
    let left = c.loop-place.left.now in
    let plan = c.loop-place.plan in
    let p = c.loop-place.invariant in
    let past : length ls ≤ place = omega (arith, length_map arc_value leaves, c.loop-place-test.false) in
    let piece = c.in_ok-union.field-0.items in
    let new : Planned = record plan { datoms = plan.datoms ++ piece } in
    let stays = keeps_all order coverage ls added place left plan past p in
    IfOk-weaker c.add.result (λ v. v ≡ new) (λ v. KeepsLeaves order coverage ls added v.kept)
    (λ v is. subst (λ (q : Planned). KeepsLeaves order coverage ls added q.kept) (sym is) stays) c.add.ensures

pub returns-clause-once : goal.returns-clause-once
returns-clause-once c =
    let leaves = c.args.leaves.now in
    let ls = map arc_value leaves in
    let place = c.loop-place.place in
    let plan = c.loop-place.plan in
    let p = c.loop-place.invariant in
    let past : length ls ≤ place = omega (arith, length_map arc_value leaves, c.loop-place-test.false) in
    let piece = c.in_ok-union.field-0.items in
    let new : Planned = record plan { datoms = plan.datoms ++ piece } in
    let once = subst (λ (xs : List LeafNode). RepeatsNone xs plan.kept) (take_all place ls past) p.once in
    IfOk-weaker c.add.result (λ v. v ≡ new) (λ v. RepeatsNone ls v.kept)
    (λ v is. subst (λ (q : Planned). RepeatsNone ls q.kept) (sym is) once) c.add.ensures
