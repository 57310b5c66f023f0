use Rattle.std.proofs.Common.{◌≡◌, List, subst}
use Rattle.edn_model.specs.Faults.{room}
use Rattle.edn_model.specs.Steps.{opens_of, HasRoom}
use Rattle.edn_core.specs.Frames.{frames_of}
use Rattle.edn_core.specs.declared.construct.Frame.{Frame}
use Rattle.edn_core.proofs.Leading.{stuck_at}
use Rattle.edn_core.proofs.Openings.{grown_enters}
use Rattle.edn_core.proofs.land.begin.Goals as goal

pub returns-then-not-has_room : goal.returns-then-not-has_room
returns-then-not-has_room c bytes slot opens start after before kept =
    let full =
    subst (λ (xs : List Frame). room (opens_of (frames_of bytes xs)) ≡ 0) c.as_slice.ensures.value (c.if-not-has_room.ensures bytes) in
    stuck_at c.args.at after before (opens.deep full)

pub returns : goal.returns
returns c bytes slot opens start after before kept =
    let some = subst (λ (xs : List Frame). HasRoom (frames_of bytes xs)) c.as_slice.ensures.value (c.if-not-has_room.ensures bytes) in
    grown_enters bytes start c.args.at c.args.next c.args.frames.now.items c.grow.new.items.items slot c.args.construct c.grow.result
    (opens.enters some) c.grow.ensures.ok c.grow.ensures.err after before kept
