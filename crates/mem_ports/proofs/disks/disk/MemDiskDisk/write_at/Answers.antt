use Rattle.std.proofs.Common.{◌≡◌, ◌+◌, ◌++◌, ◌∷◌, [], ◌≤◌, ◌∙◌, List, ℕ, Some, length, ap, arith}
use Rattle.std.proofs.lemmas.Bool.Decides.{nat_tests}
use Rattle.disk_model.specs.Record.{wrote, replayed}
use Rattle.disk_model.proofs.Calls.{length-written}
use Rattle.disk_model.proofs.Records.{replayed-push}
use Rattle.mem_ports.specs.MemDisks.{Past}
use Rattle.mem_ports.specs.Room.{Kept}
use Rattle.mem_ports.proofs.Pasts.{still-wrote, crash-wrote, file-wrote, time-push}
use Rattle.mem_ports.proofs.disks.disk.MemDiskDisk.write_at.Goals as goal

pub returns-in_err-begin-clause-crash : goal.returns-in_err-begin-clause-crash
returns-in_err-begin-clause-crash c =
    still-wrote c.args.self.now c.self.inside.first.items c.self.inside.record.changes (ap (λ (p : Past). p.first) c.self.view_is) c.args.at
    (length c.args.piece.now) (ap (λ (p : Past). p.changes) c.self.view_is)

pub returns-then-not-has_room-clause-crash : goal.returns-then-not-has_room-clause-crash
returns-then-not-has_room-clause-crash c =
    still-wrote c.args.self.now c.self.inside.first.items c.self.inside.record.changes (ap (λ (p : Past). p.first) c.self.view_is) c.args.at
    (length c.args.piece.now) (ap (λ (p : Past). p.changes) c.self.view_is)

pub invariant_of-self-3 : goal.invariant_of-self-3
invariant_of-self-3 c =
    let kept : c.wrote.new.self.room ≡ c.self.inside.record.room = ap (λ (k : Kept). k.room) c.wrote.ensures in
    let now : replayed c.wrote.new.self.changes c.self.inside.first.items
    ≡ replayed (c.self.inside.record.changes ++ wrote c.args.at c.args.piece.now ∷ []) c.self.inside.first.items =
    ap (λ (k : Kept). replayed k.changes c.self.inside.first.items) c.wrote.ensures in
    let then = replayed-push c.self.inside.record.changes (wrote c.args.at c.args.piece.now) c.self.inside.first.items in
    let ends : c.args.at + length c.args.piece.now ≤ c.self.inside.record.room = grind (arith, nat_tests) in (
      cc (now, then, c.place.ensures.items, c.self.invariant.0),
      omega (
        arith,
        kept,
        ends,
        c.self.invariant,
        ap length c.place.ensures.items,
        length-written c.args.at c.args.piece.now c.self.inside.file.items,
        c.place.new.file.ok,
        c.self.inside.file.ok,
      ),
      omega (arith, kept, c.self.invariant, c.place.ensures.capacity),
      omega (arith, kept, c.self.invariant),
    )

pub returns-clause-written : goal.returns-clause-written
returns-clause-written c =
    ap (λ (f : List ℕ). Some f) (file-wrote c.args.self.now c.self.inside.first.items c.wrote.new.self.changes
    (ap (λ (p : Past). p.first) c.self.view_is) c.args.at c.args.piece.now
    (ap (λ (k : Kept). k.changes) c.wrote.ensures ∙ ap (λ (p : Past). p.changes ++ wrote c.args.at c.args.piece.now ∷ []) c.self.view_is))

pub returns-clause-crash : goal.returns-clause-crash
returns-clause-crash c =
    crash-wrote c.args.self.now c.self.inside.first.items c.wrote.new.self.changes
    (ap (λ (p : Past). p.first) c.self.view_is) c.args.at c.args.piece.now
    (ap (λ (k : Kept). k.changes) c.wrote.ensures ∙ ap (λ (p : Past). p.changes ++ wrote c.args.at c.args.piece.now ∷ []) c.self.view_is)

pub returns-clause-time : goal.returns-clause-time
returns-clause-time c =
    time-push c.args.self.now c.self.inside.first.items c.wrote.new.self.changes
    (ap (λ (p : Past). p.first) c.self.view_is) (wrote c.args.at c.args.piece.now)
    (ap (λ (k : Kept). k.changes) c.wrote.ensures ∙ ap (λ (p : Past). p.changes ++ wrote c.args.at c.args.piece.now ∷ []) c.self.view_is)
