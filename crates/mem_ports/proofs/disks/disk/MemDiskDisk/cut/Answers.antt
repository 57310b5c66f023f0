use Rattle.std.proofs.Common.{◌≡◌, ◌++◌, ◌∷◌, [], ◌∙◌, List, ℕ, Some, ap, arith}
use Rattle.disk_model.specs.Record.{cut_to, replayed}
use Rattle.disk_model.proofs.Records.{replayed-push}
use Rattle.mem_ports.specs.MemDisks.{Past}
use Rattle.mem_ports.specs.Room.{Kept}
use Rattle.mem_ports.proofs.Pasts.{still-cut, crash-cut, file-cut, time-push}
use Rattle.mem_ports.proofs.disks.disk.MemDiskDisk.cut.Goals as goal

pub returns-in_err-begin-clause-crash : goal.returns-in_err-begin-clause-crash
returns-in_err-begin-clause-crash c =
    still-cut c.args.self.now c.self.inside.first.items c.self.inside.record.changes (ap (λ (p : Past). p.first) c.self.view_is) c.args.len
    (ap (λ (p : Past). p.changes) c.self.view_is)

pub returns-then-not-fits-clause-crash : goal.returns-then-not-fits-clause-crash
returns-then-not-fits-clause-crash c =
    still-cut c.args.self.now c.self.inside.first.items c.self.inside.record.changes (ap (λ (p : Past). p.first) c.self.view_is) c.args.len
    (ap (λ (p : Past). p.changes) c.self.view_is)

pub invariant_of-self-2 : goal.invariant_of-self-2
invariant_of-self-2 c =
    let kept : c.cut.new.self.room ≡ c.self.inside.record.room = ap (λ (k : Kept). k.room) c.cut.ensures in
    let now : replayed c.cut.new.self.changes c.self.inside.first.items
    ≡ replayed (c.self.inside.record.changes ++ cut_to c.args.len ∷ []) c.self.inside.first.items =
    ap (λ (k : Kept). replayed k.changes c.self.inside.first.items) c.cut.ensures in
    let then = replayed-push c.self.inside.record.changes (cut_to c.args.len) c.self.inside.first.items in (
      cc (now, then, c.truncate.ensures.items, c.self.invariant.0),
      omega (arith, kept, c.self.invariant, c.truncate.ensures.len),
      omega (arith, kept, c.self.invariant, c.truncate.ensures.capacity),
      omega (arith, kept, c.self.invariant),
    )

pub returns-clause-cut : goal.returns-clause-cut
returns-clause-cut c =
    ap (λ (f : List ℕ). Some f)
    (file-cut c.args.self.now c.self.inside.first.items c.cut.new.self.changes (ap (λ (p : Past). p.first) c.self.view_is) c.args.len
    (ap (λ (k : Kept). k.changes) c.cut.ensures ∙ ap (λ (p : Past). p.changes ++ cut_to c.args.len ∷ []) c.self.view_is))

pub returns-clause-crash : goal.returns-clause-crash
returns-clause-crash c =
    crash-cut c.args.self.now c.self.inside.first.items c.cut.new.self.changes (ap (λ (p : Past). p.first) c.self.view_is) c.args.len
    (ap (λ (k : Kept). k.changes) c.cut.ensures ∙ ap (λ (p : Past). p.changes ++ cut_to c.args.len ∷ []) c.self.view_is)

pub returns-clause-time : goal.returns-clause-time
returns-clause-time c =
    time-push c.args.self.now c.self.inside.first.items c.cut.new.self.changes (ap (λ (p : Past). p.first) c.self.view_is)
    (cut_to c.args.len) (ap (λ (k : Kept). k.changes) c.cut.ensures ∙ ap (λ (p : Past). p.changes ++ cut_to c.args.len ∷ []) c.self.view_is)
