use Rattle.std.proofs.Common.{◌≡◌, ◌++◌, ◌∷◌, [], ◌∙◌, List, ℕ, Some, ap, arith}
use Rattle.disk_model.specs.Record.{synced, replayed}
use Rattle.disk_model.proofs.Records.{replayed-push}
use Rattle.mem_ports.specs.MemDisks.{Past}
use Rattle.mem_ports.specs.Room.{Kept}
use Rattle.mem_ports.proofs.Pasts.{crash-synced, durable-synced, file-synced, time-push}
use Rattle.mem_ports.proofs.disks.disk.MemDiskDisk.sync.Goals as goal

pub invariant_of-self-2 : goal.invariant_of-self-2
invariant_of-self-2 c =
    let kept : c.synced.new.self.room ≡ c.self.inside.record.room = ap (λ (k : Kept). k.room) c.synced.ensures in
    let now : replayed c.synced.new.self.changes c.self.inside.first.items
    ≡ replayed (c.self.inside.record.changes ++ synced ∷ []) c.self.inside.first.items =
    ap (λ (k : Kept). replayed k.changes c.self.inside.first.items) c.synced.ensures in
    let then = replayed-push c.self.inside.record.changes (synced) c.self.inside.first.items in (
      cc (now, then, c.self.invariant.0),
      omega (arith, kept, c.self.invariant),
      omega (arith, kept, c.self.invariant),
      omega (arith, kept, c.self.invariant),
    )

pub returns-clause-bytes : goal.returns-clause-bytes
returns-clause-bytes c =
    ap (λ (f : List ℕ). Some f)
    (file-synced c.args.self.now c.self.inside.first.items c.synced.new.self.changes (ap (λ (p : Past). p.first) c.self.view_is)
    (ap (λ (k : Kept). k.changes) c.synced.ensures ∙ ap (λ (p : Past). p.changes ++ synced ∷ []) c.self.view_is))

pub returns-clause-durable : goal.returns-clause-durable
returns-clause-durable c =
    durable-synced c.args.self.now c.self.inside.first.items c.synced.new.self.changes (ap (λ (p : Past). p.first) c.self.view_is)
    (ap (λ (k : Kept). k.changes) c.synced.ensures ∙ ap (λ (p : Past). p.changes ++ synced ∷ []) c.self.view_is)

pub returns-clause-crash : goal.returns-clause-crash
returns-clause-crash c =
    crash-synced c.args.self.now c.self.inside.first.items c.synced.new.self.changes (ap (λ (p : Past). p.first) c.self.view_is)
    (ap (λ (k : Kept). k.changes) c.synced.ensures ∙ ap (λ (p : Past). p.changes ++ synced ∷ []) c.self.view_is)

pub returns-clause-time : goal.returns-clause-time
returns-clause-time c =
    time-push c.args.self.now c.self.inside.first.items c.synced.new.self.changes (ap (λ (p : Past). p.first) c.self.view_is) (synced)
    (ap (λ (k : Kept). k.changes) c.synced.ensures ∙ ap (λ (p : Past). p.changes ++ synced ∷ []) c.self.view_is)
