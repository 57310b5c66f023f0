use Rattle.std.proofs.Common.{◌≡◌, [], length, sym, ◌∙◌}
use Rattle.std.proofs.lemmas.Result.{on_ok_weaker}
use Rattle.fb_journal.proofs.Laying.{no_items, told-gate, run-gate, run-gate-synced, run-next, run-next-synced}
use Rattle.fb_journal.proofs.stores.open_gate.Goals as goal

pub returns-then-is_empty-clause-bytes : goal.returns-then-is_empty-clause-bytes
returns-then-is_empty-clause-bytes g c =
    let none : c.args.next.now ≡ [] = no_items c.args.next.now (sym c.is_empty.ensures ∙ c.if-is_empty.true) in
    let wrote = c.in_ok-write_at.ensures.written in
    on_ok_weaker c.sync.result
    (λ same.
    same ∙ told-gate (g.D.Disk.bytes c.args.disk.now) (g.D.Disk.bytes c.write_at.new.self) c.args.gate c.args.at c.args.next.now none wrote
    c.requires)
    c.sync.ensures.bytes

pub returns-in_err-write_at-clause-any_moment : goal.returns-in_err-write_at-clause-any_moment
returns-in_err-write_at-clause-any_moment g c = λ file only.
    let d = g.D.Disk in
    run-gate d.images d.moment d.images_since g.met.D.Disk.only_now c.args.gate c.args.at (length c.args.next.now) file c.args.disk.now
    c.write_at.new.self only c.write_at.ensures.crash c.write_at.ensures.time

pub returns-then-is_empty-clause-any_moment : goal.returns-then-is_empty-clause-any_moment
returns-then-is_empty-clause-any_moment g c = λ file only.
    let d = g.D.Disk in
    run-gate-synced d.images d.moment d.images_since g.met.D.Disk.only_now c.args.gate c.args.at (length c.args.next.now) file
    c.args.disk.now c.write_at.new.self only c.write_at.ensures.crash c.write_at.ensures.time c.sync.new.self c.sync.ensures.crash
    c.sync.ensures.time

pub returns-in_err-write_at-2-clause-any_moment : goal.returns-in_err-write_at-2-clause-any_moment
returns-in_err-write_at-2-clause-any_moment g c = λ file only.
    let d = g.D.Disk in
    run-next d.images d.moment d.images_since g.met.D.Disk.only_now c.args.gate c.args.at (length c.args.next.now) file c.args.disk.now
    c.write_at.new.self only c.write_at.ensures.crash c.write_at.ensures.time c.write_at-2.new.self c.write_at-2.ensures.crash
    c.write_at-2.ensures.time

pub returns-clause-any_moment : goal.returns-clause-any_moment
returns-clause-any_moment g c = λ file only.
    let d = g.D.Disk in
    run-next-synced d.images d.moment d.images_since g.met.D.Disk.only_now c.args.gate c.args.at (length c.args.next.now) file
    c.args.disk.now c.write_at.new.self only c.write_at.ensures.crash c.write_at.ensures.time c.write_at-2.new.self
    c.write_at-2.ensures.crash c.write_at-2.ensures.time c.sync-2.new.self c.sync-2.ensures.crash c.sync-2.ensures.time
