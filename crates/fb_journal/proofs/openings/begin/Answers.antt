use Rattle.std.proofs.Common.{inl, inr, ◌≡◌, ◌≤◌, ◌∙◌, Some, length, sym, ap, arith}
use Rattle.std.proofs.lemmas.Result.{IfOk-weaker}
use Rattle.disk_model.specs.Disk.{Torn}
use Rattle.disk_model.proofs.Moments.{joined}
use Rattle.fb_journal.proofs.Starting.{length-new_journal, torn-new}
use Rattle.fb_journal.proofs.openings.begin.Goals as goal

pub returns-then-len-gt-NEW-clause-file : goal.returns-then-len-gt-NEW-clause-file
returns-then-len-gt-NEW-clause-file g c =
    IfOk-weaker c.read_mark.result _ _
    (λ window read. λ file told.
    let settled : g.D.Disk.bytes c.settle.new.disk ≡ Some file = sym c.read_mark.ensures.bytes ∙ told in
    let here = read file settled in
    let durable = c.in_ok-len.ensures.durable file (sym c.in_ok-len.ensures.bytes ∙ settled) in
    (here.0, here.1, λ image left. durable image (c.read_mark.ensures.crash image left)))
    c.read_mark.ensures.file

pub returns-in_err-store-clause-any_moment : goal.returns-in_err-store-clause-any_moment
returns-in_err-store-clause-any_moment g c = λ file told.
    let short : length file ≤ 16 = omega (arith, c.in_ok-len.ensures.length file told, c.if-len-gt-NEW.false) in
    let sixteen : length c.new_journal.result.now ≡ 16 = ap length c.new_journal.ensures ∙ length-new_journal c.args.mark in
    joined g.D.Disk.moment g.D.Disk.images_since c.args.disk.now c.settle.new.disk c.store.new.disk (g.D.Disk.images c.args.disk.now)
    (Torn 0 (length c.new_journal.result.now) file) _ c.settle.ensures.any_moment
    (c.store.ensures.any_moment file (c.in_ok-len.ensures.durable file told))
    (λ image was. inl was)
    (λ image torn. inr (short, torn-new c.new_journal.result.now file image sixteen short torn))

pub returns-clause-any_moment : goal.returns-clause-any_moment
returns-clause-any_moment g c = λ file told.
    let short : length file ≤ 16 = omega (arith, c.in_ok-len.ensures.length file told, c.if-len-gt-NEW.false) in
    let sixteen : length c.new_journal.result.now ≡ 16 = ap length c.new_journal.ensures ∙ length-new_journal c.args.mark in
    joined g.D.Disk.moment g.D.Disk.images_since c.args.disk.now c.settle.new.disk c.store.new.disk (g.D.Disk.images c.args.disk.now)
    (Torn 0 (length c.new_journal.result.now) file) _ c.settle.ensures.any_moment
    (c.store.ensures.any_moment file (c.in_ok-len.ensures.durable file told))
    (λ image was. inl was)
    (λ image torn. inr (short, torn-new c.new_journal.result.now file image sixteen short torn))
