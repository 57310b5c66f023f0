use Rattle.std.proofs.Common.{◌∙◌, sym}
use Rattle.std.proofs.lemmas.Result.{IfOk-weaker}
use Rattle.fb_journal.proofs.Passing.{first-byte, stands-open}
use Rattle.fb_journal.proofs.gates.look_ahead.Goals as goal

pub returns-then-byte-ne-OPEN-clause-stands : goal.returns-then-byte-ne-OPEN-clause-stands
returns-then-byte-ne-OPEN-clause-stands g c = λ file told shows is_open.
    let read = c.in_ok-read.ensures.read file told shows in
    c.if-byte-ne-OPEN.true (first-byte file c.read.new.buf c.args.gate read.1 ∙ is_open)

pub returns-clause-stands : goal.returns-clause-stands
returns-clause-stands g c =
    IfOk-weaker c.look_behind.result _ _
    (λ ahead stands. λ file told shows.
    let read = c.in_ok-read.ensures.read file told shows in
    stands-open file c.args.gate ahead (sym (first-byte file c.read.new.buf c.args.gate read.1) ∙ c.if-byte-ne-OPEN.false)
    (stands file (c.read.ensures.leaves.same ∙ told) (c.read.ensures.leaves.shows file told shows)))
    c.look_behind.ensures.stands
