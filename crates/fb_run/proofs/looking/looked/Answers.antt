use Rattle.std.proofs.Common.{◌≡◌, refl, rules, arith}
use Rattle.std.specs.Prelude.{string_bytes}
use Rattle.fb_run.proofs.Looks.{has_told}
use Rattle.fb_run.proofs.looking.looked.Goals as goal

pub returns-clause-printed : goal.returns-clause-printed
returns-clause-printed g c =
    let line = string_bytes c.args.look.answer.line in
    let same : c.as_bytes.result.now ≡ line = first_of (search rules, grind arith) in
    has_told g.O.Sink.contents g.O.Sink.faults line c.as_bytes.result.now c.args.look.answer.console c.write_line-written.new.sink _
    c.write_line-written.result same refl c.write_line-written.ensures.whole c.write_line-written.ensures.part
    c.write_line-written.ensures.counted c.answered.ensures.said
