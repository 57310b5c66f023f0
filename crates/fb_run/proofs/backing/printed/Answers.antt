use Rattle.std.proofs.Common.{◌≡◌, Some, inl, inr, refl, rules, arith}
use Rattle.std.specs.Prelude.{string_bytes}
use Rattle.fb_run.specs.StatusLines.{copied_line}
use Rattle.fb_run.proofs.Causing.{says_line, says_memory}
use Rattle.fb_run.proofs.Looks.{has_told}
use Rattle.fb_run.proofs.Loads.{has_reported}
use Rattle.fb_run.proofs.backing.printed.Goals as goal

pub returns-in_default-clause-told : goal.returns-in_default-clause-told
returns-in_default-clause-told g c =
    inl (
      says_memory _ _ (says_line string_bytes c.out_of_memory.result 9 _ _ _ c.without_session.ensures.said
          c.without_session.ensures.unsaid c.out_of_memory.ensures),
      c.without_session.ensures.no_console,
    )

pub returns-clause-told : goal.returns-clause-told
returns-clause-told g c =
    let line = copied_line c.args.reach.basis c.args.copied c.args.reach.covered in
    let now = c.write_line-written.new.sink in
    let out = record c.answered.result { console = Some now } in
    let same : c.as_bytes.result.now ≡ line = first_of (search rules, grind arith) in
    inr (has_reported g.O.Sink.contents g.O.Sink.faults line c.args.console out
    (has_told g.O.Sink.contents g.O.Sink.faults line c.as_bytes.result.now c.args.console now out c.write_line-written.result same
    refl c.write_line-written.ensures.whole c.write_line-written.ensures.part c.write_line-written.ensures.counted
    c.answered.ensures.said))
