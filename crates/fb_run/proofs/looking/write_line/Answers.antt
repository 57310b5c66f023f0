use Rattle.std.proofs.Common.{take, drop, sym, ap, ◌∙◌, arith, length-drop}
use Rattle.std.specs.Io.KnownBytes.{append_known}
use Rattle.std.proofs.Math.Seq.{take-add}
use Rattle.fb_session.proofs.KnownBytes.{append_known-append, rest_of}
use Rattle.fb_run.proofs.looking.write_line.Goals as goal

pub loop-out-preserved : goal.loop-out-preserved
loop-out-preserved g c =
    let line = c.args.line.now in
    let out = c.loop-out.out in
    let n = c.in_ok-out.field-0 in
    let old = g.O.Sink.contents c.args.sink.now in
    record {
      within = omega (arith, c.in_ok-out.ensures.within, length-drop out line);
      taken = c.in_ok-out.ensures.taken ∙ ap (λ bs. append_known (g.O.Sink.contents c.loop-out.sink) (take n bs)) (rest_of out line)
          ∙ ap (λ o. append_known o (take n (drop out line))) c.loop-out.invariant.taken
          ∙ append_known-append old (take out line) (take n (drop out line)) ∙ ap (append_known old) (sym (take-add out n line));
      count = c.in_ok-out.ensures.counted ∙ c.loop-out.invariant.count;
    }
