use Rattle.std.proofs.Common.{ℕ, take, drop, sym, ap, ◌∙◌, subst, arith, length-drop}
use Rattle.std.specs.Io.KnownBytes.{append_known}
use Rattle.std.proofs.Math.Seq.{take-add}
use Rattle.fb_ports.specs.Faults.{Rose}
use Rattle.fb_session.proofs.KnownBytes.{append_known-append, rest_of}
use Rattle.fb_session.proofs.writing.write_bytes.Goals as goal

pub returns-in_default-clause-part : goal.returns-in_default-clause-part
returns-in_default-clause-part g c = c.in_default.ensures.kept ∙ c.loop-out.invariant.taken

pub returns-in_default-clause-counted : goal.returns-in_default-clause-counted
returns-in_default-clause-counted g c =
    let P = λ (n : ℕ). Rose n (g.O.Sink.faults c.write.new.self) in subst P c.loop-out.invariant.count c.in_default.ensures.counted

pub loop-out-preserved : goal.loop-out-preserved
loop-out-preserved g c =
    let bytes = c.args.bytes.now in
    let out = c.loop-out.out in
    let n = c.in-Ok.taken in
    let old = g.O.Sink.contents c.args.sink.now in
    record {
      within = omega (arith, c.in-Ok.ensures.within, length-drop out bytes);
      taken = c.in-Ok.ensures.taken ∙ ap (λ bs. append_known (g.O.Sink.contents c.loop-out.sink) (take n bs)) (rest_of out bytes)
          ∙ ap (λ o. append_known o (take n (drop out bytes))) c.loop-out.invariant.taken
          ∙ append_known-append old (take out bytes) (take n (drop out bytes)) ∙ ap (append_known old) (sym (take-add out n bytes));
      count = c.in-Ok.ensures.counted ∙ c.loop-out.invariant.count;
    }
