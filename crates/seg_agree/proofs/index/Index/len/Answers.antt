use Rattle.std.proofs.Common.{◌≡◌, ◌+◌, ◌∙◌, ap, length, take, arith}
use Rattle.std.specs.Prelude.{filter, count_by}
use Rattle.fb_values.specs.declared.facts.Datom.{Datom}
use Rattle.fb_covers.specs.Coverage.{covers as held}
use Rattle.fb_model.specs.History.{said}
use Rattle.seg_agree.proofs.Counting.{passing_with, held_len}
use Rattle.seg_agree.proofs.index.Index.len.Goals as goal

pub loop-t-preserved : goal.loop-t-preserved
loop-t-preserved c =
    passing_with (λ d. held c.args.self.now.covers.now c.args.self.now.order d.a) c.args.self.now.entries.now c.loop-t.t c.loop-t.len
    c.in_ok-len.len c.held_of.result c.at.result.now c.at.ensures c.loop-t.invariant
    (c.held_of.ensures ∙ ap (count_by (λ (d : Datom). held c.args.self.now.covers.now c.args.self.now.order d.a)) c.as_slice-datoms.ensures)
    c.in_ok-len.ensures

pub returns : goal.returns
returns c =
    let at_end : c.loop-t.t ≡ c.args.self.now.c + 1 = omega arith in
    c.loop-t.invariant
    ∙ ap (λ n. length (filter (λ (d : Datom). held c.args.self.now.covers.now c.args.self.now.order d.a)
    (said (take n c.args.self.now.entries.now)))) at_end
    ∙ held_len c.args.self.now.covers.now c.args.self.now.entries.now c.args.self.now.c c.args.self.now.order c.requires.covers
