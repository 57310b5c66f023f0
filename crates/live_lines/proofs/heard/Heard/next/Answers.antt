use Rattle.std.proofs.Common.{sym, ap, ◌∙◌, arith}
use Rattle.live_lines.specs.Hearing.{Hearing}
use Rattle.live_lines.proofs.Seeking.{before_feed, last_one, too_long, begun, none_left}
use Rattle.live_lines.proofs.heard.Heard.next.Goals as goal
use Rattle.live_lines.proofs.heard.Heard.next.Goals.{then-not-self, else-not-self+then-len-eq0, else-not-self+else-len-eq0}

pub returns-then-len-gt-LONGEST_LINE-clause-next : goal.returns-then-len-gt-LONGEST_LINE-clause-next
returns-then-len-gt-LONGEST_LINE-clause-next c =
    too_long c.args.self.now c.seek-len.result c.seek-len.ensures.run c.if-len-gt-LONGEST_LINE.true

pub returns-then-len-pending-clause-next : goal.returns-then-len-pending-clause-next
returns-then-len-pending-clause-next c =
    let same = c.pending.ensures ∙ ap (λ (h : Hearing). h.pending) c.seek-len.ensures.same in
    before_feed c.args.self.now c.seek-len.result c.seek-len.ensures.run (rw same at c.if-len-pending.true)
    c.if-len-gt-LONGEST_LINE.false

pub returns-clause-next : goal.returns-clause-next
returns-clause-next c =
    let run = c.seek-len.ensures.run in
    let short = c.if-len-gt-LONGEST_LINE.false in
    let same = c.pending.ensures ∙ ap (λ (h : Hearing). h.pending) c.seek-len.ensures.same in
    let all = rw same at c.if-len-pending.false in
    let over = ap (λ (h : Hearing). h.over) (sym c.seek-len.ensures.same ∙ sym c.self.view_is) in
    elim c.if-not-self.branch [
      | then-not-self w ↦ rw w.result-is (
          begun c.args.self.now c.seek-len.result run (over ∙ w.if-not-self.true) all short
          )
      | else-not-self+then-len-eq0 w ↦ rw w.result-is (
          none_left c.args.self.now c.seek-len.result run (over ∙ w.if-not-self.false) all w.if-len-eq0.true
          )
      | else-not-self+else-len-eq0 w ↦ rw w.result-is (
          last_one c.args.self.now c.seek-len.result run (over ∙ w.if-not-self.false) all (omega (arith, w.if-len-eq0.false)) short
          )
    ]
