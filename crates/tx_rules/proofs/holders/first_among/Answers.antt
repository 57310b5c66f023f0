use Rattle.std.proofs.Common.{◌∙◌, ◌+◌, ◌||◌, sym, ap, drop, arith}
use Rattle.tx_rules.specs.Places.{earlier, first_where}
use Rattle.tx_rules.specs.Neighbours.{behind}
use Rattle.tx_rules.specs.Holders.{is_taken_twice, is_held_by_another}
use Rattle.tx_rules.proofs.Crowded.{blank, length-behind}
use Rattle.tx_rules.proofs.Earlier.{first_where-step}
use Rattle.tx_rules.proofs.Takers.{shared-twice}
use Rattle.tx_rules.proofs.holders.first_among.Goals as goal

pub loop-i-preserved : goal.loop-i-preserved
loop-i-preserved g c =
    let takers = behind c.args.takers.now in
    let h = g.F.Facts.history c.args.facts.now in
    let schema = c.args.schema.now in
    let changes = c.args.changes.now in
    let i = c.loop-i.i in
    ap (λ first.
    earlier first (first_where (λ t. is_taken_twice takers t || is_held_by_another h schema changes t) (λ t. t.added) (drop (i + 1) takers)))
    (c.earlier-first.ensures
    ∙ ap (earlier c.loop-i.first)
    (c.shared_at.ensures blank ∙ shared-twice h schema changes takers c.requires.sorted i blank (omega (arith, length-behind c.args.takers.now))))
    ∙ sym (first_where-step (λ t. is_taken_twice takers t || is_held_by_another h schema changes t) (λ t. t.added) takers i blank c.loop-i.first
    (omega (arith, length-behind c.args.takers.now)))
    ∙ c.loop-i.invariant
