use Rattle.std.proofs.Common.{◌∙◌, ℕ, ◌+◌, sym, ap, drop, arith, Option}
use Rattle.tx_asks.specs.declared.triples.Triple.{Triple}
use Rattle.tx_after.specs.After.{after}
use Rattle.tx_rules.specs.Places.{earlier, first_where}
use Rattle.tx_rules.specs.Whole.{describes, lack_of, lack_at}
use Rattle.tx_rules.proofs.Earlier.{first_where-pass, first_where-fail}
use Rattle.tx_rules.proofs.whole.first_incomplete.Goals as goal
use Rattle.tx_rules.proofs.whole.first_incomplete.Goals.{then-describes+in_ok-lack, else-describes}

pub loop-triple-preserved : goal.loop-triple-preserved
loop-triple-preserved g c =
    let all = after (g.F.Facts.history c.args.facts.now) c.args.changes.now in
    let place : Triple → Option ℕ = λ t. lack_at (lack_of c.args.schema.now all t.e) t in
    let i = c.loop-triple.triple-index in
    let triple = c.triple-item.result in
    let rest = first_where describes place (drop (i + 1) c.args.triples.now) in
    elim c.if-describes.branch [
      | then-describes+in_ok-lack w ↦ (let is = w.in_ok-lack.ensures in record {
        known = rw w.last-is (is ∙ ap (lack_of c.args.schema.now all) (sym (ap (λ x. x.e) is)));
        places =
            ap (λ first. earlier first rest)
            (w.first-is ∙ w.earlier-first.ensures ∙ ap (earlier c.loop-triple.first) (w.lack_at.ensures ∙ ap (λ x. lack_at x triple) is))
            ∙ first_where-pass describes place c.args.triples.now i triple c.loop-triple.first (omega arith) c.triple-item.is
            (sym c.describes.ensures ∙ w.if-describes.true)
            ∙ c.loop-triple.invariant.places;
      })
      | else-describes w ↦ record {
        known = rw w.last-is c.loop-triple.invariant.known;
        places =
            ap (λ first. earlier first rest) w.first-is
            ∙ first_where-fail describes place c.args.triples.now i triple c.loop-triple.first (omega arith) c.triple-item.is
            (sym c.describes.ensures ∙ w.if-describes.false)
            ∙ c.loop-triple.invariant.places;
      }
    ]
