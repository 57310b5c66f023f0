use Rattle.std.proofs.Common.{◌∙◌, ℕ, ◌+◌, sym, ap, drop, arith, Option}
use Rattle.tx_asks.specs.declared.triples.Triple.{Triple}
use Rattle.tx_after.specs.After.{after}
use Rattle.tx_rules.specs.Places.{earlier, first_where}
use Rattle.tx_rules.specs.Promises.{promises_anew, verdict_of, broken_at}
use Rattle.tx_rules.proofs.Earlier.{first_where-pass, first_where-fail}
use Rattle.tx_rules.proofs.promises.first_broken_by.Goals as goal
use Rattle.tx_rules.proofs.promises.first_broken_by.Goals.{then-promises_anew+in_ok-verdict, else-promises_anew}

pub loop-triple-preserved : goal.loop-triple-preserved
loop-triple-preserved g c =
    let all = after (g.F.Facts.history c.args.facts.now) c.args.changes.now in
    let place : Triple → Option ℕ = λ t. broken_at (verdict_of c.args.schema.now all t.e) t in
    let i = c.loop-triple.triple-index in
    let triple = c.triple-item.result in
    let rest = first_where promises_anew place (drop (i + 1) c.args.triples.now) in
    elim c.if-promises_anew.branch [
      | then-promises_anew+in_ok-verdict w ↦ (let is = w.in_ok-verdict.ensures in record {
        known = rw w.last-is (is ∙ ap (verdict_of c.args.schema.now all) (sym (ap (λ x. x.e) is)));
        places =
            ap (λ first. earlier first rest) (w.first-is ∙ w.earlier-first.ensures
            ∙ ap (earlier c.loop-triple.first) (w.broken_at.ensures ∙ ap (λ x. broken_at x triple) is))
            ∙ first_where-pass promises_anew place c.args.triples.now i triple c.loop-triple.first (omega arith) c.triple-item.is
            (sym c.promises_anew.ensures ∙ w.if-promises_anew.true)
            ∙ c.loop-triple.invariant.places;
      })
      | else-promises_anew w ↦ record {
        known = rw w.last-is c.loop-triple.invariant.known;
        places =
            ap (λ first. earlier first rest) w.first-is
            ∙ first_where-fail promises_anew place c.args.triples.now i triple c.loop-triple.first (omega arith) c.triple-item.is
            (sym c.promises_anew.ensures ∙ w.if-promises_anew.false)
            ∙ c.loop-triple.invariant.places;
      }
    ]
