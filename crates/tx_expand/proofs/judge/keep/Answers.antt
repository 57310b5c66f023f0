use Rattle.std.proofs.Common.{sym, subst}
use Rattle.std.specs.List.{All}
use Rattle.std.proofs.lemmas.List.Elements.{All-push}
use Rattle.tx_asks.specs.Asks.{IsTyped}
use Rattle.tx_expand.specs.Faults.{Settles}
use Rattle.tx_expand.proofs.judge.keep.Goals as goal

pub returns-in_ok-push-in-Stands-clause-read : goal.returns-in_ok-push-in-Stands-clause-read
returns-in_ok-push-in-Stands-clause-read c = λ facts all ask settles read.
    let stands = subst (λ settled. Settles facts all ask settled) c.in-Stands.is settles in
    subst (λ asks. All (IsTyped facts) asks) (sym c.in_ok-push-in-Stands.ensures.items)
    (All-push (IsTyped facts) c.args.asks.now.items c.in-Stands.ask read stands.4)
