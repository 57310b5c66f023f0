use Rattle.std.proofs.Common.{◌≡◌, ◌++◌, subst}
use Rattle.std.specs.Prelude.{IfOk}
use Rattle.tx_expand.specs.View.{model_asks}
use Rattle.tx_expand.proofs.links.link.Goals as goal

pub push-requires-clause-raw_known : goal.push-requires-clause-raw_known
push-requires-clause-raw_known c = c.in_ok-raw.ensures.known c.args.schema.now c.requires.link_known

pub returns-clause-asks : goal.returns-clause-asks
returns-clause-asks c = λ all.
    subst (λ asks. IfOk c.push.result (λ _. model_asks all c.push.new.out ≡ model_asks all c.args.out.now ++ asks))
    (c.in_ok-raw.ensures.ask all) (c.push.ensures.asks all)
