use Rattle.std.proofs.Common.{[], ap}
use Rattle.edn_model.specs.Form as edn
use Rattle.edn_form.specs.View.{forms_of, members}
use Rattle.tx_model.specs.Asks.{lookup_in}
use Rattle.tx_model.specs.Walk.{links, vector_asks}
use Rattle.tx_expand.specs.View.{model_name, model_link, model_part}
use Rattle.tx_expand.specs.Numbered.{visited}
use Rattle.tx_expand.proofs.Telling.{call_tells}
use Rattle.tx_expand.proofs.links.vector_link.Goals as goal

pub returns-clause-walks : goal.returns-clause-walks
returns-clause-walks c =
    let key = model_link c.args.key.now in
    let fs = edn.forms (forms_of (members c.args.items.now)) in
    let n = c.args.out.now.next in
    call_tells c.link.result c.args.out.now c.link.new.out c.vector_part.new.lookups
    (λ all. links (model_name all c.args.this) key (model_part all c.in_ok-part.part))
    (λ all. visited (vector_asks c.args.schema.now (model_name all c.args.this) key fs (lookup_in fs) []) n)
    c.link.ensures.asks c.link.ensures.lookups c.link.ensures.next c.in_ok-part.ensures.kept
    (λ all begin. ap (λ asks. visited asks n) (c.in_ok-part.ensures.part all begin (model_name all c.args.this)))
