use Rattle.std.proofs.Common.{[], ap, ◌∙◌, sym}
use Rattle.edn_model.specs.Form as edn
use Rattle.edn_form.specs.View.{form_of, forms_of, members}
use Rattle.tx_model.specs.Asks.{lookup_in, plain}
use Rattle.tx_model.specs.Walk.{links, vector_asks}
use Rattle.tx_expand.specs.View.{model_name, model_link}
use Rattle.tx_expand.specs.Numbered.{visited}
use Rattle.tx_expand.proofs.Telling.{call_tells, call_same}
use Rattle.tx_expand.proofs.Vectors.{collected, alone}
use Rattle.tx_expand.proofs.links.member_link.Goals as goal

pub returns-then-is_collection-clause-walks : goal.returns-then-is_collection-clause-walks
returns-then-is_collection-clause-walks c =
    let facts = c.args.schema.now in
    let key = model_link c.args.key.now in
    let fs = edn.forms (forms_of (members c.args.items.now)) in
    let n = c.args.out.now.next in
    call_tells c.link.result c.args.out.now c.link.new.out c.args.out.now.lookups
    (λ all. links (model_name all c.args.this) key (plain (form_of c.args.f.now)))
    (λ all. visited
    (vector_asks facts (model_name all c.args.this) key fs (lookup_in fs) (links (model_name all c.args.this) key (plain (edn.vector fs))))
    n)
    c.link.ensures.asks c.link.ensures.lookups c.link.ensures.next (λ all begin. begin)
    (λ all begin.
    ap (λ f. visited (links (model_name all c.args.this) key (plain f)) n) c.requires.vector
    ∙ ap (λ asks. visited asks n)
    (collected facts (model_name all c.args.this) key fs (lookup_in fs) (links (model_name all c.args.this) key (plain (edn.vector fs)))
    (sym c.is_collection.ensures ∙ c.if-is_collection.true)))

pub returns-else-is_collection-clause-walks : goal.returns-else-is_collection-clause-walks
returns-else-is_collection-clause-walks c =
    let facts = c.args.schema.now in
    let key = model_link c.args.key.now in
    let fs = edn.forms (forms_of (members c.args.items.now)) in
    let n = c.args.out.now.next in
    call_same c.vector_link.result c.args.out.now c.vector_link.new.out
    (λ all. visited (vector_asks facts (model_name all c.args.this) key fs (lookup_in fs) []) n)
    (λ all. visited
    (vector_asks facts (model_name all c.args.this) key fs (lookup_in fs) (links (model_name all c.args.this) key (plain (edn.vector fs))))
    n)
    (λ all.
    ap (λ asks. visited asks n)
    (alone facts (model_name all c.args.this) key fs (lookup_in fs) (links (model_name all c.args.this) key (plain (edn.vector fs)))
    (sym c.is_collection.ensures ∙ c.if-is_collection.false)))
    c.vector_link.ensures.walks
