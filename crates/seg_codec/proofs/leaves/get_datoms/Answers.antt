use Rattle.std.proofs.Common.{◌≡◌, ◌+◌, ◌-◌, ◌∷◌, [], List, drop, sym, subst, ap, ◌∙◌, arith, length-append}
use Rattle.std.specs.Prelude.{length}
use Rattle.std.proofs.lemmas.Result.{err_from_is_err_and}
use Rattle.fb_values.specs.declared.facts.Datom.{Datom}
use Rattle.log_model.specs.Nodes.{Nodes}
use Rattle.log_model.specs.Merges.{several_over, read_dated}
use Rattle.seg_codec.proofs.SeveralOver.{with_front, goes_on, is_done, stops}
use Rattle.seg_codec.proofs.leaves.get_datoms.Goals as goal

pub returns-in_err-datom-clause-gives : goal.returns-in_err-datom-clause-gives
returns-in_err-datom-clause-gives c =
    let bytes = c.args.bytes.now in
    let exit = err_from_is_err_and c.from_residual-in_err-datom.result c.from_residual-in_err-datom.ensures.1 in
    λ nodes. rw (exit.1, exit.2)
    (stops (λ (_ : Nodes) behind. read_dated c.args.format behind) (λ s _. s) c.loop.datoms.items nodes c.args.count c.loop.counter
    (drop c.loop.end bytes)
    (several_over (λ (_ : Nodes) behind. read_dated c.args.format behind) (λ s _. s) nodes c.args.count (drop c.args.at bytes))
    (c.loop.invariant.so_far nodes)
    bytes _ c.loop-test.true c.in_err-datom.ensures)

pub loop-preserved : goal.loop-preserved
loop-preserved c =
    let bytes = c.args.bytes.now in
    let behind = drop c.in_ok-datom.next bytes in record {
      within = c.in_ok-datom.ensures.0;
      len = ap (length {A = Datom}) c.in_ok-push.ensures.items
          ∙ omega (arith, length-append c.loop.datoms.items (c.in_ok-datom.datom ∷ []), c.loop.invariant.len);
      so_far = λ nodes.
          subst (λ (items : List Datom). with_front items
          (several_over (λ (_ : Nodes) more. read_dated c.args.format more) (λ s _. s) nodes
          (c.args.count - (c.loop.counter + 1)) behind)
          ≡ several_over (λ (_ : Nodes) more. read_dated c.args.format more) (λ s _. s) nodes c.args.count (drop c.args.at bytes))
          (sym c.in_ok-push.ensures.items)
          (goes_on (λ (_ : Nodes) more. read_dated c.args.format more) (λ s _. s) c.loop.datoms.items nodes c.args.count c.loop.counter
          (drop c.loop.end bytes)
          (several_over (λ (_ : Nodes) more. read_dated c.args.format more) (λ s _. s) nodes c.args.count (drop c.args.at bytes))
          (c.loop.invariant.so_far nodes)
          c.in_ok-datom.datom behind c.loop-test.true c.in_ok-datom.ensures.1);
    }

pub returns-clause-gives : goal.returns-clause-gives
returns-clause-gives c =
    let bytes = c.args.bytes.now in
    λ nodes. (
      c.loop.invariant.within,
      is_done (λ (_ : Nodes) more. read_dated c.args.format more) (λ s _. s) c.loop.datoms.items nodes c.args.count c.loop.counter
          (drop c.loop.end bytes)
          (several_over (λ (_ : Nodes) more. read_dated c.args.format more) (λ s _. s) nodes c.args.count (drop c.args.at bytes))
          (c.loop.invariant.so_far nodes) c.loop-test.false,
    )
