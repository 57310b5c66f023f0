use Rattle.std.proofs.Common.{◌≡◌, ◌+◌, ◌-◌, List, drop, sym, subst}
use Rattle.std.proofs.lemmas.Result.{err_from_is_err_and}
use Rattle.fb_values.specs.declared.facts.Datom.{Datom}
use Rattle.log_model.specs.Fields.{several}
use Rattle.log_model.specs.Payload.{read_datom}
use Rattle.fb_codec.proofs.Several.{with_front, goes_on, stops}
use Rattle.fb_codec.proofs.entries.get_datoms.Goals as goal

pub returns-in_err-datom : goal.returns-in_err-datom
returns-in_err-datom c =
    let bytes = c.args.bytes.now in
    let read = read_datom c.args.format c.args.t in
    let total = several read c.args.count (drop c.args.at bytes) in
    let exit = err_from_is_err_and c.from_residual-in_err-datom.result c.from_residual-in_err-datom.ensures.1 in
    rw (exit.1, exit.2)
    (stops read c.loop.datoms.items c.args.count c.loop.counter (drop c.loop.end bytes) total c.loop.invariant.so_far
    bytes _ c.loop-test.true c.in_err-datom.ensures)

pub loop-preserved : goal.loop-preserved
loop-preserved c =
    let bytes = c.args.bytes.now in
    let read = read_datom c.args.format c.args.t in
    let total = several read c.args.count (drop c.args.at bytes) in
    let behind = drop c.in_ok-datom.next bytes in
    let others = several read (c.args.count - (c.loop.counter + 1)) behind in record {
      within = c.in_ok-datom.ensures.0;
      so_far = subst (λ (items : List Datom). with_front read items others ≡ total) (sym c.in_ok-push.ensures.items)
          (goes_on read c.loop.datoms.items c.args.count c.loop.counter (drop c.loop.end bytes) total c.loop.invariant.so_far
          c.in_ok-datom.datom behind c.loop-test.true c.in_ok-datom.ensures.1);
    }
