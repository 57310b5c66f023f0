use Rattle.std.proofs.Common.{◌≡◌, ◌+◌, ◌-◌, ◌∷◌, ◌++◌, [], drop, refl, sym, subst, ap, ◌∙◌, arith}
use Rattle.std.proofs.lemmas.Result.{err_from_is_err_and}
use Rattle.log_model.specs.Nodes.{Nodes}
use Rattle.log_model.specs.Merges.{several_over, read_leaf}
use Rattle.seg_codec.specs.Wanted.{with_held}
use Rattle.seg_codec.proofs.SeveralOver.{fold-push, with_front, with_none, goes_on, is_done, stops}
use Rattle.seg_codec.proofs.leaves.add_leaves.Goals as goal

pub loop-init : goal.loop-init
loop-init c =
    let all : c.args.count - 0 ≡ c.args.count = omega arith in record {
      within = c.requires.place;
      so_far = (
        [],
        refl,
        with_none _ ∙ ap (λ n. several_over (read_leaf c.args.format) (with_held c.args.wanted.now) c.args.nodes.now n
            (drop c.args.at c.args.bytes.now)) all,
      );
    }

pub loop-preserved : goal.loop-preserved
loop-preserved c =
    let bytes = c.args.bytes.now in
    let was = c.loop.invariant.so_far in
    let one = c.in_ok-next.ensures in
    let behind = drop c.in_ok-next.next bytes in
    let total = several_over (read_leaf c.args.format) (with_held c.args.wanted.now) c.args.nodes.now c.args.count (drop c.args.at bytes) in record {
      within = one.2.0;
      so_far = (
        was.0 ++ one.0 ∷ [],
        one.1 ∙ ap (λ (n : Nodes). with_held c.args.wanted.now n one.0) was.1 ∙ sym (fold-push (with_held c.args.wanted.now) c.args.nodes.now was.0 one.0),
        subst (λ (n : Nodes). with_front (was.0 ++ one.0 ∷ [])
            (several_over (read_leaf c.args.format) (with_held c.args.wanted.now) n (c.args.count - (c.loop.counter + 1)) behind) ≡ total) (sym one.1)
            (goes_on (read_leaf c.args.format) (with_held c.args.wanted.now) was.0 c.loop.nodes c.args.count c.loop.counter
            (drop c.loop.end bytes) total was.2 one.0 behind c.loop-test.true one.2.1),
      );
    }

pub returns-in_err-next : goal.returns-in_err-next
returns-in_err-next c =
    let bytes = c.args.bytes.now in
    let was = c.loop.invariant.so_far in
    let exit = err_from_is_err_and c.from_residual.result c.from_residual.ensures.1 in
    let total = several_over (read_leaf c.args.format) (with_held c.args.wanted.now) c.args.nodes.now c.args.count (drop c.args.at bytes) in
    rw (exit.1, exit.2) (
      (was.0, c.in_err-next.ensures.0 ∙ was.1),
      stops (read_leaf c.args.format) (with_held c.args.wanted.now) was.0 c.loop.nodes c.args.count c.loop.counter
          (drop c.loop.end bytes) total was.2 bytes _ c.loop-test.true c.in_err-next.ensures.1,
    )

pub returns : goal.returns
returns c =
    let bytes = c.args.bytes.now in
    let was = c.loop.invariant.so_far in
    let total = several_over (read_leaf c.args.format) (with_held c.args.wanted.now) c.args.nodes.now c.args.count (drop c.args.at bytes) in (
      was.0,
      was.1,
      (
        c.loop.invariant.within,
        is_done (read_leaf c.args.format) (with_held c.args.wanted.now) was.0 c.loop.nodes c.args.count c.loop.counter
            (drop c.loop.end bytes) total was.2 c.loop-test.false,
      ),
    )
