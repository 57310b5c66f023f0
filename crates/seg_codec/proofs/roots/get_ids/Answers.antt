use Rattle.std.proofs.Common.{◌≡◌, ◌+◌, ◌-◌, ◌++◌, ◌∷◌, [], ℕ, List, drop, sym, subst, ap, ◌∙◌}
use Rattle.std.specs.Prelude.{fold}
use Rattle.std.proofs.lemmas.Result.{err_from_is_err_and}
use Rattle.log_model.specs.Fields.{that_fits, read_u64}
use Rattle.log_model.specs.Nodes.{is_directory_id, reaching}
use Rattle.log_model.specs.Merges.{several_over}
use Rattle.seg_codec.proofs.SeveralOver.{fold-push, with_front, goes_on, stops}
use Rattle.seg_codec.proofs.roots.get_ids.Goals as goal

pub returns-in_err-id-clause-gives : goal.returns-in_err-id-clause-gives
returns-in_err-id-clause-gives c =
    let bytes = c.args.bytes.now in
    let exit = err_from_is_err_and c.from_residual-in_err-id.result c.from_residual-in_err-id.ensures.1 in
    let total = several_over (λ (before : List ℕ) more. that_fits (is_directory_id c.args.nodes.now before) read_u64 more)
    (reaching c.args.nodes.now) c.args.reached.now c.args.count (drop c.args.at bytes) in
    rw (exit.1, exit.2) (stops (λ (before : List ℕ) more. that_fits (is_directory_id c.args.nodes.now before) read_u64 more)
    (reaching c.args.nodes.now) c.loop.ids.items c.loop.reached c.args.count c.loop.counter
    (drop c.loop.end bytes) total c.loop.invariant.so_far bytes _ c.loop-test.true c.in_err-id.ensures.gives)

pub loop-preserved : goal.loop-preserved
loop-preserved c =
    let bytes = c.args.bytes.now in
    let items = c.loop.ids.items in
    let id = c.in_ok-id.id in
    let behind = drop c.in_ok-id.next bytes in
    let gives = c.in_ok-id.ensures.gives in
    let total = several_over (λ (before : List ℕ) more. that_fits (is_directory_id c.args.nodes.now before) read_u64 more)
    (reaching c.args.nodes.now) c.args.reached.now c.args.count (drop c.args.at bytes) in
    let now = c.get_id.new.reached in record {
      within = gives.0;
      reached = c.in_ok-id.ensures.reached ∙ ap (λ l. reaching c.args.nodes.now l id) c.loop.invariant.reached
          ∙ sym (fold-push (reaching c.args.nodes.now) c.args.reached.now items id)
          ∙ ap (fold (reaching c.args.nodes.now) c.args.reached.now) (sym c.in_ok-push.ensures.items);
      so_far = subst (λ (l : List ℕ). with_front l (several_over (λ (before : List ℕ) more. that_fits
          (is_directory_id c.args.nodes.now before) read_u64 more) (reaching c.args.nodes.now) now
          (c.args.count - (c.loop.counter + 1)) behind) ≡ total) (sym c.in_ok-push.ensures.items)
          (subst (λ (s : List ℕ). with_front (items ++ id ∷ [])
          (several_over (λ (before : List ℕ) more. that_fits (is_directory_id c.args.nodes.now before) read_u64 more)
          (reaching c.args.nodes.now) s (c.args.count - (c.loop.counter + 1)) behind) ≡ total) (sym c.in_ok-id.ensures.reached)
          (goes_on (λ (before : List ℕ) more. that_fits (is_directory_id c.args.nodes.now before) read_u64 more)
          (reaching c.args.nodes.now) items c.loop.reached c.args.count c.loop.counter
          (drop c.loop.end bytes) total c.loop.invariant.so_far id behind c.loop-test.true gives.1));
    }
