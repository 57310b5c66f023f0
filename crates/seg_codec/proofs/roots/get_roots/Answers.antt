use Rattle.std.proofs.Common.{[], ◌∷◌, ◌++◌, drop}
use Rattle.std.specs.Prelude.{fold}
use Rattle.std.proofs.lemmas.Result.{err_from_is_err_and}
use Rattle.log_model.specs.Nodes.{reaching}
use Rattle.log_model.specs.Merges.{several_over, read_root}
use Rattle.seg_codec.proofs.RecordFields.{roots_begin, roots_go_on, roots_stop, roots_done}
use Rattle.seg_codec.proofs.roots.get_roots.Goals as goal

pub returns-in_err-eavt : goal.returns-in_err-eavt
returns-in_err-eavt c =
    let exit = err_from_is_err_and c.from_residual.result c.from_residual.ensures.1 in
    let nodes = c.args.nodes.now in
    let bytes = c.args.bytes.now in
    let here = drop c.args.at bytes in
    let total = several_over (read_root nodes) (fold (reaching nodes)) [] 4 here in
    let s0 = roots_begin nodes c.new-reached.result here c.new-reached.ensures in
    rw (exit.1, exit.2) (roots_stop nodes ([]) c.new-reached.result 3 here total s0 bytes _ c.in_err-eavt.ensures.gives)

pub returns-in_err-aevt : goal.returns-in_err-aevt
returns-in_err-aevt c =
    let exit = err_from_is_err_and c.from_residual-in_err-aevt.result c.from_residual-in_err-aevt.ensures.1 in
    let nodes = c.args.nodes.now in
    let bytes = c.args.bytes.now in
    let here = drop c.args.at bytes in
    let total = several_over (read_root nodes) (fold (reaching nodes)) [] 4 here in
    let s0 = roots_begin nodes c.new-reached.result here c.new-reached.ensures in
    let s1 = roots_go_on nodes ([]) c.new-reached.result 3 here total s0 c.in_ok-eavt.eavt.items c.get_root.new.reached
    (drop c.in_ok-eavt.behind_eavt bytes) c.in_ok-eavt.ensures.gives.1 c.in_ok-eavt.ensures.reached in
    rw (exit.1, exit.2) (roots_stop nodes ([] ++ c.in_ok-eavt.eavt.items ∷ []) c.get_root.new.reached 2
    (drop c.in_ok-eavt.behind_eavt bytes) total s1 bytes _ c.in_err-aevt.ensures.gives)

pub returns-in_err-avet : goal.returns-in_err-avet
returns-in_err-avet c =
    let exit = err_from_is_err_and c.from_residual-in_err-avet.result c.from_residual-in_err-avet.ensures.1 in
    let nodes = c.args.nodes.now in
    let bytes = c.args.bytes.now in
    let here = drop c.args.at bytes in
    let total = several_over (read_root nodes) (fold (reaching nodes)) [] 4 here in
    let s0 = roots_begin nodes c.new-reached.result here c.new-reached.ensures in
    let s1 = roots_go_on nodes ([]) c.new-reached.result 3 here total s0 c.in_ok-eavt.eavt.items c.get_root.new.reached
    (drop c.in_ok-eavt.behind_eavt bytes) c.in_ok-eavt.ensures.gives.1 c.in_ok-eavt.ensures.reached in
    let s2 = roots_go_on nodes ([] ++ c.in_ok-eavt.eavt.items ∷ []) c.get_root.new.reached 2
    (drop c.in_ok-eavt.behind_eavt bytes) total s1 c.in_ok-aevt.aevt.items c.get_root-2.new.reached
    (drop c.in_ok-aevt.behind_aevt bytes) c.in_ok-aevt.ensures.gives.1 c.in_ok-aevt.ensures.reached in
    rw (exit.1, exit.2) (roots_stop nodes ([] ++ c.in_ok-eavt.eavt.items ∷ [] ++ c.in_ok-aevt.aevt.items ∷ []) c.get_root-2.new.reached 1
    (drop c.in_ok-aevt.behind_aevt bytes) total s2 bytes _ c.in_err-avet.ensures.gives)

pub returns-in_err-vaet : goal.returns-in_err-vaet
returns-in_err-vaet c =
    let exit = err_from_is_err_and c.from_residual-in_err-vaet.result c.from_residual-in_err-vaet.ensures.1 in
    let nodes = c.args.nodes.now in
    let bytes = c.args.bytes.now in
    let here = drop c.args.at bytes in
    let total = several_over (read_root nodes) (fold (reaching nodes)) [] 4 here in
    let s0 = roots_begin nodes c.new-reached.result here c.new-reached.ensures in
    let s1 = roots_go_on nodes ([]) c.new-reached.result 3 here total s0 c.in_ok-eavt.eavt.items c.get_root.new.reached
    (drop c.in_ok-eavt.behind_eavt bytes) c.in_ok-eavt.ensures.gives.1 c.in_ok-eavt.ensures.reached in
    let s2 = roots_go_on nodes ([] ++ c.in_ok-eavt.eavt.items ∷ []) c.get_root.new.reached 2
    (drop c.in_ok-eavt.behind_eavt bytes) total s1 c.in_ok-aevt.aevt.items c.get_root-2.new.reached
    (drop c.in_ok-aevt.behind_aevt bytes) c.in_ok-aevt.ensures.gives.1 c.in_ok-aevt.ensures.reached in
    let s3 = roots_go_on nodes ([] ++ c.in_ok-eavt.eavt.items ∷ [] ++ c.in_ok-aevt.aevt.items ∷ []) c.get_root-2.new.reached 1
    (drop c.in_ok-aevt.behind_aevt bytes) total s2 c.in_ok-avet.avet.items c.get_root-3.new.reached
    (drop c.in_ok-avet.behind_avet bytes) c.in_ok-avet.ensures.gives.1 c.in_ok-avet.ensures.reached in
    rw (exit.1, exit.2) (roots_stop nodes
    ([] ++ c.in_ok-eavt.eavt.items ∷ [] ++ c.in_ok-aevt.aevt.items ∷ [] ++ c.in_ok-avet.avet.items ∷ []) c.get_root-3.new.reached 0
    (drop c.in_ok-avet.behind_avet bytes) total s3 bytes _ c.in_err-vaet.ensures.gives)

pub returns : goal.returns
returns c =
    let nodes = c.args.nodes.now in
    let bytes = c.args.bytes.now in
    let here = drop c.args.at bytes in
    let total = several_over (read_root nodes) (fold (reaching nodes)) [] 4 here in
    let s0 = roots_begin nodes c.new-reached.result here c.new-reached.ensures in
    let s1 = roots_go_on nodes ([]) c.new-reached.result 3 here total s0 c.in_ok-eavt.eavt.items c.get_root.new.reached
    (drop c.in_ok-eavt.behind_eavt bytes) c.in_ok-eavt.ensures.gives.1 c.in_ok-eavt.ensures.reached in
    let s2 = roots_go_on nodes ([] ++ c.in_ok-eavt.eavt.items ∷ []) c.get_root.new.reached 2
    (drop c.in_ok-eavt.behind_eavt bytes) total s1 c.in_ok-aevt.aevt.items c.get_root-2.new.reached
    (drop c.in_ok-aevt.behind_aevt bytes) c.in_ok-aevt.ensures.gives.1 c.in_ok-aevt.ensures.reached in
    let s3 = roots_go_on nodes ([] ++ c.in_ok-eavt.eavt.items ∷ [] ++ c.in_ok-aevt.aevt.items ∷ []) c.get_root-2.new.reached 1
    (drop c.in_ok-aevt.behind_aevt bytes) total s2 c.in_ok-avet.avet.items c.get_root-3.new.reached
    (drop c.in_ok-avet.behind_avet bytes) c.in_ok-avet.ensures.gives.1 c.in_ok-avet.ensures.reached in
    let s4 = roots_go_on nodes
    ([] ++ c.in_ok-eavt.eavt.items ∷ [] ++ c.in_ok-aevt.aevt.items ∷ [] ++ c.in_ok-avet.avet.items ∷ []) c.get_root-3.new.reached 0
    (drop c.in_ok-avet.behind_avet bytes) total s3 c.in_ok-vaet.vaet.items c.get_root-4.new.reached
    (drop c.in_ok-vaet.end bytes) c.in_ok-vaet.ensures.gives.1 c.in_ok-vaet.ensures.reached in (
      c.in_ok-vaet.ensures.gives.0,
      roots_done nodes
          ([] ++ c.in_ok-eavt.eavt.items ∷ [] ++ c.in_ok-aevt.aevt.items ∷ [] ++ c.in_ok-avet.avet.items ∷ [] ++ c.in_ok-vaet.vaet.items ∷
          []) c.get_root-4.new.reached (drop c.in_ok-vaet.end bytes) total s4,
    )
