use Rattle.std.proofs.Common.{List, drop, sym, ap, ◌∙◌}
use Rattle.std.proofs.lemmas.Result.{err_from_is_err_and}
use Rattle.fb_values.specs.declared.facts.Datom.{Datom}
use Rattle.log_model.specs.Fields.{found, and_then, mapped}
use Rattle.log_model.specs.Nodes.{Leaf, Nodes, is_node_length}
use Rattle.log_model.specs.Merges.{several_over, read_list, read_dated, read_leaf}
use Rattle.seg_codec.specs.Trees.{file_leaf}
use Rattle.seg_codec.proofs.SeveralOver.{same_misses, mapped_misses}
use Rattle.seg_codec.proofs.leaves.get_leaf.Goals as goal

pub returns-in_err-datoms-clause-gives : goal.returns-in_err-datoms-clause-gives
returns-in_err-datoms-clause-gives c =
    let nodes = c.args.nodes.now in
    let bytes = c.args.bytes.now in
    let made : List Datom → Leaf = λ datoms. record { id = c.in_ok-id.id; datoms = datoms } in
    let exit = err_from_is_err_and c.from_residual-in_err-datoms.result c.from_residual-in_err-datoms.ensures.1 in
    let chain =
    ap (λ r. and_then r (λ id rest. mapped (λ datoms. record { id = id; datoms = datoms }) (read_list is_node_length (λ
    (_ : Nodes) behind. read_dated c.args.format behind) (λ s _. s) nodes rest))) c.in_ok-id.ensures.gives.1
    ∙ ap (λ r. mapped made (and_then r (several_over (λ (_ : Nodes) behind. read_dated c.args.format behind)
    (λ s _. s) nodes))) c.in_ok-count.ensures.gives.1 in
    rw (exit.1, exit.2) (same_misses bytes _ (read_leaf c.args.format nodes (drop c.args.at bytes)) _ chain (mapped_misses made bytes _ _
    (c.in_err-datoms.ensures.gives nodes)))

pub returns-clause-gives : goal.returns-clause-gives
returns-clause-gives c =
    let nodes = c.args.nodes.now in
    let made : List Datom → Leaf = λ datoms. record { id = c.in_ok-id.id; datoms = datoms } in
    let datoms = c.in_ok-datoms.ensures.gives nodes in (
      datoms.0,
      ap (λ r. and_then r (λ id rest. mapped (λ ds. record { id = id; datoms = ds }) (read_list is_node_length (λ
          (_ : Nodes) behind. read_dated c.args.format behind) (λ s _. s) nodes rest))) c.in_ok-id.ensures.gives.1
          ∙ ap (λ r. mapped made (and_then r (several_over (λ (_ : Nodes) behind. read_dated c.args.format behind)
          (λ s _. s) nodes))) c.in_ok-count.ensures.gives.1
          ∙ ap (mapped made) datoms.1
          ∙ ap (λ leaf. found (file_leaf leaf) (drop c.in_ok-datoms.end c.args.bytes.now)) (sym c.of.ensures),
    )
