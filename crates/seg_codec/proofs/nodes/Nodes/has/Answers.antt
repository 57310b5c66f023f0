use Rattle.std.proofs.Common.{◌||◌, map, sym, ap, ◌∙◌}
use Rattle.std.specs.Arc.{arc_value}
use Rattle.std.proofs.lemmas.Bool.{or_left}
use Rattle.log_model.specs.Nodes.{Nodes, ids_in, is_among}
use Rattle.seg_codec.proofs.InNodes.{ids_among}
use Rattle.seg_codec.proofs.nodes.Nodes.has.Goals as goal

pub returns-then-contains : goal.returns-then-contains
returns-then-contains c =
    let n = c.self.inside in
    c.if-contains.true
    ∙ sym (ap (λ (nodes : Nodes). is_among (ids_in nodes) c.args.id) (sym c.self.view_is)
    ∙ ids_among (map arc_value n.leaves.items) (map arc_value n.directories.items) n.leaf_ids n.directory_ids c.self.invariant c.args.id
    ∙ or_left _ _ (sym c.contains.ensures ∙ c.if-contains.true))

pub returns-else-contains : goal.returns-else-contains
returns-else-contains c =
    let n = c.self.inside in
    c.contains-else-contains.ensures
    ∙ ap (λ b. b || is_among n.directory_ids c.args.id) (sym c.if-contains.false ∙ c.contains.ensures)
    ∙ sym (ids_among (map arc_value n.leaves.items)
    (map arc_value n.directories.items) n.leaf_ids n.directory_ids c.self.invariant c.args.id)
    ∙ ap (λ (nodes : Nodes). is_among (ids_in nodes) c.args.id) c.self.view_is
