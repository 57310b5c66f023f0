use Rattle.std.proofs.Common.{not, map, ap}
use Rattle.std.specs.Arc.{arc_value}
use Rattle.log_model.specs.Nodes.{is_among}
use Rattle.seg_tree.specs.Nodes.{DirectoryNode}
use Rattle.seg_codec.proofs.Rows.{kept_four}
use Rattle.seg_codec.proofs.written.new_directories.Goals as goal

pub returns : goal.returns
returns c =
    let roots = c.args.roots.now in
    kept_four (λ (d : DirectoryNode). not (is_among c.args.in_file.now d.id)) roots.eavt roots.aevt roots.avet roots.vaet
    (map arc_value c.new-new.result.items) (map arc_value c.add_new_directories.new.new.items)
    (map arc_value c.add_new_directories-2.new.new.items) (map arc_value c.add_new_directories-3.new.new.items)
    (map arc_value c.add_new_directories-4.new.new.items)
    (ap (map arc_value) c.new-new.ensures.items) c.in_ok-add_new_directories.ensures c.in_ok-add_new_directories-2.ensures
    c.in_ok-add_new_directories-3.ensures c.in_ok-add_new_directories-4.ensures
