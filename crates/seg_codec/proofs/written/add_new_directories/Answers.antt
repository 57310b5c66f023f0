use Rattle.std.proofs.Common.{◌++◌, not, map, sym, ap, ◌∙◌}
use Rattle.std.specs.Prelude.{filter}
use Rattle.std.specs.Arc.{arc_value}
use Rattle.std.proofs.lemmas.List.{append-nil, take_all}
use Rattle.log_model.specs.Nodes.{is_among}
use Rattle.seg_tree.specs.Nodes.{DirectoryNode}
use Rattle.seg_codec.proofs.Rows.{kept_more}
use Rattle.seg_codec.proofs.written.add_new_directories.Goals as goal

pub loop-directory-init : goal.loop-directory-init
loop-directory-init c = sym (append-nil (map arc_value c.args.new.now.items))

pub loop-directory-preserved : goal.loop-directory-preserved
loop-directory-preserved c =
    kept_more (λ (d : DirectoryNode). not
    (is_among c.args.in_file.now d.id)) arc_value c.directories-directory-items.result.now c.loop-directory.directory-index
    c.directory-item.result (map arc_value c.args.new.now.items)
    (map arc_value c.loop-directory.new.items)
    (map arc_value c.add_new_directory.new.new.items) c.loop-directory-test.true c.directory-item.is c.loop-directory.invariant
    c.in_ok-add_new_directory.ensures

pub returns : goal.returns
returns c =
    let old = map arc_value c.args.new.now.items in
    c.loop-directory.invariant
    ∙ ap (λ ds. old ++ filter (λ (d : DirectoryNode). not (is_among c.args.in_file.now d.id)) ds)
    (ap (map arc_value) (take_all c.loop-directory.directory-index c.directories-directory-items.result.now c.loop-directory-test.false)
    ∙ c.directories-directory-items.ensures)
