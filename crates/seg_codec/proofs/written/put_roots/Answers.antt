use Rattle.std.proofs.lemmas.Result.{on_ok_weaker}
use Rattle.log_model.specs.Fields.{u64_bytes}
use Rattle.log_model.specs.Nodes.{list_bytes}
use Rattle.seg_codec.specs.Trees.{directory_ids}
use Rattle.seg_codec.proofs.Rows.{four_rows}
use Rattle.seg_codec.proofs.written.put_roots.Goals as goal

pub returns : goal.returns
returns c =
    let roots = c.args.roots.now in
    on_ok_weaker c.put_root-4.result
    (λ last. four_rows c.args.out.now.items (list_bytes u64_bytes (directory_ids roots.eavt))
    (list_bytes u64_bytes (directory_ids roots.aevt)) (list_bytes u64_bytes (directory_ids roots.avet))
    (list_bytes u64_bytes (directory_ids roots.vaet))
    c.put_root.new.out.items c.put_root-2.new.out.items c.put_root-3.new.out.items c.put_root-4.new.out.items c.in_ok-put_root.ensures
    c.in_ok-put_root-2.ensures c.in_ok-put_root-3.ensures last)
    c.put_root-4.ensures
