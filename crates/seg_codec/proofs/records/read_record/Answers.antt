use Rattle.std.proofs.lemmas.Result.{err_from_is_err_and}
use Rattle.seg_codec.proofs.RecordFields.{bad_format, bad_c, bad_leaves, bad_directories, bad_roots, merged, grown_none, grown_leaves}
use Rattle.seg_codec.proofs.RecordFields.{grown_both}
use Rattle.seg_codec.proofs.records.read_record.Goals as goal

pub returns-in_err-format : goal.returns-in_err-format
returns-in_err-format c =
    let exit = err_from_is_err_and c.from_residual.result c.from_residual.ensures.1 in
    rw (exit.1, exit.2) (grown_none c.args.nodes.now, bad_format c.args.wanted.now c.args.nodes.now c.args.payload.now _ c.in_err-format.ensures.gives)

pub returns-in_err-c : goal.returns-in_err-c
returns-in_err-c c =
    let exit = err_from_is_err_and c.from_residual-in_err-c.result c.from_residual-in_err-c.ensures.1 in
    rw (exit.1, exit.2) (
      grown_none c.args.nodes.now,
      bad_c c.args.wanted.now c.args.nodes.now c.args.payload.now c.in_ok-format.format c.in_ok-format.behind_format
          c.in_ok-format.ensures.gives.1 _ c.in_err-c.ensures,
    )

pub returns-in_err-behind_leaves : goal.returns-in_err-behind_leaves
returns-in_err-behind_leaves c =
    let exit = err_from_is_err_and c.from_residual-in_err-behind_leaves.result c.from_residual-in_err-behind_leaves.ensures.1 in
    let said = c.in_err-behind_leaves.ensures in
    rw (exit.1, exit.2) (
      grown_leaves c.args.wanted.now c.args.nodes.now c.get_leaves.new.nodes said.0.0 said.0.1,
      bad_leaves c.args.wanted.now c.args.nodes.now c.args.payload.now c.in_ok-format.format c.in_ok-format.behind_format c.in_ok-format.ensures.gives.1
          c.in_ok-c.c c.in_ok-c.behind_c c.in_ok-c.ensures.1 _ said.1,
    )

pub returns-in_err-behind_directories : goal.returns-in_err-behind_directories
returns-in_err-behind_directories c =
    let exit = err_from_is_err_and c.from_residual-in_err-behind_directories.result c.from_residual-in_err-behind_directories.ensures.1 in
    let leaves = c.in_ok-behind_leaves.ensures in
    let mid = c.get_leaves.new.nodes in
    let said = c.in_err-behind_directories.ensures in
    rw (exit.1, exit.2) (
      grown_both c.args.wanted.now c.args.nodes.now mid c.get_directories.new.nodes leaves.0 said.0.0 leaves.1 said.0.1,
      bad_directories c.args.wanted.now c.args.nodes.now c.args.payload.now c.in_ok-format.format c.in_ok-format.behind_format
          c.in_ok-format.ensures.gives.1 c.in_ok-c.c c.in_ok-c.behind_c c.in_ok-c.ensures.1
          leaves.0 c.in_ok-behind_leaves.behind_leaves leaves.2.1 mid leaves.1 _ said.1,
    )

pub returns-in_err-roots : goal.returns-in_err-roots
returns-in_err-roots c =
    let exit = err_from_is_err_and c.from_residual-in_err-roots.result c.from_residual-in_err-roots.ensures.1 in
    let leaves = c.in_ok-behind_leaves.ensures in
    let directories = c.in_ok-behind_directories.ensures in
    let mid = c.get_leaves.new.nodes in
    let new = c.get_directories.new.nodes in
    rw (exit.1, exit.2) (
      grown_both c.args.wanted.now c.args.nodes.now mid new leaves.0 directories.0 leaves.1 directories.1,
      bad_roots c.args.wanted.now c.args.nodes.now c.args.payload.now c.in_ok-format.format c.in_ok-format.behind_format c.in_ok-format.ensures.gives.1
          c.in_ok-c.c c.in_ok-c.behind_c c.in_ok-c.ensures.1
          leaves.0 c.in_ok-behind_leaves.behind_leaves leaves.2.1 mid leaves.1 directories.0 c.in_ok-behind_directories.behind_directories
          directories.2.1 new directories.1 _ c.in_err-roots.ensures,
    )

pub returns : goal.returns
returns c =
    let leaves = c.in_ok-behind_leaves.ensures in
    let directories = c.in_ok-behind_directories.ensures in
    let mid = c.get_leaves.new.nodes in
    let new = c.get_directories.new.nodes in
    let roots = c.in_ok-roots.ensures in
    merged c.args.wanted.now c.args.nodes.now c.args.payload.now c.in_ok-format.format c.in_ok-format.behind_format c.in_ok-format.ensures.gives.1
    c.in_ok-c.c c.in_ok-c.behind_c c.in_ok-c.ensures.1
    leaves.0 c.in_ok-behind_leaves.behind_leaves leaves.2.1 mid leaves.1 directories.0 c.in_ok-behind_directories.behind_directories
    directories.2.1 new directories.1
    roots.0 c.in_ok-roots.roots roots.1 roots.2
