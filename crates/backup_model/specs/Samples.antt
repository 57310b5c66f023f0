-- Files of segments for the examples: of one record, of more, and of nodes that no root reaches.
-- This project's own choice.
use Rattle.std.specs.Prelude.{ℕ, List, [], ◌∷◌, ◌++◌}
use Rattle.disk_model.specs.Journal.{segments_mark, opened}
use Rattle.log_model.specs.Payload.{written_format}
use Rattle.log_model.specs.Nodes.{no_nodes, Roots, MergeRecord, record_bytes_in}
use Rattle.log_model.specs.Kept.{KeptRoot, with_nodes, kept_root}
use Rattle.log_model.specs.Samples.{leaf_merge}

-- the file of these records
abbrev pub file_of : List (List ℕ) → List ℕ
file_of records = segments_mark ++ opened records ++ 0 ∷ []

-- the tree of one leaf and one directory, and its ids
abbrev pub leaf_root : KeptRoot
leaf_root = kept_root (with_nodes no_nodes leaf_merge) leaf_merge

abbrev pub leaf_ids : Roots
leaf_ids = leaf_merge.roots

-- the leaf and the directory, and four trees without nodes
abbrev pub no_ids : Roots
no_ids = record { eavt = []; aevt = []; avet = []; vaet = [] }

abbrev pub rootless_merge : MergeRecord
rootless_merge =
    record {
      c = 1;
      leaves = leaf_merge.leaves;
      directories = leaf_merge.directories;
      roots = no_ids;
    }

abbrev pub rootless_record : List ℕ
rootless_record = record_bytes_in written_format rootless_merge
