-- What calls answer that read a record into the nodes of a file, which change as they read.
-- This project's own choice.
use Rattle.std.specs.Prelude.{◌≡◌, ℕ, List, [], ◌++◌, fold, All, IsTrue, Result, Ok, Err, ⊤}
use Rattle.log_model.specs.Fields.{Reading, found}
use Rattle.log_model.specs.Nodes.{Leaf, Directory, Nodes, Roots, MergeRecord, in_order_of_indexes}
use Rattle.log_model.specs.Nodes.{is_directory_id, reaching}
use Rattle.log_model.specs.Merges.{MergeSays, merges, bad_from, all_over}
use Rattle.log_model.specs.Kept.{with_nodes}
use Rattle.fb_codec.specs.Answers.{Finds, Misses}
use Rattle.fb_codec.specs.declared.faults.BytesFault.{BytesFault}
use Rattle.fb_codec.specs.declared.faults.BytesFault.TheVariants.{At, Memory}
use Rattle.seg_tree.specs.declared.roots.Roots.{Roots as SegRoots}
use Rattle.seg_tree.specs.Nodes.{DirectoryNode}
use Rattle.seg_codec.specs.declared.roots.RootIds.{RootIds}
use Rattle.seg_codec.specs.Trees.{directory_ids, AreTreesOf}
use Rattle.seg_codec.specs.InFile.{IsDirectoryOf}
use Rattle.seg_codec.specs.declared.wanted.Wanted.{Wanted}
use Rattle.seg_codec.specs.Wanted.{held_merge}

-- one node was read and added, and the place after it is the answer; or none was
abbrev pub AddsOne : {A : Type 0} → (Nodes → A → Nodes) → List ℕ → Nodes → Nodes
    → Result ℕ BytesFault → Reading A → Type 0
AddsOne {A} after bytes old new (Ok end) reading =
    (a : A) × (new ≡ after old a) × Finds bytes a end reading
AddsOne {A} after bytes old new (Err fault) reading = (new ≡ old) × Misses bytes fault reading

-- nodes were read and added, and the place after them is the answer; or some of them, up to a fault
abbrev pub Adds : {A : Type 0} → (Nodes → A → Nodes) → List ℕ → Nodes → Nodes
    → Result ℕ BytesFault → Reading (List A) → Type 0
Adds {A} after bytes old new (Ok end) reading =
    (items : List A) × (new ≡ fold after old items) × Finds bytes items end reading
Adds {A} after bytes old new (Err fault) reading =
    ((items : List A) × (new ≡ fold after old items)) × Misses bytes fault reading

-- more nodes after the old ones
abbrev pub IsGrown : Nodes → Nodes → Type 0
IsGrown old new =
    (leaves : List Leaf)
    × (directories : List Directory)
    × (new ≡ record { leaves = old.leaves ++ leaves; directories = old.directories ++ directories })

abbrev pub ids_of : RootIds → Roots
ids_of ids =
    record {
      eavt = ids.eavt.items;
      aevt = ids.aevt.items;
      avet = ids.avet.items;
      vaet = ids.vaet.items;
    }

-- the roots name directories of the nodes, and no id is reached twice from them
abbrev pub HasRoots : Nodes → Roots → Type 0
HasRoots nodes ids =
    IsTrue
    (all_over (all_over (is_directory_id nodes) (reaching nodes)) (fold (reaching nodes)) []
    (in_order_of_indexes ids))

-- the directories that the nodes have under these ids
pub record AreFound (nodes : Nodes) (ids : List ℕ) (directories : List DirectoryNode)
    : Type 0 where
  pub ids_are : directory_ids directories ≡ ids
  pub each : All (λ directory. IsDirectoryOf nodes directory.id directory) directories

-- the trees of the roots, after which nothing comes
abbrev pub MatchesRoots : Nodes → List ℕ → Result SegRoots BytesFault → Reading Roots → Type 0
MatchesRoots nodes bytes (Ok trees) reading =
    (ids : Roots) × (reading ≡ found ids []) × AreTreesOf nodes ids trees
MatchesRoots nodes bytes (Err fault) reading = Misses bytes fault reading

-- the record's nodes were added as they are held, and the trees of its roots are the answer
pub record IsMerged (wanted : Wanted) (old new : Nodes) (says : MergeSays) (trees : SegRoots)
    (c : ℕ) : Type 0 where
  pub merge : MergeRecord
  pub said : says ≡ merges merge
  pub nodes : new ≡ with_nodes old (held_merge wanted merge)
  pub trees_are : AreTreesOf new merge.roots trees
  pub c_is : c ≡ merge.c

abbrev pub MatchesBad : BytesFault → MergeSays → Type 0
MatchesBad (At byte) says = says ≡ bad_from byte
MatchesBad Memory says = ⊤

-- what a record says, where nodes were added or some of them up to a fault
abbrev pub ReadsRecord : Wanted → Nodes → Nodes → Result (SegRoots × ℕ) BytesFault → MergeSays
    → Type 0
ReadsRecord wanted old new (Ok r) says = IsMerged wanted old new says r.0 r.1
ReadsRecord wanted old new (Err fault) says = IsGrown old new × MatchesBad fault says

-- what a record says; a bad one leaves the nodes as they were
abbrev pub Matches : Wanted → Nodes → Nodes → Result (SegRoots × ℕ) BytesFault → MergeSays
    → Type 0
Matches wanted old new (Ok r) says = IsMerged wanted old new says r.0 r.1
Matches wanted old new (Err fault) says = (new ≡ old) × MatchesBad fault says
