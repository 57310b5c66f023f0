-- What is loaded where the store goes on behind the records that were read, and where its file starts anew.
use Rattle.std.proofs.Common.{inl, inr, ℕ, List, [], Option, refl}
use Rattle.std.proofs.lemmas.List.Elements.{All-weaker}
use Rattle.disk_model.specs.Disk.{IfKnown}
use Rattle.log_model.specs.Nodes.{Roots as FileRoots}
use Rattle.log_model.specs.Kept.{kept_roots, nodes_of}
use Rattle.seg_codec.specs.declared.wanted.Wanted.TheVariants.{Every}
use Rattle.seg_codec.specs.Trees.{AreTreesOf, Fits}
use Rattle.seg_codec.proofs.Among.{All-made}
use Rattle.seg_store.specs.declared.loads.KeptTrees.{KeptTrees}
use Rattle.seg_store.specs.declared.loads.Loaded.{Loaded}
use Rattle.seg_store.specs.Stores.{StoreKeeps}
use Rattle.seg_store.specs.Loads.{AreKept, AreRecordsOf, IsFaulty, IsLoaded}
use Rattle.seg_store.specs.Finding.{AreHeld}
use Rattle.seg_store.proofs.Fitting.{fits_there, fits_none}
use Rattle.seg_store.proofs.Holding.{every_root, every_there}

pub all_kept : (records : List (List ℕ)) (kept : List KeptTrees) → AreHeld Every (nodes_of records) (kept_roots records) kept
    → AreKept records kept
all_kept records kept are = record {
  roots = every_root (nodes_of records) (kept_roots records) kept are;
  there = every_there (nodes_of records) (kept_roots records) kept are;
}

module _ {D : Type 0} {g : _} (bytes : D → Option (List ℕ)) (images : D → List ℕ → Type 0) (told : Option (List ℕ))
    (read : List (List ℕ)) (loaded : Loaded D g) (file : IfKnown told (AreRecordsOf read)) (kept : AreKept read loaded.kept.items) where
  pub loaded_on : StoreKeeps bytes images read loaded.store → IsLoaded bytes images told loaded
  loaded_on store = record {
    read = read;
    file = file;
    kept = kept;
    records = read;
    goes_on = inl refl;
    store = store;
    fits = All-weaker (λ (k : KeptTrees). (ids : FileRoots) × AreTreesOf (nodes_of read) ids k.roots)
        (λ (k : KeptTrees). Fits (nodes_of read) k.roots) (λ k is. fits_there (nodes_of read) is.0 k.roots is.1) loaded.kept.items
        kept.there;
  }

  pub loaded_anew : IfKnown told (IsFaulty read) → StoreKeeps bytes images [] loaded.store → IsLoaded bytes images told loaded
  loaded_anew faulty store = record {
    read = read;
    file = file;
    kept = kept;
    records = [];
    goes_on = inr (refl, faulty);
    store = store;
    fits = All-made (λ (k : KeptTrees). Fits (nodes_of []) k.roots) loaded.kept.items (λ k member. fits_none k.roots);
  }
