-- Which of a file's roots a history is opened with.
-- This project's own choice.
use Rattle.std.specs.Prelude.{List, map, Contains, Option, Some, None}
use Rattle.fb_values.specs.declared.facts.Entry.{Entry}
use Rattle.log_model.specs.Kept.{NoneAgrees, IsNewestAgreeing}
use Rattle.seg_store.specs.Loads.{kept_of}
use Rattle.seg_store.specs.declared.loads.KeptTrees.{KeptTrees}

-- these are of the kept trees, and the newest root that the history agrees with, or it agrees with
-- none
abbrev pub IsNewest : List Entry → List KeptTrees → Option KeptTrees → Type 0
IsNewest h kept None = NoneAgrees h (map kept_of kept)
IsNewest h kept (Some trees) =
    Contains kept trees × IsNewestAgreeing h (map kept_of kept) (kept_of trees)
