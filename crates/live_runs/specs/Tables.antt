-- A table of datoms: full blocks, which its versions share, and the last few datoms.
-- This project's own choice.
use Rattle.std.specs.Prelude.{◌^◌, ◌<◌, List, [], ◌++◌, length, Option, Some, None}
use Rattle.fb_chunks.specs.Chunks.{joined, IsLayer}
use Rattle.fb_values.specs.declared.facts.Datom.{Datom}
use Rattle.live_runs.specs.declared.table.TheConstants.{TOGETHER}

abbrev pub blocks_of : Option (List (List Datom)) → List (List Datom)
blocks_of None = []
blocks_of (Some blocks) = blocks

abbrev pub datoms_of : Option (List (List Datom)) → List Datom → List Datom
datoms_of full last = joined (blocks_of full) ++ last

-- numbers of 32 bits name the datoms
pub record IsTable (full : Option (List (List Datom))) (last : List Datom) : Type 0 where
  pub layer : IsLayer TOGETHER (blocks_of full) last (length (datoms_of full last))
  pub short : length last < TOGETHER
  pub few : length (datoms_of full last) < 2 ^ 32
