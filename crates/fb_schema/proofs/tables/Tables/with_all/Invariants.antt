use Rattle.std.proofs.Common.{◌≡◌, ◌++◌, take}
use Rattle.std.specs.Prelude.{filter}
use Rattle.fb_model.specs.Facts.{standing}
use Rattle.fb_schema.specs.Described.{describes}
use Rattle.fb_schema.proofs.tables.Tables.with_all.Given as goal

-- what stands after those so far
abbrev pub invariant-loop-d : goal.invariant-loop-d
invariant-loop-d l = l.tables ≡ standing (l.self ++ filter describes (take l.d-index l.datoms))
