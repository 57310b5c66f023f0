use Rattle.std.proofs.Common.{◌≡◌, ◌++◌, drop}
use Rattle.fb_values.specs.declared.indexes.Order.TheVariants.{Avet}
use Rattle.fb_schema.specs.Change.{is_gained, described_where}
use Rattle.fb_schema.proofs.schema.Schema.gained.Given as goal

abbrev pub invariant-loop-d : goal.invariant-loop-d
invariant-loop-d l =
    l.gained.items ++ described_where (is_gained Avet l.self l.after) (drop l.d-index l.entry.datoms)
    ≡ described_where (is_gained Avet l.self l.after) l.entry.datoms
