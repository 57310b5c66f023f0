use Rattle.std.proofs.Common.{take}
use Rattle.fb_schema.specs.Described.{SchemaStands}
use Rattle.seg_agree.proofs.agreeing.schema_at.Given as goal

abbrev pub invariant-loop-t : goal.invariant-loop-t
invariant-loop-t l = SchemaStands l.schema (take l.t l.entries)
