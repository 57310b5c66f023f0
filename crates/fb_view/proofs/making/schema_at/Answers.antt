use Rattle.std.proofs.Common.{subst, sym, take}
use Rattle.fb_schema.specs.Described.{SchemaStands}
use Rattle.fb_view.proofs.Lists.{take-next}
use Rattle.fb_view.proofs.making.schema_at.Goals as goal

pub loop-t-preserved : goal.loop-t-preserved
loop-t-preserved c =
    subst (SchemaStands c.in_ok-schema-2.schema)
    (sym (take-next c.args.entries.now c.loop-t.t c.at-in-loop-t.result.now c.at-in-loop-t.ensures))
    (c.in_ok-schema-2.ensures (take c.loop-t.t c.args.entries.now) c.loop-t.invariant)
