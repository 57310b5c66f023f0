use Rattle.std.proofs.Common.{arith}
use Rattle.fb_model.proofs.LawfulHistories.{IsLawful-length}
use Rattle.fb_view.proofs.snapshot.Snapshot.opened.Goals as goal

pub schema_at-requires : goal.schema_at-requires
schema_at-requires c =
    let counted = IsLawful-length c.args.entries c.requires.lawful in let bound = c.requires.roots.bound in omega (arith, counted, bound)
