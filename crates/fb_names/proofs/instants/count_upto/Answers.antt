use Rattle.std.proofs.Common.{◌∙◌, ap}
use Rattle.std.proofs.lemmas.Int.{to_z-of_z}
use Rattle.fb_names.specs.declared.instants.Early.TheVariants.{UpTo}
use Rattle.fb_names.specs.Early.{count_early}
use Rattle.fb_names.proofs.instants.count_upto.Goals as goal

pub returns : goal.returns
returns c =
    let fits = c.ranges.instant in
    let counted = simp to_z-of_z at c.count_early.ensures in
    counted ∙ ap (λ h. count_early h (UpTo c.args.instant)) c.entries.ensures.entries
