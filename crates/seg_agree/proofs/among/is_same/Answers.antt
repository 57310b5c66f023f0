use Rattle.std.proofs.Common.{◌∙◌, ap, sym}
use Rattle.std.specs.Cmp.{booleans_Decides}
use Rattle.std.specs.Ordering.{is_eq}
use Rattle.fb_values.specs.declared.indexes.Order.TheVariants.{Eavt}
use Rattle.seg_agree.proofs.Searching.{one_key, tied}
use Rattle.seg_agree.proofs.among.is_same.Goals as goal

pub returns-then-x-y : goal.returns-then-x-y
returns-then-x-y c = (
  (λ is. one_key c.args.x.now c.args.y.now
      ((booleans_Decides c.args.x.now.added c.args.y.now.added).0 c.if-x-y.true) (sym c.have_one_key.ensures ∙ is)),
  (λ same. c.have_one_key.ensures ∙ ap is_eq (tied Eavt c.args.x.now c.args.y.now same)),
)
