use Rattle.std.proofs.Common.{◌∙◌, ap, sym}
use Rattle.std.specs.Prelude.{is_some}
use Rattle.fb_covers.proofs.Keys.{held-get, copied-some}
use Rattle.fb_covers.proofs.contains.Goals as goal

pub returns : goal.returns
returns c = c.is_some.ensures ∙ copied-some c.get.result ∙ ap is_some c.get.ensures ∙ sym (held-get c.args.set.now c.args.attribute)
