use Rattle.std.proofs.Common.{◌∙◌, ap, w64}
use Rattle.std.proofs.lemmas.Int.{to_z-of_z}
use Rattle.tx_rules.specs.Entries.{entry_at}
use Rattle.tx_rules.proofs.Promising.{IfOk-map}
use Rattle.tx_rules.proofs.Entering.{entry_at-of}
use Rattle.tx_rules.proofs.recording.entry.Goals as goal

pub returns : goal.returns
returns c = λ h tx db_is t_is changes_is.
    IfOk-map _ _ (λ entry same. same ∙ ap (λ z. entry_at c.args.t z c.args.changes.items) (to_z-of_z w64 c.args.instant c.ranges.instant)
    ∙ entry_at-of h tx c.args.t c.args.instant c.args.changes.items db_is t_is changes_is c.requires) c.entry_at.result c.entry_at.ensures
