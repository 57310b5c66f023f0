use Rattle.std.proofs.Common.{sym, ap}
use Rattle.std.proofs.lemmas.Option.{get_or_from_slice_get}
use Rattle.fb_values.specs.declared.facts.Datom.{Datom}
use Rattle.live_runs.specs.Members.{nothing}
use Rattle.live_index.proofs.retracting.adds.Goals as goal

pub returns : goal.returns
returns c =
    ap (λ (d : Datom). d.added) (sym (get_or_from_slice_get c.args.table.now c.args.number c.at.result.now nothing c.at.ensures))
