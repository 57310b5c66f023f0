use Rattle.std.proofs.Common.{◌≡◌, true, false, subst, sym}
use Rattle.std.specs.Prelude.{IfOk, MatchOption}
use Rattle.fb_schema.specs.Parts.{model_attribute}
use Rattle.tx_model.specs.NameRules.{is_wrong_old_part}
use Rattle.tx_asks.specs.Asks.{IsTypedOldPart}
use Rattle.tx_expand.specs.View.{model_part}
use Rattle.tx_expand.specs.Faults.{old_part_read}
use Rattle.tx_expand.proofs.settle.read_old.Goals as goal

pub returns-in-Plain : goal.returns-in-Plain
returns-in-Plain c = λ all.
    let a = model_attribute c.args.attribute.now in
    subst
    (λ part. IfOk c.read_old_form.result (λ read. MatchOption read (is_wrong_old_part a (model_part all part) ≡ true)
    (λ r. (is_wrong_old_part a (model_part all part) ≡ false) × (old_part_read all r ≡ model_part all part)
    × IsTypedOldPart c.args.attribute.now r)))
    (sym c.in-Plain.is) (c.read_old_form.ensures all)
