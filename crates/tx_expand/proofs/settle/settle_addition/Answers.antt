use Rattle.std.proofs.Common.{◌≡◌, true, false, ◌||◌, ap, sym, ◌∙◌, subst, refl}
use Rattle.std.specs.Prelude.{Some, is_none, MatchOption}
use Rattle.std.specs.Option.{option_map_or}
use Rattle.fb_model.specs.Schema.{attribute_named}
use Rattle.fb_schema.specs.Parts.{model_attribute}
use Rattle.tx_model.specs.Asks.{adds}
use Rattle.tx_model.specs.NameRules.{is_wrong_part, has_wrong_part}
use Rattle.tx_asks.specs.declared.asks.Ask.TheVariants as ask
use Rattle.tx_asks.specs.Asks.{IsTypedPart}
use Rattle.tx_expand.specs.declared.settle.Settled.TheVariants.{Stands}
use Rattle.tx_expand.specs.View.{word_of, model_name, model_part}
use Rattle.tx_expand.specs.Known.{IsLookedUp}
use Rattle.tx_expand.specs.Faults.{part_read, Settles}
use Rattle.tx_expand.proofs.settle.settle_addition.Goals as goal

pub returns-in-Some : goal.returns-in-Some
returns-in-Some c = λ all.
    let facts = c.args._schema.now in
    let a = model_attribute c.in-Known.attribute.now in
    let k = c.in-Known.attribute.now.ident in
    let on = model_name all c.args.on in
    let p = model_part all c.args.part in
    let known : attribute_named facts k ≡ Some a = subst (IsLookedUp facts) c.in-Known.is c.requires in
    let read =
    subst (λ o. MatchOption o (is_wrong_part a p ≡ true)
    (λ r. (is_wrong_part a p ≡ false) × (part_read all r ≡ p) × IsTypedPart c.in-Known.attribute.now r)) c.in-Some.is
    (c.in_ok-part.ensures all) in
    subst (λ attr. Settles facts all (adds on (word_of attr) p) (Stands (ask.Adds c.args.on c.in-Known.attribute c.in-Some.part)))
    (sym c.in-Known.is) (
      refl,
      ap is_none known,
      ap (λ o. option_map_or (has_wrong_part (adds on k p)) o false) known ∙ ap (λ b. b || false) read.0,
      ap (adds on k) read.1,
      (known, read.2),
    )
