use Rattle.std.proofs.Common.{◌≡◌, true, false, ◌||◌, ap, sym, ◌∙◌, subst, refl}
use Rattle.std.specs.Prelude.{Some, is_none, MatchOption}
use Rattle.std.specs.Option.{option_map_or}
use Rattle.fb_model.specs.Schema.{attribute_named}
use Rattle.fb_schema.specs.Parts.{model_attribute}
use Rattle.tx_model.specs.Asks.{compares}
use Rattle.tx_model.specs.NameRules.{is_wrong_part, is_wrong_old_part, has_wrong_part}
use Rattle.std.proofs.lemmas.Result.{IfOk-weaker}
use Rattle.tx_asks.specs.declared.asks.Ask.TheVariants as ask
use Rattle.tx_asks.specs.declared.asks.Comparison.{Comparison}
use Rattle.tx_asks.specs.Asks.{IsTypedPart, IsTypedOldPart}
use Rattle.tx_expand.specs.declared.settle.Settled.TheVariants.{Stands}
use Rattle.tx_expand.specs.View.{word_of, model_name, model_part}
use Rattle.tx_expand.specs.Known.{IsLookedUp}
use Rattle.tx_expand.specs.Faults.{part_read, old_part_read, Settles}
use Rattle.tx_expand.proofs.settle.settle_comparison.Goals as goal

pub returns-in-Some-2 : goal.returns-in-Some-2
returns-in-Some-2 c = λ all.
    let facts = c.args._schema.now in
    let a = model_attribute c.in-Known.attribute.now in
    let k = c.in-Known.attribute.now.ident in
    let on = model_name all c.args.on in
    let o = model_part all c.args.old in
    let p = model_part all c.args.new in
    let known : attribute_named facts k ≡ Some a = subst (IsLookedUp facts) c.in-Known.is c.requires in
    let before =
    subst (λ r. MatchOption r (is_wrong_old_part a o ≡ true)
    (λ r. (is_wrong_old_part a o ≡ false) × (old_part_read all r ≡ o) × IsTypedOldPart c.in-Known.attribute.now r)) c.in-Some.is
    (c.in_ok-old.ensures all) in
    let read =
    subst (λ r. MatchOption r (is_wrong_part a p ≡ true)
    (λ r. (is_wrong_part a p ≡ false) × (part_read all r ≡ p) × IsTypedPart c.in-Known.attribute.now r)) c.in-Some-2.is
    (c.in_ok-new.ensures all) in
    let of : Comparison =
    record { on = c.args.on; attribute = c.in-Known.attribute; old = c.in-Some.old; new = c.in-Some-2.new } in
    IfOk-weaker c.settled_comparison.result _ _
    (λ settled is. subst (Settles facts all (compares on (word_of c.args.attr.now) o p)) (sym is)
    (subst (λ attr. Settles facts all (compares on (word_of attr) o p) (Stands (ask.Compares of))) (sym c.in-Known.is) (
      refl,
      ap is_none known,
      ap (λ found. option_map_or (has_wrong_part (compares on k o p)) found false) known
          ∙ ap (λ b. b || is_wrong_part a p) before.0
          ∙ read.0,
      ap (λ x. compares on k x (part_read all c.in-Some-2.new)) before.1 ∙ ap (compares on k o) read.1,
      (known, before.2, read.2),
    ))) c.settled_comparison.ensures
