use Rattle.std.proofs.Common.{◌∙◌}
use Rattle.tx_after.specs.After.{after}
use Rattle.tx_after.specs.Promises.{gives_one_value, gives_one_holder}
use Rattle.tx_laws.proofs.Altering.{one_stands, unique_stands, one_from, unique_from, made-same, keeps-same}
use Rattle.tx_laws.proofs.altered.look_at.Goals as goal

pub returns : goal.returns
returns g c =
    let h = g.F.Facts.history c.args.facts.now in
    let e = c.args.e in
    let schema = c.args.schema.now in
    let now = after h c.args.datoms.now in
    let one = c.is_one_value-one.ensures ∙ one_from _ now e c.in_ok-found.ensures.attribute in
    let unique = c.has_one_holder-unique.ensures ∙ unique_from _ now e c.in_ok-found.ensures.attribute in
    made-same _ _ _ _ _ _ _ _ _ _ one unique c.in_ok-found.ensures.whole
    (c.in_ok-keeps_values.ensures
    ∙ keeps-same _ _ (gives_one_value now e) _ _ (c.is_one.ensures ∙ one_stands schema h e c.requires.stands) one)
    (c.in_ok-keeps_holders.ensures
    ∙ keeps-same _ _ (gives_one_holder now e) _ _ (c.is_unique.ensures ∙ unique_stands schema h e c.requires.stands) unique)
