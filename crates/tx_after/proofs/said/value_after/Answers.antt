use Rattle.std.proofs.Common.{◌∙◌, not, ap}
use Rattle.std.specs.Prelude.{filter}
use Rattle.std.specs.List.{find, list_any}
use Rattle.std.specs.Option.{option_copied}
use Rattle.fb_values.specs.declared.indexes.Order.TheVariants.{Eavt}
use Rattle.fb_model.specs.Facts.{is_of, value_of}
use Rattle.tx_after.specs.Triples.{is_added}
use Rattle.tx_after.proofs.Results.{IfOk-map, copied-or}
use Rattle.tx_after.proofs.Orders.{apart_at_t}
use Rattle.tx_after.proofs.WithChanges.{apart-from_triples}
use Rattle.tx_after.proofs.Describing.{value_after}
use Rattle.tx_after.proofs.said.value_after.Goals as goal

pub returns : goal.returns
returns g c =
    let h = g.F.Facts.history c.args.facts.now in
    let changes = c.args.changes.now in
    let e = c.args.e in
    let a = c.args.a in
    let r = c.requires.changes in
    let apart = apart-from_triples Eavt changes (apart_at_t Eavt r.t changes r.rising r.of_t) in
    let old = c.first_untold-stays.result in
    let new = c.first_added.result in
    let is =
    value_after h changes e c.requires.lawful apart a c.requires.one (option_copied old) (option_copied new)
    (c.first_untold-stays.ensures
    ∙ ap (find (λ v. not (list_any (is_of e a v) changes))) (c.deref.ensures.value ∙ c.in_ok-before.ensures))
    (c.first_added.ensures ∙ ap (λ ds. value_of (filter is_added ds) e a) c.part_of.ensures) in
    IfOk-map _ _ (λ copy same. same ∙ ap option_copied c.or.ensures ∙ copied-or old new ∙ is) c.copied.result c.copied.ensures
