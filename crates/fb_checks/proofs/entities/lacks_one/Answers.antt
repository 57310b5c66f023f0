use Rattle.std.proofs.Common.{◌≡◌, ◌∙◌, ◌&&◌, not, ap}
use Rattle.std.specs.List.{list_any}
use Rattle.std.proofs.lemmas.Result.{IfOk-weaker}
use Rattle.fb_values.specs.declared.facts.Datom.{Datom}
use Rattle.tx_after.specs.After.{after}
use Rattle.fb_checks.specs.Checks.{has, id_of}
use Rattle.fb_checks.proofs.entities.lacks_one.Goals as goal

pub returns : goal.returns
returns c =
    let held = after c.args.before.now.entries c.args.changes.now in
    let schema = c.args.before.now.schema in
    let need = c.args.need.now in
    let marker : c.id_of.result ≡ id_of schema need.marker = c.id_of.ensures ∙ ap (λ s. id_of s need.marker) c.schema.ensures.schema in
    let needed : c.id_of-2.result ≡ id_of schema need.needed =
    c.id_of-2.ensures ∙ ap (λ s. id_of s need.needed) c.schema-2.ensures.schema in
    IfOk-weaker c.lacks_asked.result _ _
    (λ b is. is
    ∙ ap (λ m. list_any (λ (d : Datom). has held d.e m && not (has held d.e c.id_of-2.result)) c.args.changes.now) marker
    ∙ ap (λ n. list_any (λ (d : Datom). has held d.e (id_of schema need.marker) && not (has held d.e n)) c.args.changes.now) needed)
    c.lacks_asked.ensures
