use Rattle.std.proofs.Common.{◌&&◌, ◌∙◌, ap, sym}
use Rattle.tx_laws.specs.Changes.{keeps_schema, keeps_names_and_instants}
use Rattle.tx_laws.proofs.attributes.keeps_attributes.Goals as goal

pub returns-then-keeps_schema : goal.returns-then-keeps_schema
returns-then-keeps_schema c =
    let entry = c.args.entry.now in
    let slice = c.as_slice-datoms.ensures in
    c.keeps_names_and_instants.ensures ∙ ap (keeps_names_and_instants entry) slice
    ∙ sym (ap (λ b. b && keeps_names_and_instants entry entry.datoms)
    (ap (keeps_schema c.args.schema.now c.args.altered.now) (sym slice) ∙ sym c.keeps_schema.ensures ∙ c.if-keeps_schema.true))

pub returns-else-keeps_schema : goal.returns-else-keeps_schema
returns-else-keeps_schema c =
    let entry = c.args.entry.now in
    let slice = c.as_slice-datoms.ensures in
    c.if-keeps_schema.false
    ∙ sym (ap (λ b. b && keeps_names_and_instants entry entry.datoms)
    (ap (keeps_schema c.args.schema.now c.args.altered.now) (sym slice) ∙ sym c.keeps_schema.ensures ∙ c.if-keeps_schema.false))
