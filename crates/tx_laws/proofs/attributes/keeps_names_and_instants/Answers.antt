use Rattle.std.proofs.Common.{◌&&◌, ◌∙◌, ap, sym}
use Rattle.tx_laws.specs.Changes.{own_instant_alone}
use Rattle.tx_laws.proofs.attributes.keeps_names_and_instants.Goals as goal

pub returns-then-add_no_reserved_names : goal.returns-then-add_no_reserved_names
returns-then-add_no_reserved_names c =
    c.has_own_instant_alone.ensures
    ∙ sym (ap (λ b. b && own_instant_alone c.args.entry.now c.args.datoms.now)
    (sym c.add_no_reserved_names.ensures ∙ c.if-add_no_reserved_names.true))
