use Rattle.std.proofs.Common.{◌&&◌, ◌∙◌, ap, sym}
use Rattle.fb_model.specs.Laws.{are_installed, has_installed_attributes}
use Rattle.tx_laws.proofs.Wholeness.{installed-same}
use Rattle.tx_laws.proofs.laws.are_known.Goals as goal

pub returns-then-are_known : goal.returns-then-are_known
returns-then-are_known c = λ h is stands.
    let entry = c.args.entry.now in
    c.are_installed.ensures
    ∙ ap (are_installed c.args.schema.now) c.as_slice.ensures
    ∙ installed-same c.args.schema.now h stands entry.datoms
    ∙ sym (ap (λ b. b && has_installed_attributes h entry) (sym (c.in_ok-are_known.ensures h is) ∙ c.if-are_known.true))

pub returns-else-are_known : goal.returns-else-are_known
returns-else-are_known c = λ h is stands.
    c.if-are_known.false
    ∙ sym (ap (λ b. b && has_installed_attributes h c.args.entry.now) (sym (c.in_ok-are_known.ensures h is) ∙ c.if-are_known.false))
