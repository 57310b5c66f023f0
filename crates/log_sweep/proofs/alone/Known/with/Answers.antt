-- The entry keeps what is asked of it alone, and its history is known.
use Rattle.std.proofs.Common.{◌∙◌, ap, sym}
use Rattle.std.specs.List.{list_all}
use Rattle.log_sweep.specs.Alone.{describes_well}
use Rattle.log_sweep.proofs.Grouped.{well-same}
use Rattle.log_sweep.proofs.alone.Known.with.Goals as goal

pub returns : goal.returns
returns c = λ h is.
    let entry = c.args.entry.now in
    let before = c.args.self.now.schema in
    let after = c.in_ok-schema.schema in
    let stands = c.in_ok-schema.ensures h is.schema in (
      record {
        own_laws = sym (c.in_ok-keeps_own_laws.ensures h is.latest is.schema) ∙ c.if-not-keeps_own_laws.false;
        described =
            sym (well-same before after h entry is.schema stands entry.datoms)
            ∙ ap (list_all (describes_well before after)) (sym c.as_slice.ensures)
            ∙ sym c.describe_well.ensures
            ∙ c.if-not-describe_well.false;
      },
      record { latest = c.with.ensures h is.latest; schema = stands },
    )
