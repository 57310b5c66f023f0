use Rattle.std.proofs.Common.{◌∙◌, sym, ap}
use Rattle.fb_values.specs.declared.indexes.Order.TheVariants.{Avet}
use Rattle.fb_model.specs.Schema.{covers}
use Rattle.fb_view.proofs.Probing.{value_probe_is}
use Rattle.fb_view.proofs.snapshot.Snapshot.probe_of_value.Goals as goal

pub returns : goal.returns
returns c =
    value_probe_is c.args.self.now.schema c.args.a c.args.v.now c.shared.result (ap (λ ds. covers ds Avet c.args.a)
    (sym c.schema.ensures.schema) ∙ sym (c.covers.ensures Avet c.args.a) ∙ sym c.holds.ensures ∙ c.if-not-holds.false) c.shared.ensures
