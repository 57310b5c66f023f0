use Rattle.std.proofs.Common.{rules, vec_len, ◌≡◌, ◌∙◌, ap, length, not}
use Rattle.std.specs.Prelude.{◌==◌}
use Rattle.fb_model.specs.Schema.{is_about}
use Rattle.tx_after.specs.After.{after}
use Rattle.fb_checks.proofs.Having.{has_values}
use Rattle.fb_checks.proofs.entities.has_some.Goals as goal

pub returns : goal.returns
returns c =
    let len : vec_len c.in_ok-values.values ≡ length c.in_ok-values.values.items = search (rules, c.in_ok-values.values.ok) in
    ap not (c.is_empty.ensures ∙ ap (λ n. n == 0) len)
    ∙ has_values (is_about c.args.e c.args.a) (after c.args.before.now.entries c.args.changes.now) c.in_ok-values.values.items
    (ap length c.in_ok-values.ensures
    ∙ c.values_are_as_many.ensures c.args.before.now.entries c.args.changes.now c.args.e c.args.a)
