-- The first value is the least one.
use Rattle.std.proofs.Common.{◌∙◌, sym, ap, List, Some}
use Rattle.std.specs.Prelude.{slice_get}
use Rattle.std.specs.Option.{option_copied}
use Rattle.fb_values.specs.declared.facts.Value.{Value}
use Rattle.fb_tuples.proofs.Least.{first_after}
use Rattle.fb_tuples.proofs.renewed.member.Goals as goal

pub returns-in-Some : goal.returns-in-Some
returns-in-Some c =
    ap Some c.in_ok-copy-in-Some.ensures ∙ sym (ap option_copied c.in-Some.is) ∙ c.first.ensures.value
    ∙ ap (λ (l : List Value). slice_get l 0) (c.deref.ensures.value ∙ c.in_ok-values.ensures)
    ∙ first_after c.args.before.now.entries c.args.changes.now c.args.e c.args.a

pub returns : goal.returns
returns c =
    sym (ap option_copied c.in-None.is) ∙ c.first.ensures.value
    ∙ ap (λ (l : List Value). slice_get l 0) (c.deref.ensures.value ∙ c.in_ok-values.ensures)
    ∙ first_after c.args.before.now.entries c.args.changes.now c.args.e c.args.a
