use Rattle.std.proofs.Common.{[], ◌∷◌, subst}
use Rattle.std.proofs.lemmas.Result.{IfOk-weaker}
use Rattle.fb_values.specs.declared.facts.Entry.{Entry}
use Rattle.fb_model.specs.History.{said}
use Rattle.fb_schema.specs.Described.{SchemaStands}
use Rattle.log_sweep.specs.Alone.{KeepAlone}
use Rattle.log_sweep.specs.Groups.{KeepTogether}
use Rattle.log_sweep.proofs.lawful.are_lawful_after.Goals as goal

pub returns-in-Some : goal.returns-in-Some
returns-in-Some c =
    let entries = c.args.entries.now in
    let schema = c.in-Some.schema in
    let alone = rw c.in-Some.is at c.in_ok-schema.ensures in
    IfOk-weaker c.keep_together.result _ _
    (λ keep together holds. c.what_is_kept_makes_a_lawful_history.ensures schema entries
    (subst (λ (e : Entry). KeepAlone (e ∷ []) entries) c.requires alone.0)
    (subst (λ (e : Entry). SchemaStands schema (e ∷ entries)) c.requires alone.1)
    (subst (λ (e : Entry). KeepTogether schema (said (e ∷ entries))) c.requires (together holds)))
    c.keep_together.ensures
