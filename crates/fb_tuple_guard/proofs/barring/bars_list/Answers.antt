-- The names are those of the snapshot's schema.
use Rattle.std.proofs.Common.{◌≡◌, ◌∙◌, ℕ, List, ap, sym, subst, option_map, Some, None}
use Rattle.std.specs.Prelude.{Vec}
use Rattle.std.specs.declared.alloc.Global.{Global}
use Rattle.std.proofs.lemmas.Result.{IfOk-weaker}
use Rattle.fb_values.specs.declared.facts.Datom.{Datom}
use Rattle.fb_model.specs.Facts.{facts}
use Rattle.fb_schema.specs.Described.{SchemaStands}
use Rattle.tx_after.specs.After.{after}
use Rattle.tuple_model.specs.UniqueTuples.{are_shared}
use Rattle.fb_tuple_guard.specs.Sharing.{composite_named}
use Rattle.fb_tuple_guard.proofs.Composites.{bars_given, bars_nothing}
use Rattle.fb_tuple_guard.proofs.barring.bars_list.Goals as goal

pub returns-in-Some : goal.returns-in-Some
returns-in-Some c =
    let h = c.args.before.now.entries in
    let changes = c.args.changes.now in
    let stands =
    subst (λ (schema : List Datom). SchemaStands schema h) (sym c.schema.ensures.schema) c.schema.ensures.stands.schema_is in
    let given : Some c.in-Some.attrs.items ≡ composite_named (facts h) c.args.names.now =
    ap (option_map (λ (list : Vec ℕ Global). list.items)) (sym c.in-Some.is) ∙ c.in_ok-attrs.ensures h stands in
    IfOk-weaker c.are_shared.result _ _
    (λ b is. is ∙ ap (are_shared (after h changes) changes) c.deref.ensures.value
    ∙ sym (bars_given h changes c.args.names.now c.in-Some.attrs.items given))
    c.are_shared.ensures

pub returns-in-None : goal.returns-in-None
returns-in-None c =
    let h = c.args.before.now.entries in
    let stands =
    subst (λ (schema : List Datom). SchemaStands schema h) (sym c.schema.ensures.schema) c.schema.ensures.stands.schema_is in
    let given : None ≡ composite_named (facts h) c.args.names.now =
    ap (option_map (λ (list : Vec ℕ Global). list.items)) (sym c.in-None.is) ∙ c.in_ok-attrs.ensures h stands in
    sym (bars_nothing h c.args.changes.now c.args.names.now given)
