-- By the answers of the two walks, over the names of the snapshot's schema.
use Rattle.std.proofs.Common.{◌∙◌, ap, sym, refl, true, false}
use Rattle.std.specs.Prelude.{option_map}
use Rattle.std.specs.List.{list_any}
use Rattle.fb_model.specs.Schema.{Attribute}
use Rattle.fb_checks.specs.Checks.{pred_of, fails}
use Rattle.fb_checks.proofs.Swapping.{bars_told}
use Rattle.fb_checks.proofs.barring.bar_of.Goals as goal

pub returns-then-fails_any : goal.returns-then-fails_any
returns-then-fails_any g c =
    let before = c.args.before.now in
    let changes = c.args.changes.now in
    let passes = g.T.Check.passes in
    let failing = c.fails_any.ensures
    ∙ ap (λ s. list_any (λ pred. list_any (λ d. fails s d (pred_of passes pred)) changes) c.args.preds.now) c.schema.ensures.schema in
    sym (bars_told passes c.args.preds.now c.args.needs.now before.schema before.entries changes
    (λ name. ap (option_map (λ (x : Attribute). x.id))
    (c.schemas_tell_of_attributes.ensures.name before.schema before.entries name c.schema.ensures.stands.schema_is))
    true _ (sym c.if-fails_any.true ∙ failing) refl)

pub returns-then-branch : goal.returns-then-branch
returns-then-branch g c =
    let before = c.args.before.now in
    let changes = c.args.changes.now in
    let passes = g.T.Check.passes in
    let failing = c.fails_any.ensures
    ∙ ap (λ s. list_any (λ pred. list_any (λ d. fails s d (pred_of passes pred)) changes) c.args.preds.now) c.schema.ensures.schema in
    sym (bars_told passes c.args.preds.now c.args.needs.now before.schema before.entries changes
    (λ name. ap (option_map (λ (x : Attribute). x.id))
    (c.schemas_tell_of_attributes.ensures.name before.schema before.entries name c.schema.ensures.stands.schema_is))
    false true (sym c.if-fails_any.false ∙ failing) (sym c.if-branch.true ∙ c.in_ok-lacks_any.ensures))

pub returns : goal.returns
returns g c =
    let before = c.args.before.now in
    let changes = c.args.changes.now in
    let passes = g.T.Check.passes in
    let failing = c.fails_any.ensures
    ∙ ap (λ s. list_any (λ pred. list_any (λ d. fails s d (pred_of passes pred)) changes) c.args.preds.now) c.schema.ensures.schema in
    sym (bars_told passes c.args.preds.now c.args.needs.now before.schema before.entries changes
    (λ name. ap (option_map (λ (x : Attribute). x.id))
    (c.schemas_tell_of_attributes.ensures.name before.schema before.entries name c.schema.ensures.stands.schema_is))
    false false (sym c.if-fails_any.false ∙ failing) (sym c.if-branch.false ∙ c.in_ok-lacks_any.ensures))
