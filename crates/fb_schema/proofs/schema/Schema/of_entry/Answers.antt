use Rattle.std.proofs.Common.{◌++◌, ap, sym, ◌∙◌}
use Rattle.std.specs.Prelude.{filter}
use Rattle.fb_model.specs.Facts.{standing}
use Rattle.fb_schema.specs.Described.{describes}
use Rattle.fb_schema.proofs.Results.{IfOk-map}
use Rattle.fb_schema.proofs.Described.{described-push, described-same}
use Rattle.fb_schema.proofs.schema.Schema.of_entry.Goals as goal

pub returns-then-not-changes_schema : goal.returns-then-not-changes_schema
returns-then-not-changes_schema c =
    IfOk-map _ _
    (λ schema is. λ h stands. is ∙ stands
    ∙ sym (described-same h c.args.entry.now (sym c.changes_schema.ensures ∙ c.if-not-changes_schema.true)))
    c.share.result c.share.ensures

pub returns : goal.returns
returns c = λ h stands.
    c.in_ok-tables-2.ensures.ok
    ∙ c.in_ok-tables.ensures
    ∙ ap (λ l. standing (l ++ filter describes c.as_slice.result.now)) (c.deref.ensures ∙ c.self.view_is ∙ stands)
    ∙ ap (λ l. standing (Rattle.fb_schema.specs.Described.described h ++ filter describes l)) c.as_slice.ensures
    ∙ sym (described-push h c.args.entry.now)
