use Rattle.std.proofs.Common.{◌++◌, [], ap, sym, ◌∙◌}
use Rattle.std.specs.Prelude.{filter}
use Rattle.fb_model.specs.Facts.{standing}
use Rattle.fb_schema.specs.Described.{describes}
use Rattle.fb_schema.proofs.Described.{described-push}
use Rattle.fb_schema.proofs.schema.Schema.first.Goals as goal

pub returns : goal.returns
returns c =
    c.in_ok-tables-2.ensures.ok
    ∙ c.in_ok-tables.ensures
    ∙ ap (λ l. standing (l ++ filter describes c.as_slice.result.now)) c.in_ok-none.ensures
    ∙ ap (λ l. standing ([] ++ filter describes l)) c.as_slice.ensures
    ∙ sym (described-push [] c.args.first.now)
