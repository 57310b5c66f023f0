use Rattle.std.proofs.Common.{◌∷◌, ◌++◌, [], ap, sym, ◌∙◌}
use Rattle.std.specs.Prelude.{filter}
use Rattle.std.proofs.lemmas.List.{take_all}
use Rattle.fb_model.specs.Facts.{standing}
use Rattle.fb_schema.specs.Described.{describes}
use Rattle.fb_schema.proofs.Described.{standing-nothing, said-more, said-less}
use Rattle.fb_schema.proofs.tables.Tables.with_all.Goals as goal
use Rattle.fb_schema.proofs.tables.Tables.with_all.Goals.{then-describes+in_ok-tables-2, else-describes}

pub loop-d-init : goal.loop-d-init
loop-d-init c = c.in_ok-tables.ensures.same ∙ sym (standing-nothing c.args.self.now c.in_ok-tables.ensures.stands)

pub loop-d-preserved : goal.loop-d-preserved
loop-d-preserved c =
    let i = c.loop-d.d-index in
    let ds = c.args.datoms.now in
    let d = c.d-item.result in
    elim c.if-describes.branch [
      | then-describes+in_ok-tables-2 w ↦
          w.tables-is ∙ w.in_ok-tables-2.ensures ∙ ap (λ l. standing (l ++ d ∷ [])) c.loop-d.invariant
          ∙ said-more c.args.self.now ds i d c.loop-d-test.true c.d-item.is (sym c.describes.ensures ∙ w.if-describes.true)
      | else-describes w ↦
          w.tables-is
          ∙ c.loop-d.invariant
          ∙ said-less c.args.self.now ds i d c.loop-d-test.true c.d-item.is (sym c.describes.ensures ∙ w.if-describes.false)
    ]

pub returns : goal.returns
returns c =
    c.loop-d.invariant
    ∙ ap (λ l. standing (c.args.self.now ++ filter describes l)) (take_all c.loop-d.d-index c.args.datoms.now c.loop-d-test.false)
