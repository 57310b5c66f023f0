use Rattle.std.proofs.Common.{◌∷◌, ◌++◌, [], true, ap, sym, ◌∙◌}
use Rattle.fb_schema.proofs.Results.{IfOk-map}
use Rattle.fb_schema.proofs.Numbers.{said-one, said-retracted, standing-idem}
use Rattle.fb_schema.proofs.facts.Facts.with.Goals as goal

pub and-requires : goal.and-requires
and-requires c =
    let d = c.args.d.now in
    let whole = said-one d c.args.self.now true c.if-d.true c.in_ok-others.ensures.standing in
    rw (c.in_ok-others.ensures.others, ← whole) (standing-idem (c.args.self.now ++ d ∷ []))

pub returns-then-d : goal.returns-then-d
returns-then-d c =
    let d = c.args.d.now in
    let whole = said-one d c.args.self.now true c.if-d.true c.in_ok-others.ensures.standing in
    IfOk-map _ _ (λ facts is. is ∙ ap (λ l. l ++ d ∷ []) c.in_ok-others.ensures.others ∙ sym whole) c.and.result c.and.ensures

pub returns-else-d : goal.returns-else-d
returns-else-d c =
    c.in_ok-others.ensures.others ∙ sym (said-retracted c.args.d.now c.args.self.now c.if-d.false c.in_ok-others.ensures.standing)
