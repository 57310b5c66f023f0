use Rattle.std.proofs.Common.{cond, eqb, ap, sym, ◌∙◌}
use Rattle.std.specs.List.{list_any}
use Rattle.std.specs.Map.{keys_of}
use Rattle.std.proofs.lemmas.Result.{IfOk-weaker}
use Rattle.fb_covers.proofs.Keys.{held-put, held-removed}
use Rattle.fb_covers.proofs.with_member.Goals as goal

pub returns-then-is_member : goal.returns-then-is_member
returns-then-is_member c =
    IfOk-weaker c.with.result _ _
    (λ new is a.
    ap (λ m. list_any (λ b. eqb a b) (keys_of m)) is
    ∙ held-put c.args.attribute tt c.args.set.now a
    ∙ ap (λ t. cond (eqb c.args.attribute a) t (list_any (λ b. eqb a b) (keys_of c.args.set.now))) (sym c.if-is_member.true))
    c.with.ensures

pub returns-else-is_member : goal.returns-else-is_member
returns-else-is_member c =
    IfOk-weaker c.without.result _ _
    (λ new is a.
    ap (λ m. list_any (λ b. eqb a b) (keys_of m)) is
    ∙ held-removed c.args.attribute c.args.set.now a c.without.ensures.rising
    ∙ ap (λ t. cond (eqb c.args.attribute a) t (list_any (λ b. eqb a b) (keys_of c.args.set.now))) (sym c.if-is_member.false))
    c.without.ensures.entries
