use Rattle.std.proofs.Common.{cond, eqb, ap, sym, ◌∙◌}
use Rattle.std.specs.Prelude.{is_some}
use Rattle.std.specs.Ordering.{nat_cmp}
use Rattle.shared_map.specs.Entries.{get}
use Rattle.fb_schema.proofs.Results.{IfOk-map}
use Rattle.fb_schema.proofs.Names.{member-with, member-without}
use Rattle.fb_schema.proofs.idents.with_member.Goals as goal

pub returns-then-is_member : goal.returns-then-is_member
returns-then-is_member c =
    IfOk-map _ _
    (λ new is k.
    ap (λ m. is_some (get nat_cmp m k)) is
    ∙ member-with c.args.entities.now c.args.e k
    ∙ ap (λ b. cond (eqb c.args.e k) b (is_some (get nat_cmp c.args.entities.now k))) (sym c.if-is_member.true))
    c.with.result c.with.ensures

pub returns-else-is_member : goal.returns-else-is_member
returns-else-is_member c =
    IfOk-map _ _
    (λ new is k.
    ap (λ m. is_some (get nat_cmp m k)) is
    ∙ member-without c.args.entities.now c.args.e k c.without.ensures.rising
    ∙ ap (λ b. cond (eqb c.args.e k) b (is_some (get nat_cmp c.args.entities.now k))) (sym c.if-is_member.false))
    c.without.result c.without.ensures.entries
