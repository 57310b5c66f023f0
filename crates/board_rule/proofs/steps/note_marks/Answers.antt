use Rattle.std.proofs.Common.{rules, ap, sym, subst, ◌∙◌}
use Rattle.board_rule.specs.Views.{HasTurn, MayMark, named_of}
use Rattle.board_rule.proofs.Holding.{notes_on}
use Rattle.board_rule.proofs.steps.note_marks.Goals as goal

pub load-served-requires : goal.load-served-requires
load-served-requires g c = let v = ap (λ m. m.0) c.open-opened.ensures.2 in (
  search rules,
  search rules,
  notes_on _ _ _ _ _ c.open-opened.result.me g.B.PickedMarks.marks (subst HasTurn (sym v) c.requires.may.0)
      (ap (λ z. z.core) v ∙ c.requires.may.1)
      (subst (λ z. MayMark z.number (named_of z) g.B.PickedMarks.marks) (sym v)
      (subst (MayMark _ _) (sym c.requires.picked) c.requires.may.2)),
)
