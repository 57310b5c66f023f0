use Rattle.std.proofs.Common.{rules, ap, ◌∙◌}
use Rattle.board_rule.proofs.Reading.{notes_found_on}
use Rattle.board_rule.proofs.steps.note_found.Goals as goal

pub load-served-requires : goal.load-served-requires
load-served-requires g c = (
  search rules,
  search rules,
  notes_found_on _ _ _ _ _ c.open-opened.result.me (ap (λ m. m.0.grab) c.open-opened.ensures.2 ∙ c.requires.grabbed),
)
