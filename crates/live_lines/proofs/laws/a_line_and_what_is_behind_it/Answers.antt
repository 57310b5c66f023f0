use Rattle.live_lines.proofs.Seeking.{front_is, behind_is}
use Rattle.live_lines.proofs.laws.a_line_and_what_is_behind_it.Goals as goal

pub returns-clause-line : goal.returns-clause-line
returns-clause-line c = front_is

pub returns-clause-behind : goal.returns-clause-behind
returns-clause-behind c = behind_is
