use Rattle.std.proofs.Common.{sym, ◌∙◌}
use Rattle.live_model.proofs.Cutting.{some_cut, one_cut}
use Rattle.live_model.proofs.lines.bytes_have_one_cut.Goals as goal

pub returns-clause-some : goal.returns-clause-some
returns-clause-some c = some_cut

pub returns-clause-one : goal.returns-clause-one
returns-clause-one c bytes whole rest other left cut one =
    one_cut whole rest other left cut.lines cut.begun one.lines one.begun (sym cut.is ∙ one.is)
