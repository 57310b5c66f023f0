use Rattle.fb_view.proofs.Standing.{fresh_stands}
use Rattle.fb_view.proofs.growth.Recent.fresh.Goals as goal

pub returns-clause-stands : goal.returns-clause-stands
returns-clause-stands c = λ h older schema_is whole. fresh_stands h _ older schema_is whole c.empty.ensures
