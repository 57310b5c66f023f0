use Rattle.fb_session.proofs.LongerHistories.{prefixes_longer}
use Rattle.fb_session.proofs.laws.a_longer_history_keeps_prefixes.Goals as goal

pub returns : goal.returns
returns c = prefixes_longer
