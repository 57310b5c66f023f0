use Rattle.fb_view.proofs.Standing.{grown_stands}
use Rattle.fb_view.proofs.growth.Recent.with.Goals as goal

pub returns : goal.returns
returns c = λ h follows.
    grown_stands h c.args.self.now c.args.older.now c.args.entry.now follows _ (c.in_ok-schema.ensures h follows.stands.schema_is)
    (c.in_ok-live.ensures h follows)
