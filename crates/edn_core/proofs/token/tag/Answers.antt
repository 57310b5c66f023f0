use Rattle.edn_core.proofs.Openings.{grown_enters}
use Rattle.edn_core.proofs.token.tag.Goals as goal

pub returns : goal.returns
returns c bytes slot enters start after before kept =
    grown_enters bytes start c.args.at c.args.next c.args.frames.now.items c.grow.new.items.items slot c.args.construct c.grow.result enters
    c.grow.ensures.ok c.grow.ensures.err after before kept
