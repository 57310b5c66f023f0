use Rattle.std.proofs.Common.{◌≡◌, slice_get, Some, sym, ◌∙◌}
use Rattle.fb_chunks.specs.Tails.{items_up_to}
use Rattle.fb_chunks.proofs.Links.{newest_found, older_found}
use Rattle.fb_chunks.proofs.tails.Link.+at.Goals as goal

pub returns-then-self-place : goal.returns-then-self-place
returns-then-self-place g t c =
    rw (← c.self.view_is)
    (newest_found (items_up_to c.self.inside.before) c.self.inside.item c.args.place (sym c.self.invariant.counted ∙ c.if-self-place.true))

pub returns : goal.returns
returns g t c =
    let found : slice_get (items_up_to c.self.inside.before) c.args.place ≡ Some c.at.result.now =
    rw c.in-Some.is (rw (← c.deref.ensures) c.at.ensures) in
    rw (← c.self.view_is) (older_found (items_up_to c.self.inside.before) c.self.inside.item c.at.result.now c.args.place found)
