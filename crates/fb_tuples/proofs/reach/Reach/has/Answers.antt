-- What is not above the greatest value is not behind it.
use Rattle.std.proofs.Common.{◌∙◌, sym, ap, option_map}
use Rattle.fb_tuples.specs.Reached.{is_reached}
use Rattle.fb_tuples.proofs.MemberScans.{within_reach}
use Rattle.fb_tuples.proofs.reach.Reach.has.Goals as goal

pub returns-in-Some : goal.returns-in-Some
returns-in-Some c =
    let least = c.args.self.least.now in
    let v = c.args.v.now in
    c.le.ensures ∙ within_reach v least c.in-Some.greatest.now (sym c.lt.ensures ∙ c.if-lt.false)
    ∙ ap (λ o. is_reached least (option_map (λ w. w.now) o) v) (sym c.in-Some.is)
