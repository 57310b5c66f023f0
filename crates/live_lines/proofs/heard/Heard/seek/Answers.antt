use Rattle.std.proofs.Common.{◌-◌, subst, arith}
use Rattle.live_lines.specs.Hearing.{Hearing, RunsUpTo}
use Rattle.live_lines.proofs.Seeking.{plain_joined, runs_on}
use Rattle.live_lines.proofs.heard.Heard.seek.Goals as goal

pub invariant_of-self : goal.invariant_of-self
invariant_of-self c =
    let found = rw c.deref.ensures.value at c.line_feed_from-self-inside.ensures in (
      c.self.invariant.0,
      omega (arith, c.self.invariant.1, found.within.0),
      omega (arith, c.line_feed_from-self-inside.ensures.within.1),
      plain_joined c.self.inside.bytes.items c.self.inside.begin c.self.inside.seen c.line_feed_from-self-inside.result
          c.self.invariant.1 found.within.0 found.within.1 c.self.invariant.3 found.plain,
    )

pub returns-clause-run : goal.returns-clause-run
returns-clause-run c =
    let found = rw c.deref.ensures.value at c.line_feed_from-self-inside.ensures in
    subst (λ (h : Hearing). RunsUpTo h.pending (c.line_feed_from-self-inside.result - c.self.inside.begin)) c.self.view_is
    (
    runs_on c.self.inside.bytes.items c.self.inside.begin c.self.inside.seen c.line_feed_from-self-inside.result
    c.self.invariant.1 found.within c.self.invariant.3 found.plain found.found
    )
