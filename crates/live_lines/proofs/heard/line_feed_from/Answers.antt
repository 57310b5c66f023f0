use Rattle.std.proofs.Common.{◌≡◌, ◌-◌, ◌+◌, length, drop, arith, length-drop}
use Rattle.std.proofs.lemmas.List.{take_rest}
use Rattle.live_lines.proofs.Seeking.{plain_front}
use Rattle.live_lines.proofs.heard.line_feed_from.Goals as goal

pub returns-in-Some-clause-plain : goal.returns-in-Some-clause-plain
returns-in-Some-clause-plain c =
    let first = rw (take_rest c.args.bytes.now c.args.from) at c.in-Some.ensures in
    let same : c.args.from + c.in-Some.n - c.args.from ≡ c.in-Some.n = omega arith in
    rw same (
    plain_front (drop c.args.from c.args.bytes.now) c.in-Some.n (λ k lt. first.0.before k (omega arith) lt)
    )

pub returns-in-None-clause-plain : goal.returns-in-None-clause-plain
returns-in-None-clause-plain c =
    let none = rw (take_rest c.args.bytes.now c.args.from) at c.in-None.ensures in
    plain_front (drop c.args.from c.args.bytes.now) (length c.args.bytes.now - c.args.from)
    (λ k lt. none k (omega arith) (omega (arith, lt, length-drop c.args.from c.args.bytes.now)))
