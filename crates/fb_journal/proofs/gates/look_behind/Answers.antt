use Rattle.std.proofs.Common.{inr, ◌≡◌, ◌∙◌, ℕ, List, take, drop, ap, arith, length-drop}
use Rattle.std.specs.Int.{w64, from_be_bytes}
use Rattle.fb_journal.proofs.gates.look_behind.Goals as goal

pub returns-then-len-room-clause-stands : goal.returns-then-len-room-clause-stands
returns-then-len-room-clause-stands g c = λ file told shows.
    let read = c.in_ok-read.ensures.read file told shows in
    let length_is = c.number-len.ensures.bytes ∙ read.1 in
    (length_is, omega (arith, c.in-Some.ensures, c.if-len-room.true, shows.len, length-drop c.args.at file, c.requires))

pub returns-else-len-room-clause-stands : goal.returns-else-len-room-clause-stands
returns-else-len-room-clause-stands g c = λ file told shows.
    let read = c.in_ok-read.ensures.read file told shows in
    let is : c.number-len.result ≡ from_be_bytes w64 (take 8 (drop c.args.at file)) =
    c.number-len.ensures.value ∙ ap (λ (l : List ℕ). from_be_bytes w64 l) read.1 in
    inr (omega (arith, is, c.in-Some.ensures, c.if-len-room.false, shows.len, length-drop c.args.at file, c.requires))
