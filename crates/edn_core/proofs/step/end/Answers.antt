use Rattle.std.proofs.Common.{◌≡◌, length, arith}
use Rattle.std.proofs.lemmas.Bool.Decides.{nat_tests}
use Rattle.edn_core.proofs.Leading.{ends_whole, ends_open}
use Rattle.edn_core.proofs.step.end.Goals as goal

pub returns-then-is_empty : goal.returns-then-is_empty
returns-then-is_empty c bytes slot is start after within kept =
    let none : length c.args.frames.now ≡ 0 = (let test = c.if-is_empty.ensures in grind (arith, nat_tests)) in
    ends_whole bytes c.args.at c.args.frames.now is none

pub returns-else-is_empty : goal.returns-else-is_empty
returns-else-is_empty c bytes slot is start after within kept =
    ends_open bytes c.args.at start c.args.frames.now is after within (λ none. let test = c.if-is_empty.ensures in grind (arith, nat_tests))
