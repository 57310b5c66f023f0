use Rattle.std.proofs.Common.{◌-◌, length, refl, arith}
use Rattle.std.proofs.lemmas.List.{nil_from_length}
use Rattle.live_index.proofs.Numbers.{last_ranked, none_ranked}
use Rattle.live_index.proofs.splitting.last_number.Goals as goal

pub returns-then-count-eq0 : goal.returns-then-count-eq0
returns-then-count-eq0 c = λ order table are. none_ranked table c.args.rising.now (nil_from_length c.args.rising.now c.if-count-eq0.true)

pub at-last-requires : goal.at-last-requires
at-last-requires c = omega (arith, c.if-count-eq0.false)

pub returns : goal.returns
returns c = λ order table are.
    last_ranked order table c.args.rising.now (length c.args.rising.now - 1) c.at-last.result are refl (omega (arith, c.if-count-eq0.false))
    c.at-last.ensures
