use Rattle.std.proofs.Common.{◌≡◌, ◌+◌, ◌-◌, ◌∙◌, ℕ, List, length, take, drop, refl, ap, arith}
use Rattle.fb_journal.specs.Windows.{Has}
use Rattle.fb_journal.proofs.Showing.{copied}
use Rattle.fb_journal.proofs.windows.Window.copy.Goals as goal

pub returns-clause-copied : goal.returns-clause-copied
returns-clause-copied c = λ file shows yes.
    let w = c.args.self.now in
    let n : ℕ = length c.args.buf.now in
    let from : ℕ = c.args.at - w.start in
    let has : Has w c.args.at n = c.if-not-has.ensures.0 refl in
    let count : from + n - from ≡ n = omega arith in
    c.copy_from_slice.ensures.after
    ∙ ap (λ (k : ℕ). take k (drop from c.deref.result.now)) count
    ∙ ap (λ (l : List ℕ). take n (drop from l)) c.deref.ensures.value
    ∙ copied w.bytes.items file w.start w.filled c.args.at n has.0 has.1 shows.bytes
