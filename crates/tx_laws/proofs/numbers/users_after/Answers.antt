use Rattle.std.proofs.Common.{◌∙◌, ap, subst}
use Rattle.std.specs.List.Sorted.{IsPermutation}
use Rattle.tx_laws.specs.Users.{counted_on}
use Rattle.tx_laws.proofs.Counting.{counted-is, ascends-sorted}
use Rattle.tx_laws.proofs.numbers.users_after.Goals as goal

pub returns : goal.returns
returns c =
    let sorted = c.sort_unstable.new.self.items in
    c.counted_on.ensures ∙ ap (λ ns. counted_on ns c.args.issued) c.deref.ensures.value
    ∙ counted-is c.args.datoms.now sorted c.args.issued
    (subst (λ ns. IsPermutation ns sorted) c.in_ok-numbers.ensures c.sort_unstable.ensures.permutation)
    (ascends-sorted sorted c.sort_unstable.ensures.sorted)
