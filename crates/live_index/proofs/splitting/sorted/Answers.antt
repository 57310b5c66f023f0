use Rattle.std.proofs.Common.{rules}
use Rattle.std.specs.Ordering.{is_lt}
use Rattle.std.proofs.lemmas.Fn.{always_returns_same}
use Rattle.std.proofs.lemmas.List.Sorted.{ranks_by}
use Rattle.fb_values.specs.Orders.{key_cmp}
use Rattle.fb_values.specs.OrderLaws.{key_cmp_total}
use Rattle.live_index.specs.declared.ranked.Ranked.{Ranked}
use Rattle.live_index.proofs.splitting.sorted.Goals as goal

pub returns-clause-sorted : goal.returns-clause-sorted
returns-clause-sorted c =
    c.sort_unstable_by.ensures.sorted (λ x y. is_lt (key_cmp c.args.order x.datom.now y.datom.now))
    (ranks_by (key_cmp_total c.args.order) (λ (x : Ranked). x.datom.now))
    (always_returns_same _ _ _ (λ a r f h. (search rules, search rules)))
