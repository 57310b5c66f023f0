use Rattle.std.proofs.Common.{◌∙◌, List, sym, ap, subst}
use Rattle.std.proofs.lemmas.List.Sorted.{All-permutation}
use Rattle.live_index.specs.declared.ranked.Ranked.{Ranked}
use Rattle.live_index.specs.Ranks.{AreRanked, IsRanked, datoms_of}
use Rattle.live_index.specs.Splits.{once}
use Rattle.live_index.proofs.Growing.{both_ok}
use Rattle.live_index.proofs.Ranking.{ranked_in_order}
use Rattle.live_index.proofs.splitting.in_order.Goals as goal

pub returns-clause-ranked : goal.returns-clause-ranked
returns-clause-ranked c =
    both_ok c.each_once.result _ _ _ (λ new is also table are.
    is table (subst (AreRanked c.args.order table) (sym c.deref.ensures.value)
    (All-permutation (IsRanked c.args.order table) c.args.all.items c.sorted-sorted.result.items c.sorted-sorted.ensures.same are)))
    c.each_once.ensures.ranked c.each_once.ensures.ranked

pub returns-clause-datoms : goal.returns-clause-datoms
returns-clause-datoms c =
    both_ok c.each_once.result _ _ _ (λ new is also table single are.
    is ∙ ap (λ (l : List Ranked). once c.args.order (datoms_of l)) c.deref.ensures.value
    ∙ ranked_in_order c.args.order table c.args.all.items c.sorted-sorted.result.items single are c.sorted-sorted.ensures.same
    c.sorted-sorted.ensures.sorted) c.each_once.ensures.datoms c.each_once.ensures.datoms
