use Rattle.std.proofs.Common.{List, vec_items, is_lt}
use Rattle.std.proofs.lemmas.Cmp.{lists_total}
use Rattle.std.proofs.lemmas.List.Sorted.{IsPermutation-map, ranks_by}
use Rattle.std.specs.Cmp.Lexicographic.{slice_cmp}
use Rattle.edn_duplicates.specs.Order.{token_cmp}
use Rattle.edn_duplicates.specs.declared.token.CodeToken.{CodeToken}
use Rattle.edn_duplicates.proofs.Lists.{rises_from_sorted, rises_mapped}
use Rattle.edn_duplicates.specs.Order.{token_total}
use Rattle.edn_duplicates.proofs.code.sorted.Goals as goal

pub returns-clause-shuffled : goal.returns-clause-shuffled
returns-clause-shuffled c = IsPermutation-map vec_items _ _ c.in_ok-sort.ensures.permutation

pub returns-clause-rises : goal.returns-clause-rises
unfolding token_cmp
returns-clause-rises c =
    rises_mapped vec_items (λ (a b : List CodeToken). is_lt (slice_cmp token_cmp a b)) _
    (rises_from_sorted _ (ranks_by (lists_total token_total) vec_items) _ c.in_ok-sort.ensures.sorted)
