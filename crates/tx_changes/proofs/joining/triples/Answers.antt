use Rattle.std.proofs.Common.{rules}
use Rattle.std.specs.Ordering.{is_lt}
use Rattle.std.proofs.lemmas.List.Sorted.{ranks_by, answers_always, All-permutation}
use Rattle.std.proofs.lemmas.Result.{IfOk-weaker}
use Rattle.tx_changes.specs.declared.noted.Noted.{Noted}
use Rattle.tx_changes.specs.Noted.{noted_cmp, IsFoundHeld}
use Rattle.tx_changes.proofs.Folds.{noted_cmp_total}
use Rattle.tx_changes.proofs.Joined.{triples_are}
use Rattle.tx_changes.proofs.Ways.{noted_permuted}
use Rattle.tx_changes.proofs.joining.triples.Goals as goal

pub folded-requires-clause-found : goal.folded-requires-clause-found
folded-requires-clause-found g c =
    All-permutation (IsFoundHeld (g.F.Facts.history c.args.facts.now)) _ _ c.sort_by.ensures.permutation
    c.in_ok-noted.ensures.found

pub folded-requires-clause-sorted : goal.folded-requires-clause-sorted
folded-requires-clause-sorted g c =
    c.in_ok-sort_by.ensures.sorted (λ x y. is_lt (noted_cmp x y)) (ranks_by noted_cmp_total (λ (x : Noted). x))
    (answers_always _ _ _ (λ f a r g h. search rules))

pub returns : goal.returns
returns g c =
    IfOk-weaker c.folded.result _ _ (λ triples joined tx db_is are.
    triples_are (g.F.Facts.history c.args.facts.now) tx db_is c.sort_by.new.self.items
    (noted_permuted tx _ _ c.sort_by.ensures.permutation (c.in_ok-noted.ensures.noted tx db_is are)) triples.items joined) c.folded.ensures
