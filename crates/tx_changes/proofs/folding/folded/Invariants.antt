use Rattle.std.proofs.Common.{◌≡◌, ◌++◌, length}
use Rattle.std.specs.List.{All}
use Rattle.std.specs.Vec.Iter.{into_iter_items, into_iter_len}
use Rattle.tx_changes.specs.Noted.{IsFoundHeld}
use Rattle.tx_changes.proofs.Folds.{folded as list_folded, folded_all}
use Rattle.tx_changes.proofs.folding.folded.Given as goal

abbrev pub invariant-loop-one : goal.invariant-loop-one
invariant-loop-one g l = record {
  so_far : l.triples.items ++ list_folded (g.F.Facts.history l.facts) l.last (into_iter_items l.one-iterator)
      ≡ folded_all (g.F.Facts.history l.facts) l.fn.noted.items;
  found : All (IsFoundHeld (g.F.Facts.history l.facts)) (into_iter_items l.one-iterator);
  counted : length (into_iter_items l.one-iterator) ≡ into_iter_len l.one-iterator;
}
