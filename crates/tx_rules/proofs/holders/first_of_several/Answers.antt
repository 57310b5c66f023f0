use Rattle.std.proofs.Common.{◌∙◌, sym, ap, subst, rules}
use denote.Ref.{Bor}
use Rattle.std.specs.Prelude.{IsPermutation}
use Rattle.std.specs.Ordering.{is_lt}
use Rattle.std.proofs.lemmas.List.Sorted.{ranks_by, answers_always, IsPermutation-map}
use Rattle.tx_asks.specs.declared.triples.Triple.{Triple}
use Rattle.tx_rules.specs.Neighbours.{behind}
use Rattle.tx_rules.specs.Holders.{value_order, AreByValue, first_among}
use Rattle.tx_rules.proofs.Sorted.{value_order_total}
use Rattle.tx_rules.proofs.Takers.{shared-takers, sorted-behind}
use Rattle.tx_rules.proofs.holders.first_of_several.Goals as goal

pub first_among-requires-clause-sorted : goal.first_among-requires-clause-sorted
first_among-requires-clause-sorted g c =
    subst AreByValue (sym (ap behind c.deref.ensures.value))
    (sorted-behind (λ x y. is_lt (value_order x y)) c.sort_unstable_by.new.self.items
    (c.sort_unstable_by.ensures.sorted (λ x y. is_lt (value_order x.now y.now)) (ranks_by value_order_total (λ (x : Bor Triple). x.now))
    (answers_always _ _ _ (λ f a r g h. search rules))))

pub returns : goal.returns
returns g c =
    let h = g.F.Facts.history c.args.facts.now in
    c.first_among.ensures ∙ ap (first_among h c.args.schema.now c.args.changes.now) (ap behind c.deref.ensures.value)
    ∙ shared-takers c.args.schema.now h c.args.changes.now c.args.triples.now c.requires.rising (behind c.sort_unstable_by.new.self.items)
    (subst (λ l. IsPermutation l (behind c.sort_unstable_by.new.self.items)) c.in_ok-takers.ensures (IsPermutation-map
    (λ (x : Bor Triple). x.now) c.in_ok-takers.takers.items c.sort_unstable_by.new.self.items c.sort_unstable_by.ensures.permutation))
