use Rattle.std.proofs.Common.{◌≡◌, List, ◌∷◌, ◌++◌, length, ap, sym, ◌∙◌, subst, arith}
use Rattle.std.specs.List.{All}
use Rattle.std.specs.Vec.Iter.{into_iter_items, into_iter_len}
use Rattle.std.proofs.lemmas.Grind.{common_steps}
use Rattle.std.proofs.lemmas.List.Elements.{All-head, All-tail}
use Rattle.tx_asks.specs.declared.triples.Triple.{Triple}
use Rattle.tx_changes.specs.declared.noted.Noted.{Noted}
use Rattle.tx_changes.specs.Noted.{AreJoined, IsFoundHeld, triple_from}
use Rattle.tx_changes.proofs.Folds.{folded as list_folded, folded_all, are_joined, take_next, none_left}
use Rattle.tx_changes.proofs.folding.folded.Goals as goal

pub loop-one-init : goal.loop-one-init
loop-one-init g c =
    let h = g.F.Facts.history c.args.facts.now in
    let first = c.in-Some.first in
    let rest = into_iter_items c.next.new.self in
    let same : into_iter_items c.into_iter-one-iterator.result ≡ rest =
    ap (λ it. into_iter_items it) c.into_iter-one-iterator.ensures.into_iter_gives in
    let all : c.args.noted.items ≡ first ∷ rest = sym c.into_iter-noted.ensures.rest ∙ c.in-Some.ensures.items in
    let few : length rest ≡ into_iter_len c.next.new.self = grind (arith, common_steps) in
    record {
      so_far = ap (λ (ts : List Triple). ts ++ list_folded h c.triple_of-last.result (into_iter_items c.into_iter-one-iterator.result))
          c.in_ok-triples.ensures.items
          ∙ ap (λ (t : Triple). list_folded h t (into_iter_items c.into_iter-one-iterator.result)) c.triple_of-last.ensures
          ∙ ap (λ (ns : List Noted). list_folded h (triple_from h first) ns) same
          ∙ sym (ap (folded_all h) all);
      found =
          subst (λ (ns : List Noted). All (IsFoundHeld h) ns) (sym same)
          (All-tail (IsFoundHeld h) first rest (subst (λ (ns : List Noted). All (IsFoundHeld h) ns) all c.requires.found));
      counted =
          subst (λ it. length (into_iter_items it) ≡ into_iter_len it) (sym c.into_iter-one-iterator.ensures.into_iter_gives) few;
    }

pub take-requires-clause-found : goal.take-requires-clause-found
take-requires-clause-found g c =
    let h = g.F.Facts.history c.args.facts.now in
    All-head (IsFoundHeld h) c.in-Some-one.one (into_iter_items c.next-in-loop-one.new.self)
    (subst (λ (ns : List Noted). All (IsFoundHeld h) ns) c.in-Some-one.ensures.steps.0 c.loop-one.invariant.found)

pub loop-one-preserved : goal.loop-one-preserved
loop-one-preserved g c =
    let h = g.F.Facts.history c.args.facts.now in
    let one = c.in-Some-one.one in
    let rest = into_iter_items c.next-in-loop-one.new.self in
    let steps = c.in-Some-one.ensures.steps in
    let before = c.loop-one.invariant in
    let fewer = ap length steps.0 in
    record {
      so_far = take_next h c.loop-one.triples.items c.loop-one.last one rest c.take.new.triples.items c.take.new.last
          c.in_ok-take.ensures.triples c.in_ok-take.ensures.last
          ∙ ap (λ (ns : List Noted). c.loop-one.triples.items ++ list_folded h c.loop-one.last ns) (sym steps.0)
          ∙ before.so_far;
      found = All-tail (IsFoundHeld h) one rest (subst (λ (ns : List Noted). All (IsFoundHeld h) ns) steps.0 before.found);
      counted = omega (arith, fewer, steps.1, before.counted);
    }

pub returns : goal.returns
returns g c =
    let h = g.F.Facts.history c.args.facts.now in
    let before = c.loop-one.invariant in
    let ended = none_left (into_iter_items c.loop-one.one-iterator) (before.counted ∙ c.in-None.ensures.steps.0) in
    let all : c.push.new.self.items ≡ folded_all h c.args.noted.items =
    c.in_ok-push.ensures.items
    ∙ ap (λ (ns : List Noted). c.loop-one.triples.items ++ list_folded h c.loop-one.last ns) (sym ended)
    ∙ before.so_far in
    subst (λ (ts : List Triple). AreJoined h c.args.noted.items ts) (sym all) (are_joined h c.args.noted.items c.requires.sorted)
