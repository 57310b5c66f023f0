use Rattle.std.proofs.Common.{◌∷◌, ◌++◌, map, vec_items, flat_map, ap, sym, ◌∙◌, append_assoc}
use Rattle.std.proofs.lemmas.Iterator.Adapters.{YieldsList-from_vec}
use Rattle.std.proofs.lemmas.Iterator.Consumers.{YieldsList-end}
use Rattle.edn_duplicates.proofs.Steps.{joined_more, the_same}
use Rattle.edn_duplicates.proofs.code.join.Goals as goal

pub loop-part-preserved : goal.loop-part-preserved
loop-part-preserved c =
    let done = c.loop-part.yielded in
    let part = c.in-Some.part in
    let first = c.in_ok-tokens.tokens.items in
    c.in_ok-append.ensures.items ∙ ap (λ z. z ++ part.items) c.loop-part.invariant
    ∙ append_assoc first (flat_map (λ p. p) (map vec_items done)) part.items ∙ ap (λ z. first ++ z) (sym (joined_more done part))

pub returns : goal.returns
returns c =
    let gives = c.into_iter-part-iterator.ensures.into_iter_gives in
    let all =
    YieldsList-end (YieldsList-from_vec {s = c.into_iter-part-iterator.result} c.args.parts.items gives.0 (gives.1 ∙ c.args.parts.ok.0))
    c.loop-part.yielded c.loop-part.part-iterator c.loop-part.yielded_by c.next.result c.next.new.self c.in-None.is c.next.ensures.steps in
    c.loop-part.invariant ∙ ap (λ z. z ++ flat_map (λ p. p) (map vec_items c.loop-part.yielded)) c.in_ok-tokens.ensures
    ∙ ap (λ ys. c.args.front ∷ flat_map (λ p. p) (map vec_items ys)) (sym (the_same c.loop-part.yielded) ∙ all.0)
