use Rattle.std.proofs.Common.{◌≡◌, ◌+◌, ◌++◌, Bool, true, false, cond, List, [], ◌∷◌, drop, refl, ap, sym, ◌∙◌, append_assoc}
use Rattle.std.specs.Prelude.{filter}
use Rattle.std.proofs.lemmas.List.{at_drop_more}
use Rattle.tx_after.specs.Triples.{is_added}
use Rattle.tx_after.proofs.merge.push_additions.Goals as goal

first_or_none : {A : Type 0} (b : Bool) (x : A) (xs : List A) → cond b (x ∷ xs) xs ≡ cond b (x ∷ []) [] ++ xs
first_or_none true x xs = refl
first_or_none false x xs = refl

pub loop-d-preserved : goal.loop-d-preserved
loop-d-preserved c =
    let d = c.d-item.result in
    let old = c.loop-d.list.items in
    let later = drop (c.loop-d.d-index + 1) c.args.changes.now in
    let rest = filter is_added later in
    let piece = cond d.added (d ∷ []) [] in
    let here : filter is_added (drop c.loop-d.d-index c.args.changes.now) ≡ piece ++ rest =
    at_drop_more (filter is_added) c.args.changes.now c.loop-d.d-index d c.loop-d-test.true
    ∙ ap (λ x. filter is_added (x ∷ later)) (sym c.d-item.is)
    ∙ first_or_none d.added d rest in
    ap (λ list. list ++ rest) c.in_ok-push_addition.ensures
    ∙ append_assoc old piece rest
    ∙ ap (λ list. old ++ list) (sym here)
    ∙ c.loop-d.invariant
