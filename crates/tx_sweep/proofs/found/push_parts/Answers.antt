use Rattle.std.proofs.Common.{◌≡◌, ℕ, ◌+◌, ◌<◌, ◌≤◌, ◌++◌, List, [], ◌∷◌, Option, Some, None, length, drop, get_or, ap, refl, sym, ◌∙◌}
use Rattle.std.proofs.Common.{append_assoc, arith}
use Rattle.std.specs.Prelude.{filter_map}
use Rattle.std.proofs.lemmas.List.{append-nil, at_drop_more, at_drop_all}
use Rattle.tx_sweep.specs.Sweep.{part_to}
use Rattle.tx_sweep.proofs.found.push_parts.Goals as goal

module _ {A B : Type 0} (f : A → Option B) (xs : List A) (i : ℕ) (old whole : List B)
    (so_far : old ++ filter_map f (drop i xs) ≡ whole) where
  module _ (x : A) (inside : i < length xs) (is : x ≡ get_or xs i x) (new : List B) where
    at : filter_map f (drop i xs) ≡ filter_map f (x ∷ drop (i + 1) xs)
    at = at_drop_more (filter_map f) xs i x inside ∙ ap (λ a. filter_map f (a ∷ drop (i + 1) xs)) (sym is)

    some_more : (y : B) → f x ≡ Some y → new ≡ old ++ y ∷ [] → new ++ filter_map f (drop (i + 1) xs) ≡ whole
    some_more y gives more =
        let rest = filter_map f (drop (i + 1) xs) in
        let here : filter_map f (drop i xs) ≡ y ∷ rest = at ∙ rw gives in
        ap (λ list. list ++ rest) more ∙ append_assoc old (y ∷ []) rest ∙ ap (λ list. old ++ list) (sym here) ∙ so_far

    none_more : f x ≡ None → new ≡ old → new ++ filter_map f (drop (i + 1) xs) ≡ whole
    none_more gives same =
        let rest = filter_map f (drop (i + 1) xs) in
        let here : filter_map f (drop i xs) ≡ rest = at ∙ rw gives in
        ap (λ list. list ++ rest) same ∙ ap (λ list. old ++ list) (sym here) ∙ so_far

  all_seen : length xs ≤ i → old ≡ whole
  all_seen outside = sym (append-nil old) ∙ ap (λ list. old ++ list) (sym (at_drop_all (filter_map f) xs i outside)) ∙ so_far

pub loop-d-preserved : goal.loop-d-preserved
loop-d-preserved c =
    let f = part_to c.args.schema.now in
    let i = c.loop-d.d-index in
    let facts = c.args.facts.now in
    let old = c.loop-d.stack.items in
    let whole = c.args.stack.now.items ++ filter_map f facts in
    let grows : (y : ℕ) → c.part_in.result ≡ Some y → (old ++ y ∷ []) ++ filter_map f (drop (i + 1) facts) ≡ whole =
    λ y found. some_more f facts i old whole c.loop-d.invariant c.d-item.result c.loop-d-test.true c.d-item.is (old ++ y ∷ []) y
    (sym c.part_in.ensures ∙ found) refl in
    let stays : c.part_in.result ≡ None → old ++ filter_map f (drop (i + 1) facts) ≡ whole =
    λ found. none_more f facts i old whole c.loop-d.invariant c.d-item.result c.loop-d-test.true c.d-item.is old
    (sym c.part_in.ensures ∙ found) refl in
    grind (arith, grows, stays)

pub returns : goal.returns
returns c =
    let f = part_to c.args.schema.now in
    all_seen f c.args.facts.now c.loop-d.d-index c.loop-d.stack.items
    (c.args.stack.now.items ++ filter_map f c.args.facts.now) c.loop-d.invariant c.loop-d-test.false
