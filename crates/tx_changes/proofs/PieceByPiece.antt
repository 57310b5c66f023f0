-- A list that grows by what each element of another gives: a loop over the elements, one element further.
use Rattle.std.proofs.Common.{◌≡◌, ℕ, ◌+◌, ◌<◌, ◌≤◌, ◌++◌, List, [], ◌∷◌, length, drop, get_or, ap, sym, ◌∙◌, append_assoc}
use Rattle.std.proofs.lemmas.List.{append-nil, at_drop_more, at_drop_all}

module _ {A B : Type 0} (pieces : List A → List B) (piece : A → List B) (xs : List A) (i : ℕ) (old whole : List B)
    (so_far : old ++ pieces (drop i xs) ≡ whole) where
  -- where what a list gives is what its first gives before what the others give
  pub piece_more : ((x : A) (ys : List A) → pieces (x ∷ ys) ≡ piece x ++ pieces ys) → (x : A) → i < length xs → x ≡ get_or xs i x
      → (new : List B) → new ≡ old ++ piece x → new ++ pieces (drop (i + 1) xs) ≡ whole
  piece_more first x inside is new more =
      let later = drop (i + 1) xs in
      let here : pieces (drop i xs) ≡ piece x ++ pieces later =
      at_drop_more pieces xs i x inside
      ∙ ap (λ a. pieces (a ∷ later)) (sym is)
      ∙ first x later in
      ap (λ list. list ++ pieces later) more
      ∙ append_assoc old (piece x) (pieces later)
      ∙ ap (λ list. old ++ list) (sym here)
      ∙ so_far

  pub pieces_all : pieces [] ≡ [] → length xs ≤ i → old ≡ whole
  pieces_all nothing outside =
      sym (append-nil old)
      ∙ ap (λ list. old ++ list) (sym (at_drop_all pieces xs i outside ∙ nothing))
      ∙ so_far
