-- References to the elements of a list that pass a test: a loop over the elements, one element further.
use Rattle.std.proofs.Common.{◌≡◌, ℕ, ◌+◌, ◌<◌, ◌++◌, Bool, true, false, List, [], ◌∷◌, length, drop, get_or, ap, sym, ◌∙◌, append_assoc}
use Rattle.std.specs.Prelude.{filter}
use Rattle.std.proofs.lemmas.List.{map_push, at_drop_more}
use denote.Ref.{Bor}
use Rattle.tx_asks.specs.declared.triples.Triple.{Triple}
use Rattle.tx_rules.specs.Neighbours.{behind}

module _ (test : Triple → Bool) (xs : List Triple) (i : ℕ) (x : Triple) (inside : i < length xs) (is : x ≡ get_or xs i x)
    (old new : List (Bor Triple)) (whole : List Triple)
    (so_far : behind old ++ filter test (drop i xs) ≡ whole) where
  here : filter test (drop i xs) ≡ filter test (x ∷ drop (i + 1) xs)
  here = at_drop_more (filter test) xs i x inside ∙ ap (λ y. filter test (y ∷ drop (i + 1) xs)) (sym is)

  pub one_kept : (ref : Bor Triple) → ref.now ≡ x → test x ≡ true → new ≡ old ++ ref ∷ []
      → behind new ++ filter test (drop (i + 1) xs) ≡ whole
  one_kept ref to passes more =
      let rest = filter test (drop (i + 1) xs) in
      let found : filter test (drop i xs) ≡ x ∷ rest = here ∙ rw passes in
      ap (λ refs. behind refs ++ rest) more
      ∙ ap (λ list. list ++ rest) (map_push (λ (r : Bor Triple). r.now) old ref)
      ∙ append_assoc (behind old) (ref.now ∷ []) rest
      ∙ ap (λ y. behind old ++ y ∷ rest) to
      ∙ ap (λ list. behind old ++ list) (sym found)
      ∙ so_far

  pub none_kept : test x ≡ false → new ≡ old → behind new ++ filter test (drop (i + 1) xs) ≡ whole
  none_kept fails same =
      let rest = filter test (drop (i + 1) xs) in
      let found : filter test (drop i xs) ≡ rest = here ∙ rw fails in
      ap (λ refs. behind refs ++ rest) same ∙ ap (λ list. behind old ++ list) (sym found) ∙ so_far
