-- One more act, and one more list of them.
use Rattle.std.proofs.Common.{◌≡◌, List, [], ◌∷◌, ◌++◌, map, sym, ap, ◌∙◌}
use Rattle.std.specs.Prelude.{Option, Some, None, option_map, option_to_list, filter_map}
use Rattle.std.specs.List.{cons_option}
use Rattle.std.proofs.lemmas.List.{map-append, append-nil}
use Rattle.std.proofs.lemmas.List.Elements.{filter_map-append}

module _ {A B C : Type 0} where
  one_more : (f : A → C) (h : B → Option C) (xs : List A) (ys : List B) (o : Option A) (y : B) (p : Option C) → option_map f o ≡ p
      → map f xs ≡ filter_map h ys → map f (xs ++ option_to_list o) ≡ filter_map h ys ++ cons_option p []
  one_more f h xs ys None y p is same =
      ap (map f) (append-nil xs) ∙ same ∙ sym (append-nil (filter_map h ys)) ∙ ap (λ q. filter_map h ys ++ cons_option q []) is
  one_more f h xs ys (Some x) y p is same =
      map-append f xs (x ∷ []) ∙ ap (λ l. l ++ f x ∷ []) same ∙ ap (λ q. filter_map h ys ++ cons_option q []) is

  pub push_some : (f : A → C) (h : B → Option C) (xs : List A) (ys : List B) (o : Option A) (y : B) → option_map f o ≡ h y
      → map f xs ≡ filter_map h ys → map f (xs ++ option_to_list o) ≡ filter_map h (ys ++ y ∷ [])
  push_some f h xs ys o y is same = one_more f h xs ys o y (h y) is same ∙ sym (filter_map-append h ys (y ∷ []))

  pub push_same : (f : A → C) (g : B → C) (xs : List A) (ys : List B) (x : A) (y : B) → f x ≡ g y → map f xs ≡ map g ys
      → map f (xs ++ x ∷ []) ≡ map g (ys ++ y ∷ [])
  push_same f g xs ys x y is same =
      map-append f xs (x ∷ []) ∙ ap (λ l. l ++ f x ∷ []) same ∙ ap (λ z. map g ys ++ z ∷ []) is ∙ sym (map-append g ys (y ∷ []))
