-- Names, and texts that are cut at a slash.
use Rattle.std.proofs.Common.{◌≡◌, ℕ, ◌<◌, ◌≤◌, Bool, true, false, List, [], ◌∷◌, length, Option, Some, None, option_map, Bor, refl, ap}
use Rattle.std.proofs.Common.{◌∙◌, arith}
use Rattle.std.specs.Option.{MatchOption}
use Rattle.std.specs.List.{list_any, list_all, position_or_len, before_first, after_first}
use Rattle.fb_model.specs.Words.{is_slash, is_name_byte, is_name}
use Rattle.edn_values.specs.Texts.{cut_at_slash}

pub is_name_where : (text : List ℕ) → 1 ≤ length text → is_name text ≡ list_all is_name_byte text
is_name_where [] some = absurd (omega arith)
is_name_where (b ∷ rest) some = refl

any_before_end : (p : ℕ → Bool) (xs : List ℕ) → position_or_len p xs < length xs → list_any p xs ≡ true
any_before_end p [] below = absurd (omega arith)
any_before_end p (x ∷ xs) below = grind (arith, any_before_end p xs)

none_at_end : (p : ℕ → Bool) (xs : List ℕ) → position_or_len p xs ≡ length xs → list_any p xs ≡ false
none_at_end p [] at = refl
none_at_end p (x ∷ xs) at = grind (arith, none_at_end p xs)

pub cut : (text : List ℕ) (r : Option (Bor (List ℕ) × Bor (List ℕ)))
    → MatchOption r (position_or_len is_slash text ≡ length text)
    (λ x. (position_or_len is_slash text < length text) × (x.0.now ≡ before_first is_slash text) × (x.1.now ≡ after_first is_slash text))
    → option_map {U = List ℕ × List ℕ} (λ parts. (parts.0.now, parts.1.now)) r ≡ cut_at_slash text
cut text None at = rw (none_at_end is_slash text at) refl
cut text (Some x) found =
    rw (any_before_end is_slash text found.0)
    (ap (λ before. Some (before, x.1.now)) found.1 ∙ ap (λ after. Some (before_first is_slash text, after)) found.2)
