-- Where the notes of a seat that was joined stand, and beginnings of beginnings.
use Rattle.std.proofs.Common.{◌≡◌, ℕ, ◌+◌, suc, List, [], ◌∷◌, ◌++◌, length, ap, ◌∙◌, arith}
use Rattle.std.proofs.lemmas.List.{append_assoc}
use mathlib.Core.Option.{some}
use lib.ListN.{get_elem?}
use Rattle.board_rule.specs.declared.view.Joined.{Joined}
use Rattle.board_rule.specs.declared.view.View.{View}
use Rattle.board_rule.specs.Views.{StartsWith, note_of, both}
use Rattle.board_rule.proofs.Keeps.{at_longer}

pub starts_further : {A : Type 0} (l m first : List A) → StartsWith l m → StartsWith m first → StartsWith l first
starts_further l m first h g = (g.0 ++ h.0, h.1 ∙ (ap (λ z. z ++ h.0) g.1 ∙ append_assoc first g.0 h.0))

at_end : {A : Type 0} (l m : List A) (i : ℕ) → get_elem? (l ++ m) (length l + i) ≡ get_elem? m i
at_end [] m i = let z : 0 + i ≡ i = omega arith in ap (get_elem? m) z
at_end (x ∷ l) m i = let z : length (x ∷ l) + i ≡ suc (length l + i) = omega arith in ap (get_elem? (x ∷ l ++ m)) z ∙ at_end l m i

module _ {E : Type 0} (v u : View E) where
  pub old_notes : (k : ℕ) (p : Joined E) → get_elem? v.joined k ≡ some p → get_elem? (both v u).joined k ≡ some p
  old_notes k p e = at_longer v.joined (note_of v u ∷ u.joined) k p e

  pub new_note : get_elem? (both v u).joined (length v.joined) ≡ some (note_of v u)
  new_note = let z : length v.joined ≡ length v.joined + 0 = omega arith in
      ap (get_elem? (both v u).joined) z ∙ at_end v.joined (note_of v u ∷ u.joined) 0

  pub other_notes : (k : ℕ) (p : Joined E) → get_elem? u.joined k ≡ some p → get_elem? (both v u).joined (length v.joined + 1 + k) ≡ some p
  other_notes k p e = let z : length v.joined + 1 + k ≡ length v.joined + suc k = omega arith in
      ap (get_elem? (both v u).joined) z ∙ (at_end v.joined (note_of v u ∷ u.joined) (suc k) ∙ e)
