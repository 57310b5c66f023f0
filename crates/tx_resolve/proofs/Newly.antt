-- A tempid that is met: it was met before, or it is kept at the next place.
use Rattle.std.proofs.Common.{◌≡◌, ℕ, ◌<◌, Bool, true, false, cond, List, [], ◌∷◌, ◌++◌, length, slice_set, refl, sym, ap, ◌∙◌, zero-add}
use Rattle.std.proofs.Common.{get_or-set_same, get_or-set_other, eqb-true, eq-eqb}
use Rattle.std.specs.Prelude.{Option, Some, None, slice_index_or, is_some}
use Rattle.std.specs.BTreeMap.{BTreeMap, get, Updates, insert_entry}
use Rattle.std.proofs.lemmas.Bool.{false≢true, true≢false}
use Rattle.std.proofs.lemmas.Map.Text.{is_eq-slice_cmp}
use Rattle.fb_values.specs.Orders.{text_cmp}
use Rattle.tx_model.specs.Tempids.{by_text, put_by_text}
use Rattle.tx_resolve.specs.declared.meeting.Met.{Met}
use Rattle.tx_resolve.specs.Tempids.{Tempid, named, nameless, is_same, place_in}
use Rattle.tx_resolve.specs.Meeting.{named_places, place_of, Meets}
use Rattle.tx_resolve.specs.Holders.{no_slot}
use Rattle.tx_resolve.proofs.Options.{none_there}
use Rattle.tx_resolve.proofs.Alike.{same_back}
use Rattle.tx_resolve.proofs.Meetings.{meets_again, meets_new}
use Rattle.tx_resolve.proofs.InOrder.{put_told, name_push, nameless_push}

-- ---- by its name

pub named_again : (a : Met) (s : List ℕ) → is_some (get text_cmp a.named s) ≡ true → Meets a a (named s ∷ [])
named_again a s is = meets_again a a (named s) (λ q. refl) refl refl is

module _ (a b : Met) (s : List ℕ) (absent : get text_cmp a.named s ≡ None)
    (updates : Updates text_cmp a.named b.named s (Some (length a.slots.items)))
    (entries : b.named.entries ≡ insert_entry text_cmp a.named.entries s (length a.slots.items))
    (others : b.nameless.items ≡ a.nameless.items) (slots : b.slots.items ≡ a.slots.items ++ no_slot ∷ []) where
  abbrev next : ℕ
  next = length a.slots.items

  named_at : (y : List ℕ) (same : Bool) → is_same (named y) (named s) ≡ same
      → get text_cmp b.named y ≡ cond same (Some next) (get text_cmp a.named y)
  named_at y same is =
      updates.0 y
      ∙ ap (λ x. cond x (Some next) (get text_cmp a.named y)) (is_eq-slice_cmp s y ∙ same_back (named s) (named y) ∙ is)

  named_here : (q : Tempid) → is_same q (named s) ≡ true → place_of b q ≡ Some next
  named_here (named y) is = named_at y true is
  named_here (nameless n) is = absurd (false≢true is)

  named_other : (q : Tempid) → is_same q (named s) ≡ false → place_of b q ≡ place_of a q
  named_other (named y) apart = named_at y false apart
  named_other (nameless n) apart = ap (λ l. slice_index_or l n None) others

  names_more : (met : List Tempid) → place_in met (named s) ≡ None → next ≡ length met
      → a.named.entries ≡ by_text (named_places 0 met) → b.named.entries ≡ by_text (named_places 0 (met ++ named s ∷ []))
  names_more met new counted are =
      entries
      ∙ put_told s next a.named.entries absent
      ∙ ap (put_by_text (s, next)) are
      ∙ sym (name_push s next met 0 (zero-add (length met) ∙ sym counted) new)

  pub named_new : Meets a b (named s ∷ [])
  named_new = meets_new a b (named s) absent named_here named_other names_more slots

-- ---- by its number, where there is room for it

pub nameless_again : (a b : Met) (n : ℕ) → b.named ≡ a.named → b.slots.items ≡ a.slots.items
    → ((k : ℕ) → slice_index_or b.nameless.items k None ≡ slice_index_or a.nameless.items k None)
    → is_some (slice_index_or b.nameless.items n None) ≡ true → Meets a b (nameless n ∷ [])
nameless_again a b n names slots same is =
    meets_again a b (nameless n) places (ap (λ (m : BTreeMap (List ℕ) ℕ). m.entries) names) slots (ap is_some (sym (same n)) ∙ is)
  where
    places : (q : Tempid) → place_of b q ≡ place_of a q
    places (named y) = ap (λ (m : BTreeMap (List ℕ) ℕ). get text_cmp m y) names
    places (nameless k) = same k

module _ (a b : Met) (n : ℕ) (reached : List (Option ℕ))
    (same : (k : ℕ) → slice_index_or reached k None ≡ slice_index_or a.nameless.items k None) (room : n < length reached)
    (new : is_some (slice_index_or reached n None) ≡ false) (names : b.named ≡ a.named)
    (others : b.nameless.items ≡ slice_set reached n (Some (length a.slots.items)))
    (slots : b.slots.items ≡ a.slots.items ++ no_slot ∷ []) where
  abbrev first_free : ℕ
  first_free = length a.slots.items

  absent_there : slice_index_or a.nameless.items n None ≡ None
  absent_there = none_there (slice_index_or a.nameless.items n None) (ap is_some (sym (same n)) ∙ new)

  nameless_here : (q : Tempid) → is_same q (nameless n) ≡ true → place_of b q ≡ Some first_free
  nameless_here (named y) is = absurd (false≢true is)
  nameless_here (nameless k) is =
      ap (λ l. slice_index_or l k None) others
      ∙ ap (λ i. slice_index_or (slice_set reached n (Some first_free)) i None) (eqb-true k n is)
      ∙ get_or-set_same reached n (Some first_free) None room

  nameless_other : (q : Tempid) → is_same q (nameless n) ≡ false → place_of b q ≡ place_of a q
  nameless_other (named y) apart = ap (λ (m : BTreeMap (List ℕ) ℕ). get text_cmp m y) names
  nameless_other (nameless k) apart =
      ap (λ l. slice_index_or l k None) others
      ∙ get_or-set_other reached n k (Some first_free) None (λ is. true≢false (sym (eq-eqb k n is) ∙ apart))
      ∙ same k

  names_same : (met : List Tempid) → place_in met (nameless n) ≡ None → first_free ≡ length met
      → a.named.entries ≡ by_text (named_places 0 met) → b.named.entries ≡ by_text (named_places 0 (met ++ nameless n ∷ []))
  names_same met absent counted are =
      ap (λ (m : BTreeMap (List ℕ) ℕ). m.entries) names ∙ are ∙ ap by_text (sym (nameless_push n met 0))

  pub nameless_new : Meets a b (nameless n ∷ [])
  nameless_new = meets_new a b (nameless n) absent_there nameless_here nameless_other names_same slots
