-- The tempids of a transaction in order, and their entities.
use Rattle.std.proofs.Common.{◌≡◌, ℕ, suc, ◌+◌, Bool, true, false, not, ◌&&◌, ◌||◌, cond, List, [], ◌∷◌, ◌++◌, map, append_assoc, length}
use Rattle.std.proofs.Common.{slice_get, refl, sym, ap, ◌∙◌, arith, add-zero}
use Rattle.std.specs.Prelude.{Some, ⊤, unwrap_or}
use Rattle.std.specs.List.{list_any}
use Rattle.std.proofs.lemmas.Bool.{false≢true}
use Rattle.std.proofs.lemmas.List.{map-append, append-nil}
use Rattle.std.proofs.lemmas.List.Folds.{list_any-append}
use Rattle.fb_numbers.specs.Numbers.{user_entity}
use Rattle.tx_model.specs.Asks.{Name, Ask}
use Rattle.tx_model.specs.Tempids.{Db, is_among, met_after, holders, number_from, with_texts}
use Rattle.tx_model.specs.Tempids as model
use Rattle.tx_asks.specs.Asks.{Legend, AreApart}
use Rattle.tx_resolve.specs.declared.holders.Slot.{Slot}
use Rattle.tx_resolve.specs.Tempids.{Tempid, named, nameless, is_same}
use Rattle.tx_resolve.specs.Meeting.{met_with, named_places}
use Rattle.tx_resolve.specs.Holders.{slot_at}
use Rattle.tx_resolve.specs.Numbers.{numbered, entity_next, number_next}
use Rattle.tx_resolve.proofs.Alike.{same_itself}
use Rattle.tx_resolve.proofs.Places.{name_in, IsMeant, AreMeant, meant_both, is_tempid-name_in, is_same_tempid-name_in}
use Rattle.tx_resolve.proofs.Keeping.{slot_of}
use Rattle.tx_resolve.proofs.InOrder.{numbered_name}
use Rattle.tx_resolve.proofs.Acted.{paired, none_left, rest_counted}

module _ (legend : Legend) (apart : AreApart legend.places) where
  or-swap : (b c : Bool) → (b || c) ≡ (c || (b || false))
  or-swap true true = refl
  or-swap true false = refl
  or-swap false true = refl
  or-swap false false = refl

  -- ---- the order of meeting

  -- the names that were met are those of the tempids that were
  abbrev HasMet : List Name → List Tempid → Type 0
  HasMet before met = (t : Tempid) → IsMeant legend t → is_among before (name_in legend t) ≡ list_any (is_same t) met

  met_more : (before : List Name) (met : List Tempid) (k : Tempid) → IsMeant legend k → HasMet before met
      → HasMet (name_in legend k ∷ before) (met ++ k ∷ [])
  met_more before met k is has t meant =
      ap (λ b. b || is_among before (name_in legend t)) (is_same_tempid-name_in legend apart t k meant is)
      ∙ ap (λ b. is_same t k || b) (has t meant)
      ∙ or-swap (is_same t k) (list_any (is_same t) met)
      ∙ sym (list_any-append (is_same t) met (k ∷ []))

  pub met_names : (before : List Name) (met ks : List Tempid) → AreMeant legend ks → HasMet before met
      → map (name_in legend) (met_with met ks) ≡ map (name_in legend) met ++ met_after before (map (name_in legend) ks)
  met_names before met [] meant has = sym (append-nil (map (name_in legend) met))
  met_names before met (k ∷ ks) meant has =
      at (λ b m h. met_names b m ks meant.1 h) (list_any (is_same k) met) refl
      ∙ ap (λ b. map (name_in legend) met ++ cond (b && not (is_among before (name_in legend k)))
      (name_in legend k ∷ met_after (name_in legend k ∷ before) (map (name_in legend) ks)) (met_after before (map (name_in legend) ks)))
      (sym (is_tempid-name_in legend k meant.0))
    where
      at : ((b : List Name) (m : List Tempid) → HasMet b m
          → map (name_in legend) (met_with m ks) ≡ map (name_in legend) m ++ met_after b (map (name_in legend) ks))
          → (b : Bool) → list_any (is_same k) met ≡ b
          → map (name_in legend) (met_with (cond (list_any (is_same k) met) met (met ++ k ∷ [])) ks)
          ≡ map (name_in legend) met ++ cond (not (is_among before (name_in legend k)))
          (name_in legend k ∷ met_after (name_in legend k ∷ before) (map (name_in legend) ks)) (met_after before (map (name_in legend) ks))
      at rest true is =
          ap (λ b. map (name_in legend) (met_with (cond b met (met ++ k ∷ [])) ks)) is
          ∙ rest before met has
          ∙ ap (λ b. map (name_in legend) met ++ cond (not b)
          (name_in legend k ∷ met_after (name_in legend k ∷ before) (map (name_in legend) ks)) (met_after before (map (name_in legend) ks)))
          (sym (has k meant.0 ∙ is))
      at rest false is =
          ap (λ b. map (name_in legend) (met_with (cond b met (met ++ k ∷ [])) ks)) is
          ∙ rest (name_in legend k ∷ before) (met ++ k ∷ []) (met_more before met k meant.0 has)
          ∙ ap (λ l. l ++ met_after (name_in legend k ∷ before) (map (name_in legend) ks)) (map-append (name_in legend) met (k ∷ []))
          ∙ append_assoc (map (name_in legend) met) (name_in legend k ∷ [])
          (met_after (name_in legend k ∷ before) (map (name_in legend) ks))
          ∙ ap (λ b. map (name_in legend) met ++ cond (not b)
          (name_in legend k ∷ met_after (name_in legend k ∷ before) (map (name_in legend) ks)) (met_after before (map (name_in legend) ks)))
          (sym (has k meant.0 ∙ is))

  pub met_meant : (met ks : List Tempid) → AreMeant legend met → AreMeant legend ks → AreMeant legend (met_with met ks)
  met_meant met [] all more = all
  met_meant met (k ∷ ks) all more =
      met_meant (cond (list_any (is_same k) met) met (met ++ k ∷ [])) ks (at (list_any (is_same k) met)) more.1
    where
      at : (b : Bool) → AreMeant legend (cond b met (met ++ k ∷ []))
      at true = all
      at false = meant_both legend met (k ∷ []) all (more.0, tt)

-- ---- the entities

pub length-numbered : (slots : List Slot) (n : ℕ) → length (numbered slots n) ≡ length slots
length-numbered [] n = refl
length-numbered (slot ∷ slots) n = ap suc (length-numbered slots (number_next slot.first n))

module _ (db : Db) (asks : List Ask) (added : Name → Bool) where
  -- what is known of each are the holders that the asks give to its name
  abbrev pub AreKnown : List Name → List Slot → Type 0
  AreKnown names slots = (p : ℕ) (m : Name) → slice_get names p ≡ Some m → slot_at slots p ≡ slot_of (holders db asks m) (added m)

  one_numbered : (m : Name) (n : ℕ) (es : List ℕ) (b : Bool) (names : List Name) (slots : List Slot)
      → ((n : ℕ) → number_from db asks names n ≡ paired names (numbered slots n))
      → model.number_next m n es (λ next. number_from db asks names next)
      ≡ (m, entity_next (slot_of es b).first n) ∷ paired names (numbered slots (number_next (slot_of es b).first n))
  one_numbered m n [] b names slots rest = ap (λ l. (m, user_entity (n + 1)) ∷ l) (rest (n + 1))
  one_numbered m n (e ∷ es) b names slots rest = ap (λ l. (m, e) ∷ l) (rest n)

  pub numbers_same : (names : List Name) (slots : List Slot) → length slots ≡ length names → AreKnown names slots → (n : ℕ)
      → number_from db asks names n ≡ paired names (numbered slots n)
  numbers_same [] slots counted known n = refl
  numbers_same (m ∷ names) [] counted known n = none_left (length names) counted
  numbers_same (m ∷ names) (slot ∷ slots) counted known n =
      one_numbered m n (holders db asks m) (added m) names slots
      (λ next. numbers_same names slots (rest_counted (length slots) (length names) counted) (λ p k is. known (suc p) k is) next)
      ∙ ap (λ (s : Slot). (m, entity_next s.first n) ∷ paired names (numbered slots (number_next s.first n))) (sym (known 0 m refl))

-- ---- what is told

later_place : (k i : ℕ) → k + 1 + i ≡ k + suc i
later_place k i = omega arith

one_told : (s : List ℕ) (k e : ℕ) (all : List ℕ) (rest more : List (List ℕ × ℕ)) → slice_get all k ≡ Some e → rest ≡ more
    → (s, e) ∷ rest ≡ (s, unwrap_or (slice_get all k) 0) ∷ more
one_told s k e all rest more is same = ap (λ l. (s, e) ∷ l) same ∙ ap (λ o. (s, unwrap_or o 0) ∷ more) (sym is)

pub texts_told : (legend : Legend) (all : List ℕ) (ts : List Tempid) (entities : List ℕ) (k : ℕ) → length entities ≡ length ts
    → ((i : ℕ) → slice_get all (k + i) ≡ slice_get entities i)
    → with_texts (paired (map (name_in legend) ts) entities) ≡ map (numbered_name all) (named_places k ts)
texts_told legend all [] entities k counted are = refl
texts_told legend all (t ∷ ts) [] k counted are = none_left (length ts) counted
texts_told legend all (named s ∷ ts) (e ∷ entities) k counted are =
    one_told s k e all (with_texts (paired (map (name_in legend) ts) entities)) (map (numbered_name all) (named_places (k + 1) ts))
    (ap (slice_get all) (sym (add-zero k)) ∙ are 0)
    (texts_told legend all ts entities (k + 1) (rest_counted (length entities) (length ts) counted)
    (λ i. ap (slice_get all) (later_place k i) ∙ are (suc i)))
texts_told legend all (nameless n ∷ ts) (e ∷ entities) k counted are =
    texts_told legend all ts entities (k + 1) (rest_counted (length entities) (length ts) counted)
    (λ i. ap (slice_get all) (later_place k i) ∙ are (suc i))

-- ---- each tempid is among those that are met

abbrev pub AreIn : List Tempid → List Tempid → Type 0
AreIn met [] = ⊤
AreIn met (t ∷ ts) = (list_any (is_same t) met ≡ true) × AreIn met ts

or-right : (b c : Bool) → c ≡ true → (b || c) ≡ true
or-right true c is = refl
or-right false c is = is

or-left : (b c : Bool) → b ≡ true → (b || c) ≡ true
or-left true c is = refl
or-left false c is = absurd (false≢true is)

stays : (met ks : List Tempid) (t : Tempid) → list_any (is_same t) met ≡ true → list_any (is_same t) (met_with met ks) ≡ true
stays met [] t is = is
stays met (k ∷ ks) t is = stays (cond (list_any (is_same k) met) met (met ++ k ∷ [])) ks t (at (list_any (is_same k) met))
  where
    at : (b : Bool) → list_any (is_same t) (cond b met (met ++ k ∷ [])) ≡ true
    at true = is
    at false = list_any-append (is_same t) met (k ∷ []) ∙ or-left (list_any (is_same t) met) (is_same t k || false) is

pub all_met : (met ks : List Tempid) → AreIn (met_with met ks) ks
all_met met [] = tt
all_met met (k ∷ ks) = (
  stays (cond (list_any (is_same k) met) met (met ++ k ∷ [])) ks k (at (list_any (is_same k) met) refl),
  all_met (cond (list_any (is_same k) met) met (met ++ k ∷ [])) ks,
)
  where
    at : (b : Bool) → list_any (is_same k) met ≡ b → list_any (is_same k) (cond b met (met ++ k ∷ [])) ≡ true
    at true is = is
    at false is =
        list_any-append (is_same k) met (k ∷ [])
        ∙ or-right (list_any (is_same k) met) (is_same k k || false) (or-left (is_same k k) false (same_itself k))
