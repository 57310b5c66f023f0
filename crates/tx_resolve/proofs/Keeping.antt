-- What is known of the tempids after one more draft.
use Rattle.std.proofs.Common.{◌≡◌, ℕ, zero, suc, ◌<◌, Bool, true, false, not, ◌||◌, cond, List, [], ◌∷◌, ◌++◌, length, replicate, slice_set}
use Rattle.std.proofs.Common.{refl, sym, ap, ◌∙◌, subst, get_or-set_same, get_or-set_other, eqb-true, eq-eqb}
use Rattle.std.specs.Prelude.{Option, Some, None, nat_eq}
use Rattle.std.specs.Option.{option_map_or}
use Rattle.std.specs.List.{list_any, cons_option}
use Rattle.std.proofs.lemmas.Bool.{true≢false}
use Rattle.std.proofs.lemmas.List.{length-set}
use Rattle.tx_resolve.specs.declared.drafts.Draft.{Draft}
use Rattle.tx_resolve.specs.declared.holders.Slot.{Slot}
use Rattle.tx_resolve.specs.Holders.{no_slot, has_another, with_addition, slot_at, addition_of, with_draft, slots_of}

pub slots_of-append : (slots : List Slot) (xs ys : List Draft) → slots_of slots (xs ++ ys) ≡ slots_of (slots_of slots ys) xs
slots_of-append slots [] ys = refl
slots_of-append slots (x ∷ xs) ys = ap (with_draft x) (slots_of-append slots xs ys)

length-with : (asked : Draft) (slots : List Slot) → length (with_draft asked slots) ≡ length slots
length-with asked slots = at (addition_of asked)
  where
    at : (o : Option (ℕ × Option ℕ))
        → length (option_map_or (λ (addition : ℕ × Option ℕ). slice_set slots addition.0
        (with_addition addition.1 (slot_at slots addition.0))) o slots)
        ≡ length slots
    at None = refl
    at (Some addition) = length-set slots addition.0 (with_addition addition.1 (slot_at slots addition.0))

pub length-slots : (slots : List Slot) (ds : List Draft) → length (slots_of slots ds) ≡ length slots
length-slots slots [] = refl
length-slots slots (d ∷ ds) = length-with d (slots_of slots ds) ∙ length-slots slots ds

pub nothing_known : (n p : ℕ) → slot_at (replicate n no_slot) p ≡ no_slot
nothing_known zero p = refl
nothing_known (suc n) zero = refl
nothing_known (suc n) (suc p) = nothing_known n p

-- ---- what is known of one, where these are the holders that it is given

abbrev pub other_than : ℕ → List ℕ → Bool
other_than e es = list_any (λ other. not (nat_eq other e)) es

abbrev pub slot_of : List ℕ → Bool → Slot
slot_of [] added = record { first = None; differ = false; added_to = added }
slot_of (e ∷ es) added = record { first = Some e; differ = other_than e es; added_to = added }

pub another_of : (es : List ℕ) (added : Bool) (e : ℕ) → has_another (slot_of es added) e ≡ other_than e es
another_of [] added e = refl
another_of (f ∷ es) added e = at (nat_eq f e) refl
  where
    at : (b : Bool) → nat_eq f e ≡ b → (not b || other_than f es) ≡ (not b || other_than e es)
    at true is = ap (λ g. other_than g es) (eqb-true f e is)
    at false is = refl

added_to_of : (es : List ℕ) (added : Bool) → (slot_of es added).added_to ≡ added
added_to_of [] added = refl
added_to_of (e ∷ es) added = refl

pub is_added_to : (es : List ℕ) (added : Bool) (slot : Slot) → slot ≡ slot_of es added → slot.added_to ≡ added
is_added_to es added slot is = ap (λ (s : Slot). s.added_to) is ∙ added_to_of es added

with_one : (es : List ℕ) (added : Bool) (holder : Option ℕ)
    → with_addition holder (slot_of es added) ≡ slot_of (cons_option holder es) true
with_one [] added None = refl
with_one (f ∷ es) added None = refl
with_one es added (Some e) =
    ap (λ b. record { first = Some e; differ = b; added_to = true }) (another_of es added e)

-- an addition to the tempid with the place q
pub one_added : (slots : List Slot) (p q : ℕ) (holder : Option ℕ) (es : List ℕ) (added b : Bool) → nat_eq p q ≡ b → p < length slots
    → slot_at slots p ≡ slot_of es added
    → slot_at (slice_set slots q (with_addition holder (slot_at slots q))) p ≡ slot_of (cons_option (cond b holder None) es) (b || added)
one_added slots p q holder es added true is inside known =
    let same : p ≡ q = eqb-true p q is in
    subst (λ r. slot_at (slice_set slots r (with_addition holder (slot_at slots r))) p ≡ slot_of (cons_option holder es) true) same
    (get_or-set_same slots p (with_addition holder (slot_at slots p)) no_slot inside
    ∙ ap (with_addition holder) known
    ∙ with_one es added holder)
one_added slots p q holder es added false is inside known =
    get_or-set_other slots q p (with_addition holder (slot_at slots q)) no_slot
    (λ same. true≢false (sym (eq-eqb p q same) ∙ is))
    ∙ known
