-- Tempids as names of the definitions, where the maps without `:db/id` stand at these places.
use Rattle.std.proofs.Common.{◌≡◌, ℕ, zero, suc, ◌<◌, Bool, true, false, cond, List, [], ◌∷◌, ◌++◌, map, filter, length, slice_get, refl}
use Rattle.std.proofs.Common.{sym, ap, ◌∙◌, eqb-true, eq-eqb, subst}
use Rattle.std.proofs.lemmas.Slice.Eq.{bytes_eq-Decides}
use Rattle.std.proofs.lemmas.Option.{slice_get-map}
use Rattle.std.proofs.lemmas.List.{map-append}
use Rattle.std.proofs.lemmas.List.Elements.{filter-append}
use Rattle.std.specs.Prelude.{Option, Some, None, nat_eq, bytes_eq, slice_index_or, flat_map, ⊤}
use Rattle.std.specs.List.{All}
use Rattle.std.proofs.lemmas.List.Elements.{All-head, All-tail}
use Rattle.tx_model.specs.Asks.{Name, tempid, nameless, own_tempid, is_tempid, is_same_tempid, names_of, name_of_part}
use Rattle.tx_asks.specs.declared.asks.Name as asks
use Rattle.tx_asks.specs.declared.asks.Name.TheVariants as name
use Rattle.tx_asks.specs.declared.asks.Operand.{Operand}
use Rattle.tx_asks.specs.declared.asks.Operand.TheVariants as part
use Rattle.tx_asks.specs.declared.asks.Ask.{Ask}
use Rattle.tx_asks.specs.declared.asks.Ask.TheVariants as ask
use Rattle.tx_asks.specs.Asks.{Legend, AreApart, name_of, part_of, old_part_of, ask_of, IsCounted, IsCountedPart, IsCountedOldPart}
use Rattle.tx_asks.specs.Asks.{AreCounted}
use Rattle.tx_resolve.specs.Tempids.{Tempid, is_same}
use Rattle.tx_resolve.specs.Tempids as tempids
use Rattle.tx_resolve.specs.Meeting.{tempid_of, tempids_of_part, tempids_of_old_part, tempids_of}
use Rattle.tx_resolve.proofs.Alike.{same_test}
use Rattle.tx_resolve.proofs.Apart.{AreDistinct, same_places}
use Rattle.tx_resolve.proofs.Lookups.{lookup_is_no_tempid}
use Rattle.tx_resolve.proofs.Options.{none_not, same_some, map_some}

abbrev pub name_in : Legend → Tempid → Name
name_in legend (tempids.named text) = tempid text
name_in legend (tempids.nameless n) = nameless (slice_index_or legend.places n [])

-- it is a tempid indeed: not the transaction's own, and of a map that is counted
abbrev pub IsMeant : Legend → Tempid → Type 0
IsMeant legend (tempids.named text) = bytes_eq text own_tempid ≡ false
IsMeant legend (tempids.nameless n) = n < length legend.places

abbrev pub AreMeant : Legend → List Tempid → Type 0
AreMeant legend [] = ⊤
AreMeant legend (t ∷ ts) = IsMeant legend t × AreMeant legend ts

pub meant_both : (legend : Legend) (xs ys : List Tempid) → AreMeant legend xs → AreMeant legend ys → AreMeant legend (xs ++ ys)
meant_both legend [] ys all more = more
meant_both legend (x ∷ xs) ys all more = (all.0, meant_both legend xs ys all.1 more)

pub is_tempid-name_in : (legend : Legend) (t : Tempid) → IsMeant legend t → is_tempid (name_in legend t) ≡ true
is_tempid-name_in legend (tempids.named text) meant = ap (λ b. cond b false true) meant
is_tempid-name_in legend (tempids.nameless n) meant = refl

alike_places : (legend : Legend) → AreApart legend.places → (m n : ℕ) → m < length legend.places → n < length legend.places
    → bytes_eq (slice_index_or legend.places m []) (slice_index_or legend.places n []) ≡ nat_eq m n
alike_places legend apart m n m_in n_in =
    same_test _ _
    (λ same.
    let is = apart m n m_in n_in ((bytes_eq-Decides (slice_index_or legend.places m []) (slice_index_or legend.places n [])).0 same) in
    eq-eqb m n is)
    (λ same. (bytes_eq-Decides (slice_index_or legend.places m []) (slice_index_or legend.places n [])).1
    (ap (λ i. slice_index_or legend.places i []) (eqb-true m n same)))

-- two of them have one name where they are the same
pub is_same_tempid-name_in : (legend : Legend) → AreApart legend.places → (x y : Tempid) → IsMeant legend x → IsMeant legend y
    → is_same_tempid (name_in legend x) (name_in legend y) ≡ is_same x y
is_same_tempid-name_in legend apart (tempids.named x) (tempids.named y) mx my = refl
is_same_tempid-name_in legend apart (tempids.named x) (tempids.nameless n) mx my = refl
is_same_tempid-name_in legend apart (tempids.nameless n) (tempids.named y) mx my = refl
is_same_tempid-name_in legend apart (tempids.nameless m) (tempids.nameless n) mx my = alike_places legend apart m n mx my

-- ---- names that are tempids, each once

-- all of them are tempids, and no two are the same
pub record AreTempids (names : List Name) : Type 0 where
  pub tempids_are : (p : ℕ) (n : Name) → slice_get names p ≡ Some n → is_tempid n ≡ true
  pub apart : (p q : ℕ) (m n : Name) → slice_get names p ≡ Some m → slice_get names q ≡ Some n → is_same_tempid m n ≡ nat_eq p q

meant_at : (legend : Legend) (ts : List Tempid) (p : ℕ) (t : Tempid) → AreMeant legend ts → slice_get ts p ≡ Some t → IsMeant legend t
meant_at legend [] p t meant is = none_not is
meant_at legend (x ∷ ts) zero t meant is = subst (IsMeant legend) (same_some is) meant.0
meant_at legend (x ∷ ts) (suc p) t meant is = meant_at legend ts p t meant.1 is

module _ (legend : Legend) (apart : AreApart legend.places) (ts : List Tempid) (meant : AreMeant legend ts)
    (distinct : AreDistinct ts) where
  abbrev names : List Name
  names = map (name_in legend) ts

  is_one : (p : ℕ) (n : Name) → slice_get names p ≡ Some n → is_tempid n ≡ true
  is_one p n is =
      let t = map_some (name_in legend) (slice_get ts p) n (sym (slice_get-map (name_in legend) ts p) ∙ is) in
      subst (λ m. is_tempid m ≡ true) t.gives (is_tempid-name_in legend t.from (meant_at legend ts p t.from meant t.is))

  are_apart : (p q : ℕ) (m n : Name) → slice_get names p ≡ Some m → slice_get names q ≡ Some n → is_same_tempid m n ≡ nat_eq p q
  are_apart p q m n is are =
      let t = map_some (name_in legend) (slice_get ts p) m (sym (slice_get-map (name_in legend) ts p) ∙ is) in
      let u = map_some (name_in legend) (slice_get ts q) n (sym (slice_get-map (name_in legend) ts q) ∙ are) in
      ap (λ x. is_same_tempid x n) (sym t.gives)
      ∙ ap (is_same_tempid (name_in legend t.from)) (sym u.gives)
      ∙ is_same_tempid-name_in legend apart t.from u.from (meant_at legend ts p t.from meant t.is) (meant_at legend ts q u.from meant u.is)
      ∙ same_places ts distinct p q t.from u.from t.is u.is

  pub names_are_tempids : AreTempids (map (name_in legend) ts)
  names_are_tempids = record { tempids_are = is_one; apart = are_apart }

-- ---- the tempids of asks

module _ (legend : Legend) where
  name_tempids : (x : asks.Name) → filter is_tempid (name_of legend x ∷ []) ≡ map (name_in legend) (tempid_of x)
  name_tempids (name.Number n) = refl
  name_tempids (name.Ident k) = refl
  name_tempids (name.Lookup n) = ap (λ b. cond b (name_of legend (name.Lookup n) ∷ []) []) (lookup_is_no_tempid legend.lookups n)
  name_tempids (name.Tempid text) = at (bytes_eq text.now own_tempid)
    where
      at : (b : Bool)
          → cond (cond b false true) (tempid text.now ∷ []) [] ≡ map (name_in legend) (cond b [] (tempids.named text.now ∷ []))
      at true = refl
      at false = refl
  name_tempids (name.Nameless n) = refl

  part_tempids : (p : Operand) → filter is_tempid (name_of_part (part_of legend p)) ≡ map (name_in legend) (tempids_of_part p)
  part_tempids (part.Plain f v) = refl
  part_tempids (part.Entity x) = name_tempids x

  old_part_tempids : (p : Option Operand)
      → filter is_tempid (name_of_part (old_part_of legend p)) ≡ map (name_in legend) (tempids_of_old_part p)
  old_part_tempids None = refl
  old_part_tempids (Some p) = part_tempids p

  both_tempids : (xs ys : List Name) (ts us : List Tempid) → filter is_tempid xs ≡ map (name_in legend) ts
      → filter is_tempid ys ≡ map (name_in legend) us
      → filter is_tempid (xs ++ ys) ≡ map (name_in legend) (ts ++ us)
  both_tempids xs ys ts us same more =
      filter-append is_tempid xs ys
      ∙ ap (λ l. l ++ filter is_tempid ys) same
      ∙ ap (λ l. map (name_in legend) ts ++ l) more
      ∙ sym (map-append (name_in legend) ts us)

  ask_tempids : (x : Ask) → filter is_tempid (names_of (ask_of legend x)) ≡ map (name_in legend) (tempids_of x)
  ask_tempids (ask.Adds on a p) =
      both_tempids (name_of legend on ∷ []) (name_of_part (part_of legend p)) (tempid_of on) (tempids_of_part p) (name_tempids on)
      (part_tempids p)
  ask_tempids (ask.Retracts on a p) =
      both_tempids (name_of legend on ∷ []) (name_of_part (part_of legend p)) (tempid_of on) (tempids_of_part p) (name_tempids on)
      (part_tempids p)
  ask_tempids (ask.RetractsAll on a) = name_tempids on
  ask_tempids (ask.Compares c) =
      both_tempids (name_of legend c.on ∷ []) (name_of_part (old_part_of legend c.old) ++ name_of_part (part_of legend c.new))
      (tempid_of c.on) (tempids_of_old_part c.old ++ tempids_of_part c.new) (name_tempids c.on)
      (both_tempids (name_of_part (old_part_of legend c.old)) (name_of_part (part_of legend c.new)) (tempids_of_old_part c.old)
      (tempids_of_part c.new) (old_part_tempids c.old) (part_tempids c.new))
  ask_tempids (ask.RetractsEntity on) = name_tempids on
  ask_tempids (ask.Meets on) = name_tempids on

  pub all_tempids : (xs : List Ask)
      → filter is_tempid (flat_map names_of (map (ask_of legend) xs)) ≡ map (name_in legend) (flat_map tempids_of xs)
  all_tempids [] = refl
  all_tempids (x ∷ xs) =
      both_tempids (names_of (ask_of legend x)) (flat_map names_of (map (ask_of legend) xs)) (tempids_of x) (flat_map tempids_of xs)
      (ask_tempids x) (all_tempids xs)

  -- ---- they are meant

  name_meant : (x : asks.Name) → IsCounted (length legend.places) x → AreMeant legend (tempid_of x)
  name_meant (name.Number n) counted = tt
  name_meant (name.Ident k) counted = tt
  name_meant (name.Lookup n) counted = tt
  name_meant (name.Tempid text) counted = at (bytes_eq text.now own_tempid) refl
    where
      at : (b : Bool) → bytes_eq text.now own_tempid ≡ b → AreMeant legend (cond b [] (tempids.named text.now ∷ []))
      at true is = tt
      at false is = (is, tt)
  name_meant (name.Nameless n) counted = (counted, tt)

  part_meant : (p : Operand) → IsCountedPart (length legend.places) p → AreMeant legend (tempids_of_part p)
  part_meant (part.Plain f v) counted = tt
  part_meant (part.Entity x) counted = name_meant x counted

  old_part_meant : (p : Option Operand) → IsCountedOldPart (length legend.places) p → AreMeant legend (tempids_of_old_part p)
  old_part_meant None counted = tt
  old_part_meant (Some p) counted = part_meant p counted

  ask_meant : (x : Ask) → AreCounted (length legend.places) x → AreMeant legend (tempids_of x)
  ask_meant (ask.Adds on a p) counted =
      meant_both legend (tempid_of on) (tempids_of_part p) (name_meant on counted.0) (part_meant p counted.1)
  ask_meant (ask.Retracts on a p) counted =
      meant_both legend (tempid_of on) (tempids_of_part p) (name_meant on counted.0) (part_meant p counted.1)
  ask_meant (ask.RetractsAll on a) counted = name_meant on counted
  ask_meant (ask.Compares c) counted =
      meant_both legend (tempid_of c.on) (tempids_of_old_part c.old ++ tempids_of_part c.new) (name_meant c.on counted.0)
      (meant_both legend (tempids_of_old_part c.old) (tempids_of_part c.new) (old_part_meant c.old counted.1) (part_meant c.new counted.2))
  ask_meant (ask.RetractsEntity on) counted = name_meant on counted
  ask_meant (ask.Meets on) counted = name_meant on counted

  pub all_meant : (xs : List Ask) → All (AreCounted (length legend.places)) xs → AreMeant legend (flat_map tempids_of xs)
  all_meant [] counted = tt
  all_meant (x ∷ xs) counted =
      meant_both legend (tempids_of x) (flat_map tempids_of xs) (ask_meant x (All-head (AreCounted (length legend.places)) x xs counted))
      (all_meant xs (All-tail (AreCounted (length legend.places)) x xs counted))
