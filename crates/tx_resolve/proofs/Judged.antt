-- The rules of an ask and of its draft.
use Rattle.std.proofs.Common.{◌≡◌, ℕ, ◌+◌, Bool, true, false, not, ◌&&◌, ◌||◌, cond, List, [], ◌∷◌, ◌++◌, slice_get, refl, sym, ap, ◌∙◌}
use Rattle.std.proofs.Common.{eq-eqb}
use Rattle.std.specs.Prelude.{Option, Some, None, option_map, option_and_then, is_none, is_some, bytes_eq, nat_eq, slice_index_or, ⊤}
use Rattle.std.specs.Option.{option_map_or}
use Rattle.std.specs.List.{list_any}
use Rattle.std.proofs.lemmas.List.Folds.{list_any-append}
use Rattle.edn_form.specs.View.{form_of}
use Rattle.fb_numbers.specs.Numbers.{transaction_of}
use Rattle.fb_model.specs.History.{basis}
use Rattle.fb_model.specs.Schema.{attribute_named}
use Rattle.fb_schema.specs.declared.attribute.Attribute.{Attribute}
use Rattle.tx_model.specs.Asks as model
use Rattle.tx_model.specs.Asks.{own_tempid, is_tempid, is_same_tempid, names_of, name_of_part}
use Rattle.tx_model.specs.Tempids.{Db, found, identified, identity_holder, holders}
use Rattle.tx_model.specs.NameRules.{adds_to, finds_none, gives_one_of_two, is_added_to_by_none}
use Rattle.tx_asks.specs.declared.asks.Name.{Name}
use Rattle.tx_asks.specs.declared.asks.Name.TheVariants as name
use Rattle.tx_asks.specs.declared.asks.Operand as asks
use Rattle.tx_asks.specs.declared.asks.Operand.TheVariants as part
use Rattle.tx_asks.specs.declared.asks.Ask.{Ask}
use Rattle.tx_asks.specs.declared.asks.Ask.TheVariants as ask
use Rattle.tx_asks.specs.Asks.{Legend, name_of, part_of, old_part_of, ask_of}
use Rattle.tx_resolve.specs.declared.whom.EntityRef.{EntityRef}
use Rattle.tx_resolve.specs.declared.whom.EntityRef.TheVariants.{Known, New}
use Rattle.tx_resolve.specs.declared.drafts.Operand.{Operand}
use Rattle.tx_resolve.specs.declared.drafts.Operand.TheVariants.{Plain, Entity}
use Rattle.tx_resolve.specs.declared.drafts.Draft.{Draft}
use Rattle.tx_resolve.specs.declared.drafts.Draft.TheVariants as draft
use Rattle.tx_resolve.specs.declared.holders.Slot.{Slot}
use Rattle.tx_resolve.specs.declared.meeting.Met.{Met}
use Rattle.tx_resolve.specs.Tempids.{Tempid, named, nameless}
use Rattle.tx_resolve.specs.Whoms.{all_found, whom_of}
use Rattle.tx_resolve.specs.Drafts as drafts
use Rattle.tx_resolve.specs.Drafts.{is_lost, holder_for}
use Rattle.tx_resolve.specs.Meeting.{tempid_of, tempids_of_part, tempids_of_old_part, tempids_of, place_of, place_in_ref, place_in_part}
use Rattle.tx_resolve.specs.Meeting.{place_in_old_part}
use Rattle.tx_resolve.specs.Holders.{slot_at, has_another}
use Rattle.tx_resolve.specs.Breaks as breaks
use Rattle.tx_resolve.proofs.Lookups.{lookup_lost}
use Rattle.tx_resolve.proofs.Options.{is_none-map, is_none-and_then, is_none-some}
use Rattle.tx_resolve.proofs.Keeping.{slot_of, other_than, another_of, is_added_to}
use Rattle.tx_resolve.proofs.Places.{AreTempids}
use Rattle.tx_resolve.proofs.Relates.{IsWhom, IsPart, IsOldPart, Relates}
use Rattle.tx_resolve.proofs.Asked.{identity_given}

or-false : (b : Bool) → (b || false) ≡ b
or-false true = refl
or-false false = refl

-- ---- a name that finds no entity

-- each of the tempids was met
abbrev pub ArePlaced : Met → List Tempid → Type 0
ArePlaced met [] = ⊤
ArePlaced met (t ∷ ts) = (is_some (place_of met t) ≡ true) × ArePlaced met ts

pub placed_first : (met : Met) (xs ys : List Tempid) → ArePlaced met (xs ++ ys) → ArePlaced met xs
placed_first met [] ys placed = tt
placed_first met (x ∷ xs) ys placed = (placed.0, placed_first met xs ys placed.1)

pub placed_rest : (met : Met) (xs ys : List Tempid) → ArePlaced met (xs ++ ys) → ArePlaced met ys
placed_rest met [] ys placed = placed
placed_rest met (x ∷ xs) ys placed = placed_rest met xs ys placed.1

module _ (legend : Legend) (db : Db) (met : Met) where
  new_lost : (t : Tempid) → ArePlaced met (t ∷ []) → is_none (option_map New (place_of met t)) ≡ false
  new_lost t placed = is_none-map New (place_of met t) ∙ is_none-some (place_of met t) placed.0

  text_lost : (s : List ℕ) (b : Bool) → ArePlaced met (cond b [] (named s ∷ []))
      → is_none (cond b (Some (Known (transaction_of (basis db.history + 1)))) (option_map New (place_of met (named s)))) ≡ false
  text_lost s true placed = refl
  text_lost s false placed = new_lost (named s) placed

  whom_lost : (x : Name) → ArePlaced met (tempid_of x)
      → is_none (whom_of db (all_found db legend.lookups) met x) ≡ finds_none db (name_of legend x)
  whom_lost (name.Number n) placed = is_none-map Known (found db (model.number n))
  whom_lost (name.Ident k) placed = is_none-map Known (found db (model.ident k.now))
  whom_lost (name.Lookup n) placed =
      is_none-map Known (slice_index_or (all_found db legend.lookups) n None) ∙ lookup_lost db legend.lookups n
  whom_lost (name.Tempid text) placed = text_lost text.now (bytes_eq text.now own_tempid) placed
  whom_lost (name.Nameless n) placed = new_lost (nameless n) placed

  part_lost : (p : asks.Operand) → ArePlaced met (tempids_of_part p)
      → is_none (drafts.part_of db (all_found db legend.lookups) met p) ≡ list_any (finds_none db) (name_of_part (part_of legend p))
  part_lost (part.Plain f v) placed = refl
  part_lost (part.Entity x) placed =
      is_none-map Entity (whom_of db (all_found db legend.lookups) met x)
      ∙ whom_lost x placed
      ∙ sym (or-false (finds_none db (name_of legend x)))

  old_part_lost : (p : Option asks.Operand) → ArePlaced met (tempids_of_old_part p)
      → is_none (drafts.old_part_of db (all_found db legend.lookups) met p) ≡ list_any (finds_none db) (name_of_part (old_part_of legend p))
  old_part_lost None placed = refl
  old_part_lost (Some p) placed = is_none-map Some (drafts.part_of db (all_found db legend.lookups) met p) ∙ part_lost p placed

  one_lost : (x : Name) → ArePlaced met (tempid_of x)
      → is_none (whom_of db (all_found db legend.lookups) met x) ≡ list_any (finds_none db) (name_of legend x ∷ [])
  one_lost x placed = whom_lost x placed ∙ sym (or-false (finds_none db (name_of legend x)))

  both_lost : (x : Name) (b c : Bool) → ArePlaced met (tempid_of x) → b ≡ c
      → (is_none (whom_of db (all_found db legend.lookups) met x) || b) ≡ (finds_none db (name_of legend x) || c)
  both_lost x b c placed same = ap (λ d. d || b) (whom_lost x placed) ∙ ap (λ d. finds_none db (name_of legend x) || d) same

  pub ask_lost : (x : Ask) → ArePlaced met (tempids_of x)
      → is_lost db (all_found db legend.lookups) met x ≡ list_any (finds_none db) (names_of (ask_of legend x))
  ask_lost (ask.Adds on a p) placed =
      is_none-and_then (λ whom. option_map (λ found. draft.Adds whom a found (holder_for db whom a.now found))
      (drafts.part_of db (all_found db legend.lookups) met p)) (is_none (drafts.part_of db (all_found db legend.lookups) met p))
      (λ whom. is_none-map (λ found. draft.Adds whom a found (holder_for db whom a.now found))
      (drafts.part_of db (all_found db legend.lookups) met p)) (whom_of db (all_found db legend.lookups) met on)
      ∙ both_lost on _ _ (placed_first met (tempid_of on) (tempids_of_part p) placed)
      (part_lost p (placed_rest met (tempid_of on) (tempids_of_part p) placed))
  ask_lost (ask.Retracts on a p) placed =
      is_none-and_then (λ whom. option_map (draft.Retracts whom a) (drafts.part_of db (all_found db legend.lookups) met p))
      (is_none (drafts.part_of db (all_found db legend.lookups) met p))
      (λ whom. is_none-map (draft.Retracts whom a) (drafts.part_of db (all_found db legend.lookups) met p))
      (whom_of db (all_found db legend.lookups) met on)
      ∙ both_lost on _ _ (placed_first met (tempid_of on) (tempids_of_part p) placed)
      (part_lost p (placed_rest met (tempid_of on) (tempids_of_part p) placed))
  ask_lost (ask.RetractsAll on a) placed =
      is_none-map (λ whom. draft.RetractsAll whom a) (whom_of db (all_found db legend.lookups) met on) ∙ one_lost on placed
  ask_lost (ask.Compares c) placed =
      is_none-and_then
      (λ whom. option_and_then (λ before. option_map (drafts.compares whom c.attribute before)
      (drafts.part_of db (all_found db legend.lookups) met c.new))
      (drafts.old_part_of db (all_found db legend.lookups) met c.old))
      (is_none (drafts.old_part_of db (all_found db legend.lookups) met c.old)
      || is_none (drafts.part_of db (all_found db legend.lookups) met c.new))
      (λ whom. is_none-and_then (λ before. option_map (drafts.compares whom c.attribute before)
      (drafts.part_of db (all_found db legend.lookups) met c.new))
      (is_none (drafts.part_of db (all_found db legend.lookups) met c.new))
      (λ before. is_none-map (drafts.compares whom c.attribute before) (drafts.part_of db (all_found db legend.lookups) met c.new))
      (drafts.old_part_of db (all_found db legend.lookups) met c.old)) (whom_of db (all_found db legend.lookups) met c.on)
      ∙ both_lost c.on _ _ (placed_first met (tempid_of c.on) (tempids_of_old_part c.old ++ tempids_of_part c.new) placed)
      (ap (λ b. b || is_none (drafts.part_of db (all_found db legend.lookups) met c.new))
      (old_part_lost c.old (placed_first met (tempids_of_old_part c.old) (tempids_of_part c.new) (rest placed)))
      ∙ ap (λ b. list_any (finds_none db) (name_of_part (old_part_of legend c.old)) || b)
      (part_lost c.new (placed_rest met (tempids_of_old_part c.old) (tempids_of_part c.new) (rest placed)))
      ∙ sym (list_any-append (finds_none db) (name_of_part (old_part_of legend c.old)) (name_of_part (part_of legend c.new))))
    where
      rest : ArePlaced met (tempid_of c.on ++ (tempids_of_old_part c.old ++ tempids_of_part c.new))
          → ArePlaced met (tempids_of_old_part c.old ++ tempids_of_part c.new)
      rest placed = placed_rest met (tempid_of c.on) (tempids_of_old_part c.old ++ tempids_of_part c.new) placed
  ask_lost (ask.RetractsEntity on) placed =
      is_none-map draft.RetractsEntity (whom_of db (all_found db legend.lookups) met on) ∙ one_lost on placed
  ask_lost (ask.Meets on) placed = is_none-map draft.Meets (whom_of db (all_found db legend.lookups) met on) ∙ one_lost on placed

-- ---- the rules on tempids

-- what is known of the tempids is what all asks give them
module _ (legend : Legend) (db : Db) (names : List model.Name) (tempids : AreTempids names) (all : List model.Ask) (slots : List Slot)
    (known : (p : ℕ) (n : model.Name) → slice_get names p ≡ Some n
    → slot_at slots p ≡ slot_of (holders db all n) (list_any (adds_to n) all)) where
  -- a tempid that nothing is added to

  whom_uses : (n : model.Name) (w : EntityRef) → IsWhom legend db names n w
      → list_any (is_added_to_by_none all) (n ∷ []) ≡ list_any (breaks.is_added_to_by_none slots) (place_in_ref w)
  whom_uses n (Known e) is = ap (λ b. (b && not (list_any (adds_to n) all)) || false) is.0
  whom_uses n (New p) is =
      ap (λ b. (b && not (list_any (adds_to n) all)) || false) (tempids.tempids_are p n is)
      ∙ ap (λ b. not b || false) (sym (is_added_to (holders db all n) (list_any (adds_to n) all) (slot_at slots p) (known p n is)))

  part_uses : (a : Attribute) (p : asks.Operand) (q : Operand) → IsPart legend db names a p q
      → list_any (is_added_to_by_none all) (name_of_part (part_of legend p))
      ≡ list_any (breaks.is_added_to_by_none slots) (place_in_part q)
  part_uses a (part.Plain f v) (Plain w) is = refl
  part_uses a (part.Entity x) (Entity w) is = whom_uses (name_of legend x) w is
  part_uses a p q is = absurd is

  old_part_uses : (a : Attribute) (p : Option asks.Operand) (q : Option Operand) → IsOldPart legend db names a p q
      → list_any (is_added_to_by_none all) (name_of_part (old_part_of legend p))
      ≡ list_any (breaks.is_added_to_by_none slots) (place_in_old_part q)
  old_part_uses a None None is = refl
  old_part_uses a (Some p) (Some q) is = part_uses a p q is
  old_part_uses a p q is = absurd is

  both_use : (xs ys : List model.Name) (ps qs : List ℕ)
      → list_any (is_added_to_by_none all) xs ≡ list_any (breaks.is_added_to_by_none slots) ps
      → list_any (is_added_to_by_none all) ys ≡ list_any (breaks.is_added_to_by_none slots) qs
      → list_any (is_added_to_by_none all) (xs ++ ys) ≡ list_any (breaks.is_added_to_by_none slots) (ps ++ qs)
  both_use xs ys ps qs one more =
      list_any-append (is_added_to_by_none all) xs ys
      ∙ ap (λ b. b || list_any (is_added_to_by_none all) ys) one
      ∙ ap (λ b. list_any (breaks.is_added_to_by_none slots) ps || b) more
      ∙ sym (list_any-append (breaks.is_added_to_by_none slots) ps qs)

  pub ask_uses : (x : Ask) (d : Draft) → Relates legend db names x d
      → list_any (is_added_to_by_none all) (names_of (ask_of legend x)) ≡ breaks.uses_one_of_none slots d
  ask_uses (ask.Adds on asked p) (draft.Adds w a q holder) r =
      both_use (name_of legend on ∷ []) (name_of_part (part_of legend p)) (place_in_ref w) (place_in_part q)
      (whom_uses (name_of legend on) w r.0) (part_uses a.now p q r.2)
  ask_uses (ask.Retracts on asked p) (draft.Retracts w a q) r =
      both_use (name_of legend on ∷ []) (name_of_part (part_of legend p)) (place_in_ref w) (place_in_part q)
      (whom_uses (name_of legend on) w r.0) (part_uses a.now p q r.2)
  ask_uses (ask.RetractsAll on asked) (draft.RetractsAll w a) r = whom_uses (name_of legend on) w r.0
  ask_uses (ask.Compares c) (draft.Compares d) r =
      both_use (name_of legend c.on ∷ []) (name_of_part (old_part_of legend c.old) ++ name_of_part (part_of legend c.new))
      (place_in_ref d.on) (place_in_old_part d.old ++ place_in_part d.new) (whom_uses (name_of legend c.on) d.on r.0)
      (both_use (name_of_part (old_part_of legend c.old)) (name_of_part (part_of legend c.new)) (place_in_old_part d.old)
      (place_in_part d.new) (old_part_uses d.attribute.now c.old d.old r.2) (part_uses d.attribute.now c.new d.new r.3))
  ask_uses (ask.RetractsEntity on) (draft.RetractsEntity w) r = whom_uses (name_of legend on) w r
  ask_uses (ask.Meets on) (draft.Meets w) r = whom_uses (name_of legend on) w r
  ask_uses x d r = absurd r

  -- a tempid of two holders

  -- an ask that gives no holder
  no_gift : (m : model.Ask) (ns : List model.Name)
      → ((n : model.Name) → identified db n m ≡ None) → list_any (gives_one_of_two db all m) ns ≡ false
  no_gift m [] none = refl
  no_gift m (n ∷ ns) none =
      ap (λ o. (is_tempid n && option_map_or (λ e. other_than e (holders db all n)) o false)
      || list_any (gives_one_of_two db all m) ns) (none n)
      ∙ at (is_tempid n)
      ∙ no_gift m ns none
    where
      at : (b : Bool) → ((b && false) || list_any (gives_one_of_two db all m) ns) ≡ list_any (gives_one_of_two db all m) ns
      at true = refl
      at false = refl

  other_holder : (p : ℕ) (n : model.Name) → slice_get names p ≡ Some n → (o : Option ℕ)
      → option_map_or (λ e. other_than e (holders db all n)) o false ≡ option_map_or (has_another (slot_at slots p)) o false
  other_holder p n is None = refl
  other_holder p n is (Some e) =
      sym (another_of (holders db all n) (list_any (adds_to n) all) e) ∙ ap (λ slot. has_another slot e) (sym (known p n is))

  -- an ask of the tempid gives this holder
  gift : (m : model.Ask) (n : model.Name) (p : ℕ) (o : Option ℕ) → slice_get names p ≡ Some n → identified db n m ≡ o
      → list_any (gives_one_of_two db all m) (n ∷ []) ≡ option_map_or (has_another (slot_at slots p)) o false
  gift m n p o is given =
      or-false (gives_one_of_two db all m n)
      ∙ ap (λ b. b && option_map_or (λ e. other_than e (holders db all n)) (identified db n m) false) (tempids.tempids_are p n is)
      ∙ ap (λ o. option_map_or (λ e. other_than e (holders db all n)) o false) given
      ∙ other_holder p n is o

  pub ask_gives : (x : Ask) (d : Draft) → Relates legend db names x d
      → list_any (gives_one_of_two db all (ask_of legend x)) (names_of (ask_of legend x)) ≡ breaks.gives_one_of_two slots d
  ask_gives (ask.Adds on asked (part.Plain f v)) (draft.Adds (Known e) a (Plain w) o) r =
      ap (λ b. (b && option_map_or (λ e. other_than e (holders db all (name_of legend on)))
      (identified db (name_of legend on) (ask_of legend (ask.Adds on asked (part.Plain f v)))) false) || false) r.0.0
  ask_gives (ask.Adds on asked (part.Plain f v)) (draft.Adds (New p) a (Plain w) o) r =
      gift (ask_of legend (ask.Adds on asked (part.Plain f v))) (name_of legend on) p o r.0
      (ap (λ b. cond b (option_and_then (identity_holder db (form_of f.now)) (attribute_named db.facts asked.now.ident)) None)
      (tempids.apart p p (name_of legend on) (name_of legend on) r.0 r.0 ∙ same_number p)
      ∙ identity_given legend db names tempids (form_of f.now) asked.now.ident a.now w o p r.1 r.2 r.3)
    where
      same_number : (p : ℕ) → nat_eq p p ≡ true
      same_number p = eq-eqb p p refl
  ask_gives (ask.Adds on asked (part.Entity y)) (draft.Adds (Known e) a (Entity w) o) r =
      no_gift (ask_of legend (ask.Adds on asked (part.Entity y))) (names_of (ask_of legend (ask.Adds on asked (part.Entity y))))
      (λ n. refl)
  ask_gives (ask.Adds on asked (part.Entity y)) (draft.Adds (New p) a (Entity w) o) r =
      no_gift (ask_of legend (ask.Adds on asked (part.Entity y))) (names_of (ask_of legend (ask.Adds on asked (part.Entity y))))
      (λ n. refl)
      ∙ ap (λ p'. option_map_or (has_another (slot_at slots p)) p' false) (sym r.3)
  ask_gives (ask.Adds on asked p) (draft.Adds w a q o) r = absurd r.2
  ask_gives (ask.Retracts on asked p) (draft.Retracts w a q) r =
      no_gift (ask_of legend (ask.Retracts on asked p)) (names_of (ask_of legend (ask.Retracts on asked p))) (λ n. refl)
  ask_gives (ask.RetractsAll on asked) (draft.RetractsAll w a) r =
      no_gift (ask_of legend (ask.RetractsAll on asked)) (names_of (ask_of legend (ask.RetractsAll on asked))) (λ n. refl)
  ask_gives (ask.Compares c) (draft.Compares d) r =
      no_gift (ask_of legend (ask.Compares c)) (names_of (ask_of legend (ask.Compares c))) (λ n. refl)
  ask_gives (ask.RetractsEntity on) (draft.RetractsEntity w) r =
      no_gift (ask_of legend (ask.RetractsEntity on)) (names_of (ask_of legend (ask.RetractsEntity on))) (λ n. refl)
  ask_gives (ask.Meets on) (draft.Meets w) r =
      no_gift (ask_of legend (ask.Meets on)) (names_of (ask_of legend (ask.Meets on))) (λ n. refl)
  ask_gives x d r = absurd r
