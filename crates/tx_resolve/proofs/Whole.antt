-- All asks of a transaction with all drafts.
use Rattle.std.proofs.Common.{◌≡◌, ℕ, ◌<◌, Bool, true, false, not, ◌&&◌, ◌||◌, cond, List, [], ◌∷◌, ◌++◌, map, filter, length, slice_get}
use Rattle.std.proofs.Common.{Vec, Global, refl, sym, ap, ◌∙◌, arith}
use Rattle.std.specs.Prelude.{Option, Some, ⊤, filter_map}
use Rattle.std.specs.List.{list_any, cons_option, All}
use Rattle.std.proofs.lemmas.Option.{slice_get_within}
use Rattle.std.proofs.lemmas.List.Elements.{All-nil, All-cons, All-head, All-tail}
use Rattle.tx_model.specs.Asks as model
use Rattle.tx_model.specs.Asks.{Name, is_tempid}
use Rattle.tx_model.specs.Tempids.{Db, is_among, met_after, holders}
use Rattle.tx_model.specs.NameRules.{adds_to}
use Rattle.tx_asks.specs.declared.asks.Ask.{Ask}
use Rattle.tx_asks.specs.Asks.{Legend, ask_of, IsTyped}
use Rattle.tx_asks.specs.Acts.{IsSettled}
use Rattle.tx_resolve.specs.declared.drafts.Draft.{Draft}
use Rattle.tx_resolve.specs.declared.holders.Slot.{Slot}
use Rattle.tx_resolve.specs.declared.meeting.Met.{Met}
use Rattle.tx_resolve.specs.Tempids.{Tempid}
use Rattle.tx_resolve.specs.Whoms.{all_found}
use Rattle.tx_resolve.specs.Drafts.{draft_of, AreFound}
use Rattle.tx_resolve.specs.Meeting.{place_of, asks_in, drafts_in}
use Rattle.tx_resolve.specs.Holders.{no_slot, slot_at, slots_of}
use Rattle.tx_resolve.proofs.Keeping.{slot_of, length-slots}
use Rattle.tx_resolve.proofs.Places.{name_in, AreTempids}
use Rattle.tx_resolve.proofs.Relates.{Relates, relates}
use Rattle.tx_resolve.proofs.Asked.{ask_known}
use Rattle.tx_resolve.proofs.Acted.{paired, ask_settled}

-- ---- lists

pub head_of : {A : Type 0} {x y : A} {xs ys : List A} → x ∷ xs ≡ y ∷ ys → x ≡ y
head_of is = cc

pub tail_of : {A : Type 0} {x y : A} {xs ys : List A} → x ∷ xs ≡ y ∷ ys → xs ≡ ys
tail_of is = cc

empty_not : {A C : Type 0} {x : A} {xs : List A} → ◌≡◌ {A = List A} [] (x ∷ xs) → C
empty_not is = absurd (cc)

-- names that are no tempids are passed over
pub met_filter : (before names : List Name) → met_after before names ≡ met_after before (filter is_tempid names)
met_filter before [] = refl
met_filter before (n ∷ names) = at (λ b. met_filter b names) (is_tempid n) refl
  where
    at : ((b : List Name) → met_after b names ≡ met_after b (filter is_tempid names)) → (b : Bool) → is_tempid n ≡ b
        → met_after before (n ∷ names) ≡ met_after before (filter is_tempid (n ∷ names))
    at rest true is =
        ap (λ l. cond (is_tempid n && not (is_among before n)) (n ∷ l) (met_after before names)) (rest (n ∷ before))
        ∙ ap (λ l. cond (is_tempid n && not (is_among before n)) (n ∷ met_after (n ∷ before) (filter is_tempid names)) l) (rest before)
        ∙ ap (λ b. met_after before (cond b (n ∷ filter is_tempid names) (filter is_tempid names))) (sym is)
    at rest false is =
        ap (λ b. cond (b && not (is_among before n)) (n ∷ met_after (n ∷ before) names) (met_after before names)) is
        ∙ rest before
        ∙ ap (λ b. met_after before (cond b (n ∷ filter is_tempid names) (filter is_tempid names))) (sym is)

module _ (legend : Legend) (db : Db) (names : List Name) where
  abbrev pub RelateAll : List Ask → List Draft → Type 0
  RelateAll [] [] = ⊤
  RelateAll (x ∷ xs) (d ∷ ds) = Relates legend db names x d × RelateAll xs ds
  RelateAll xs ds = ⊥

  abbrev pub RelateForms : List (Vec Ask Global) → List (Vec Draft Global) → Type 0
  RelateForms [] [] = ⊤
  RelateForms (f ∷ fs) (g ∷ gs) = RelateAll f.items g.items × RelateForms fs gs
  RelateForms fs gs = ⊥

  module _ (met : Met) (placed : (t : Tempid) (p : ℕ) → place_of met t ≡ Some p → slice_get names p ≡ Some (name_in legend t)) where
    relate_all : (xs : List Ask) (ds : List Draft) → map Some ds ≡ map (draft_of db (all_found db legend.lookups) met) xs
        → All (IsTyped db.facts) xs → RelateAll xs ds
    relate_all [] [] is read = tt
    relate_all [] (d ∷ ds) is read = empty_not (sym is)
    relate_all (x ∷ xs) [] is read = empty_not is
    relate_all (x ∷ xs) (d ∷ ds) is read = (
      relates legend db names met placed x d (All-head (IsTyped db.facts) x xs read) (sym (head_of is)),
      relate_all xs ds (tail_of is) (All-tail (IsTyped db.facts) x xs read),
    )

    pub relate_forms : (fs : List (Vec Ask Global)) (gs : List (Vec Draft Global)) → AreFound db (all_found db legend.lookups) met fs gs
        → All (λ (form : Vec Ask Global). All (IsTyped db.facts) form.items) fs → RelateForms fs gs
    relate_forms [] [] is read = tt
    relate_forms [] (g ∷ gs) is read = empty_not (sym is)
    relate_forms (f ∷ fs) [] is read = empty_not is
    relate_forms (f ∷ fs) (g ∷ gs) is read = (
      relate_all f.items g.items (head_of is) (All-head (λ (form : Vec Ask Global). All (IsTyped db.facts) form.items) f fs read),
      relate_forms fs gs (tail_of is) (All-tail (λ (form : Vec Ask Global). All (IsTyped db.facts) form.items) f fs read),
    )

  -- ---- what each ask has in common with its draft, of all asks

  relate_both : (xs ys : List Ask) (ds es : List Draft) → RelateAll xs ds → RelateAll ys es → RelateAll (xs ++ ys) (ds ++ es)
  relate_both [] ys [] es r s = s
  relate_both (x ∷ xs) ys (d ∷ ds) es r s = (r.0, relate_both xs ys ds es r.1 s)
  relate_both xs ys ds es r s = absurd r

  pub relate_joined : (fs : List (Vec Ask Global)) (gs : List (Vec Draft Global)) → RelateForms fs gs
      → RelateAll (asks_in fs) (drafts_in gs)
  relate_joined [] [] r = tt
  relate_joined (f ∷ fs) (g ∷ gs) r =
      relate_both f.items (asks_in fs) g.items (drafts_in gs) r.0 (relate_joined fs gs r.1)
  relate_joined fs gs r = absurd r

  pub any_related : (f : model.Ask → Bool) (g : Draft → Bool)
      → ((x : Ask) (d : Draft) → Relates legend db names x d → f (ask_of legend x) ≡ g d)
      → (xs : List Ask) (ds : List Draft) → RelateAll xs ds → list_any f (map (ask_of legend) xs) ≡ list_any g ds
  any_related f g same [] [] r = refl
  any_related f g same (x ∷ xs) (d ∷ ds) r =
      ap (λ b. b || list_any f (map (ask_of legend) xs)) (same x d r.0) ∙ ap (λ b. g d || b) (any_related f g same xs ds r.1)
  any_related f g same xs ds r = absurd r

  pub filter_map_related : {C : Type 0} (f : model.Ask → Option C) (g : Draft → Option C)
      → ((x : Ask) (d : Draft) → Relates legend db names x d → f (ask_of legend x) ≡ g d)
      → (xs : List Ask) (ds : List Draft) → RelateAll xs ds → filter_map f (map (ask_of legend) xs) ≡ filter_map g ds
  filter_map_related f g same [] [] r = refl
  filter_map_related f g same (x ∷ xs) (d ∷ ds) r =
      ap (λ o. cons_option o (filter_map f (map (ask_of legend) xs))) (same x d r.0)
      ∙ ap (cons_option (g d)) (filter_map_related f g same xs ds r.1)
  filter_map_related f g same xs ds r = absurd r

  pub map_related : {C : Type 0} (f : List model.Ask → C) (g : List Draft → C)
      → ((xs : List Ask) (ds : List Draft) → RelateAll xs ds → f (map (ask_of legend) xs) ≡ g ds)
      → (fs : List (Vec Ask Global)) (gs : List (Vec Draft Global)) → RelateForms fs gs
      → map f (map (λ form. map (ask_of legend) form.items) fs) ≡ map (λ form. g form.items) gs
  map_related f g same [] [] r = refl
  map_related {C} f g same (x ∷ fs) (d ∷ gs) r = both (same x.items d.items r.0) (map_related f g same fs gs r.1)
    where
      both : {a b : C} {cs bs : List C} → a ≡ b → cs ≡ bs → a ∷ cs ≡ b ∷ bs
      both p q = cc
  map_related f g same fs gs r = absurd r

  -- ---- what is known of the tempids

  module _ (tempids : AreTempids names) (slots : List Slot) (fresh : (p : ℕ) → slot_at slots p ≡ no_slot)
      (counted : length slots ≡ length names) where
    within : (p m n : ℕ) → p < n → length slots ≡ n → m ≡ length slots → p < m
    within p m n inside are same = omega arith

    pub slots_known : (xs : List Ask) (ds : List Draft) → RelateAll xs ds → (p : ℕ) (n : Name) → slice_get names p ≡ Some n
        → slot_at (slots_of slots ds) p
        ≡ slot_of (holders db (map (ask_of legend) xs) n) (list_any (adds_to n) (map (ask_of legend) xs))
    slots_known [] [] r p n is = fresh p
    slots_known (x ∷ xs) (d ∷ ds) r p n is =
        ask_known legend db names tempids p n is x d r.0 (slots_of slots ds) (holders db (map (ask_of legend) xs) n)
        (list_any (adds_to n) (map (ask_of legend) xs))
        (within p (length (slots_of slots ds)) (length names) (slice_get_within names p n is) counted (length-slots slots ds))
        (slots_known xs ds r.1 p n is)
    slots_known xs ds r p n is = absurd r

  -- ---- every ask is settled

  module _ (tempids : AreTempids names) (entities : List ℕ) (counted : length entities ≡ length names) where
    pub form_settled : (xs : List Ask) (ds : List Draft) → RelateAll xs ds
        → All (IsSettled db (paired names entities)) (map (ask_of legend) xs)
    form_settled [] [] r = All-nil (IsSettled db (paired names entities))
    form_settled (x ∷ xs) (d ∷ ds) r =
        All-cons (IsSettled db (paired names entities)) (ask_of legend x) (map (ask_of legend) xs)
        (ask_settled legend db names tempids entities counted x d r.0) (form_settled xs ds r.1)
    form_settled xs ds r = absurd r
