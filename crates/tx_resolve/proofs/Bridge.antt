-- What the definitions say of the asks is what the drafts come to.
use Rattle.std.proofs.Common.{◌≡◌, ℕ, ◌≤◌, Bool, true, false, ◌||◌, cond, List, [], ◌∷◌, ◌++◌, map, filter, length, slice_get, Vec, Global}
use Rattle.std.proofs.Common.{refl, sym, ap, ◌∙◌, subst, arith, zero-add}
use Rattle.std.specs.Prelude.{Option, Some, None, is_some, option_map, filter_map, flat_map}
use Rattle.std.specs.List.{list_any, cons_option, All}
use Rattle.std.proofs.lemmas.Bool.{true≢false}
use Rattle.std.proofs.lemmas.Option.{slice_get-map}
use Rattle.std.proofs.lemmas.List.{map-append, length-map, length-replicate}
use Rattle.std.proofs.lemmas.List.Elements.{All-nil, All-cons, All-head, All-tail}
use Rattle.std.proofs.lemmas.Grind.{flat_map-append}
use Rattle.fb_model.specs.History.{users_issued}
use Rattle.tx_model.specs.Asks as model
use Rattle.tx_model.specs.Asks.{Name, names_of}
use Rattle.tx_model.specs.Tempids.{Db, met_after, tempids_in, holders, assigned, number_from, named_tempids, by_text}
use Rattle.tx_model.specs.NameRules.{adds_to, finds_none, gives_one_of_two, is_added_to_by_none, breaks_not_an_entity}
use Rattle.tx_model.specs.NameRules.{breaks_tempid_conflict, breaks_tempid_not_an_entity}
use Rattle.tx_model.specs.Transaction.{joined, with_names}
use Rattle.tx_model.specs.Step.{first_yes}
use Rattle.tx_asks.specs.declared.asks.Ask.{Ask}
use Rattle.tx_asks.specs.declared.asks.Flat.{Flat}
use Rattle.tx_asks.specs.Asks.{legend_of, Legend, ask_of, matters, AreAsks, AreApart, AreCounted}
use Rattle.tx_asks.specs.Acts.{Act, act_of, IsSettled, AreActs}
use Rattle.tx_resolve.specs.declared.drafts.Draft.{Draft}
use Rattle.tx_resolve.specs.declared.holders.Slot.{Slot}
use Rattle.tx_resolve.specs.declared.meeting.Met.{Met}
use Rattle.tx_resolve.specs.Tempids.{Tempid}
use Rattle.tx_resolve.specs.Whoms.{all_found}
use Rattle.tx_resolve.specs.Drafts.{is_lost, lost_at, AreFound}
use Rattle.tx_resolve.specs.Meeting.{tempids_of, met_with, place_of, asks_in, drafts_in, AreMet}
use Rattle.tx_resolve.specs.Holders.{no_slot, slot_at, slots_of}
use Rattle.tx_resolve.specs.Numbers as numbers
use Rattle.tx_resolve.specs.Numbers.{numbered, with_entity}
use Rattle.tx_resolve.specs.Breaks as breaks
use Rattle.tx_resolve.specs.Breaks.{first_form}
use Rattle.tx_resolve.specs.Settled.{slots_in, entities_in, drafted_acts, told_names}
use Rattle.tx_resolve.proofs.Apart.{distinct_met}
use Rattle.tx_resolve.proofs.Keeping.{slot_of, length-slots, nothing_known}
use Rattle.tx_resolve.proofs.Meetings.{some_met, place_at}
use Rattle.tx_resolve.proofs.InOrder.{told_in_order}
use Rattle.tx_resolve.proofs.Places.{name_in, AreMeant, AreTempids, names_are_tempids, all_tempids, all_meant}
use Rattle.tx_resolve.proofs.Acted.{paired, ask_act}
use Rattle.tx_resolve.proofs.Numbered.{met_names, met_meant, AreKnown, numbers_same, length-numbered, texts_told, AreIn, all_met}
use Rattle.tx_resolve.proofs.Judged.{ArePlaced, placed_first, placed_rest, ask_lost, ask_uses, ask_gives}
use Rattle.tx_resolve.proofs.Whole.{met_filter, RelateAll, RelateForms, relate_forms, relate_joined, any_related, filter_map_related}
use Rattle.tx_resolve.proofs.Whole.{map_related, slots_known, form_settled}

-- ---- asks that ask for nothing

-- what is said of them by the laws of asks
pub record AskNothing : Type 0 where
  pub names : (ask : model.Ask) → matters ask ≡ false → names_of ask ≡ []
  pub holders_are : (db : Db) (asks : List model.Ask) (name : Name) → holders db (filter matters asks) name ≡ holders db asks name
  pub assigned_are : (db : Db) (asks : List model.Ask) → assigned db (filter matters asks) ≡ assigned db asks
  pub joined_are : (asks : List (List model.Ask)) → joined (map (filter matters) asks) ≡ filter matters (joined asks)

any_matters : (test : model.Ask → Bool) → ((ask : model.Ask) → matters ask ≡ false → test ask ≡ false) → (list : List model.Ask)
    → list_any test (filter matters list) ≡ list_any test list
any_matters test none [] = refl
any_matters test none (x ∷ xs) = at (any_matters test none xs) (matters x) refl
  where
    at : list_any test (filter matters xs) ≡ list_any test xs → (b : Bool) → matters x ≡ b
        → list_any test (cond b (x ∷ filter matters xs) (filter matters xs)) ≡ (test x || list_any test xs)
    at rest true is = ap (λ b. test x || b) rest
    at rest false is = rest ∙ ap (λ b. b || list_any test xs) (sym (none x is))

filter_map_matters : {C : Type 0} (f : model.Ask → Option C) → ((ask : model.Ask) → matters ask ≡ false → f ask ≡ None)
    → (list : List model.Ask) → filter_map f (filter matters list) ≡ filter_map f list
filter_map_matters f none [] = refl
filter_map_matters f none (x ∷ xs) = at (filter_map_matters f none xs) (matters x) refl
  where
    at : filter_map f (filter matters xs) ≡ filter_map f xs → (b : Bool) → matters x ≡ b
        → filter_map f (cond b (x ∷ filter matters xs) (filter matters xs)) ≡ cons_option (f x) (filter_map f xs)
    at rest true is = ap (cons_option (f x)) rest
    at rest false is = rest ∙ ap (λ o. cons_option o (filter_map f xs)) (sym (none x is))

all_matters : (P : model.Ask → Type 0)
    → ((ask : model.Ask) → matters ask ≡ false → P ask) → (list : List model.Ask) → All P (filter matters list) → All P list
all_matters P none [] all = All-nil P
all_matters P none (x ∷ xs) all = at (all_matters P none xs) (matters x) refl all
  where
    at : (All P (filter matters xs) → All P xs) → (b : Bool) → matters x ≡ b → All P (cond b (x ∷ filter matters xs) (filter matters xs))
        → All P (x ∷ xs)
    at rest true is all = All-cons P x xs (All-head P x (filter matters xs) all) (rest (All-tail P x (filter matters xs) all))
    at rest false is all = All-cons P x xs (none x is) (rest all)

all_forms_matter : (P : model.Ask → Type 0)
    → ((ask : model.Ask) → matters ask ≡ false → P ask) → (lists : List (List model.Ask)) → All (All P) (map (filter matters) lists)
    → All (All P) lists
all_forms_matter P none [] all = All-nil (All P)
all_forms_matter P none (x ∷ xs) all =
    All-cons (All P) x xs (all_matters P none x (All-head (All P) (filter matters x) (map (filter matters) xs) all))
    (all_forms_matter P none xs (All-tail (All P) (filter matters x) (map (filter matters) xs) all))

map_matters : {C : Type 0} (f : List model.Ask → C) → ((list : List model.Ask) → f (filter matters list) ≡ f list)
    → (lists : List (List model.Ask)) → map f (map (filter matters) lists) ≡ map f lists
map_matters f same [] = refl
map_matters f same (x ∷ xs) = ap (λ c. c ∷ map f (map (filter matters) xs)) (same x) ∙ ap (λ cs. f x ∷ cs) (map_matters f same xs)

adds_to_none : (name : Name) (ask : model.Ask) → matters ask ≡ false → adds_to name ask ≡ false
adds_to_none name (model.adds other k part) none = absurd (true≢false none)
adds_to_none name ask none = refl

act_of_none : (db : Db) (names : List (Name × ℕ)) (ask : model.Ask) → matters ask ≡ false → act_of db names ask ≡ None
act_of_none db names (model.mentions k) none = refl
act_of_none db names model.lacks_id none = refl
act_of_none db names (model.meets name) none = refl
act_of_none db names ask none = absurd (true≢false none)

settled_none : (db : Db) (names : List (Name × ℕ)) (ask : model.Ask) → matters ask ≡ false → IsSettled db names ask
settled_none db names (model.mentions k) none = tt
settled_none db names model.lacks_id none = tt
settled_none db names (model.meets name) none = tt
settled_none db names ask none = absurd (true≢false none)

any_name_none : (nothing : AskNothing) (test : model.Ask → Name → Bool) (ask : model.Ask) → matters ask ≡ false
    → list_any (test ask) (names_of ask) ≡ false
any_name_none nothing test ask none = ap (list_any (test ask)) (nothing.names ask none)

-- ---- the asks of all forms

joined_asks : (legend : Legend) (fs : List (Vec Ask Global))
    → joined (map (λ (form : Vec Ask Global). map (ask_of legend) form.items) fs) ≡ map (ask_of legend) (asks_in fs)
joined_asks legend [] = refl
joined_asks legend (f ∷ fs) =
    ap (λ l. map (ask_of legend) f.items ++ l) (joined_asks legend fs)
    ∙ sym (map-append (ask_of legend) f.items (asks_in fs))

-- ---- not an entity

module _ (legend : Legend) (db : Db) (met : Met) where
  form_lost : (xs : List Ask) → ArePlaced met (flat_map tempids_of xs)
      → list_any (is_lost db (all_found db legend.lookups) met) xs ≡ breaks_not_an_entity db (map (ask_of legend) xs)
  form_lost [] placed = refl
  form_lost (x ∷ xs) placed =
      ap (λ b. b || list_any (is_lost db (all_found db legend.lookups) met) xs)
      (ask_lost legend db met x (placed_first met (tempids_of x) (flat_map tempids_of xs) placed))
      ∙ ap (λ b. list_any (finds_none db) (names_of (ask_of legend x)) || b)
      (form_lost xs (placed_rest met (tempids_of x) (flat_map tempids_of xs) placed))

  pub forms_lost : (fs : List (Vec Ask Global)) → ArePlaced met (flat_map tempids_of (asks_in fs))
      → map (λ (form : Vec Ask Global). list_any (is_lost db (all_found db legend.lookups) met) form.items) fs
      ≡ map (breaks_not_an_entity db) (map (λ (form : Vec Ask Global). map (ask_of legend) form.items) fs)
  forms_lost [] placed = refl
  forms_lost (f ∷ fs) placed =
      let both = subst (ArePlaced met) (flat_map-append tempids_of f.items (asks_in fs)) placed in
      ap (λ b. b ∷ map (λ (form : Vec Ask Global). list_any (is_lost db (all_found db legend.lookups) met) form.items) fs)
      (form_lost f.items (placed_first met (flat_map tempids_of f.items) (flat_map tempids_of (asks_in fs)) both))
      ∙ ap (λ bs. breaks_not_an_entity db (map (ask_of legend) f.items) ∷ bs)
      (forms_lost fs (placed_rest met (flat_map tempids_of f.items) (flat_map tempids_of (asks_in fs)) both))

-- ---- the tempids that are met, and their names

module _ (legend : Legend) (apart : AreApart legend.places) (met : Met) (xs : List Ask)
    (are_met : AreMet met (met_with [] (flat_map tempids_of xs))) (counted : All (AreCounted (length legend.places)) xs) where
  abbrev pub tempids : List Tempid
  tempids = met_with [] (flat_map tempids_of xs)

  abbrev pub names : List Name
  names = map (name_in legend) tempids

  meant : AreMeant legend tempids
  meant = met_meant legend apart [] (flat_map tempids_of xs) tt (all_meant legend xs counted)

  pub are_tempids : AreTempids names
  are_tempids = names_are_tempids legend apart tempids meant (distinct_met [] (flat_map tempids_of xs) tt)

  pub named_at : (t : Tempid) (p : ℕ) → place_of met t ≡ Some p → slice_get names p ≡ Some (name_in legend t)
  named_at t p is =
      slice_get-map (name_in legend) tempids p
      ∙ ap (option_map (name_in legend)) (place_at tempids t p (sym (are_met.places_are t) ∙ is))

  pub names_same : tempids_in (map (ask_of legend) xs) ≡ names
  names_same =
      met_filter [] (flat_map names_of (map (ask_of legend) xs))
      ∙ ap (met_after []) (all_tempids legend xs)
      ∙ sym (met_names legend apart [] [] (flat_map tempids_of xs) (all_meant legend xs counted) (λ t meant. refl))

  pub fresh_slots : (p : ℕ) → slot_at met.slots.items p ≡ no_slot
  fresh_slots p = ap (λ slots. slot_at slots p) are_met.fresh ∙ nothing_known (length tempids) p

  pub slots_counted : length met.slots.items ≡ length names
  slots_counted =
      ap length are_met.fresh ∙ length-replicate (length tempids) no_slot ∙ sym (length-map tempids (name_in legend))

  placed_in : (ks : List Tempid) → AreIn tempids ks → ArePlaced met ks
  placed_in [] are = tt
  placed_in (k ∷ ks) are = (ap is_some (are_met.places_are k) ∙ some_met tempids k ∙ are.0, placed_in ks are.1)

  pub all_placed : ArePlaced met (flat_map tempids_of xs)
  all_placed = placed_in (flat_map tempids_of xs) (all_met [] (flat_map tempids_of xs))

  pub told_same : (entities : List ℕ) → length entities ≡ length tempids
      → filter_map (with_entity entities) met.named.entries ≡ named_tempids (paired names entities)
  told_same entities same =
      ap (filter_map (with_entity entities)) are_met.names_are
      ∙ told_in_order entities tempids (enough (length tempids) same)
      ∙ ap by_text (sym (texts_told legend entities tempids entities 0 same (λ i. ap (slice_get entities) (zero-add i))))
    where
      enough : (n : ℕ) → length entities ≡ n → n ≤ length entities
      enough n same = omega arith

-- ---- all asks with all drafts

module _ (nothing : AskNothing) (legend : Legend) (db : Db) (names : List Name) (tempids : AreTempids names) (all : List model.Ask)
    (xs : List Ask) (ds : List Draft) (r : RelateAll legend db names xs ds) (all_are : map (ask_of legend) xs ≡ filter matters all)
    (slots : List Slot) (fresh : (p : ℕ) → slot_at slots p ≡ no_slot) (counted : length slots ≡ length names) where
  holders_all : (n : Name) → holders db (map (ask_of legend) xs) n ≡ holders db all n
  holders_all n = ap (λ l. holders db l n) all_are ∙ nothing.holders_are db all n

  adds_all : (n : Name) → list_any (adds_to n) (map (ask_of legend) xs) ≡ list_any (adds_to n) all
  adds_all n = ap (list_any (adds_to n)) all_are ∙ any_matters (adds_to n) (adds_to_none n) all

  known : AreKnown db (map (ask_of legend) xs) (λ n. list_any (adds_to n) (map (ask_of legend) xs)) names (slots_of slots ds)
  known = slots_known legend db names tempids slots fresh counted xs ds r

  pub all_known : (p : ℕ) (n : Name) → slice_get names p ≡ Some n
      → slot_at (slots_of slots ds) p ≡ slot_of (holders db all n) (list_any (adds_to n) all)
  all_known p n is =
      known p n is
      ∙ ap (λ es. slot_of es (list_any (adds_to n) (map (ask_of legend) xs))) (holders_all n)
      ∙ ap (slot_of (holders db all n)) (adds_all n)

  -- the tempids have the same entities
  pub assigned_same : tempids_in (map (ask_of legend) xs) ≡ names
      → assigned db all ≡ paired names (numbered (slots_of slots ds) (users_issued db.history))
  assigned_same same =
      sym (nothing.assigned_are db all)
      ∙ ap (assigned db) (sym all_are)
      ∙ ap (λ ns. number_from db (map (ask_of legend) xs) ns (users_issued db.history)) same
      ∙ numbers_same db (map (ask_of legend) xs) (λ n. list_any (adds_to n) (map (ask_of legend) xs)) names (slots_of slots ds)
      (length-slots slots ds ∙ counted) known (users_issued db.history)

  -- the rules on tempids

  pub conflict_same : (fs : List Ask) (gs : List Draft) → RelateAll legend db names fs gs
      → breaks_tempid_conflict db all (map (ask_of legend) fs) ≡ list_any (breaks.gives_one_of_two (slots_of slots ds)) gs
  conflict_same fs gs related =
      any_related legend db names (λ ask. list_any (gives_one_of_two db all ask) (names_of ask))
      (breaks.gives_one_of_two (slots_of slots ds))
      (ask_gives legend db names tempids all (slots_of slots ds) all_known) fs gs related

  pub none_same : (fs : List Ask) (gs : List Draft) → RelateAll legend db names fs gs
      → breaks_tempid_not_an_entity all (map (ask_of legend) fs) ≡ list_any (breaks.uses_one_of_none (slots_of slots ds)) gs
  none_same fs gs related =
      any_related legend db names (λ ask. list_any (is_added_to_by_none all) (names_of ask))
      (breaks.uses_one_of_none (slots_of slots ds))
      (ask_uses legend db names tempids all (slots_of slots ds) all_known) fs gs related

-- ---- settled asks

forms_settled : (legend : Legend) (db : Db) (ns : List Name) (are : AreTempids ns) (entities : List ℕ)
    (counted : length entities ≡ length ns)
    (fs : List (Vec Ask Global)) (gs : List (Vec Draft Global)) → RelateForms legend db ns fs gs
    → All (All (IsSettled db (paired ns entities))) (map (λ (form : Vec Ask Global). map (ask_of legend) form.items) fs)
forms_settled legend db ns are entities counted [] [] r = All-nil (All (IsSettled db (paired ns entities)))
forms_settled legend db ns are entities counted (f ∷ fs) (g ∷ gs) r =
    All-cons (All (IsSettled db (paired ns entities))) (map (ask_of legend) f.items)
    (map (λ (form : Vec Ask Global). map (ask_of legend) form.items) fs)
    (form_settled legend db ns are entities counted f.items g.items r.0)
    (forms_settled legend db ns are entities counted fs gs r.1)
forms_settled legend db ns are entities counted fs gs r = absurd r

all_joined : (P : Ask → Type 0) (fs : List (Vec Ask Global)) → All (λ (form : Vec Ask Global). All P form.items) fs → All P (asks_in fs)
all_joined P [] all = All-nil P
all_joined P (f ∷ fs) all =
    both f.items (asks_in fs) (All-head (λ (form : Vec Ask Global). All P form.items) f fs all)
    (all_joined P fs (All-tail (λ (form : Vec Ask Global). All P form.items) f fs all))
  where
    both : (xs ys : List Ask) → All P xs → All P ys → All P (xs ++ ys)
    both [] ys one more = more
    both (x ∷ xs) ys one more = All-cons P x (xs ++ ys) (All-head P x xs one) (both xs ys (All-tail P x xs one) more)

-- ---- what follows for the whole transaction

module _ (nothing : AskNothing) (db : Db) (flat : Flat) (asks : List (List model.Ask)) (are : AreAsks flat db.facts asks) (met : Met)
    (are_met : AreMet met (met_with [] (flat_map tempids_of (asks_in flat.forms.items)))) where
  abbrev legend : Legend
  legend = legend_of flat are.places

  abbrev fs : List (Vec Ask Global)
  fs = flat.forms.items

  -- a function of each form, where what asks for nothing does not matter
  of_forms : {C : Type 0} (f : List model.Ask → C) → ((list : List model.Ask) → f (filter matters list) ≡ f list)
      → map f (map (λ (form : Vec Ask Global). map (ask_of legend) form.items) fs) ≡ map f asks
  of_forms f same = ap (map f) are.same ∙ map_matters f same asks

  all_counted : All (AreCounted (length are.places)) (asks_in fs)
  all_counted = all_joined (AreCounted (length are.places)) fs (counted_by are.counted are.names_counted)
    where
      counted_by : {m n : ℕ} → m ≡ n → All (λ (form : Vec Ask Global). All (AreCounted n) form.items) fs
          → All (λ (form : Vec Ask Global). All (AreCounted m) form.items) fs
      counted_by is all = subst (λ k. All (λ (form : Vec Ask Global). All (AreCounted k) form.items) fs) (sym is) all

  pub lost_same : lost_at db (all_found db flat.lookups.items) met fs ≡ first_yes 0 (map (breaks_not_an_entity db) asks)
  lost_same =
      ap (first_yes 0)
      (forms_lost legend db met fs (all_placed legend are.apart met (asks_in fs) are_met all_counted)
      ∙ of_forms (breaks_not_an_entity db)
      (any_matters (λ ask. list_any (finds_none db) (names_of ask)) (any_name_none nothing (λ ask. finds_none db))))

  all_are : map (ask_of legend) (asks_in fs) ≡ filter matters (joined asks)
  all_are = sym (joined_asks legend fs) ∙ ap joined are.same ∙ nothing.joined_are asks

  abbrev named : List Name
  named = names legend are.apart met (asks_in fs) are_met all_counted

  named_tempids_are : AreTempids named
  named_tempids_are = are_tempids legend are.apart met (asks_in fs) are_met all_counted

  fresh : (p : ℕ) → slot_at met.slots.items p ≡ no_slot
  fresh = fresh_slots legend are.apart met (asks_in fs) are_met all_counted

  counted : length met.slots.items ≡ length named
  counted = slots_counted legend are.apart met (asks_in fs) are_met all_counted

  module _ (gs : List (Vec Draft Global)) (found : AreFound db (all_found db flat.lookups.items) met fs gs) where
    related : RelateForms legend db named fs gs
    related =
        relate_forms legend db named met (named_at legend are.apart met (asks_in fs) are_met all_counted) fs gs found are.read

    all_related : RelateAll legend db named (asks_in fs) (drafts_in gs)
    all_related = relate_joined legend db named fs gs related

    pub conflict_is : first_form (breaks.gives_one_of_two (slots_in met gs)) gs
        ≡ first_yes 0 (map (breaks_tempid_conflict db (joined asks)) asks)
    conflict_is =
        ap (first_yes 0)
        (sym (map_related legend db named (breaks_tempid_conflict db (joined asks))
        (list_any (breaks.gives_one_of_two (slots_in met gs)))
        (conflict_same nothing legend db named named_tempids_are (joined asks) (asks_in fs) (drafts_in gs) all_related all_are
        met.slots.items fresh counted) fs gs related)
        ∙ of_forms (breaks_tempid_conflict db (joined asks))
        (any_matters (λ ask. list_any (gives_one_of_two db (joined asks) ask) (names_of ask))
        (any_name_none nothing (gives_one_of_two db (joined asks)))))

    pub none_is : first_form (breaks.uses_one_of_none (slots_in met gs)) gs
        ≡ first_yes 0 (map (breaks_tempid_not_an_entity (joined asks)) asks)
    none_is =
        ap (first_yes 0)
        (sym (map_related legend db named (breaks_tempid_not_an_entity (joined asks))
        (list_any (breaks.uses_one_of_none (slots_in met gs)))
        (none_same nothing legend db named named_tempids_are (joined asks) (asks_in fs) (drafts_in gs) all_related all_are
        met.slots.items fresh counted) fs gs related)
        ∙ of_forms (breaks_tempid_not_an_entity (joined asks))
        (any_matters (λ ask. list_any (is_added_to_by_none (joined asks)) (names_of ask))
        (any_name_none nothing (λ ask. is_added_to_by_none (joined asks)))))

    abbrev entities : List ℕ
    entities = entities_in met gs (users_issued db.history)

    names_are : assigned db (joined asks) ≡ paired named entities
    names_are =
        assigned_same nothing legend db named named_tempids_are (joined asks) (asks_in fs) (drafts_in gs) all_related all_are
        met.slots.items fresh counted (names_same legend are.apart met (asks_in fs) are_met all_counted)

    entities_counted : length entities ≡ length named
    entities_counted =
        length-numbered (slots_in met gs) (users_issued db.history) ∙ length-slots met.slots.items (drafts_in gs) ∙ counted

    pub told_is : told_names met gs (users_issued db.history) ≡ named_tempids (assigned db (joined asks))
    told_is =
        told_same legend are.apart met (asks_in fs) are_met all_counted entities
        (entities_counted ∙ length-map (met_with [] (flat_map tempids_of (asks_in fs))) (name_in legend))
        ∙ ap named_tempids (sym names_are)

    acts_same : drafted_acts met gs (users_issued db.history) ≡ map (filter_map (act_of db (paired named entities))) asks
    acts_same =
        sym (map_related legend db named (filter_map (act_of db (paired named entities))) (filter_map (numbers.act_of entities))
        (filter_map_related legend db named (act_of db (paired named entities)) (numbers.act_of entities)
        (ask_act legend db named named_tempids_are entities entities_counted)) fs gs related)
        ∙ of_forms (filter_map (act_of db (paired named entities)))
        (filter_map_matters (act_of db (paired named entities)) (act_of_none db (paired named entities)))

    all_settled : All (All (IsSettled db (paired named entities))) asks
    all_settled =
        all_forms_matter (IsSettled db (paired named entities)) (settled_none db (paired named entities)) asks
        (subst (All (All (IsSettled db (paired named entities)))) are.same
        (forms_settled legend db named named_tempids_are entities entities_counted fs gs related))

    pub acts_are : (list : List (List Act)) → list ≡ drafted_acts met gs (users_issued db.history)
        → AreActs list (with_names db asks (assigned db (joined asks)))
    acts_are list is =
        subst (λ ns. AreActs list (with_names db asks ns)) (sym names_are) (record {
          built = refl;
          same = is ∙ acts_same;
          settled = all_settled;
        })
