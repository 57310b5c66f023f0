-- What is noted in each way is what the transaction asks in it.
use Rattle.std.proofs.Common.{◌≡◌, ℕ, ◌+◌, Bool, true, false, cond, not, ◌&&◌, List, [], ◌∷◌, ◌++◌, map, refl, ap, sym, ◌∙◌, subst}
use Rattle.std.proofs.Common.{inl, inr}
use Rattle.std.specs.Prelude.{flat_map, filter, nat_le, Contains, IsPermutation}
use Rattle.std.specs.List.{All}
use Rattle.std.specs.Option.{option_map_or}
use Rattle.std.proofs.lemmas.Bool.{true≢false}
use Rattle.std.proofs.lemmas.Grind.{flat_map-append}
use Rattle.std.proofs.lemmas.List.{append-nil, map-append}
use Rattle.std.proofs.lemmas.List.Elements.{All-contains, filter-append}
use Rattle.std.proofs.lemmas.List.Sorted.{Contains-permutation, IsPermutation-sym}
use Rattle.fb_values.specs.declared.facts.Datom.{Datom}
use Rattle.fb_values.specs.declared.facts.Entry.{Entry}
use Rattle.fb_model.specs.Facts.{facts}
use Rattle.fb_model.specs.Schema.{attribute_of, is_one}
use Rattle.tx_model.specs.Asks.{Ask}
use Rattle.tx_model.specs.Tempids.{db_of}
use Rattle.tx_model.specs.Changes as changes
use Rattle.tx_model.specs.Changes.{implied}
use Rattle.tx_model.specs.Transaction.{Transaction}
use Rattle.tx_model.proofs.Lists.{first_of, later_of, which, not_in_none}
use Rattle.tx_asks.specs.declared.triples.Asking.{Asking}
use Rattle.tx_asks.specs.Acts.{Act, act_of, additions_of, retractions_of, AreActs}
use Rattle.tx_asks.specs.Triples.{is_asking_of, IsAsked, AreAskings}
use Rattle.tx_sweep.specs.Sweep.{IsHeld}
use Rattle.tx_sweep.proofs.Members.{any_of, some_of}
use Rattle.tx_sweep.proofs.Sweeping.{AreTold, all_members}
use Rattle.tx_sweep.proofs.Forms.{forms_of_acts}
use Rattle.tx_changes.specs.declared.noted.AskedAs.{AskedAs}
use Rattle.tx_changes.specs.declared.noted.AskedAs.TheVariants.{Added, Retracted, Swept, Replaced}
use Rattle.tx_changes.specs.declared.noted.Noted.{Noted}
use Rattle.tx_changes.specs.Asked.{asked_by, asked_from, replaced_of}
use Rattle.tx_changes.specs.Noted.{is_way, as_way, askings_as, asked_as, AreNoted, IsFoundHeld, is_found, added_by, noted_by, noted_from}
use Rattle.tx_changes.proofs.Collecting.{added_are, retracted_are}
use Rattle.tx_changes.proofs.Replacing.{replaced_are}

-- ---- the askings of a way

append_as : (way : AskedAs) (xs ys : List Noted) → askings_as way (xs ++ ys) ≡ askings_as way xs ++ askings_as way ys
append_as way xs ys =
    ap (map (λ (n : Noted). n.asking)) (filter-append (λ (n : Noted). is_way way n.way) xs ys)
    ∙ map-append (λ (n : Noted). n.asking) (filter (λ (n : Noted). is_way way n.way) xs) (filter (λ (n : Noted). is_way way n.way) ys)

pub one_as : (way : AskedAs) (b : Bool) (n : Noted) (ns : List Noted) → is_way way n.way ≡ b
    → askings_as way (n ∷ ns) ≡ cond b (n.asking ∷ askings_as way ns) (askings_as way ns)
one_as way b n ns is =
    ap (λ c. map (λ (m : Noted). m.asking) (cond c (n ∷ filter (λ (m : Noted). is_way way m.way) ns)
    (filter (λ (m : Noted). is_way way m.way) ns))) is
    ∙ either b
  where
    either : (b : Bool) → map (λ (m : Noted). m.asking) (cond b (n ∷ filter (λ (m : Noted). is_way way m.way) ns)
        (filter (λ (m : Noted). is_way way m.way) ns)) ≡ cond b (n.asking ∷ askings_as way ns) (askings_as way ns)
    either true = refl
    either false = refl

own_as : (way other : AskedAs) (xs : List Asking) → is_way way other ≡ true → askings_as way (map (as_way other) xs) ≡ xs
own_as way other [] is = refl
own_as way other (x ∷ xs) is =
    one_as way true (as_way other x) (map (as_way other) xs) is ∙ ap (λ ys. x ∷ ys) (own_as way other xs is)

none_as : (way other : AskedAs) (xs : List Asking) → is_way way other ≡ false → askings_as way (map (as_way other) xs) ≡ []
none_as way other [] is = refl
none_as way other (x ∷ xs) is = one_as way false (as_way other x) (map (as_way other) xs) is ∙ none_as way other xs is

into_way : (way : AskedAs) (ns : List Noted) (n : Noted) → Contains ns n → is_way way n.way ≡ true
    → Contains (askings_as way ns) n.asking
into_way way [] n among is = absurd (not_in_none n among)
into_way way (x ∷ ns) n among is = elim (which x n ns among) [
  | inl same ↦ subst (λ y. Contains (askings_as way (y ∷ ns)) n.asking) (sym same) here
  | inr later ↦ go (is_way way x.way) refl (into_way way ns n later is)
]
  where
    here : Contains (askings_as way (n ∷ ns)) n.asking
    here = subst (λ xs. Contains xs n.asking) (sym (one_as way true n ns is)) (first_of n.asking (askings_as way ns))

    go : (b : Bool) → is_way way x.way ≡ b → Contains (askings_as way ns) n.asking → Contains (askings_as way (x ∷ ns)) n.asking
    go true at rest =
        subst (λ xs. Contains xs n.asking) (sym (one_as way true x ns at)) (later_of x.asking n.asking (askings_as way ns) rest)
    go false at rest = subst (λ xs. Contains xs n.asking) (sym (one_as way false x ns at)) rest

-- what an asking of the way was noted as
pub record IsNotedAs (way : AskedAs) (ns : List Noted) (asking : Asking) : Type 0 where
  pub one : Noted
  pub among : Contains ns one
  pub own : is_way way one.way ≡ true
  pub is : one.asking ≡ asking

pub from_way : (way : AskedAs) (ns : List Noted) (asking : Asking) → Contains (askings_as way ns) asking → IsNotedAs way ns asking
from_way way [] asking among = absurd (not_in_none asking among)
from_way way (x ∷ ns) asking among =
    by_first (is_way way x.way) refl among (λ rest. from_way way ns asking rest)
  where
    later : IsNotedAs way ns asking → IsNotedAs way (x ∷ ns) asking
    later from = record { one = from.one; among = later_of x from.one ns from.among; own = from.own; is = from.is }

    by_first : (b : Bool) → is_way way x.way ≡ b → Contains (askings_as way (x ∷ ns)) asking
        → (Contains (askings_as way ns) asking → IsNotedAs way ns asking) → IsNotedAs way (x ∷ ns) asking
    by_first true at there next =
        elim (which x.asking asking (askings_as way ns) (subst (λ xs. Contains xs asking) (one_as way true x ns at) there)) [
          | inl same ↦ record { one = x; among = first_of x ns; own = at; is = same }
          | inr rest ↦ later (next rest)
        ]
    by_first false at there next = later (next (subst (λ xs. Contains xs asking) (one_as way false x ns at) there))

-- ---- in another order

askings_permuted : (way : AskedAs) (lists : List (List Datom)) (xs ys : List Noted) → IsPermutation xs ys
    → AreAskings lists (askings_as way xs) → AreAskings lists (askings_as way ys)
askings_permuted way lists xs ys same are =
    record {
      asked = all_members (IsAsked lists) (askings_as way ys) (λ x among. All-contains (IsAsked lists) (askings_as way xs) x are.asked
          (moved ys xs (IsPermutation-sym xs ys same) x among));
      whole = λ place d among.
          let asks_early : Asking → Bool = λ asking. is_asking_of d asking && nat_le asking.place place in
          let told = some_of asks_early (askings_as way xs) (are.whole place d among) in
          any_of asks_early (askings_as way ys) told.0 (moved xs ys same told.0 told.1) told.2;
    }
  where
    moved : (us vs : List Noted) → IsPermutation us vs → (x : Asking) → Contains (askings_as way us) x → Contains (askings_as way vs) x
    moved us vs there x among =
        let from = from_way way us x among in
        subst (Contains (askings_as way vs)) from.is
        (into_way way vs from.one (Contains-permutation us vs from.one there from.among) from.own)

pub noted_permuted : (tx : Transaction) (xs ys : List Noted) → IsPermutation xs ys → AreNoted tx xs → AreNoted tx ys
noted_permuted tx xs ys same are = λ way. askings_permuted way (asked_as way tx) xs ys same (are way)

-- ---- what is noted by acts

module _ (h : List Entry) (schema : List Datom) where
  additions_as-Added : (xs : List Asking) → askings_as Added (flat_map (added_by h schema) xs) ≡ xs
  additions_as-Added [] = refl
  additions_as-Added (x ∷ xs) =
      append_as Added (added_by h schema x) (flat_map (added_by h schema) xs)
      ∙ ap (λ ys. ys ++ askings_as Added (flat_map (added_by h schema) xs))
      (append_as Added (map (as_way Replaced) (replaced_of h schema x)) (as_way Added x ∷ [])
      ∙ ap (λ ys. ys ++ x ∷ []) (none_as Added Replaced (replaced_of h schema x) refl))
      ∙ ap (λ ys. x ∷ ys) (additions_as-Added xs)

  additions_as-Replaced : (xs : List Asking)
      → askings_as Replaced (flat_map (added_by h schema) xs) ≡ flat_map (replaced_of h schema) xs
  additions_as-Replaced [] = refl
  additions_as-Replaced (x ∷ xs) =
      append_as Replaced (added_by h schema x) (flat_map (added_by h schema) xs)
      ∙ ap (λ ys. ys ++ askings_as Replaced (flat_map (added_by h schema) xs))
      (append_as Replaced (map (as_way Replaced) (replaced_of h schema x)) (as_way Added x ∷ [])
      ∙ append-nil (askings_as Replaced (map (as_way Replaced) (replaced_of h schema x)))
      ∙ own_as Replaced Replaced (replaced_of h schema x) refl)
      ∙ ap (λ ys. replaced_of h schema x ++ ys) (additions_as-Replaced xs)

  additions_as-none : (way : AskedAs) → is_way way Added ≡ false → is_way way Replaced ≡ false → (xs : List Asking)
      → askings_as way (flat_map (added_by h schema) xs) ≡ []
  additions_as-none way not_added not_replaced [] = refl
  additions_as-none way not_added not_replaced (x ∷ xs) =
      append_as way (added_by h schema x) (flat_map (added_by h schema) xs)
      ∙ ap (λ ys. ys ++ askings_as way (flat_map (added_by h schema) xs))
      (append_as way (map (as_way Replaced) (replaced_of h schema x)) (as_way Added x ∷ [])
      ∙ ap (λ ys. ys ++ askings_as way (as_way Added x ∷ [])) (none_as way Replaced (replaced_of h schema x) not_replaced)
      ∙ none_as way Added (x ∷ []) not_added)
      ∙ additions_as-none way not_added not_replaced xs

  -- of an act, what additions and retractions note
  act_as : (way : AskedAs) (place : ℕ) (act : Act) {added retracted : List Asking}
      → askings_as way (flat_map (added_by h schema) (asked_by Added place act)) ≡ added
      → askings_as way (map (as_way Retracted) (asked_by Retracted place act)) ≡ retracted
      → askings_as way (noted_by h schema place act) ≡ added ++ retracted
  act_as way place act {added} {retracted} added_is retracted_is =
      append_as way (flat_map (added_by h schema) (asked_by Added place act)) (map (as_way Retracted) (asked_by Retracted place act))
      ∙ ap (λ xs. xs ++ askings_as way (map (as_way Retracted) (asked_by Retracted place act))) added_is
      ∙ ap (λ xs. added ++ xs) retracted_is

  -- of forms, where this is what an act notes in the way
  abbrev from : (ℕ → Act → List Asking) → ℕ → List (List Act) → List Asking
  from gives place [] = []
  from gives place (acts ∷ forms) = flat_map (gives place) acts ++ from gives (place + 1) forms

  forms_as : (way : AskedAs) (gives : ℕ → Act → List Asking)
      → ((place : ℕ) (act : Act) → askings_as way (noted_by h schema place act) ≡ gives place act) → (place : ℕ) (forms : List (List Act))
      → askings_as way (noted_from h schema place forms) ≡ from gives place forms
  forms_as way gives each place [] = refl
  forms_as way gives each place (acts ∷ forms) =
      append_as way (flat_map (noted_by h schema place) acts) (noted_from h schema (place + 1) forms)
      ∙ ap (λ xs. xs ++ askings_as way (noted_from h schema (place + 1) forms)) (one acts)
      ∙ ap (λ xs. flat_map (gives place) acts ++ xs) (forms_as way gives each (place + 1) forms)
    where
      one : (acts : List Act) → askings_as way (flat_map (noted_by h schema place) acts) ≡ flat_map (gives place) acts
      one [] = refl
      one (act ∷ acts) =
          append_as way (noted_by h schema place act) (flat_map (noted_by h schema place) acts)
          ∙ ap (λ xs. xs ++ askings_as way (flat_map (noted_by h schema place) acts)) (each place act)
          ∙ ap (λ xs. gives place act ++ xs) (one acts)

  asked_is_from : (way : AskedAs) (place : ℕ) (forms : List (List Act)) → from (asked_by way) place forms ≡ asked_from way place forms
  asked_is_from way place [] = refl
  asked_is_from way place (acts ∷ forms) =
      ap (λ xs. flat_map (asked_by way place) acts ++ xs) (asked_is_from way (place + 1) forms)

  replaced_from : (place : ℕ) (forms : List (List Act))
      → from (λ place act. flat_map (replaced_of h schema) (asked_by Added place act)) place forms
      ≡ flat_map (replaced_of h schema) (asked_from Added place forms)
  replaced_from place [] = refl
  replaced_from place (acts ∷ forms) =
      ap (λ xs. xs ++ from (λ place act. flat_map (replaced_of h schema) (asked_by Added place act)) (place + 1) forms) (one acts)
      ∙ ap (λ xs. flat_map (replaced_of h schema) (flat_map (asked_by Added place) acts) ++ xs) (replaced_from (place + 1) forms)
      ∙ sym (flat_map-append (replaced_of h schema) (flat_map (asked_by Added place) acts) (asked_from Added (place + 1) forms))
    where
      one : (acts : List Act) → flat_map (λ act. flat_map (replaced_of h schema) (asked_by Added place act)) acts
          ≡ flat_map (replaced_of h schema) (flat_map (asked_by Added place) acts)
      one [] = refl
      one (act ∷ acts) =
          ap (λ xs. flat_map (replaced_of h schema) (asked_by Added place act) ++ xs) (one acts)
          ∙ sym (flat_map-append (replaced_of h schema) (asked_by Added place act) (flat_map (asked_by Added place) acts))

  abbrev nothing_by : ℕ → Act → List Asking
  nothing_by place act = []

  nothing_from : (place : ℕ) (forms : List (List Act)) → from nothing_by place forms ≡ []
  nothing_from place [] = refl
  nothing_from place (acts ∷ forms) =
      ap (λ xs. xs ++ from nothing_by (place + 1) forms) (one acts) ∙ nothing_from (place + 1) forms
    where
      one : (acts : List Act) → flat_map (nothing_by place) acts ≡ []
      one [] = refl
      one (act ∷ acts) = one acts

  forms_as-Added : (forms : List (List Act)) → askings_as Added (noted_from h schema 0 forms) ≡ asked_from Added 0 forms
  forms_as-Added forms = forms_as Added (asked_by Added) each 0 forms ∙ asked_is_from Added 0 forms
    where
      each : (place : ℕ) (act : Act) → askings_as Added (noted_by h schema place act) ≡ asked_by Added place act
      each place act =
          act_as Added place act (additions_as-Added (asked_by Added place act))
          (none_as Added Retracted (asked_by Retracted place act) refl)
          ∙ append-nil (asked_by Added place act)

  forms_as-Retracted : (forms : List (List Act))
      → askings_as Retracted (noted_from h schema 0 forms) ≡ asked_from Retracted 0 forms
  forms_as-Retracted forms = forms_as Retracted (asked_by Retracted) each 0 forms ∙ asked_is_from Retracted 0 forms
    where
      each : (place : ℕ) (act : Act) → askings_as Retracted (noted_by h schema place act) ≡ asked_by Retracted place act
      each place act =
          act_as Retracted place act (additions_as-none Retracted refl refl (asked_by Added place act))
          (own_as Retracted Retracted (asked_by Retracted place act) refl)

  forms_as-Replaced : (forms : List (List Act))
      → askings_as Replaced (noted_from h schema 0 forms) ≡ flat_map (replaced_of h schema) (asked_from Added 0 forms)
  forms_as-Replaced forms =
      forms_as Replaced (λ place act. flat_map (replaced_of h schema) (asked_by Added place act)) each 0 forms ∙ replaced_from 0 forms
    where
      each : (place : ℕ) (act : Act)
          → askings_as Replaced (noted_by h schema place act) ≡ flat_map (replaced_of h schema) (asked_by Added place act)
      each place act =
          act_as Replaced place act (additions_as-Replaced (asked_by Added place act))
          (none_as Replaced Retracted (asked_by Retracted place act) refl)
          ∙ append-nil (flat_map (replaced_of h schema) (asked_by Added place act))

  forms_as-Swept : (forms : List (List Act)) → askings_as Swept (noted_from h schema 0 forms) ≡ []
  forms_as-Swept forms = forms_as Swept nothing_by each 0 forms ∙ nothing_from 0 forms
    where
      each : (place : ℕ) (act : Act) → askings_as Swept (noted_by h schema place act) ≡ []
      each place act =
          act_as Swept place act (additions_as-none Swept refl refl (asked_by Added place act))
          (none_as Swept Retracted (asked_by Retracted place act) refl)

  -- what was swept, and then the forms
  abbrev pub all_noted : List Asking → List (List Act) → List Noted
  all_noted swept forms = map (as_way Swept) swept ++ noted_from h schema 0 forms

  behind_swept : (way : AskedAs) (swept : List Asking) (forms : List (List Act)) → is_way way Swept ≡ false
      → askings_as way (all_noted swept forms) ≡ askings_as way (noted_from h schema 0 forms)
  behind_swept way swept forms other =
      append_as way (map (as_way Swept) swept) (noted_from h schema 0 forms)
      ∙ ap (λ xs. xs ++ askings_as way (noted_from h schema 0 forms)) (none_as way Swept swept other)

  swept_as : (swept : List Asking) (forms : List (List Act)) → askings_as Swept (all_noted swept forms) ≡ swept
  swept_as swept forms =
      append_as Swept (map (as_way Swept) swept) (noted_from h schema 0 forms)
      ∙ ap (λ xs. xs ++ askings_as Swept (noted_from h schema 0 forms)) (own_as Swept Swept swept refl)
      ∙ ap (λ xs. swept ++ xs) (forms_as-Swept forms)
      ∙ append-nil swept

  replaced_as : (swept : List Asking) (forms : List (List Act))
      → askings_as Replaced (all_noted swept forms) ≡ flat_map (replaced_of h schema) (asked_from Added 0 forms)
  replaced_as swept forms = behind_swept Replaced swept forms refl ∙ forms_as-Replaced forms

  -- what was found holds
  pub noted_held : (swept : List Asking) (forms : List (List Act)) → All (IsHeld h) swept
      → All (IsHeld h) (flat_map (replaced_of h schema) (asked_from Added 0 forms)) → All (IsFoundHeld h) (all_noted swept forms)
  noted_held swept forms swept_held replaced_held = all_members (IsFoundHeld h) (all_noted swept forms) (λ n. held n n.way refl)
    where
      held : (n : Noted) (way : AskedAs) → n.way ≡ way → Contains (all_noted swept forms) n → IsFoundHeld h n
      held n Added is among found = absurd (true≢false (sym (sym (ap is_found is) ∙ found)))
      held n Retracted is among found = absurd (true≢false (sym (sym (ap is_found is) ∙ found)))
      held n Swept is among found =
          All-contains (IsHeld h) swept n.asking swept_held
          (subst (λ xs. Contains xs n.asking) (swept_as swept forms)
          (into_way Swept (all_noted swept forms) n among (ap (is_way Swept) is)))
      held n Replaced is among found =
          All-contains (IsHeld h) (flat_map (replaced_of h schema) (asked_from Added 0 forms)) n.asking replaced_held
          (subst (λ xs. Contains xs n.asking) (replaced_as swept forms)
          (into_way Replaced (all_noted swept forms) n among (ap (is_way Replaced) is)))

-- ---- what the transaction asks

-- what the transaction adds and retracts
added_of_acts : (h : List Entry) (acts : List (List Act)) (tx : Transaction) → tx.db ≡ db_of h → AreActs acts tx
    → ((ask : Ask) → changes.additions tx.db tx.names ask ≡ option_map_or (additions_of tx.db) (act_of tx.db tx.names ask) [])
    → tx.added ≡ map (flat_map (additions_of (db_of h))) acts
added_of_acts h acts tx db_is are law =
    ap (λ (t : Transaction). t.added) are.built
    ∙ forms_of_acts (changes.additions tx.db tx.names) (additions_of tx.db) (act_of tx.db tx.names) law tx.asks
    ∙ ap (map (flat_map (additions_of tx.db))) (sym are.same)
    ∙ ap (λ db. map (flat_map (additions_of db)) acts) db_is

retracted_of_acts : (h : List Entry) (acts : List (List Act)) (tx : Transaction) → tx.db ≡ db_of h → AreActs acts tx
    → ((ask : Ask) → changes.retractions tx.db tx.names ask ≡ option_map_or (retractions_of tx.db) (act_of tx.db tx.names ask) [])
    → tx.retracted ≡ map (flat_map (retractions_of (db_of h))) acts
retracted_of_acts h acts tx db_is are law =
    ap (λ (t : Transaction). t.retracted) are.built
    ∙ forms_of_acts (changes.retractions tx.db tx.names) (retractions_of tx.db) (act_of tx.db tx.names) law tx.asks
    ∙ ap (map (flat_map (retractions_of tx.db))) (sym are.same)
    ∙ ap (λ db. map (flat_map (retractions_of db)) acts) db_is

replaced_of_added : (h : List Entry) (acts : List (List Act)) (tx : Transaction) → tx.db ≡ db_of h → AreActs acts tx
    → tx.replaced ≡ map (implied (db_of h)) tx.added
replaced_of_added h acts tx db_is are =
    ap (λ (t : Transaction). t.replaced) are.built
    ∙ ap (map (implied tx.db)) (sym (ap (λ (t : Transaction). t.added) are.built))
    ∙ ap (λ db. map (implied db) tx.added) db_is

pub all_are_noted : AreTold → (h : List Entry) (schema : List Datom)
    → ((a : ℕ) → attribute_of schema a ≡ attribute_of (facts h) a) → (acts : List (List Act)) (tx : Transaction) → tx.db ≡ db_of h
    → AreActs acts tx
    → ((ask : Ask) → changes.additions tx.db tx.names ask ≡ option_map_or (additions_of tx.db) (act_of tx.db tx.names ask) [])
    → ((ask : Ask) → changes.retractions tx.db tx.names ask ≡ option_map_or (retractions_of tx.db) (act_of tx.db tx.names ask) [])
    → (swept : List Asking) → AreAskings tx.swept swept → AreNoted tx (all_noted h schema swept acts)
all_are_noted told h schema same acts tx db_is are additions_law retractions_law swept swept_are = by_way
  where
    added : AreAskings tx.added (asked_from Added 0 acts)
    added =
        subst (λ lists. AreAskings lists (asked_from Added 0 acts)) (sym (added_of_acts h acts tx db_is are additions_law))
        (added_are (db_of h) acts)

    retracted : AreAskings tx.retracted (asked_from Retracted 0 acts)
    retracted =
        subst (λ lists. AreAskings lists (asked_from Retracted 0 acts)) (sym (retracted_of_acts h acts tx db_is are retractions_law))
        (retracted_are (db_of h) acts)

    ones : (a : ℕ) → is_one schema a ≡ is_one (facts h) a
    ones a = ap (λ attribute. option_map_or (λ a. not a.many) attribute false) (same a)

    replaced : AreAskings tx.replaced (flat_map (replaced_of h schema) (asked_from Added 0 acts))
    replaced =
        subst (λ lists. AreAskings lists (flat_map (replaced_of h schema) (asked_from Added 0 acts)))
        (sym (replaced_of_added h acts tx db_is are)) (replaced_are told h schema ones tx.added (asked_from Added 0 acts) added)

    by_way : (way : AskedAs) → AreAskings (asked_as way tx) (askings_as way (all_noted h schema swept acts))
    by_way Added =
        subst (AreAskings tx.added) (sym (behind_swept h schema Added swept acts refl ∙ forms_as-Added h schema acts)) added
    by_way Retracted =
        subst (AreAskings tx.retracted) (sym (behind_swept h schema Retracted swept acts refl ∙ forms_as-Retracted h schema acts)) retracted
    by_way Swept = subst (AreAskings tx.swept) (sym (swept_as h schema swept acts)) swept_are
    by_way Replaced = subst (AreAskings tx.replaced) (sym (replaced_as h schema swept acts)) replaced
