-- A tempid that an identity value makes an entity of the database is that entity in whatever order the forms stand.
use Rattle.std.proofs.Common.{◌≡◌, ◌≢◌, ℕ, ◌+◌, ◌<◌, Bool, true, false, cond, not, ◌&&◌, ◌||◌, List, [], ◌∷◌, length, refl, ap, sym, ◌∙◌}
use Rattle.std.proofs.Common.{subst, arith, inl, inr, ◌⊎◌, Option, Some, None}
use Rattle.std.specs.Prelude.{flat_map, Contains, nat_eq, option_and_then}
use Rattle.std.specs.List.{list_any, cons_option}
use Rattle.std.specs.Option.{option_map_or}
use Rattle.std.proofs.lemmas.Bool.{true≢false, false≢true, or_parts, and_from, eqb-true}
use Rattle.std.proofs.lemmas.Slice.Eq.{bytes_eq-Decides}
use Rattle.fb_numbers.specs.Numbers.{user_entity}
use Rattle.fb_model.specs.History.{users_issued}
use Rattle.fb_model.specs.Schema.{attribute_named}
use Rattle.tx_model.specs.Asks.{Name, number, ident, lookup, tempid, nameless, plain, entity, Ask, adds, retracts, retracts_all, compares}
use Rattle.tx_model.specs.Asks.{retracts_entity, meets, mentions, lacks_id, is_tempid, is_same_tempid, names_of}
use Rattle.tx_model.specs.Tempids.{Db, is_among, met_after, tempids_in, identified, identity_holder, holders, number_next, number_from}
use Rattle.tx_model.specs.Tempids.{assigned, assigned_to}
use Rattle.tx_model.specs.Transaction.{joined}
use Rattle.tx_model.specs.NameRules.{breaks_tempid_conflict, gives_one_of_two}
use Rattle.tx_model.proofs.Lists.{first_of, later_of, which, not_in_none, none_passes, comes_from, goes_into}
use Rattle.tx_model.proofs.SameRules.{same_holders}

-- ---- one tempid

same_is_equal : (a b : Name) → is_same_tempid a b ≡ true → a ≡ b
same_is_equal (tempid s) (tempid other) same = ap tempid ((bytes_eq-Decides s other).0 same)
same_is_equal (nameless path) (nameless other) same = ap nameless ((bytes_eq-Decides path other).0 same)
same_is_equal (tempid s) (number z) same = absurd (false≢true same)
same_is_equal (tempid s) (ident k) same = absurd (false≢true same)
same_is_equal (tempid s) (lookup k f) same = absurd (false≢true same)
same_is_equal (tempid s) (nameless path) same = absurd (false≢true same)
same_is_equal (nameless path) (number z) same = absurd (false≢true same)
same_is_equal (nameless path) (ident k) same = absurd (false≢true same)
same_is_equal (nameless path) (lookup k f) same = absurd (false≢true same)
same_is_equal (nameless path) (tempid s) same = absurd (false≢true same)
same_is_equal (number z) b same = absurd (false≢true same)
same_is_equal (ident k) b same = absurd (false≢true same)
same_is_equal (lookup k f) b same = absurd (false≢true same)

pub same_as_itself : (a : Name) → is_tempid a ≡ true → is_same_tempid a a ≡ true
same_as_itself (tempid s) is = (bytes_eq-Decides s s).1 refl
same_as_itself (nameless path) is = (bytes_eq-Decides path path).1 refl
same_as_itself (number z) is = absurd (false≢true is)
same_as_itself (ident k) is = absurd (false≢true is)
same_as_itself (lookup k f) is = absurd (false≢true is)

-- ---- the tempids that are met

was_before : (name x : Name) (before : List Name) → is_tempid name ≡ true → x ≡ name → (is_tempid x && not (is_among before x)) ≡ false
    → is_among before name ≡ true
was_before name x before is same unmet = by (is_among before name) refl
  where
    by : (b : Bool) → is_among before name ≡ b → is_among before name ≡ true
    by true among = among
    by false among =
        let is_one : (is_tempid name && not (is_among before name)) ≡ true =
        and_from (is_tempid name) (not (is_among before name)) is (ap not among) in
        absurd (true≢false (sym is_one ∙ ap (λ y. is_tempid y && not (is_among before y)) (sym same) ∙ unmet))

met_or_before : (name : Name) (is : is_tempid name ≡ true) (before names : List Name) → Contains names name
    → (is_among before name ≡ true) ⊎ Contains (met_after before names) name
met_or_before name is before [] member = absurd (not_in_none name member)
met_or_before name is before (x ∷ names) member =
    by_meeting (is_tempid x && not (is_among before x)) refl (which x name names member) (λ earlier. met_or_before name is earlier names)
  where
    here : (b : Bool) → (is_tempid x && not (is_among before x)) ≡ b → x ≡ name
        → (is_among before name ≡ true) ⊎ Contains (cond b (x ∷ met_after (x ∷ before) names) (met_after before names)) name
    here true first same = inr (subst (λ y. Contains (x ∷ met_after (x ∷ before) names) y) same (first_of x (met_after (x ∷ before) names)))
    here false first same = inl (was_before name x before is same first)

    added : (b : Bool) → is_same_tempid name x ≡ b → (b || is_among before name) ≡ true ⊎ Contains (met_after (x ∷ before) names) name
        → (is_among before name ≡ true) ⊎ Contains (x ∷ met_after (x ∷ before) names) name
    added true same later =
        inr (subst (λ y. Contains (x ∷ met_after (x ∷ before) names) y) (sym (same_is_equal name x same))
        (first_of x (met_after (x ∷ before) names)))
    added false same (inl among) = inl among
    added false same (inr later) = inr (later_of x name (met_after (x ∷ before) names) later)

    by_meeting : (b : Bool) → (is_tempid x && not (is_among before x)) ≡ b → (x ≡ name) ⊎ Contains names name
        → ((earlier : List Name) → Contains names name → (is_among earlier name ≡ true) ⊎ Contains (met_after earlier names) name)
        → (is_among before name ≡ true) ⊎ Contains (cond b (x ∷ met_after (x ∷ before) names) (met_after before names)) name
    by_meeting b first (inl same) rest = here b first same
    by_meeting true first (inr later) rest = added (is_same_tempid name x) refl (rest (x ∷ before) later)
    by_meeting false first (inr later) rest = rest before later

is_met : (name : Name) → is_tempid name ≡ true → (asks : List Ask) → Contains (flat_map names_of asks) name
    → Contains (tempids_in asks) name
is_met name is asks member =
    elim (met_or_before name is [] (flat_map names_of asks) member) [ inl before ↦ absurd (false≢true before) | inr met ↦ met ]

-- ---- the entity of a tempid with a holder

module _ (db : Db) (asks : List Ask) (name : Name) (is : is_tempid name ≡ true) (e : ℕ) (es : List ℕ)
    (held : holders db asks name ≡ e ∷ es) where
  numbered : (names : List Name) (n : ℕ) → Contains names name → assigned_to (number_from db asks names n) name ≡ Some e
  numbered [] n member = absurd (not_in_none name member)
  numbered (x ∷ names) n member = by_first (is_same_tempid x name) refl (λ next. numbered names next) (which x name names member)
    where
      skipped : (hs : List ℕ) → is_same_tempid x name ≡ false → ((next : ℕ) → assigned_to (number_from db asks names next) name ≡ Some e)
          → assigned_to (number_next x n hs (λ next. number_from db asks names next)) name ≡ Some e
      skipped [] other rest =
          ap (λ b. cond b (Some (user_entity (n + 1))) (assigned_to (number_from db asks names (n + 1)) name)) other ∙ rest (n + 1)
      skipped (f ∷ fs) other rest = ap (λ b. cond b (Some f) (assigned_to (number_from db asks names n) name)) other ∙ rest n

      taken : is_same_tempid x name ≡ true
          → assigned_to (number_next x n (holders db asks x) (λ next. number_from db asks names next)) name ≡ Some e
      taken same =
          ap (λ hs. assigned_to (number_next x n hs (λ next. number_from db asks names next)) name)
          (ap (holders db asks) (same_is_equal x name same) ∙ held)
          ∙ ap (λ b. cond b (Some e) (assigned_to (number_from db asks names n) name)) same

      by_first : (b : Bool)
          → is_same_tempid x name ≡ b → ((next : ℕ) → Contains names name → assigned_to (number_from db asks names next) name ≡ Some e)
          → (x ≡ name) ⊎ Contains names name
          → assigned_to (number_next x n (holders db asks x) (λ next. number_from db asks names next)) name ≡ Some e
      by_first true same rest where_it_is = taken same
      by_first false other rest (inl here) =
          absurd (true≢false (sym (same_as_itself name is) ∙ ap (λ y. is_same_tempid y name) (sym here) ∙ other))
      by_first false other rest (inr later) = skipped (holders db asks x) other (λ next. rest next later)

-- ---- what gives a tempid its holder

record IsGiven (db : Db) (asks : List Ask) (name : Name) (e : ℕ) : Type 0 where
  ask : Ask
  among : Contains asks ask
  gives : identified db name ask ≡ Some e

given_by : (db : Db) (asks : List Ask) (name : Name) (e : ℕ) (es : List ℕ) → holders db asks name ≡ e ∷ es → IsGiven db asks name e
given_by db [] name e es held = absurd (let wrong = held in cc)
given_by db (ask ∷ asks) name e es held = by_ask (identified db name ask) refl held (given_by db asks name e es)
  where
    by_ask : (o : Option ℕ) → identified db name ask ≡ o → cons_option o (holders db asks name) ≡ e ∷ es
        → (holders db asks name ≡ e ∷ es → IsGiven db asks name e) → IsGiven db (ask ∷ asks) name e
    by_ask None is held rest =
        let given = rest held in
        record { ask = given.ask; among = later_of ask given.ask asks given.among; gives = given.gives }
    by_ask (Some f) is held rest =
        let same : f ≡ e = cc in
        record { ask = ask; among = first_of ask asks; gives = is ∙ ap Some same }

is_named : (db : Db) (name : Name) (ask : Ask) (e : ℕ) → identified db name ask ≡ Some e → Contains (names_of ask) name
is_named db name (adds other k (plain f)) e gives = by_name (is_same_tempid name other) refl
  where
    by_name : (b : Bool) → is_same_tempid name other ≡ b → Contains (other ∷ []) name
    by_name true same = subst (λ y. Contains (other ∷ []) y) (sym (same_is_equal name other same)) (first_of other [])
    by_name false differs =
        absurd
        (let none = sym (ap (λ b. cond b (option_and_then (identity_holder db f) (attribute_named db.facts k)) None) differs) ∙ gives in cc)
is_named db name (adds other k (entity held)) e gives = absurd (let wrong = gives in cc)
is_named db name (retracts other k part) e gives = absurd (let wrong = gives in cc)
is_named db name (retracts_all other k) e gives = absurd (let wrong = gives in cc)
is_named db name (compares other k old new) e gives = absurd (let wrong = gives in cc)
is_named db name (retracts_entity other) e gives = absurd (let wrong = gives in cc)
is_named db name (meets other) e gives = absurd (let wrong = gives in cc)
is_named db name (mentions k) e gives = absurd (let wrong = gives in cc)
is_named db name lacks_id e gives = absurd (let wrong = gives in cc)

-- ---- in two orders

not_false : (b : Bool) → not b ≡ false → b ≡ true
not_false true is = refl
not_false false is = absurd (true≢false is)

module _ (db : Db) (asks other : List (List Ask)) (forth : (x : List Ask) → Contains asks x → Contains other x)
    (back : (x : List Ask) → Contains other x → Contains asks x)
    (unbroken : list_any (breaks_tempid_conflict db (joined asks)) asks ≡ false) (name : Name) (is : is_tempid name ≡ true) where
  only_holder : (e : ℕ) (es : List ℕ) → holders db (joined asks) name ≡ e ∷ es
      → list_any (λ held. not (nat_eq held e)) (holders db (joined asks) name) ≡ false
  only_holder e es held =
      let given = given_by db (joined asks) name e es held in
      let from = comes_from (λ list. list) asks given.ask given.among in
      let of_form = none_passes (breaks_tempid_conflict db (joined asks)) asks from.source unbroken from.among in
      let of_ask =
      none_passes (λ ask. list_any (gives_one_of_two db (joined asks) ask) (names_of ask)) from.source given.ask of_form from.made in
      let of_name =
      none_passes (gives_one_of_two db (joined asks) given.ask) (names_of given.ask) name of_ask
      (is_named db name given.ask e given.gives) in
      sym (ap (λ o. option_map_or (λ e. list_any (λ held. not (nat_eq held e)) (holders db (joined asks) name)) o false) given.gives)
      ∙ sym (ap (λ b. b && option_map_or (λ e. list_any (λ held. not (nat_eq held e)) (holders db (joined asks) name))
      (identified db name given.ask) false) is)
      ∙ of_name

  same_first : (e f : ℕ) (es fs : List ℕ) → holders db (joined asks) name ≡ e ∷ es → holders db (joined other) name ≡ f ∷ fs → e ≡ f
  same_first e f es fs held held_there =
      let none : list_any (λ held. not (nat_eq held e)) (f ∷ fs) ≡ false =
      ap (list_any (λ held. not (nat_eq held e))) (sym held_there)
      ∙ sym (same_holders db [] asks other forth back (λ held. not (nat_eq held e)) name)
      ∙ only_holder e es held in
      sym (eqb-true f e (not_false (nat_eq f e) (or_parts (not (nat_eq f e)) (list_any (λ held. not (nat_eq held e)) fs) none).0))

  is_held_there : (e : ℕ) (es : List ℕ) → holders db (joined asks) name ≡ e ∷ es → holders db (joined other) name ≢ []
  is_held_there e es held none =
      true≢false
      (sym (ap (list_any (λ x. true)) held) ∙ same_holders db [] asks other forth back (λ x. true) name ∙ ap (list_any (λ x. true)) none)

  met_in : (forms : List (List Ask)) (e : ℕ) (es : List ℕ) → holders db (joined forms) name ≡ e ∷ es
      → Contains (tempids_in (joined forms)) name
  met_in forms e es held =
      let given = given_by db (joined forms) name e es held in
      is_met name is (joined forms)
      (goes_into names_of (joined forms) given.ask name given.among (is_named db name given.ask e given.gives))

  pub same_entity_of_held : 0 < length (holders db (joined asks) name)
      → assigned_to (assigned db (joined asks)) name ≡ assigned_to (assigned db (joined other)) name
  same_entity_of_held some = by_holders (holders db (joined asks) name) (holders db (joined other) name) refl refl some
    where
      by_holders : (here there : List ℕ) → holders db (joined asks) name ≡ here → holders db (joined other) name ≡ there → 0 < length here
          → assigned_to (assigned db (joined asks)) name ≡ assigned_to (assigned db (joined other)) name
      by_holders [] there held held_there some = absurd (omega (arith, some))
      by_holders (e ∷ es) [] held held_there some = absurd (is_held_there e es held held_there)
      by_holders (e ∷ es) (f ∷ fs) held held_there some =
          numbered db (joined asks) name is e es held (tempids_in (joined asks)) (users_issued db.history) (met_in asks e es held)
          ∙ ap Some (same_first e f es fs held held_there)
          ∙ sym (numbered db (joined other) name is f fs held_there (tempids_in (joined other)) (users_issued db.history)
          (met_in other f fs held_there))
