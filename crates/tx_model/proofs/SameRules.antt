-- Which rules are broken depends on which forms there are, and not on their order or number, where the tempids have the same
-- entities: the rules that look at all forms at once look at lists through their members only.
use Rattle.std.proofs.Common.{◌≡◌, ℕ, zero, suc, ◌+◌, ◌<◌, Bool, true, false, not, ◌&&◌, ◌||◌, List, [], ◌∷◌, ◌++◌, length, map, refl, ap}
use Rattle.std.proofs.Common.{sym, ◌∙◌, arith, option_map, Option, Some, None}
use Rattle.std.specs.Prelude.{flat_map, Contains, is_some, nat_eq}
use Rattle.std.specs.List.{list_any, filter_map, cons_option}
use Rattle.std.specs.Option.{option_map_or}
use Rattle.std.proofs.lemmas.List.Folds.{list_any-append}
use Rattle.fb_values.specs.declared.facts.Datom.{Datom}
use Rattle.fb_model.specs.Facts.{is_of, value_eq}
use Rattle.fb_model.specs.Schema.{is_attribute, is_one, is_unique, is_whole}
use Rattle.fb_model.specs.Laws.{has_no_other_holder, is_alteration, is_forbidden}
use Rattle.tx_model.specs.Asks.{Name, Ask, is_tempid, names_of}
use Rattle.tx_model.specs.Tempids.{Db, identified, holders}
use Rattle.tx_model.specs.Changes.{additions, retractions, sweeps, implied}
use Rattle.tx_model.specs.Transaction.{Transaction, joined, with_names}
use Rattle.tx_model.specs.NameRules.{breaks_not_an_attribute, breaks_protected_attribute, breaks_wrong_type, breaks_not_unique_lookup}
use Rattle.tx_model.specs.NameRules.{breaks_not_an_entity, breaks_nested_without_id, breaks_tempid_conflict, breaks_tempid_not_an_entity}
use Rattle.tx_model.specs.NameRules.{gives_one_of_two, adds_to, is_added_to_by_none}
use Rattle.tx_model.specs.ChangeRules.{at, asked, asked_triples, compares_many, compares_another, is_recorded, conflicts, is_asked_in}
use Rattle.tx_model.specs.ChangeRules.{has_another_value, describes, is_new_attribute, alters_a_promise, keeps_its_promise}
use Rattle.tx_model.specs.ChangeRules.{breaks_datoms_conflict, breaks_unique_conflict, breaks_incomplete_attribute, breaks_attribute_fixed}
use Rattle.tx_model.specs.ChangeRules.{breaks_too_large, breaks_full, breaks_alteration_conflict}
use Rattle.tx_refusals.specs.declared.reasons.Reason.{Reason}
use Rattle.tx_refusals.specs.declared.reasons.Refusal.{Refusal}
use Rattle.tx_model.specs.Step.{first_yes, tests_from, by_whole, broken_rules, first_refusal, are_broken}
use Rattle.tx_model.proofs.Lists.{map-length}
use Rattle.tx_model.proofs.FormOrder.{broken_by_one, any_of_fewer, same_truth, same_images, same_joined, same_changes, same_facts}

-- ---- the least rule that is broken

abbrev first_broken : List (Reason × Bool) → Option Reason
first_broken [] = None
first_broken ((reason, true) ∷ rest) = Some reason
first_broken ((reason, false) ∷ rest) = first_broken rest

least_rule : (rules : List (Reason × Option ℕ))
    → option_map (λ (r : Refusal). r.reason) (first_refusal rules) ≡ first_broken (are_broken rules)
least_rule [] = refl
least_rule ((reason, None) ∷ rules) = least_rule rules
least_rule ((reason, Some place) ∷ rules) = refl

-- ---- tests of lists through their members

module _ {A : Type 0} where
  any_same : (test : A → Bool) (xs ys : List A)
      → ((x : A) → Contains xs x → Contains ys x) → ((x : A) → Contains ys x → Contains xs x) → list_any test xs ≡ list_any test ys
  any_same test xs ys forth back =
      same_truth test (list_any test xs) (list_any test ys) (any_of_fewer test xs ys forth) (any_of_fewer test ys xs back)

  pub any_by : (test other : A → Bool) → ((x : A) → test x ≡ other x) → (xs : List A) → list_any test xs ≡ list_any other xs
  any_by test other same [] = refl
  any_by test other same (x ∷ xs) = ap (λ b. b || list_any test xs) (same x) ∙ ap (λ b. other x || b) (any_by test other same xs)

  pub map_by : {B : Type 0} (f g : A → B) → ((x : A) → f x ≡ g x) → (xs : List A) → map f xs ≡ map g xs
  map_by f g same [] = refl
  map_by f g same (x ∷ xs) = ap (λ y. y ∷ map f xs) (same x) ∙ ap (λ ys. g x ∷ ys) (map_by f g same xs)

  pub then_rest : (x y : A) (xs ys : List A) → x ≡ y → xs ≡ ys → x ∷ xs ≡ y ∷ ys
  then_rest x y xs ys first rest = ap (λ z. z ∷ xs) first ∙ ap (λ zs. y ∷ zs) rest

  any_made : {B : Type 0} (test : B → Bool) (f : A → Option B) (xs : List A)
      → list_any test (filter_map f xs) ≡ list_any (λ x. option_map_or test (f x) false) xs
  any_made test f [] = refl
  any_made test f (x ∷ xs) = at_one test (f x) (filter_map f xs) (list_any (λ y. option_map_or test (f y) false) xs) (any_made test f xs)
    where
      at_one : {B : Type 0} (test : B → Bool) (made : Option B) (rest : List B) (any : Bool) → list_any test rest ≡ any
          → list_any test (cons_option made rest) ≡ (option_map_or test made false || any)
      at_one test None rest any is = is
      at_one test (Some y) rest any is = ap (λ b. test y || b) is

-- ---- a rule that is judged by the place of a form is one of the form

module _ {A : Type 0} where
  at_map : {B : Type 0} (g : List A → List B) (xs : List (List A)) (n : ℕ) → n < length xs → at (map g xs) n ≡ g (at xs n)
  at_map g [] n below = absurd (omega arith)
  at_map g (x ∷ xs) zero below = refl
  at_map g (x ∷ xs) (suc n) below = at_map g xs n (omega arith)

  tests_are : (test : ℕ → Bool) (by_form : List A → Bool) (k : ℕ) (xs : List (List A))
      → ((n : ℕ) → n < length xs → test (k + n) ≡ by_form (at xs n)) → tests_from test k xs ≡ map by_form xs
  tests_are test by_form k [] same = refl
  tests_are test by_form k (x ∷ xs) same =
      let here : k ≡ k + 0 = omega arith in
      let later : (n : ℕ) → n < length xs → test ((k + 1) + n) ≡ by_form (at xs n) =
      λ n below. let next : (k + 1) + n ≡ k + suc n = omega arith in ap test next ∙ same (suc n) (omega (arith, below)) in
      then_rest (test k) (by_form x) (tests_from test (k + 1) xs) (map by_form xs) (ap test here ∙ same 0 (omega arith))
      (tests_are test by_form (k + 1) xs later)

-- ---- the rules of two transactions

module _ (db : Db) (names : List (Name × ℕ)) (asks other : List (List Ask)) (forth : (x : List Ask) → Contains asks x → Contains other x)
    (back : (x : List Ask) → Contains other x → Contains asks x) where
  abbrev one : Transaction
  one = with_names db asks names

  abbrev two : Transaction
  two = with_names db other names

  -- by what each form asks
  by_forms : (test same : List Ask → Bool)
      → ((form : List Ask) → test form ≡ same form) → is_some (first_yes 0 (map test asks)) ≡ is_some (first_yes 0 (map same other))
  by_forms test same is = broken_by_one test asks other forth back ∙ ap (λ tests. is_some (first_yes 0 tests)) (map_by test same is other)

  by_places : (test same : ℕ → Bool) (by_form same_form : List Ask → Bool)
      → ((n : ℕ) → n < length asks → test n ≡ by_form (at asks n)) → ((n : ℕ) → n < length other → same n ≡ same_form (at other n))
      → ((form : List Ask) → by_form form ≡ same_form form)
      → is_some (first_yes 0 (tests_from test 0 asks)) ≡ is_some (first_yes 0 (tests_from same 0 other))
  by_places test same by_form same_form first second is =
      ap (λ tests. is_some (first_yes 0 tests))
      (tests_are test by_form 0 asks (λ n below. let e : 0 + n ≡ n = omega arith in ap test e ∙ first n below))
      ∙ by_forms by_form same_form is
      ∙ sym (ap (λ tests. is_some (first_yes 0 tests))
      (tests_are same same_form 0 other (λ n below. let e : 0 + n ≡ n = omega arith in ap same e ∙ second n below)))

  -- ---- 8 and 9: by all asks

  all_forth : (ask : Ask) → Contains (joined asks) ask → Contains (joined other) ask
  all_forth = same_joined asks other forth

  all_back : (ask : Ask) → Contains (joined other) ask → Contains (joined asks) ask
  all_back = same_joined other asks back

  pub same_holders : (test : ℕ → Bool) (name : Name)
      → list_any test (holders db (joined asks) name) ≡ list_any test (holders db (joined other) name)
  same_holders test name =
      any_made test (identified db name) (joined asks)
      ∙ any_same (λ ask. option_map_or test (identified db name ask) false) (joined asks) (joined other) all_forth all_back
      ∙ sym (any_made test (identified db name) (joined other))

  same_one_of_two : (ask : Ask) (name : Name) → gives_one_of_two db (joined asks) ask name ≡ gives_one_of_two db (joined other) ask name
  same_one_of_two ask name = ap (λ b. is_tempid name && b) (by_holder (identified db name ask))
    where
      by_holder : (o : Option ℕ)
          → option_map_or (λ e. list_any (λ held. not (nat_eq held e)) (holders db (joined asks) name)) o false
          ≡ option_map_or (λ e. list_any (λ held. not (nat_eq held e)) (holders db (joined other) name)) o false
      by_holder None = refl
      by_holder (Some e) = same_holders (λ held. not (nat_eq held e)) name

  same_adding : (name : Name) → is_added_to_by_none (joined asks) name ≡ is_added_to_by_none (joined other) name
  same_adding name = ap (λ b. is_tempid name && not b) (any_same (adds_to name) (joined asks) (joined other) all_forth all_back)

  tempid_conflict : is_some (first_yes 0 (map (breaks_tempid_conflict db (joined asks)) asks))
      ≡ is_some (first_yes 0 (map (breaks_tempid_conflict db (joined other)) other))
  tempid_conflict =
      by_forms (breaks_tempid_conflict db (joined asks)) (breaks_tempid_conflict db (joined other))
      (any_by (λ ask. list_any (gives_one_of_two db (joined asks) ask) (names_of ask))
      (λ ask. list_any (gives_one_of_two db (joined other) ask) (names_of ask))
      (λ ask. any_by (gives_one_of_two db (joined asks) ask) (gives_one_of_two db (joined other) ask) (same_one_of_two ask) (names_of ask)))

  tempid_of_none : is_some (first_yes 0 (map (breaks_tempid_not_an_entity (joined asks)) asks))
      ≡ is_some (first_yes 0 (map (breaks_tempid_not_an_entity (joined other)) other))
  tempid_of_none =
      by_forms (breaks_tempid_not_an_entity (joined asks)) (breaks_tempid_not_an_entity (joined other))
      (any_by (λ ask. list_any (is_added_to_by_none (joined asks)) (names_of ask))
      (λ ask. list_any (is_added_to_by_none (joined other)) (names_of ask))
      (λ ask. any_by (is_added_to_by_none (joined asks)) (is_added_to_by_none (joined other)) same_adding (names_of ask)))

  -- ---- 12: by all that is added, and all that is retracted

  abbrev adding : List Ask → List Datom
  adding = flat_map (additions db names)

  abbrev retracting : List Ask → List Datom
  retracting = flat_map (retractions db names)

  abbrev sweeping : List Ask → List Datom
  sweeping = flat_map (sweeps db names)

  abbrev triples_of : List Ask → List Datom
  triples_of form = adding form ++ retracting form

  abbrev asked_of_form : List Ask → List Datom
  asked_of_form form = adding form ++ retracting form ++ sweeping form ++ implied db (adding form)

  any_joined : (g : List Ask → List Datom) (test : Datom → Bool)
      → list_any test (joined (map g asks)) ≡ list_any test (joined (map g other))
  any_joined g test =
      any_same test (joined (map g asks)) (joined (map g other))
      (same_joined (map g asks) (map g other) (same_images g asks other forth))
      (same_joined (map g other) (map g asks) (same_images g other asks back))

  any_retracted : (test : Datom → Bool)
      → list_any test (joined one.retracted ++ joined one.swept) ≡ list_any test (joined two.retracted ++ joined two.swept)
  any_retracted test =
      list_any-append test (joined one.retracted) (joined one.swept)
      ∙ ap (λ b. b || list_any test (joined one.swept)) (any_joined retracting test)
      ∙ ap (λ b. list_any test (joined two.retracted) || b) (any_joined sweeping test)
      ∙ sym (list_any-append test (joined two.retracted) (joined two.swept))

  same_conflicts : (d : Datom) → conflicts one d ≡ conflicts two d
  same_conflicts d =
      ap (λ b.
      b && ((is_one db.facts d.a && has_another_value (joined one.added) d) || is_asked_in (joined one.retracted ++ joined one.swept) d))
      (any_joined adding (is_of d.e d.a d.v))
      ∙ ap
      (λ b. is_asked_in (joined two.added) d && ((is_one db.facts d.a && b) || is_asked_in (joined one.retracted ++ joined one.swept) d))
      (any_joined adding (λ held. nat_eq held.e d.e && nat_eq held.a d.a && not (value_eq held.v d.v)))
      ∙ ap (λ b. is_asked_in (joined two.added) d && ((is_one db.facts d.a && has_another_value (joined two.added) d) || b))
      (any_retracted (is_of d.e d.a d.v))

  -- ---- what the form at a place asks

  module _ (forms : List (List Ask)) where
    abbrev of_forms : Transaction
    of_forms = with_names db forms names

    triples_at : (n : ℕ) → n < length forms → asked_triples of_forms n ≡ triples_of (at forms n)
    triples_at n below =
        ap (λ ds. ds ++ at of_forms.retracted n) (at_map adding forms n below)
        ∙ ap (λ ds. adding (at forms n) ++ ds) (at_map retracting forms n below)

    replaced_at : (n : ℕ) → n < length forms → at of_forms.replaced n ≡ implied db (adding (at forms n))
    replaced_at n below =
        at_map (implied db) (map adding forms) n (let e = map-length adding forms in omega (arith, e, below))
        ∙ ap (implied db) (at_map adding forms n below)

    asked_at : (n : ℕ) → n < length forms → asked of_forms n ≡ asked_of_form (at forms n)
    asked_at n below =
        ap (λ ds. ds ++ at of_forms.retracted n ++ at of_forms.swept n ++ at of_forms.replaced n) (at_map adding forms n below)
        ∙ ap (λ ds. adding (at forms n) ++ ds ++ at of_forms.swept n ++ at of_forms.replaced n) (at_map retracting forms n below)
        ∙ ap (λ ds. adding (at forms n) ++ retracting (at forms n) ++ ds ++ at of_forms.replaced n) (at_map sweeping forms n below)
        ∙ ap (λ ds. adding (at forms n) ++ retracting (at forms n) ++ sweeping (at forms n) ++ ds) (replaced_at n below)

  -- ---- the rules on changes, by what holds afterwards

  -- a transaction of which only the facts afterwards are read
  abbrev then : List Datom → Transaction
  then after =
      record { db = db; asks = []; names = names; added = []; retracted = []; swept = []; replaced = []; changes = []; after = after }

  abbrev shares_a_value : List Datom → List Ask → Bool
  shares_a_value after form = list_any (λ d. is_unique db.facts d.a && not (has_no_other_holder after d)) (adding form)

  abbrev leaves_no_whole : List Datom → List Datom → List Datom → Bool
  leaves_no_whole after triples all =
      list_any (λ d. describes d && is_new_attribute (then after) d.e && not (is_whole after d.e)) triples
      || list_any (λ d. is_recorded (then after) d && is_alteration d && is_attribute db.facts d.e && not (is_whole after d.e)) all

  abbrev breaks_a_promise : List Datom → List Datom → Bool
  breaks_a_promise after all =
      list_any (λ d. is_recorded (then after) d && alters_a_promise d && is_attribute db.facts d.e && not (keeps_its_promise after d.e)) all

  -- a transaction of which only the changes are read
  abbrev recording : List Datom → Transaction
  recording changes =
      record { db = db; asks = []; names = names; added = []; retracted = []; swept = []; replaced = []; changes = changes; after = [] }

  abbrev too_large : List Datom → Bool
  too_large changes = breaks_too_large (recording changes)

  abbrev is_full : List Datom → Bool
  is_full changes = breaks_full (recording changes)

  after_is : one.after ≡ two.after
  after_is = same_facts db names asks other forth back

  changes_are : one.changes ≡ two.changes
  changes_are = same_changes db names asks other forth back

  datoms_conflict : is_some (first_yes 0 (tests_from (breaks_datoms_conflict one) 0 asks))
      ≡ is_some (first_yes 0 (tests_from (breaks_datoms_conflict two) 0 other))
  datoms_conflict =
      by_places (breaks_datoms_conflict one) (breaks_datoms_conflict two) (λ form. list_any (conflicts one) (asked_of_form form))
      (λ form. list_any (conflicts two) (asked_of_form form))
      (λ n below. ap (list_any (conflicts one)) (asked_at asks n below)) (λ n below. ap (list_any (conflicts two)) (asked_at other n below))
      (λ form. any_by (conflicts one) (conflicts two) same_conflicts (asked_of_form form))

  unique_conflict : is_some (first_yes 0 (tests_from (breaks_unique_conflict one) 0 asks))
      ≡ is_some (first_yes 0 (tests_from (breaks_unique_conflict two) 0 other))
  unique_conflict =
      by_places (breaks_unique_conflict one) (breaks_unique_conflict two) (shares_a_value one.after) (shares_a_value two.after)
      (λ n below. ap (list_any (λ d. is_unique db.facts d.a && not (has_no_other_holder one.after d))) (at_map adding asks n below))
      (λ n below. ap (list_any (λ d. is_unique db.facts d.a && not (has_no_other_holder two.after d))) (at_map adding other n below))
      (λ form. ap (λ after. shares_a_value after form) after_is)

  incomplete_attribute : is_some (first_yes 0 (tests_from (breaks_incomplete_attribute one) 0 asks))
      ≡ is_some (first_yes 0 (tests_from (breaks_incomplete_attribute two) 0 other))
  incomplete_attribute =
      by_places (breaks_incomplete_attribute one) (breaks_incomplete_attribute two)
      (λ form. leaves_no_whole one.after (triples_of form) (asked_of_form form))
      (λ form. leaves_no_whole two.after (triples_of form) (asked_of_form form))
      (λ n below. ap (λ ds. leaves_no_whole one.after ds (asked one n)) (triples_at asks n below)
      ∙ ap (leaves_no_whole one.after (triples_of (at asks n))) (asked_at asks n below))
      (λ n below. ap (λ ds. leaves_no_whole two.after ds (asked two n)) (triples_at other n below)
      ∙ ap (leaves_no_whole two.after (triples_of (at other n))) (asked_at other n below))
      (λ form. ap (λ after. leaves_no_whole after (triples_of form) (asked_of_form form)) after_is)

  attribute_fixed : is_some (first_yes 0 (tests_from (breaks_attribute_fixed one) 0 asks))
      ≡ is_some (first_yes 0 (tests_from (breaks_attribute_fixed two) 0 other))
  attribute_fixed =
      by_places (breaks_attribute_fixed one) (breaks_attribute_fixed two)
      (λ form. list_any (λ d. is_recorded one d && is_forbidden db.facts d) (asked_of_form form))
      (λ form. list_any (λ d. is_recorded two d && is_forbidden db.facts d) (asked_of_form form))
      (λ n below. ap (list_any (λ d. is_recorded one d && is_forbidden db.facts d)) (asked_at asks n below))
      (λ n below. ap (list_any (λ d. is_recorded two d && is_forbidden db.facts d)) (asked_at other n below))
      (λ form. refl)

  alteration_conflict : is_some (first_yes 0 (tests_from (breaks_alteration_conflict one) 0 asks))
      ≡ is_some (first_yes 0 (tests_from (breaks_alteration_conflict two) 0 other))
  alteration_conflict =
      by_places (breaks_alteration_conflict one) (breaks_alteration_conflict two)
      (λ form. breaks_a_promise one.after (asked_of_form form)) (λ form. breaks_a_promise two.after (asked_of_form form))
      (λ n below. ap (breaks_a_promise one.after) (asked_at asks n below))
      (λ n below. ap (breaks_a_promise two.after) (asked_at other n below))
      (λ form. ap (λ after. breaks_a_promise after (asked_of_form form)) after_is)

  -- ---- all of them

  same_test : (test : List Ask → Bool) → is_some (first_yes 0 (map test asks)) ≡ is_some (first_yes 0 (map test other))
  same_test test = broken_by_one test asks other forth back

  by_ask : (test : Ask → Bool)
      → is_some (first_yes 0 (tests_from (λ n. list_any test (at asks n)) 0 asks))
      ≡ is_some (first_yes 0 (tests_from (λ n. list_any test (at other n)) 0 other))
  by_ask test =
      by_places (λ n. list_any test (at asks n)) (λ n. list_any test (at other n)) (list_any test) (list_any test) (λ n below. refl)
      (λ n below. refl) (λ form. refl)

  -- a rule is broken in both or in neither
  here : {rest same : List (Reason × Bool)} (reason : Reason) (broken other : Bool) → broken ≡ other → rest ≡ same
      → (reason, broken) ∷ rest ≡ (reason, other) ∷ same
  here {rest} {same} reason broken other is are = then_rest (reason, broken) (reason, other) rest same (ap (λ b. (reason, b)) is) are

  pub same_rules : are_broken (broken_rules one) ≡ are_broken (broken_rules two)
  same_rules =
      here _ _ _ (same_test (breaks_not_an_attribute db))
      (here _ _ _ (same_test (breaks_protected_attribute db))
      (here _ _ _ (same_test (breaks_wrong_type db))
      (here _ _ _ (same_test (breaks_not_unique_lookup db))
      (here _ _ _ (same_test (breaks_not_an_entity db))
      (here _ _ _ (same_test (breaks_nested_without_id db))
      (here _ _ _ tempid_conflict
      (here _ _ _ tempid_of_none
      (here _ _ _ (by_ask (compares_many db))
      (here _ _ _ (by_ask (compares_another one))
      (here _ _ _ datoms_conflict
      (here _ _ _ unique_conflict
      (here _ _ _ incomplete_attribute
      (here _ _ _ attribute_fixed
      (here _ _ _ (ap (λ changes. is_some (by_whole (too_large changes))) changes_are)
      (here _ _ _ (ap (λ changes. is_some (by_whole (is_full changes))) changes_are)
      (here _ _ _ alteration_conflict refl))))))))))))))))

  pub same_least_rule : option_map (λ (r : Refusal). r.reason) (first_refusal (broken_rules one))
      ≡ option_map (λ (r : Refusal). r.reason) (first_refusal (broken_rules two))
  same_least_rule = least_rule (broken_rules one) ∙ ap first_broken same_rules ∙ sym (least_rule (broken_rules two))
