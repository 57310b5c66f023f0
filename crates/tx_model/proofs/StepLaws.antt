-- The entry of a transaction that breaks no rule keeps every law.
use Rattle.std.proofs.Common.{◌≡◌, ℕ, zero, suc, ◌+◌, ◌<◌, ◌≤◌, ℤ, Bool, true, false, cond, not, ◌&&◌, ◌||◌, List, [], ◌∷◌, ◌++◌, length}
use Rattle.std.proofs.Common.{refl, ap, sym, ◌∙◌, subst, arith, inl, inr, ◌⊎◌, eqb, leb, Option, Some, None}
use Rattle.std.specs.Prelude.{Contains, filter, is_some, int_lt, option_map}
use Rattle.std.specs.List.{list_any, list_all}
use Rattle.std.specs.Option.{option_map_or}
use Rattle.std.proofs.lemmas.Bool.{true≢false, and_parts, and_from, or_parts, or_left, or_right, eqb-true, eq-eqb, leb-true, le-leb}
use Rattle.std.proofs.lemmas.List.Elements.{Contains-append_left, Contains-append_right, Contains-get_or}
use Rattle.edn_model.specs.Form as edn
use Rattle.edn_model.specs.Form.{Form}
use Rattle.fb_values.specs.declared.facts.Datom.{Datom}
use Rattle.fb_values.specs.declared.facts.Entry.{Entry}
use Rattle.fb_values.specs.declared.facts.Value.{Value}
use Rattle.fb_values.specs.declared.facts.Value.TheVariants.{Keyword, Str, Bool as Boolean, Long, Ref, Instant, Uuid, Symbol, Uri}
use Rattle.fb_values.specs.declared.indexes.Order.TheVariants.{Eavt}
use Rattle.fb_numbers.specs.Numbers.{transaction_of, user_entity, tx_instant, ident, value_type, cardinality, unique, index, is_instant}
use Rattle.fb_numbers.specs.Numbers.{greatest_t, most_datoms, type_uri}
use Rattle.fb_model.specs.Words.{is_reserved}
use Rattle.fb_model.specs.History.{basis, said, last_instant, next_instant}
use Rattle.fb_model.specs.Facts.{facts, is_of, holds, values_of, value_eq}
use Rattle.fb_model.specs.Types.{is_of_type}
use Rattle.fb_model.specs.Schema.{Attribute, is_attribute, is_one, is_unique, is_whole, is_about}
use Rattle.fb_model.specs.Laws.{facts_with, is_known, is_known_value, keeps_one_value, keeps_one_holder, has_no_other_holder}
use Rattle.fb_model.specs.Laws.{says_attribute, is_alteration, is_forbidden, has_reserved_name, is_reserved_value, is_own_instant}
use Rattle.fb_model.specs.Laws.{are_new_ones_whole, are_altered_ones_whole, keeps_reserved_names}
use Rattle.fb_model.specs.Lawful.{IsLawful, IsLawfulAfter}
use Rattle.fb_model.proofs.OneMoreEntry.{next_instant-later, next_instant-at_least, holds_after-unused}
use Rattle.fb_model.proofs.Triples.{value_eq-refl, value_eq-true, holds-facts, not_followed}
use Rattle.fb_model.proofs.Invariants.{one_value, one_holder, or_true, values_of-is_of, only_value}
use Rattle.fb_model.proofs.SchemaHistories.{builtin_stays, described_ones, reserved_names}
use Rattle.fb_model.proofs.KnownFacts.{is_typed}
use Rattle.fb_model.proofs.Members.{keep, member_passes, all_members, any_member, some_member, in_order-rises}
use Rattle.fb_model.proofs.TextEntries.{unused_transaction, in_range}
use Rattle.tx_model.specs.Asks.{Operand, plain, entity, Ask, attribute_of_ask}
use Rattle.tx_model.specs.Values.{value_in, if_of_type}
use Rattle.tx_model.specs.Tempids.{db_of, entity_of}
use Rattle.tx_model.specs.Changes.{value_of_part, withdrawn, implied, is_replaced}
use Rattle.tx_model.specs.Transaction.{joined, transaction, recorded}
use Rattle.tx_model.specs.NameRules.{breaks_protected_attribute, is_protected, is_ident, is_reserved_part, adds_reserved_ident}
use Rattle.tx_model.specs.ChangeRules.{at, asked, asked_triples, is_recorded, conflicts, describes, is_new_attribute, keeps_its_promise}
use Rattle.tx_model.specs.ChangeRules.{alters_a_promise}
use Rattle.tx_model.specs.Step.{entry_of, refusal_of}
use Rattle.tx_model.proofs.Lists.{none_passes, goes_into, has_image}
use Rattle.tx_model.proofs.Refused.{NoneBroken, none_broken}
use Rattle.tx_model.proofs.Changed.{Origin, by_addition, by_retraction, by_withdrawal, IsAskedBy, IsChangeOf}
use Rattle.tx_model.proofs.Recorded.{the_change, change_has, not_forbidden, not_instant, own_t_of, instant_of, recorded_cases}
use Rattle.tx_model.proofs.Recorded.{recorded_instant, room_for_t, room_for_instant, few_enough}
use Rattle.tx_model.proofs.Known.{change_known, change_typed, change_installed}
use Rattle.tx_model.proofs.After.{is_not, of_itself, short_values, same_attribute, same_whole, IsAfter, stays, comes, after_cases}
use Rattle.tx_model.proofs.After.{is_in_after, one_before, unique_before, instants_not_unique, after_installed, instant_alone}

some_is : {A : Type 0} (x y : A) → Some x ≡ Some y → x ≡ y
some_is x y same = cc

-- an entity of a fact holds its value
fact_holds : (h : List Entry) (d : Datom) → Contains (facts h) d → holds h d.e d.a d.v ≡ true
fact_holds h d member = holds-facts h d.e d.a d.v ∙ any_member (is_of d.e d.a d.v) (facts h) d member (of_itself d)

-- the member of a list at a place is in the joined lists
in_joined : (lists : List (List Datom)) (place : ℕ) (d : Datom) → place < length lists → Contains (at lists place) d
    → Contains (joined lists) d
in_joined [] place d within member = absurd (omega (arith, within))
in_joined (l ∷ lists) zero d within member = Contains-append_left l (joined lists) d member
in_joined (l ∷ lists) (suc place) d within member =
    Contains-append_right l (joined lists) d (in_joined lists place d (omega (arith, within)) member)

not_beyond : (lists : List (List Datom)) (place : ℕ) (d : Datom) → Contains (at lists place) d → place < length lists
not_beyond [] place d member = absurd (omega (arith, member.1))
not_beyond (l ∷ lists) zero d member = omega arith
not_beyond (l ∷ lists) (suc place) d member = omega (arith, not_beyond lists place d member)

placed : (lists : List (List Datom)) (place : ℕ) (d : Datom) → Contains (at lists place) d → Contains (joined lists) d
placed lists place d member = in_joined lists place d (not_beyond lists place d member) member

among_lists : (lists : List (List Datom)) (place : ℕ) (d : Datom) → Contains (at lists place) d → Contains lists (at lists place)
among_lists lists place d member = Contains-get_or lists place [] (not_beyond lists place d member)

-- a keyword is the value of a keyword alone
keyword_form : (kind : ℕ) (f : Form) (k : List ℕ) → value_in kind f ≡ Some (Keyword k) → is_reserved_part (plain f) ≡ is_reserved k
keyword_form kind f k is = by_form f is
  where
    if_typed : (w : Value) (b : Bool) → cond b (Some w) None ≡ Some (Keyword k) → w ≡ Keyword k
    if_typed w true is = some_is w (Keyword k) is
    if_typed w false is = absurd (cc)

    by_string : (s : List ℕ) (b : Bool) → option_map_or (if_of_type kind) (cond b (Some (Uri s)) (Some (Str s))) None ≡ Some (Keyword k)
        → is_reserved_part (plain (edn.string s)) ≡ is_reserved k
    by_string s true is = let same : Uri s ≡ Keyword k = if_typed (Uri s) (is_of_type kind (Uri s)) is in absurd (cc)
    by_string s false is = let same : Str s ≡ Keyword k = if_typed (Str s) (is_of_type kind (Str s)) is in absurd (cc)

    keyword_same : (j : List ℕ) → Keyword j ≡ Keyword k → j ≡ k
    keyword_same j same = cc

    by_form : (f : Form) → value_in kind f ≡ Some (Keyword k) → is_reserved_part (plain f) ≡ is_reserved k
    by_form (edn.keyword j) is = ap is_reserved (keyword_same j (if_typed (Keyword j) (is_of_type kind (Keyword j)) is))
    by_form (edn.string s) is = by_string s (eqb kind type_uri) is
    by_form (edn.boolean b) is = let same : Boolean b ≡ Keyword k = if_typed (Boolean b) (is_of_type kind (Boolean b)) is in absurd (cc)
    by_form (edn.integer z) is = let same : Long z ≡ Keyword k = if_typed (Long z) (is_of_type kind (Long z)) is in absurd (cc)
    by_form (edn.instant z) is = let same : Instant z ≡ Keyword k = if_typed (Instant z) (is_of_type kind (Instant z)) is in absurd (cc)
    by_form (edn.uuid n) is = let same : Uuid n ≡ Keyword k = if_typed (Uuid n) (is_of_type kind (Uuid n)) is in absurd (cc)
    by_form (edn.symbol s) is = let same : Symbol s ≡ Keyword k = if_typed (Symbol s) (is_of_type kind (Symbol s)) is in absurd (cc)
    by_form edn.nil is = absurd (cc)
    by_form (edn.list fs) is = absurd (cc)
    by_form (edn.vector fs) is = absurd (cc)
    by_form (edn.map ps) is = absurd (cc)
    by_form (edn.set fs) is = absurd (cc)

module _ (h : List Entry) (fs : List Form) (instant : ℤ) (lawful : IsLawful h) (none : NoneBroken (transaction h fs)) where
  abbrev E : List Datom
  E = facts_with h (entry_of h (transaction h fs) instant)

  -- ---- altered attributes keep their promise

  promise : (d : Datom) → Contains (transaction h fs).changes d → alters_a_promise d ≡ true → is_attribute (facts h) d.e ≡ true
      → keeps_its_promise (transaction h fs).after d.e ≡ true
  promise d member alters installed =
      let change = the_change h fs lawful none d member in
      let unbroken = not_asked3 d change (none.alteration_conflict change.place change.within) in
      kept_if (alters_a_promise d) (is_attribute (facts h) d.e) (keeps_its_promise (transaction h fs).after d.e) alters installed unbroken
    where
      kept_if : (x y z : Bool) → x ≡ true → y ≡ true → (x && y && not z) ≡ false → z ≡ true
      kept_if true true true p q r = refl
      kept_if true true false p q r = absurd (true≢false r)
      kept_if true false z p q r = absurd (true≢false (sym q))
      kept_if false y z p q r = absurd (true≢false (sym p))

      not_asked3 : (d : Datom) (change : IsChangeOf (transaction h fs) d)
          → list_any (λ d. is_recorded (transaction h fs) d && alters_a_promise d && is_attribute (facts h) d.e
          && not (keeps_its_promise (transaction h fs).after d.e)) (asked (transaction h fs) change.place) ≡ false
          → (alters_a_promise d && is_attribute (facts h) d.e && not (keeps_its_promise (transaction h fs).after d.e)) ≡ false
      not_asked3 d change broken =
          drop_first (is_recorded (transaction h fs) d) (alters_a_promise d) (is_attribute (facts h) d.e)
          (not (keeps_its_promise (transaction h fs).after d.e)) change.changes
          (none_passes (λ d. is_recorded (transaction h fs) d && alters_a_promise d && is_attribute (facts h) d.e
          && not (keeps_its_promise (transaction h fs).after d.e)) (asked (transaction h fs) change.place) d broken change.member)
        where
          drop_first : (w x y z : Bool) → w ≡ true → (w && x && y && z) ≡ false → (x && y && z) ≡ false
          drop_first true x y z p q = q
          drop_first false x y z p q = absurd (true≢false (sym p))

  kept_of : (a : ℕ) (d : Datom) → keeps_its_promise (transaction h fs).after a ≡ true → Contains (transaction h fs).after d → d.a ≡ a
      → ((not (is_one (transaction h fs).after a) || leb (length (values_of (transaction h fs).after d.e a)) 1)
      && (not (is_unique (transaction h fs).after a) || has_no_other_holder (transaction h fs).after d)) ≡ true
  kept_of a d promise member a_is =
      or_true (eqb d.a a) _ (eq-eqb d.a a a_is)
      (member_passes
      (λ x. not (eqb x.a a) || ((not (is_one (transaction h fs).after a) || leb (length (values_of (transaction h fs).after x.e a)) 1)
      && (not (is_unique (transaction h fs).after a) || has_no_other_holder (transaction h fs).after x)))
      (transaction h fs).after d promise member)

  altered_promise : (a part : ℕ) → is_attribute (facts h) a ≡ true → (eqb part cardinality || eqb part unique) ≡ true
      → list_any (is_about a part) (transaction h fs).changes ≡ true → keeps_its_promise (transaction h fs).after a ≡ true
  altered_promise a part installed alters some =
      let found = some_member (is_about a part) (transaction h fs).changes some in
      let about = and_parts (eqb (found.0).e a) (eqb (found.0).a part) found.2 in
      at_entity found.0 found.1 (eqb-true (found.0).e a about.0) (eqb-true (found.0).a part about.1)
    where
      at_entity : (d : Datom) → Contains (transaction h fs).changes d → d.e ≡ a → d.a ≡ part
          → keeps_its_promise (transaction h fs).after a ≡ true
      at_entity d member e_is a_is =
          subst (λ e. keeps_its_promise (transaction h fs).after e ≡ true) e_is
          (promise d member (subst (λ x. (eqb x cardinality || eqb x unique) ≡ true) (sym a_is) alters)
          (subst (λ e. is_attribute (facts h) e ≡ true) (sym e_is) installed))

  -- ---- 7

  same_place_values : (x y : Datom) → x.e ≡ y.e → x.a ≡ y.a → value_eq y.v x.v ≡ false
      → (eqb y.e x.e && eqb y.a x.a && not (value_eq y.v x.v)) ≡ true
  same_place_values x y e_is a_is differs =
      and_from _ _ (and_from _ _ (eq-eqb y.e x.e (sym e_is)) (eq-eqb y.a x.a (sym a_is))) (ap not differs)

  -- a fact before goes where another value of it is added
  replaced_by : (x y : Datom) → Contains (facts h) x → not_followed (transaction h fs).changes x ≡ true
      → Contains (transaction h fs).changes y → y.added ≡ true
      → x.e ≡ y.e → x.a ≡ y.a → is_one (facts h) x.a ≡ true → y.v ≡ x.v
  replaced_by x y x_in alone y_in added e_is a_is one = go (value_eq y.v x.v) refl
    where
      go : (b : Bool) → value_eq y.v x.v ≡ b → y.v ≡ x.v
      go true same = value_eq-true y.v x.v same
      go false differs =
          let change = the_change h fs lawful none y y_in in
          let here_added = change.triple added in
          let list = at (transaction h fs).added change.place in
          let goes : Contains (implied (db_of h) list) (withdrawn (db_of h) x) =
          has_image (withdrawn (db_of h)) (filter (λ f. is_one (facts h) f.a && list_any (is_replaced f) list) (facts h)) x
          (keep_fact (λ f. is_one (facts h) f.a && list_any (is_replaced f) list) x x_in
          (and_from _ _ one (any_member (is_replaced x) list y here_added (same_place_values x y e_is a_is differs)))) in
          let in_replaced : Contains (joined (transaction h fs).replaced) (withdrawn (db_of h) x) =
          goes_into (λ (l : List Datom). l) (transaction h fs).replaced (implied (db_of h) list) (withdrawn (db_of h) x)
          (has_image (implied (db_of h)) (transaction h fs).added list (among_lists (transaction h fs).added change.place y here_added))
          goes in
          let w_in : Contains (transaction h fs).changes (withdrawn (db_of h) x) =
          change_has h fs lawful none (withdrawn (db_of h) x)
          (Contains-append_right (joined (transaction h fs).added ++ joined (transaction h fs).retracted ++ joined (transaction h fs).swept)
          (joined (transaction h fs).replaced) (withdrawn (db_of h) x) in_replaced)
          (fact_holds h x x_in) in
          absurd (true≢false (sym (any_member (is_of x.e x.a x.v) (transaction h fs).changes (withdrawn (db_of h) x) w_in
          (and_from _ _ (and_from _ _ (eq-eqb x.e x.e refl) (eq-eqb x.a x.a refl)) (value_eq-refl x.v))) ∙ is_not _ alone))
        where
          keep_fact : (p : Datom → Bool) (d : Datom) → Contains (facts h) d → p d ≡ true → Contains (filter p (facts h)) d
          keep_fact p d member pass = keep p (facts h) d member pass

  -- two values of one entity are not added together
  added_once : (x y : Datom) → Contains (transaction h fs).changes x → x.added ≡ true → Contains (transaction h fs).changes y
      → y.added ≡ true → x.e ≡ y.e → x.a ≡ y.a → is_one (facts h) x.a ≡ true → y.v ≡ x.v
  added_once x y x_in x_added y_in y_added e_is a_is one = go (value_eq y.v x.v) refl
    where
      go : (b : Bool) → value_eq y.v x.v ≡ b → y.v ≡ x.v
      go true same = value_eq-true y.v x.v same
      go false differs =
          let x_change = the_change h fs lawful none x x_in in
          let y_change = the_change h fs lawful none y y_in in
          let x_all = placed (transaction h fs).added x_change.place x (x_change.triple x_added) in
          let y_all = placed (transaction h fs).added y_change.place y (y_change.triple y_added) in
          let breaks : conflicts (transaction h fs) x ≡ true =
          and_from _ _ (any_member (is_of x.e x.a x.v) (joined (transaction h fs).added) x x_all (of_itself x))
          (or_left _ _ (and_from _ _ one (any_member (λ other. eqb other.e x.e && eqb other.a x.a && not (value_eq other.v x.v))
          (joined (transaction h fs).added) y y_all (same_place_values x y e_is a_is differs)))) in
          absurd (true≢false (sym breaks ∙ none_passes (conflicts (transaction h fs)) (asked (transaction h fs) x_change.place) x
          (none.datoms_conflict x_change.place x_change.within) x_change.member))

  -- two after-facts of one entity have one value, where the attribute had cardinality one before
  one_by_before : (x y : Datom) → IsAfter h fs instant lawful none x → IsAfter h fs instant lawful none y → x.e ≡ y.e → x.a ≡ y.a
      → is_one (facts h) x.a ≡ true → x.v ≡ y.v
  one_by_before x y (stays x_in x_alone) (stays y_in y_alone) e_is a_is one =
      one_value h x.e x.a x.v y.v lawful one (fact_holds h x x_in)
      (subst (λ a. holds h x.e a y.v ≡ true) (sym a_is) (subst (λ e. holds h e y.a y.v ≡ true) (sym e_is) (fact_holds h y y_in)))
  one_by_before x y (stays x_in x_alone) (comes y_in y_added) e_is a_is one = sym (replaced_by x y x_in x_alone y_in y_added e_is a_is one)
  one_by_before x y (comes x_in x_added) (stays y_in y_alone) e_is a_is one =
      replaced_by y x y_in y_alone x_in x_added (sym e_is) (sym a_is) (subst (λ a. is_one (facts h) a ≡ true) a_is one)
  one_by_before x y (comes x_in x_added) (comes y_in y_added) e_is a_is one = sym (added_once x y x_in x_added y_in y_added e_is a_is one)

  one_by_promise : (x y : Datom) → Contains (transaction h fs).after x → Contains (transaction h fs).after y → x.e ≡ y.e → x.a ≡ y.a
      → keeps_its_promise (transaction h fs).after x.a ≡ true → is_one (transaction h fs).after x.a ≡ true → x.v ≡ y.v
  one_by_promise x y x_in y_in e_is a_is promise one =
      only_value (values_of (transaction h fs).after x.e x.a) x.v y.v
      (leb-true _ 1 (or_true _ _ one (and_parts _ _ (kept_of x.a x promise x_in refl)).0))
      (values_of-is_of (transaction h fs).after x.e x.a x.v ∙ any_member (is_of x.e x.a x.v) (transaction h fs).after x x_in (of_itself x))
      (values_of-is_of (transaction h fs).after x.e x.a y.v ∙ any_member (is_of x.e x.a y.v) (transaction h fs).after y y_in
      (subst (λ e. is_of e x.a y.v y ≡ true) (sym e_is) (subst (λ a. is_of y.e a y.v y ≡ true) (sym a_is) (of_itself y))))

  one_of_two : (x y : Datom) → IsAfter h fs instant lawful none x → IsAfter h fs instant lawful none y → x.e ≡ y.e → x.a ≡ y.a
      → is_one (transaction h fs).after x.a ≡ true → x.v ≡ y.v
  one_of_two x y x_after y_after e_is a_is one = go (list_any (is_about x.a cardinality) (transaction h fs).changes) refl
    where
      installed : is_attribute (facts h) x.a ≡ true
      installed = after_installed h fs instant lawful none x x_after

      go : (b : Bool) → list_any (is_about x.a cardinality) (transaction h fs).changes ≡ b → x.v ≡ y.v
      go true altered =
          one_by_promise x y (is_in_after h fs instant lawful none x x_after) (is_in_after h fs instant lawful none y y_after) e_is a_is
          (altered_promise x.a cardinality installed refl altered) one
      go false unaltered =
          one_by_before x y x_after y_after e_is a_is (sym (one_before h fs instant lawful none x.a installed unaltered) ∙ one)

  same_one : (a : ℕ) → is_one E a ≡ is_one (transaction h fs).after a
  same_one a = ap (λ o. option_map_or (λ (attribute : Attribute). not attribute.many) o false) (same_attribute h fs instant lawful none a)

  values_of_two : (e a : ℕ) → is_one E a ≡ true → (x y : Datom) → Contains E x → Contains E y → is_about e a x ≡ true
      → is_about e a y ≡ true → x.v ≡ y.v
  values_of_two e a one x y x_in y_in x_about y_about =
      go (after_cases h fs instant lawful none x x_in) (after_cases h fs instant lawful none y y_in)
    where
      xs : (eqb x.e e ≡ true) × (eqb x.a a ≡ true)
      xs = and_parts _ _ x_about

      ys : (eqb y.e e ≡ true) × (eqb y.a a ≡ true)
      ys = and_parts _ _ y_about

      e_is : x.e ≡ y.e
      e_is = eqb-true x.e e xs.0 ∙ sym (eqb-true y.e e ys.0)

      a_is : x.a ≡ y.a
      a_is = eqb-true x.a a xs.1 ∙ sym (eqb-true y.a a ys.1)

      go : (instant_of h fs lawful none instant ≡ x) ⊎ IsAfter h fs instant lawful none x
          → (instant_of h fs lawful none instant ≡ y) ⊎ IsAfter h fs instant lawful none y → x.v ≡ y.v
      go (inl p) (inl q) = ap (λ (d : Datom). d.v) (sym p ∙ q)
      go (inl p) (inr q) =
          absurd (instant_alone h fs instant lawful none y q (sym e_is ∙ sym (ap (λ (d : Datom). d.e) p))
          (sym a_is ∙ sym (ap (λ (d : Datom). d.a) p)))
      go (inr p) (inl q) =
          absurd
          (instant_alone h fs instant lawful none x p (e_is ∙ sym (ap (λ (d : Datom). d.e) q)) (a_is ∙ sym (ap (λ (d : Datom). d.a) q)))
      go (inr p) (inr q) =
          one_of_two x y p q e_is a_is (sym (same_one x.a) ∙ ap (is_one E) (eqb-true x.a a xs.1) ∙ one)

  pub law_7 : keeps_one_value E ≡ true
  law_7 =
      all_members (λ d. not (is_one E d.a) || leb (length (values_of E d.e d.a)) 1) E (λ d member. at_one d (is_one E d.a) refl)
    where
      at_one : (d : Datom) (b : Bool) → is_one E d.a ≡ b → (not b || leb (length (values_of E d.e d.a)) 1) ≡ true
      at_one d false is = refl
      at_one d true is =
          le-leb (length (values_of E d.e d.a)) 1
          (short_values d.e d.a (said h ++ recorded (transaction h fs) instant) (values_of_two d.e d.a is))

  -- ---- 8

  same_unique : (a : ℕ) → is_unique E a ≡ is_unique (transaction h fs).after a
  same_unique a =
      ap (λ o. option_map_or (λ (attribute : Attribute). not (eqb attribute.uniqueness 0)) o false)
      (same_attribute h fs instant lawful none a)

  holder_of : (x y : Datom) → has_no_other_holder (transaction h fs).after x ≡ true → Contains (transaction h fs).after y → x.a ≡ y.a
      → value_eq y.v x.v ≡ true → x.e ≡ y.e
  holder_of x y alone y_in a_is v_is =
      sym (eqb-true y.e x.e (or_true _ _ (and_from _ _ (eq-eqb y.a x.a (sym a_is)) v_is)
      (member_passes (λ other. not (eqb other.a x.a && value_eq other.v x.v) || eqb other.e x.e) (transaction h fs).after y alone y_in)))

  added_holder : (x : Datom) → Contains (transaction h fs).changes x → x.added ≡ true → is_unique (facts h) x.a ≡ true
      → has_no_other_holder (transaction h fs).after x ≡ true
  added_holder x x_in added is =
      let change = the_change h fs lawful none x x_in in
      alone_if (is_unique (facts h) x.a) (has_no_other_holder (transaction h fs).after x) is
      (none_passes (λ d. is_unique (facts h) d.a && not (has_no_other_holder (transaction h fs).after d))
      (at (transaction h fs).added change.place) x (none.unique_conflict change.place change.within) (change.triple added))
    where
      alone_if : (u z : Bool) → u ≡ true → (u && not z) ≡ false → z ≡ true
      alone_if true true p q = refl
      alone_if true false p q = absurd (true≢false q)
      alone_if false z p q = absurd (true≢false (sym p))

  value_sym : (v w : Value) → value_eq v w ≡ true → value_eq w v ≡ true
  value_sym v w is = ap (λ x. value_eq x v) (sym (value_eq-true v w is)) ∙ value_eq-refl v

  one_by_before_8 : (x y : Datom) → IsAfter h fs instant lawful none x → IsAfter h fs instant lawful none y → x.a ≡ y.a
      → value_eq y.v x.v ≡ true → is_unique (facts h) x.a ≡ true → x.e ≡ y.e
  one_by_before_8 x y (comes x_in x_added) y_after a_is v_is one =
      holder_of x y (added_holder x x_in x_added one) (is_in_after h fs instant lawful none y y_after) a_is v_is
  one_by_before_8 x y (stays x_in x_alone) (comes y_in y_added) a_is v_is one =
      sym (holder_of y x (added_holder y y_in y_added (subst (λ a. is_unique (facts h) a ≡ true) a_is one))
      (is_in_after h fs instant lawful none x (stays x_in x_alone)) (sym a_is) (value_sym y.v x.v v_is))
  one_by_before_8 x y (stays x_in x_alone) (stays y_in y_alone) a_is v_is one =
      one_holder h x.e y.e x.a x.v lawful one (fact_holds h x x_in)
      (subst (λ a. holds h y.e a x.v ≡ true) (sym a_is)
      (subst (λ v. holds h y.e y.a v ≡ true) (value_eq-true y.v x.v v_is) (fact_holds h y y_in)))

  holder_of_two : (x y : Datom) → IsAfter h fs instant lawful none x → IsAfter h fs instant lawful none y → x.a ≡ y.a
      → value_eq y.v x.v ≡ true → is_unique (transaction h fs).after x.a ≡ true → x.e ≡ y.e
  holder_of_two x y x_after y_after a_is v_is one =
      go (list_any (is_about x.a cardinality) (transaction h fs).changes) refl
      (list_any (is_about x.a unique) (transaction h fs).changes) refl
    where
      installed : is_attribute (facts h) x.a ≡ true
      installed = after_installed h fs instant lawful none x x_after

      by_promise : keeps_its_promise (transaction h fs).after x.a ≡ true → x.e ≡ y.e
      by_promise keeps =
          holder_of x y
          (or_true (is_unique (transaction h fs).after x.a) (has_no_other_holder (transaction h fs).after x) one
          (and_parts (not (is_one (transaction h fs).after x.a) || leb (length (values_of (transaction h fs).after x.e x.a)) 1)
          (not (is_unique (transaction h fs).after x.a) || has_no_other_holder (transaction h fs).after x)
          (kept_of x.a x keeps (is_in_after h fs instant lawful none x x_after) refl)).1)
          (is_in_after h fs instant lawful none y y_after) a_is v_is

      go : (b : Bool) → list_any (is_about x.a cardinality) (transaction h fs).changes ≡ b
          → (c : Bool) → list_any (is_about x.a unique) (transaction h fs).changes ≡ c → x.e ≡ y.e
      go true altered c also = by_promise (altered_promise x.a cardinality installed refl altered)
      go false unaltered true also = by_promise (altered_promise x.a unique installed refl also)
      go false unaltered false also =
          one_by_before_8 x y x_after y_after a_is v_is (sym (unique_before h fs instant lawful none x.a installed unaltered also) ∙ one)

  holders_8 : (x y : Datom) → Contains E x → Contains E y → is_unique E x.a ≡ true → (eqb y.a x.a && value_eq y.v x.v) ≡ true
      → eqb y.e x.e ≡ true
  holders_8 x y x_in y_in one same = go (after_cases h fs instant lawful none x x_in) (after_cases h fs instant lawful none y y_in)
    where
      parts : (eqb y.a x.a ≡ true) × (value_eq y.v x.v ≡ true)
      parts = and_parts _ _ same

      a_is : x.a ≡ y.a
      a_is = sym (eqb-true y.a x.a parts.0)

      unique_after : is_unique (transaction h fs).after x.a ≡ true
      unique_after = sym (same_unique x.a) ∙ one

      no_instant : x.a ≡ tx_instant → ⊥
      no_instant is =
          true≢false (sym unique_after ∙ ap (is_unique (transaction h fs).after) is ∙ instants_not_unique h fs instant lawful none)

      go : (instant_of h fs lawful none instant ≡ x) ⊎ IsAfter h fs instant lawful none x
          → (instant_of h fs lawful none instant ≡ y) ⊎ IsAfter h fs instant lawful none y → eqb y.e x.e ≡ true
      go (inl p) q = absurd (no_instant (sym (ap (λ (d : Datom). d.a) p)))
      go (inr p) (inl q) = absurd (no_instant (a_is ∙ sym (ap (λ (d : Datom). d.a) q)))
      go (inr p) (inr q) = eq-eqb y.e x.e (sym (holder_of_two x y p q a_is parts.1 unique_after))

  pub law_8 : keeps_one_holder E ≡ true
  law_8 = all_members (λ d. not (is_unique E d.a) || has_no_other_holder E d) E (λ x x_in. at_unique x x_in (is_unique E x.a) refl)
    where
      at_other : (x y : Datom) → (b : Bool) → (eqb y.a x.a && value_eq y.v x.v) ≡ b → (b ≡ true → eqb y.e x.e ≡ true)
          → (not b || eqb y.e x.e) ≡ true
      at_other x y false is next = refl
      at_other x y true is next = next refl

      at_unique : (x : Datom) → Contains E x → (b : Bool) → is_unique E x.a ≡ b → (not b || has_no_other_holder E x) ≡ true
      at_unique x x_in false is = refl
      at_unique x x_in true is =
          all_members (λ other. not (eqb other.a x.a && value_eq other.v x.v) || eqb other.e x.e) E
          (λ y y_in. at_other x y (eqb y.a x.a && value_eq y.v x.v) refl (λ same. holders_8 x y x_in y_in is same))

  -- ---- 9

  new_whole : (d : Datom) → Contains (transaction h fs).changes d → d.added ≡ true → says_attribute d ≡ true
      → is_attribute (facts h) d.e ≡ false → is_whole (transaction h fs).after d.e ≡ true
  new_whole d member added says unknown =
      let change = the_change h fs lawful none d member in
      let unbroken = (or_parts _ _ (none.incomplete_attribute change.place change.within)).0 in
      whole_if (describes d) (is_new_attribute (transaction h fs) d.e) (is_whole (transaction h fs).after d.e) (describes_too d.a says)
      (and_from _ _ (ap not unknown) (any_member (λ x. eqb x.e d.e && says_attribute x) (transaction h fs).after d
      (is_in_after h fs instant lawful none d (comes member added)) (and_from _ _ (eq-eqb d.e d.e refl) says)))
      (none_passes (λ x. describes x && is_new_attribute (transaction h fs) x.e && not (is_whole (transaction h fs).after x.e))
      (asked_triples (transaction h fs) change.place) d unbroken
      (Contains-append_left (at (transaction h fs).added change.place) (at (transaction h fs).retracted change.place) d
      (change.triple added)))
    where
      describes_too : (a : ℕ) → (leb value_type a && leb a index) ≡ true → (leb ident a && leb a index) ≡ true
      describes_too a says =
          let parts = and_parts (leb value_type a) (leb a index) says in
          and_from _ _ (le-leb ident a (omega (arith, leb-true value_type a parts.0))) parts.1

      whole_if : (x y z : Bool) → x ≡ true → y ≡ true → (x && y && not z) ≡ false → z ≡ true
      whole_if true true true p q r = refl
      whole_if true true false p q r = absurd (true≢false r)
      whole_if true false z p q r = absurd (true≢false (sym q))
      whole_if false y z p q r = absurd (true≢false (sym p))

  pub law_9_new : are_new_ones_whole (facts h) E ≡ true
  law_9_new =
      all_members (λ d. (not (says_attribute d) || is_attribute (facts h) d.e) || is_whole E d.e) E
      (λ d member. at_case d (after_cases h fs instant lawful none d member))
    where
      at_case : (d : Datom) → (instant_of h fs lawful none instant ≡ d) ⊎ IsAfter h fs instant lawful none d
          → ((not (says_attribute d) || is_attribute (facts h) d.e) || is_whole E d.e) ≡ true
      at_case d (inl p) = subst (λ (x : Datom). ((not (says_attribute x) || is_attribute (facts h) x.e) || is_whole E x.e) ≡ true) p refl
      at_case d (inr (stays member alone)) =
          or_left _ _
          (member_passes (λ x. not (says_attribute x) || is_attribute (facts h) x.e) (facts h) d (described_ones h lawful) member)
      at_case d (inr (comes member added)) = go (says_attribute d) refl (is_attribute (facts h) d.e) refl
        where
          go : (b : Bool) → says_attribute d ≡ b → (c : Bool) → is_attribute (facts h) d.e ≡ c → ((not b || c) || is_whole E d.e) ≡ true
          go false says c known = refl
          go true says true known = refl
          go true says false known = same_whole h fs instant lawful none d.e ∙ new_whole d member added says known

  pub law_9_altered : are_altered_ones_whole (facts h) E (recorded (transaction h fs) instant) ≡ true
  law_9_altered =
      all_members (λ d. not (is_alteration d && is_attribute (facts h) d.e) || is_whole E d.e) (recorded (transaction h fs) instant)
      (λ d member. at_case d (recorded_cases h fs lawful none instant d member))
    where
      at_case : (d : Datom) → (instant_of h fs lawful none instant ≡ d) ⊎ Contains (transaction h fs).changes d
          → (not (is_alteration d && is_attribute (facts h) d.e) || is_whole E d.e) ≡ true
      at_case d (inl p) = subst (λ (x : Datom). (not (is_alteration x && is_attribute (facts h) x.e) || is_whole E x.e) ≡ true) p refl
      at_case d (inr member) = go (is_alteration d) refl (is_attribute (facts h) d.e) refl
        where
          change : IsChangeOf (transaction h fs) d
          change = the_change h fs lawful none d member

          unbroken : (is_recorded (transaction h fs) d && is_alteration d && is_attribute (facts h) d.e
              && not (is_whole (transaction h fs).after d.e)) ≡ false
          unbroken =
              none_passes (λ x. is_recorded (transaction h fs) x && is_alteration x && is_attribute (facts h) x.e
              && not (is_whole (transaction h fs).after x.e)) (asked (transaction h fs) change.place) d
              (or_parts
              (list_any (λ x. describes x && is_new_attribute (transaction h fs) x.e && not (is_whole (transaction h fs).after x.e))
              (asked_triples (transaction h fs) change.place))
              (list_any (λ x. is_recorded (transaction h fs) x && is_alteration x && is_attribute (facts h) x.e
              && not (is_whole (transaction h fs).after x.e)) (asked (transaction h fs) change.place))
              (none.incomplete_attribute change.place change.within)).1 change.member

          whole_if : (w x y z : Bool) → w ≡ true → x ≡ true → y ≡ true → (w && x && y && not z) ≡ false → z ≡ true
          whole_if true true true true p q r s = refl
          whole_if true true true false p q r s = absurd (true≢false s)
          whole_if true true false z p q r s = absurd (true≢false (sym r))
          whole_if true false y z p q r s = absurd (true≢false (sym q))
          whole_if false x y z p q r s = absurd (true≢false (sym p))

          go : (b : Bool) → is_alteration d ≡ b → (c : Bool) → is_attribute (facts h) d.e ≡ c → (not (b && c) || is_whole E d.e) ≡ true
          go false alters c known = refl
          go true alters false known = refl
          go true alters true known =
              same_whole h fs instant lawful none d.e
              ∙ whole_if (is_recorded (transaction h fs) d) (is_alteration d) (is_attribute (facts h) d.e)
              (is_whole (transaction h fs).after d.e) change.changes alters known unbroken

  pub law_9_names : keeps_reserved_names E ≡ true
  law_9_names = all_members (λ d. not (has_reserved_name d)) E (λ d member. at_case d (after_cases h fs instant lawful none d member))
    where
      no_name : (d : Datom) → Contains (transaction h fs).changes d → d.added ≡ true → eqb d.a ident ≡ true → is_reserved_value d.v ≡ false
      no_name d member added is_name = by_origin (the_change h fs lawful none d member).origin
        where
          by_value : (v : Value) → d.v ≡ v → (ask : Ask) → (asked_by : IsAskedBy (db_of h) (transaction h fs).names true ask d)
              → adds_reserved_ident (facts h) ask ≡ false → is_reserved_value v ≡ false
          by_value (Keyword text) v_is ask asked_by fine = by_part asked_by.part refl
            where
              is_ident_here : is_ident (facts h) asked_by.k ≡ true
              is_ident_here =
                  ap (λ o. option_map_or (λ (attribute : Attribute). eqb attribute.id ident) o false) asked_by.made.attribute_is
                  ∙ ap (λ x. eqb x ident) (sym asked_by.made.a_is) ∙ is_name

              by_part : (part : Operand) → asked_by.part ≡ part → is_reserved text ≡ false
              by_part (plain f) part_is =
                  sym (keyword_form asked_by.made.attribute.kind f text
                  (sym (ap (value_of_part (db_of h) (transaction h fs).names asked_by.made.attribute) part_is) ∙ asked_by.made.value_is
                  ∙ ap Some v_is))
                  ∙ second (is_ident (facts h) asked_by.k) (is_reserved_part (plain f)) is_ident_here
                  (ap (λ p. is_ident (facts h) asked_by.k && is_reserved_part p) (sym part_is) ∙ sym (asked_by.reserved refl) ∙ fine)
                where
                  second : (x y : Bool) → x ≡ true → (x && y) ≡ false → y ≡ false
                  second true y p q = q
                  second false y p q = absurd (true≢false (sym p))
              by_part (entity name) part_is =
                  by_entity (entity_of (db_of h) (transaction h fs).names name)
                  (sym (ap (value_of_part (db_of h) (transaction h fs).names asked_by.made.attribute) part_is) ∙ asked_by.made.value_is
                  ∙ ap Some v_is)
                where
                  by_entity : (o : Option ℕ) → option_map Ref o ≡ Some (Keyword text) → is_reserved text ≡ false
                  by_entity None is = absurd (cc)
                  by_entity (Some n) is = let same : Ref n ≡ Keyword text = some_is (Ref n) (Keyword text) is in absurd (cc)
          by_value v v_is ask asked_by fine = refl

          by_origin : Origin (transaction h fs).db (transaction h fs).names (transaction h fs).asks d → is_reserved_value d.v ≡ false
          by_origin (by_addition group group_among ask ask_among asked_by) =
              by_value d.v refl ask asked_by
              (or_parts _ _ (none_passes
              (λ ask. option_map_or (is_protected (facts h)) (attribute_of_ask ask) false || adds_reserved_ident (facts h) ask) group ask
              (none_passes (breaks_protected_attribute (db_of h)) (transaction h fs).asks group none.protected_attribute group_among)
              ask_among)).1
          by_origin (by_retraction group group_among ask ask_among asked_by) = absurd (true≢false (sym added ∙ asked_by.made.added_is))
          by_origin (by_withdrawal gone) = absurd (true≢false (sym added ∙ sym (ap (λ (x : Datom). x.added) gone.is)))

      at_case : (d : Datom) → (instant_of h fs lawful none instant ≡ d) ⊎ IsAfter h fs instant lawful none d
          → not (has_reserved_name d) ≡ true
      at_case d (inl p) = subst (λ (x : Datom). not (has_reserved_name x) ≡ true) p refl
      at_case d (inr (stays member alone)) = member_passes (λ x. not (has_reserved_name x)) (facts h) d (reserved_names h lawful) member
      at_case d (inr (comes member added)) = go (eqb d.a ident) refl
        where
          and_false : (b : Bool) → (b && false) ≡ false
          and_false true = refl
          and_false false = refl

          go : (b : Bool) → eqb d.a ident ≡ b → not (b && leb (user_entity 1) d.e && is_reserved_value d.v) ≡ true
          go false is = refl
          go true is =
              ap (λ r. not (true && leb (user_entity 1) d.e && r)) (no_name d member added is)
              ∙ ap not (and_false (true && leb (user_entity 1) d.e))

  own : is_own_instant (entry_of h (transaction h fs) instant) (instant_of h fs lawful none instant) ≡ true
  own = and_from _ _ (of_itself (instant_of h fs lawful none instant)) refl

  pub law_9_own : list_any (is_own_instant (entry_of h (transaction h fs) instant)) (recorded (transaction h fs) instant) ≡ true
  law_9_own =
      any_member (is_own_instant (entry_of h (transaction h fs) instant)) (recorded (transaction h fs) instant)
      (instant_of h fs lawful none instant) (recorded_instant h fs lawful none instant) own

  pub law_9_alone : list_all (λ d. not (eqb d.a tx_instant) || is_own_instant (entry_of h (transaction h fs) instant) d)
      (recorded (transaction h fs) instant) ≡ true
  law_9_alone =
      all_members (λ d. not (eqb d.a tx_instant) || is_own_instant (entry_of h (transaction h fs) instant) d)
      (recorded (transaction h fs) instant) (λ d member. at_case d (recorded_cases h fs lawful none instant d member))
    where
      at_case : (d : Datom) → (instant_of h fs lawful none instant ≡ d) ⊎ Contains (transaction h fs).changes d
          → (not (eqb d.a tx_instant) || is_own_instant (entry_of h (transaction h fs) instant) d) ≡ true
      at_case d (inl p) =
          subst (λ (x : Datom). (not (eqb x.a tx_instant) || is_own_instant (entry_of h (transaction h fs) instant) x) ≡ true) p own
      at_case d (inr member) = or_left _ _ (ap not (not_instant h fs lawful none d member))

  -- ---- the whole entry

  pub entry-lawful : is_instant instant ≡ true → int_lt (last_instant h) instant ≡ true
      → IsLawfulAfter h (entry_of h (transaction h fs) instant)
  entry-lawful within later =
      record {
        next_t = and_from _ _ (eq-eqb (basis h + 1) (basis h + 1) refl) (le-leb (basis h + 1) greatest_t (room_for_t h fs lawful none));
        later_instant = and_from _ _ later within;
        known_numbers =
            all_members
            (λ d. is_known h (entry_of h (transaction h fs) instant) d.e && is_known_value h (entry_of h (transaction h fs) instant) d.v)
            (recorded (transaction h fs) instant)
            (λ d member. known d (recorded_cases h fs lawful none instant d member));
        installed_attributes =
            all_members (λ d. is_attribute (facts h) d.a) (recorded (transaction h fs) instant)
            (λ d member. installed d (recorded_cases h fs lawful none instant d member));
        typed_values =
            all_members (is_typed (facts h)) (recorded (transaction h fs) instant)
            (λ d member. typed d (recorded_cases h fs lawful none instant d member));
        datoms_in_order = and_from _ _ (and_from _ _
            (all_members (λ d. eqb d.t (basis h + 1)) (recorded (transaction h fs) instant)
            (λ d member. own_t d (recorded_cases h fs lawful none instant d member)))
            (in_order-rises Eavt (instant_of h fs lawful none instant ∷ (transaction h fs).changes)))
            (le-leb (length (recorded (transaction h fs) instant)) most_datoms (few_enough h fs lawful none instant));
        changes_alone =
            all_members (λ d. cond d.added (not (holds h d.e d.a d.v)) (holds h d.e d.a d.v)) (recorded (transaction h fs) instant)
            (λ d member. changes d (recorded_cases h fs lawful none instant d member));
        one_value_each = law_7;
        one_holder_each = law_8;
        whole_attributes = and_from _ _ law_9_new law_9_altered;
        allowed_changes =
            all_members (λ d. not (is_forbidden (facts h) d)) (recorded (transaction h fs) instant)
            (λ d member. allowed d (recorded_cases h fs lawful none instant d member));
        no_reserved_names = law_9_names;
        own_instant_alone = and_from _ _ law_9_own law_9_alone;
      }
    where
      known : (d : Datom) → (instant_of h fs lawful none instant ≡ d) ⊎ Contains (transaction h fs).changes d
          → (is_known h (entry_of h (transaction h fs) instant) d.e && is_known_value h (entry_of h (transaction h fs) instant) d.v) ≡ true
      known d (inl p) =
          subst (λ (x : Datom).
          (is_known h (entry_of h (transaction h fs) instant) x.e && is_known_value h (entry_of h (transaction h fs) instant) x.v) ≡ true) p
          (and_from _ _ (or_left _ _ (or_right _ _ (eq-eqb (transaction_of (basis h + 1)) (transaction_of (basis h + 1)) refl))) refl)
      known d (inr member) = change_known h fs lawful none instant d member

      installed : (d : Datom) → (instant_of h fs lawful none instant ≡ d) ⊎ Contains (transaction h fs).changes d
          → is_attribute (facts h) d.a ≡ true
      installed d (inl p) = subst (λ (x : Datom). is_attribute (facts h) x.a ≡ true) p (ap is_some (builtin_stays tx_instant refl h lawful))
      installed d (inr member) = change_installed h fs lawful none d member

      typed : (d : Datom) → (instant_of h fs lawful none instant ≡ d) ⊎ Contains (transaction h fs).changes d → is_typed (facts h) d ≡ true
      typed d (inl p) =
          subst (λ (x : Datom). is_typed (facts h) x ≡ true) p
          (ap (λ o. option_map_or (λ (attribute : Attribute). is_of_type attribute.kind (Instant instant)) o false)
          (builtin_stays tx_instant refl h lawful)
          ∙ and_from _ _ within refl)
      typed d (inr member) = change_typed h fs lawful none d member

      own_t : (d : Datom) → (instant_of h fs lawful none instant ≡ d) ⊎ Contains (transaction h fs).changes d → eqb d.t (basis h + 1) ≡ true
      own_t d (inl p) = eq-eqb d.t (basis h + 1) (sym (ap (λ (x : Datom). x.t) p))
      own_t d (inr member) = eq-eqb d.t (basis h + 1) (own_t_of h fs lawful none d member)

      changes : (d : Datom) → (instant_of h fs lawful none instant ≡ d) ⊎ Contains (transaction h fs).changes d
          → cond d.added (not (holds h d.e d.a d.v)) (holds h d.e d.a d.v) ≡ true
      changes d (inl p) =
          subst (λ (x : Datom). cond x.added (not (holds h x.e x.a x.v)) (holds h x.e x.a x.v) ≡ true) p
          (ap not (holds_after-unused false (said h) (transaction_of (basis h + 1)) tx_instant (Instant instant)
          (unused_transaction h lawful (room (room_for_t h fs lawful none)))))
        where
          room : basis h + 1 ≤ greatest_t → basis h < greatest_t
          room below = omega (arith, below)
      changes d (inr member) = (the_change h fs lawful none d member).changes

      allowed : (d : Datom) → (instant_of h fs lawful none instant ≡ d) ⊎ Contains (transaction h fs).changes d
          → not (is_forbidden (facts h) d) ≡ true
      allowed d (inl p) = subst (λ (x : Datom). not (is_forbidden (facts h) x) ≡ true) p refl
      allowed d (inr member) = ap not (not_forbidden h fs lawful none d member)

-- the entry that a step gives is lawful after the history
pub step-lawful : (h : List Entry) (fs : List Form) (reading : ℤ) → IsLawful h → refusal_of h fs ≡ None
    → IsLawfulAfter h (entry_of h (transaction h fs) (next_instant h reading))
step-lawful h fs reading lawful unrefused =
    let none = none_broken h fs unrefused in
    entry-lawful h fs (next_instant h reading) lawful none
    (and_from _ _ (next_instant-at_least h reading) (in_range (last_instant h) reading (room_for_instant h fs lawful none)))
    (next_instant-later h reading)
