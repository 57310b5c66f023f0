-- Values that no other entity can have: those of triples that hold, and those that tempids are given and that identify entities.
use Rattle.std.proofs.Common.{◌≡◌, ℕ, ◌+◌, ◌<◌, ◌≤◌, Bool, true, false, cond, not, ◌&&◌, ◌||◌, eqb, leb, List, [], ◌∷◌, refl, ap, sym, ◌∙◌}
use Rattle.std.proofs.Common.{subst, arith, inl, inr, ◌⊎◌, Option, Some, None}
use Rattle.std.specs.Prelude.{Contains, flat_map, bytes_eq, option_and_then, option_map, option_to_list}
use Rattle.std.specs.List.{list_any, cons_option}
use Rattle.std.specs.Option.{option_map_or}
use Rattle.std.specs.Cmp.Lexicographic.{bytes_decides}
use Rattle.std.proofs.lemmas.Bool.{true≢false, and_parts, or_cases, eq-eqb, ltb-true}
use Rattle.std.proofs.lemmas.Bool.Decides.{nat_tests}
use Rattle.fb_values.specs.declared.facts.Datom.{Datom}
use Rattle.fb_values.specs.declared.facts.Entry.{Entry}
use Rattle.fb_values.specs.declared.facts.Value.{Value}
use Rattle.fb_values.specs.declared.facts.Value.TheVariants.{Ref}
use Rattle.fb_numbers.specs.Numbers.{transaction_of, user_entity, user_number, is_builtin, greatest_t, unique_identity}
use Rattle.fb_model.specs.History.{basis, said, users_issued, is_issued}
use Rattle.fb_model.specs.Facts.{is_of, holds_after, facts, holder}
use Rattle.fb_model.specs.Schema.{Attribute, attribute_of, attribute_named, is_identity, is_unique}
use Rattle.fb_model.specs.Lawful.{IsLawful}
use Rattle.tx_model.specs.Asks.{Name, number, ident, lookup, tempid, nameless, Operand, plain, entity, Ask, adds, retracts, retracts_all}
use Rattle.tx_model.specs.Asks.{compares, retracts_entity, meets, mentions, lacks_id, own_tempid, is_tempid, is_same_tempid}
use Rattle.tx_model.specs.Tempids.{Db, db_of, find_by, identity_holder, identified, holders, number_next, number_from, assigned}
use Rattle.tx_model.specs.Tempids.{tempids_in, assigned_to, entity_of}
use Rattle.tx_model.specs.Changes.{change, changes_of, value_of_part, additions}
use Rattle.tx_model.specs.Transaction.{Transaction, joined}
use Rattle.tx_model.proofs.Assigned.{found_issued, last_after, last_number, IsGiven, issued, new, assigned_given, is_same_tempid-true}
use Rattle.tx_model.proofs.Users.{basis_small}
use Rattle.tx_asks.specs.declared.triples.Triple.{Triple}
use Rattle.tx_asks.specs.Triples.{AreTriples}
use Rattle.tx_rules.specs.Conflicts.{is_addition}
use Rattle.tx_rules.specs.Holders.{is_taker, is_newcomer, is_sole_holder, has_another_holder}
use Rattle.tx_rules.specs.Tempids.{compares_no_tempid, HasAssignedTempids}
use Rattle.tx_rules.proofs.Members.{which, not_in_none, in_option, some_member, passes_member, comes_from, goes_into, image_of}
use Rattle.tx_rules.proofs.Triples.{is_of-true}
use Rattle.tx_rules.proofs.Ways.{IsBuilt}
use Rattle.tx_rules.proofs.Judging as judging
use Rattle.tx_rules.proofs.Holding.{HasOneHolders, holder-is}
use Rattle.tx_rules.proofs.Identities.{no_holder-Ref}

some_is : {A : Type 0} (x y : A) → Some x ≡ Some y → x ≡ y
some_is x y same = cc

-- ---- numbers

builtin_small : (e : ℕ) → is_builtin e ≡ true → e < 100
builtin_small e builtin = grind (arith, nat_tests)

-- an issued number is at most that of the last user entity
issued_number : (b u e : ℕ) → b ≤ greatest_t
    → ((is_builtin e || (leb (transaction_of 0) e && leb e (transaction_of b))) || (leb (user_entity 1) e && leb e (user_entity u))) ≡ true
    → user_number e ≤ u
issued_number b u e small is = grind (arith, nat_tests, builtin_small)

-- the next transaction is no user entity
own_number : (b u : ℕ) → b ≤ greatest_t → u < user_number (transaction_of (b + 1)) → ⊥
own_number b u small above = omega (arith, small, above)

module _ (h : List Entry) (lawful : IsLawful h) (asks : List Ask) where
  abbrev db : Db
  db = db_of h

  abbrev names : List (Name × ℕ)
  names = assigned db asks

  no_issued : (e : ℕ) → is_issued h e ≡ true → users_issued h < user_number e → ⊥
  no_issued e is above =
      let small = issued_number (basis h) (users_issued h) e (basis_small h lawful) is in
      omega (arith, small, above)

  -- ---- who is assigned to a tempid

  first_issued : (name : Name) (o : ℕ) (os : List ℕ) → is_same_tempid name name ≡ true → holders db asks name ≡ o ∷ os → is_issued h o ≡ true
  first_issued name o os same is = given (assigned_given h asks (name ∷ []) 0 name o lawful first)
    where
      first : assigned_to (number_from db asks (name ∷ []) 0) name ≡ Some o
      first =
          ap (λ hs. assigned_to (number_next name 0 hs (λ next. number_from db asks [] next)) name) is
          ∙ ap (λ b. cond b (Some o) None) same

      last : last_number db asks (name ∷ []) 0 ≡ 0
      last = ap (λ hs. last_after hs 0 (λ next. last_number db asks [] next)) is

      given : IsGiven h 0 (last_number db asks (name ∷ []) 0) o → is_issued h o ≡ true
      given (issued is) = is
      given (new m above under is) = absurd (omega (arith, above, under, last))

  held_or_new : (names : List Name) (n : ℕ) (name : Name) (e : ℕ) → assigned_to (number_from db asks names n) name ≡ Some e
      → (is_issued h e ≡ true) ⊎ (holders db asks name ≡ [])
  held_or_new [] n name e is = absurd (cc)
  held_or_new (first ∷ names) n name e is =
      go (holders db asks first) refl is (held_or_new names (n + 1) name e) (held_or_new names n name e)
    where
      is_new : (b : Bool) → is_same_tempid first name ≡ b → holders db asks first ≡ []
          → cond b (Some (user_entity (n + 1))) (assigned_to (number_from db asks names (n + 1)) name) ≡ Some e
          → (assigned_to (number_from db asks names (n + 1)) name ≡ Some e → (is_issued h e ≡ true) ⊎ (holders db asks name ≡ []))
          → (is_issued h e ≡ true) ⊎ (holders db asks name ≡ [])
      is_new true alike none is rest = inr (ap (holders db asks) (sym (is_same_tempid-true first name alike)) ∙ none)
      is_new false alike none is rest = rest is

      is_held : (b : Bool) → is_same_tempid first name ≡ b → (o : ℕ) (os : List ℕ) → holders db asks first ≡ o ∷ os
          → cond b (Some o) (assigned_to (number_from db asks names n) name) ≡ Some e
          → (assigned_to (number_from db asks names n) name ≡ Some e → (is_issued h e ≡ true) ⊎ (holders db asks name ≡ []))
          → (is_issued h e ≡ true) ⊎ (holders db asks name ≡ [])
      is_held true alike o os held is rest =
          inl (subst (λ x. is_issued h x ≡ true) (some_is o e is)
          (first_issued first o os
          (subst (λ x. is_same_tempid first x ≡ true) (sym (is_same_tempid-true first name alike)) alike) held))
      is_held false alike o os held is rest = rest is

      go : (hs : List ℕ) → holders db asks first ≡ hs
          → assigned_to (number_next first n hs (λ next. number_from db asks names next)) name ≡ Some e
          → (assigned_to (number_from db asks names (n + 1)) name ≡ Some e → (is_issued h e ≡ true) ⊎ (holders db asks name ≡ []))
          → (assigned_to (number_from db asks names n) name ≡ Some e → (is_issued h e ≡ true) ⊎ (holders db asks name ≡ []))
          → (is_issued h e ≡ true) ⊎ (holders db asks name ≡ [])
      go [] held is next same = is_new (is_same_tempid first name) refl held is next
      go (o ∷ os) held is next same = is_held (is_same_tempid first name) refl o os held is same

  -- ---- who has a new number

  record IsNew (name : Name) : Type 0 where
    tempid_is : is_tempid name ≡ true
    itself : is_same_tempid name name ≡ true
    held_by_none : holders db asks name ≡ []

  not_held : (name : Name) (e : ℕ) → assigned_to names name ≡ Some e → users_issued h < user_number e → holders db asks name ≡ []
  not_held name e is above =
      elim (held_or_new (tempids_in asks) (users_issued h) name e is) [ inl old ↦ absurd (no_issued e old above) | inr none ↦ none ]

  new_name : (name : Name) (e : ℕ) → entity_of db names name ≡ Some e → users_issued h < user_number e → IsNew name
  new_name (tempid s) e is above = go (bytes_eq s own_tempid) refl is
    where
      go : (b : Bool) → bytes_eq s own_tempid ≡ b → cond b (Some (transaction_of (basis h + 1))) (assigned_to names (tempid s)) ≡ Some e
          → IsNew (tempid s)
      go true own is =
          absurd (own_number (basis h) (users_issued h) (basis_small h lawful)
          (subst (λ n. users_issued h < user_number n) (sym (some_is (transaction_of (basis h + 1)) e is)) above))
      go false own is =
          record { tempid_is = rw own refl; itself = (bytes_decides s s).1 refl; held_by_none = not_held (tempid s) e is above }
  new_name (nameless path) e is above =
      record { tempid_is = refl; itself = (bytes_decides path path).1 refl; held_by_none = not_held (nameless path) e is above }
  new_name (number z) e is above = absurd (no_issued e (found_issued h (number z) e lawful is) above)
  new_name (ident k) e is above = absurd (no_issued e (found_issued h (ident k) e lawful is) above)
  new_name (lookup k v) e is above = absurd (no_issued e (found_issued h (lookup k v) e lawful is) above)

  -- ---- what is added to it

  record IsMade (name : Name) (k : List ℕ) (part : Operand) (d : Datom) : Type 0 where
    attribute : Attribute
    entity_is : entity_of db names name ≡ Some d.e
    attribute_is : attribute_named (facts h) k ≡ Some attribute
    id_is : attribute.id ≡ d.a
    value_is : value_of_part db names attribute part ≡ Some d.v

  made : (name : Name) (k : List ℕ) (part : Operand) (d : Datom) → Contains (changes_of db names true name k part) d → IsMade name k part d
  made name k part d member = go (entity_of db names name) (attribute_named (facts h) k) refl refl member
    where
      valued : (e : ℕ) (a : Attribute) (ov : Option Value) → entity_of db names name ≡ Some e → attribute_named (facts h) k ≡ Some a
          → value_of_part db names a part ≡ ov → Contains (option_to_list (option_map (change db true e a.id) ov)) d → IsMade name k part d
      valued e a None e_is a_is v_is member = absurd (not_in_none d member)
      valued e a (Some v) e_is a_is v_is member =
          let is = some_is (change db true e a.id v) d (in_option (Some (change db true e a.id v)) d member) in
          record {
            attribute = a;
            entity_is = e_is ∙ ap (λ (x : Datom). Some x.e) is;
            attribute_is = a_is;
            id_is = ap (λ (x : Datom). x.a) is;
            value_is = v_is ∙ ap (λ (x : Datom). Some x.v) is;
          }

      go : (oe : Option ℕ) (oa : Option Attribute) → entity_of db names name ≡ oe → attribute_named (facts h) k ≡ oa
          → Contains (option_to_list (option_and_then (λ e. option_and_then (λ (a : Attribute). option_map (change db true e a.id)
          (value_of_part db names a part)) oa) oe)) d
          → IsMade name k part d
      go None oa e_is a_is member = absurd (not_in_none d member)
      go (Some e) None e_is a_is member = absurd (not_in_none d member)
      go (Some e) (Some a) e_is a_is member = valued e a (value_of_part db names a part) e_is a_is refl member

  none_identified : (name : Name) (xs : List Ask) (ask : Ask) → holders db xs name ≡ [] → Contains xs ask → identified db name ask ≡ None
  none_identified name [] ask none member = absurd (not_in_none ask member)
  none_identified name (x ∷ xs) ask none member = go (identified db name x) refl none (which x ask xs member) (none_identified name xs ask)
    where
      go : (o : Option ℕ) → identified db name x ≡ o → cons_option o (holders db xs name) ≡ [] → (x ≡ ask) ⊎ Contains xs ask
          → (holders db xs name ≡ [] → Contains xs ask → identified db name ask ≡ None) → identified db name ask ≡ None
      go (Some m) is none where_it_is rest = absurd (cc)
      go None is none (inl same) rest = subst (λ a. identified db name a ≡ None) same is
      go None is none (inr later) rest = rest none later

  -- the identity value that a new entity is given has no holder
  new_value-free : (ask : Ask) (d : Datom) → Contains asks ask → Contains (additions db names ask) d → compares_no_tempid ask ≡ true
      → users_issued h < user_number d.e → is_identity (facts h) d.a ≡ true → holder (facts h) d.a d.v ≡ None
  new_value-free (adds name k (plain f)) d among member compared above identity =
      let is = made name k (plain f) d member in
      let fresh = new_name name d.e is.entity_is above in
      ap (λ a. holder (facts h) a d.v) (sym is.id_is)
      ∙ ap (option_and_then (holder (facts h) is.attribute.id)) (sym is.value_is)
      ∙ ap (λ b. cond b (find_by db f is.attribute) None) (sym (ap (is_identity (facts h)) is.id_is ∙ identity))
      ∙ ap (option_and_then (identity_holder db f)) (sym is.attribute_is)
      ∙ ap (λ b. cond b (option_and_then (identity_holder db f) (attribute_named (facts h) k)) None) (sym fresh.itself)
      ∙ none_identified name asks (adds name k (plain f)) fresh.held_by_none among
  new_value-free (adds name k (entity n)) d among member compared above identity = go (entity_of db names n) (made name k (entity n) d member).value_is
    where
      go : (o : Option ℕ) → option_map Ref o ≡ Some d.v → holder (facts h) d.a d.v ≡ None
      go None is = absurd (cc)
      go (Some m) is = subst (λ v. holder (facts h) d.a v ≡ None) (some_is (Ref m) d.v is) (no_holder-Ref h lawful d.a m identity)
  new_value-free (compares name k old part) d among member compared above identity =
      let is = made name k part d member in
      absurd (true≢false (sym compared ∙ ap not (new_name name d.e is.entity_is above).tempid_is))
  new_value-free (retracts name k part) d among member compared above identity = absurd (not_in_none d member)
  new_value-free (retracts_all name k) d among member compared above identity = absurd (not_in_none d member)
  new_value-free (retracts_entity name) d among member compared above identity = absurd (not_in_none d member)
  new_value-free (meets name) d among member compared above identity = absurd (not_in_none d member)
  new_value-free (mentions k) d among member compared above identity = absurd (not_in_none d member)
  new_value-free lacks_id d among member compared above identity = absurd (not_in_none d member)

-- ---- triples

module _ (tx : Transaction) (ts : List Triple) (schema : List Datom) (built : IsBuilt tx) (triples : AreTriples tx ts)
    (tells : (e : ℕ) → attribute_of schema e ≡ attribute_of tx.db.facts e) (lawful : IsLawful tx.db.history)
    (facts_are : tx.db.facts ≡ facts tx.db.history) (laws : HasOneHolders tx.db.history) (tempids : HasAssignedTempids tx) where
  abbrev h : List Entry
  h = tx.db.history

  db_is : tx.db ≡ db_of h
  db_is = ap (λ ds. record { history = h; facts = ds }) facts_are

  attribute_same : (e : ℕ) → attribute_of schema e ≡ attribute_of (facts h) e
  attribute_same e = tells e ∙ ap (λ ds. attribute_of ds e) facts_are

  newcomer-free : (t : Triple) → Contains ts t → is_addition t ≡ true → is_newcomer (users_issued h) schema t ≡ true
      → holder (facts h) t.a t.v ≡ None
  newcomer-free t member added newcomer =
      let d = some_member (is_of t.e t.a t.v) (joined tx.added)
      (sym (judging.told_addition tx ts schema built triples tells t member) ∙ added) in
      let of = is_of-true t.e t.a t.v d.member d.passes in
      let list = comes_from (λ (l : List Datom). l) tx.added d.member d.among in
      let form =
      image_of (flat_map (additions tx.db tx.names)) tx.asks list.source
      (subst (λ ls. Contains ls list.source) (ap (λ (x : Transaction). x.added) built) list.among) in
      let ask =
      comes_from (additions tx.db tx.names) form.original d.member (subst (λ l. Contains l d.member) (sym form.image_is) list.made) in
      let among = goes_into (λ (l : List Ask). l) tx.asks form.original ask.source form.among ask.among in
      let parts = and_parts _ _ newcomer in
      let asked =
      subst (λ db. Contains (additions db (assigned db (joined tx.asks)) ask.source) d.member) db_is
      (subst (λ names. Contains (additions tx.db names ask.source) d.member) tempids.assigned_ones ask.made) in
      ap (λ a. holder (facts h) a t.v) (sym of.a_is)
      ∙ ap (holder (facts h) d.member.a) (sym of.v_is)
      ∙ new_value-free h lawful (joined tx.asks) ask.source d.member among asked
      (passes_member compares_no_tempid (joined tx.asks) ask.source tempids.compared_ones among)
      (subst (λ e. users_issued h < user_number e) (sym of.e_is) (ltb-true _ _ parts.0))
      (subst (λ a. is_identity (facts h) a ≡ true) (sym of.a_is)
      (ap (λ o. option_map_or (λ (attribute : Attribute). eqb attribute.uniqueness unique_identity) o false) (sym (attribute_same t.a))
      ∙ parts.1))

  abbrev is_another : Triple → Option ℕ → Bool
  is_another t o = option_map_or (λ e. not (eqb e t.e) && not (list_any (is_of e t.a t.v) tx.changes)) o false

  pub alone : (t : Triple) → Contains ts t → is_taker schema t ≡ true → is_sole_holder h schema t ≡ true
      → has_another_holder h tx.changes t ≡ false
  alone t member taker sole =
      let parts = and_parts (is_addition t) (is_unique schema t.a) taker in
      elim (or_cases t.holds (is_newcomer (users_issued h) schema t) sole) [
        | inl holding ↦ held parts.1 (sym (judging.told_of tx ts schema built triples tells t member).holding ∙ holding)
        | inr newcomer ↦ told (newcomer-free t member parts.0 newcomer)
      ]
    where
      told : holder (facts h) t.a t.v ≡ None → has_another_holder h tx.changes t ≡ false
      told none = ap (is_another t) none

      own : (c : Bool) → (not (eqb t.e t.e) && c) ≡ false
      own c = ap (λ b. not b && c) (eq-eqb t.e t.e refl)

      held : is_unique schema t.a ≡ true → holds_after false (said h) t.e t.a t.v ≡ true → has_another_holder h tx.changes t ≡ false
      held unique holding =
          let unique_before =
          ap (λ o. option_map_or (λ (attribute : Attribute). not (eqb attribute.uniqueness 0)) o false) (sym (attribute_same t.a)) ∙ unique in
          ap (is_another t)
          (holder-is t.a t.v (facts h) t.e (sym (laws.facts_hold t.e t.a t.v) ∙ holding)
          (λ g some. laws.one_holder t.e g t.a t.v unique_before holding (laws.facts_hold g t.a t.v ∙ some)))
          ∙ own (not (list_any (is_of t.e t.a t.v) tx.changes))
