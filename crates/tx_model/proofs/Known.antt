-- Each number that a transaction records is known, where it breaks no rule; each attribute is installed, and each value typed.
use Rattle.std.proofs.Common.{◌≡◌, ℕ, ◌+◌, ◌<◌, ◌≤◌, ℤ, pos, Bool, true, false, cond, not, ◌&&◌, ◌||◌, List, [], ◌∷◌, ◌++◌, refl, ap, sym}
use Rattle.std.proofs.Common.{◌∙◌, subst, arith, eqb, Option, Some, None}
use Rattle.std.specs.Prelude.{Contains, flat_map, is_some, bytes_eq, option_and_then, option_map, option_to_list}
use Rattle.std.specs.List.{list_any}
use Rattle.std.specs.Option.{option_map_or}
use Rattle.std.proofs.lemmas.Bool.{true≢false, and_parts, and_from, or_parts, or_left, or_right, eq-eqb, le-leb}
use Rattle.std.proofs.lemmas.List.Elements.{Contains-append_left}
use Rattle.edn_model.specs.Form as edn
use Rattle.edn_model.specs.Form.{Form}
use Rattle.fb_values.specs.declared.facts.Datom.{Datom}
use Rattle.fb_values.specs.declared.facts.Entry.{Entry}
use Rattle.fb_values.specs.declared.facts.Value.{Value}
use Rattle.fb_values.specs.declared.facts.Value.TheVariants.{Keyword, Str, Bool as Boolean, Long, Ref, Instant, Uuid, Symbol, Uri}
use Rattle.fb_numbers.specs.Numbers.{transaction_of, user_entity, type_uri}
use Rattle.fb_model.specs.History.{basis, said, users_issued, is_issued}
use Rattle.fb_model.specs.Facts.{facts}
use Rattle.fb_model.specs.Types.{is_of_type}
use Rattle.fb_model.specs.Schema.{Attribute, attribute_named, attribute_of, is_attribute}
use Rattle.fb_model.specs.Laws.{is_asserted, users_after, is_known, is_known_value}
use Rattle.fb_model.specs.Lawful.{IsLawful}
use Rattle.fb_model.proofs.OneMoreEntry.{holds-unused}
use Rattle.fb_model.proofs.Members.{any_member}
use Rattle.fb_model.proofs.KnownFacts.{is_issued_value, facts_issued, facts_typed, is_typed}
use Rattle.tx_model.specs.Asks.{Name, number, ident, lookup, tempid, nameless, Operand, plain, entity, Ask, adds, retracts, retracts_all}
use Rattle.tx_model.specs.Asks.{compares, retracts_entity, meets, mentions, lacks_id, own_tempid, is_tempid, is_same_tempid, names_of}
use Rattle.tx_model.specs.Asks.{attribute_of_ask}
use Rattle.tx_model.specs.Values.{value_in, if_of_type}
use Rattle.tx_model.specs.Tempids.{Db, db_of, found, tempids_in, assigned_to, entity_of}
use Rattle.tx_model.specs.Changes.{value_of_part, change, changes_of, additions}
use Rattle.tx_model.specs.Transaction.{joined, is_change, transaction, recorded}
use Rattle.tx_model.specs.NameRules.{breaks_not_an_attribute, names_no_attribute, is_unknown, breaks_wrong_type, has_wrong_part}
use Rattle.tx_model.specs.NameRules.{has_wrong_lookup, is_wrong_part, attribute_in, breaks_not_an_entity, finds_none, adds_to}
use Rattle.tx_model.specs.NameRules.{is_added_to_by_none, breaks_tempid_not_an_entity}
use Rattle.tx_model.specs.Step.{entry_of}
use Rattle.tx_model.proofs.Lists.{first_of, later_of, none_passes, comes_from, goes_into, has_image}
use Rattle.tx_model.proofs.Refused.{NoneBroken}
use Rattle.tx_model.proofs.Assigned.{IsGiven, issued, new, assigned_given, IsGivenTo, each_given, last_number, last_at_least, goes_on}
use Rattle.tx_model.proofs.Assigned.{tempids_apart, first_met, is_same_tempid-true, found_issued}
use Rattle.tx_model.proofs.Changed.{Origin, by_addition, by_retraction, by_withdrawal, IsAskedBy, wrong_part_none, named_attribute}
use Rattle.tx_model.proofs.Changed.{part_typed}
use Rattle.tx_model.proofs.Recorded.{the_change, change_has, recorded_has, room_for_t, few_enough}
use Rattle.tx_model.proofs.Users.{known_small}
use Rattle.tx_model.proofs.Numbered.{some_passes, IsThere, there_is, assigned_some}

some_is : {A : Type 0} (x y : A) → Some x ≡ Some y → x ≡ y
some_is x y same = cc

-- a plain value is no entity
plain_known : (h : List Entry) (entry : Entry) (kind : ℕ) (f : Form) (v : Value) → value_in kind f ≡ Some v
    → is_known_value h entry v ≡ true
plain_known h entry kind f v is = by_form f is
  where
    if_typed : (w : Value) (b : Bool) → is_known_value h entry w ≡ true → cond b (Some w) None ≡ Some v → is_known_value h entry v ≡ true
    if_typed w true known is = subst (λ x. is_known_value h entry x ≡ true) (some_is w v is) known
    if_typed w false known is = absurd (cc)

    by_string : (s : List ℕ) (b : Bool) → option_map_or (if_of_type kind) (cond b (Some (Uri s)) (Some (Str s))) None ≡ Some v
        → is_known_value h entry v ≡ true
    by_string s true is = if_typed (Uri s) (is_of_type kind (Uri s)) refl is
    by_string s false is = if_typed (Str s) (is_of_type kind (Str s)) refl is

    by_form : (f : Form) → value_in kind f ≡ Some v → is_known_value h entry v ≡ true
    by_form (edn.keyword k) is = if_typed (Keyword k) (is_of_type kind (Keyword k)) refl is
    by_form (edn.string s) is = by_string s (eqb kind type_uri) is
    by_form (edn.boolean b) is = if_typed (Boolean b) (is_of_type kind (Boolean b)) refl is
    by_form (edn.integer z) is = if_typed (Long z) (is_of_type kind (Long z)) refl is
    by_form (edn.instant z) is = if_typed (Instant z) (is_of_type kind (Instant z)) refl is
    by_form (edn.uuid n) is = if_typed (Uuid n) (is_of_type kind (Uuid n)) refl is
    by_form (edn.symbol s) is = if_typed (Symbol s) (is_of_type kind (Symbol s)) refl is
    by_form edn.nil is = absurd (cc)
    by_form (edn.list fs) is = absurd (cc)
    by_form (edn.vector fs) is = absurd (cc)
    by_form (edn.map ps) is = absurd (cc)
    by_form (edn.set fs) is = absurd (cc)

-- an ask that adds to the tempid
record AddsTo (name : Name) (ask : Ask) : Type 0 where
  other : Name
  k : List ℕ
  part : Operand
  ask_is : ask ≡ adds other k part
  same : is_same_tempid name other ≡ true

adding : (name : Name) (ask : Ask) → adds_to name ask ≡ true → AddsTo name ask
adding name (adds other k part) is = record { other = other; k = k; part = part; ask_is = refl; same = is }
adding name (retracts other k part) is = absurd (true≢false (sym is))
adding name (retracts_all other k) is = absurd (true≢false (sym is))
adding name (compares other k old new_part) is = absurd (true≢false (sym is))
adding name (retracts_entity other) is = absurd (true≢false (sym is))
adding name (meets other) is = absurd (true≢false (sym is))
adding name (mentions k) is = absurd (true≢false (sym is))
adding name lacks_id is = absurd (true≢false (sym is))

made_change : (db : Db) (names : List (Name × ℕ)) (name : Name) (k : List ℕ) (part : Operand) (e : ℕ) (a : Attribute) (v : Value)
    → entity_of db names name ≡ Some e → attribute_named db.facts k ≡ Some a → value_of_part db names a part ≡ Some v
    → Contains (changes_of db names true name k part) (change db true e a.id v)
made_change db names name k part e a v e_is a_is v_is =
    subst (λ o. Contains (option_to_list o) (change db true e a.id v)) (sym chain) (first_of (change db true e a.id v) [])
  where
    chain : option_and_then (λ x. option_and_then (λ (b : Attribute). option_map (change db true x b.id) (value_of_part db names b part))
        (attribute_named db.facts k)) (entity_of db names name)
        ≡ Some (change db true e a.id v)
    chain =
        ap (option_and_then (λ x. option_and_then (λ (b : Attribute). option_map (change db true x b.id) (value_of_part db names b part))
        (attribute_named db.facts k))) e_is
        ∙ ap (option_and_then (λ (b : Attribute). option_map (change db true e b.id) (value_of_part db names b part))) a_is
        ∙ ap (option_map (change db true e a.id)) v_is

module _ (h : List Entry) (fs : List Form) (lawful : IsLawful h) (none : NoneBroken (transaction h fs)) where
  abbrev all : List Ask
  all = joined (transaction h fs).asks

  abbrev names : List (Name × ℕ)
  names = (transaction h fs).names

  -- ---- names that are used have entities

  found_some : (group : List Ask) (ask : Ask) (name : Name) → Contains (transaction h fs).asks group → Contains group ask
      → Contains (names_of ask) name → finds_none (db_of h) name ≡ false
  found_some group ask name group_among ask_among name_among =
      none_passes (finds_none (db_of h)) (names_of ask) name
      (none_passes (λ ask. list_any (finds_none (db_of h)) (names_of ask)) group ask
      (none_passes (breaks_not_an_entity (db_of h)) (transaction h fs).asks group none.not_an_entity group_among) ask_among) name_among

  pub name_some : (group : List Ask) (ask : Ask) (name : Name) → Contains (transaction h fs).asks group → Contains group ask
      → Contains (names_of ask) name → IsThere (entity_of (db_of h) (transaction h fs).names name)
  name_some group ask name group_among ask_among name_among = by_name name (found_some group ask name group_among ask_among name_among) used
    where
      used : Contains (flat_map names_of (joined (transaction h fs).asks)) name
      used =
          goes_into names_of (joined (transaction h fs).asks) ask name
          (goes_into (λ (l : List Ask). l) (transaction h fs).asks group ask group_among ask_among) name_among

      by_own : (s : List ℕ) (b : Bool) → bytes_eq s own_tempid ≡ b
          → Contains (flat_map names_of (joined (transaction h fs).asks)) (tempid s)
          → IsThere (cond b (Some (transaction_of (basis h + 1))) (assigned_to (transaction h fs).names (tempid s)))
      by_own s true is used = record { value = transaction_of (basis h + 1); is = refl }
      by_own s false is used = assigned_some (db_of h) (joined (transaction h fs).asks) (tempid s) (ap (λ b. cond b false true) is) used

      by_name : (name : Name) → finds_none (db_of h) name ≡ false → Contains (flat_map names_of (joined (transaction h fs).asks)) name
          → IsThere (entity_of (db_of h) (transaction h fs).names name)
      by_name (number z) is used = there_is (found (db_of h) (number z)) is
      by_name (ident k) is used = there_is (found (db_of h) (ident k)) is
      by_name (lookup k v) is used = there_is (found (db_of h) (lookup k v)) is
      by_name (tempid s) is used = by_own s (bytes_eq s own_tempid) refl used
      by_name (nameless path) is used = assigned_some (db_of h) (joined (transaction h fs).asks) (nameless path) refl used

  attribute_some : (group : List Ask) (ask : Ask) (k : List ℕ) → Contains (transaction h fs).asks group → Contains group ask
      → attribute_of_ask ask ≡ Some k → IsThere (attribute_named (facts h) k)
  attribute_some group ask k group_among ask_among k_is =
      let unbroken = none_passes (breaks_not_an_attribute (db_of h)) (transaction h fs).asks group none.not_an_attribute group_among in
      let first = (or_parts _ _ (none_passes (names_no_attribute (facts h)) group ask unbroken ask_among)).0 in
      there_is (attribute_named (facts h) k) (sym (ap (λ o. option_map_or (is_unknown (facts h)) o false) k_is) ∙ first)

  -- ---- each new user number is that of an asserted entity

  no_own : (s : List ℕ) → is_tempid (tempid s) ≡ true → bytes_eq s own_tempid ≡ false
  no_own s is = go (bytes_eq s own_tempid) is
    where
      go : (b : Bool) → cond b false true ≡ true → b ≡ false
      go false is = refl
      go true is = absurd (true≢false (sym is))

  assigned_entity : (name : Name) → is_tempid name ≡ true
      → entity_of (db_of h) (transaction h fs).names name ≡ assigned_to (transaction h fs).names name
  assigned_entity (tempid s) is = rw (no_own s is) refl
  assigned_entity (nameless path) is = refl
  assigned_entity (number z) is = absurd (true≢false (sym is))
  assigned_entity (ident k) is = absurd (true≢false (sym is))
  assigned_entity (lookup k v) is = absurd (true≢false (sym is))

  pub asserted : (instant : ℤ) (m : ℕ) → users_issued h < m
      → m ≤ last_number (db_of h) (joined (transaction h fs).asks) (tempids_in (joined (transaction h fs).asks)) (users_issued h)
      → is_asserted (recorded (transaction h fs) instant) (user_entity m) ≡ true
  asserted instant m above under =
      let given =
      each_given (db_of h) (joined (transaction h fs).asks) (tempids_in (joined (transaction h fs).asks)) (users_issued h) m
      (tempids_apart (joined (transaction h fs).asks)) above under in
      let first = first_met [] (flat_map names_of (joined (transaction h fs).asks)) given.name given.among in
      let using_ask = comes_from names_of (joined (transaction h fs).asks) given.name first.among in
      let using_group = comes_from (λ (l : List Ask). l) (transaction h fs).asks using_ask.source using_ask.among in
      let unbroken =
      none_passes (breaks_tempid_not_an_entity (joined (transaction h fs).asks))
      (transaction h fs).asks using_group.source none.tempid_not_an_entity using_group.among in
      let unused = none_passes (is_added_to_by_none (joined (transaction h fs).asks)) (names_of using_ask.source) given.name
      (none_passes (λ ask. list_any (is_added_to_by_none (joined (transaction h fs).asks)) (names_of ask)) using_group.source
      using_ask.source unbroken using_group.made) using_ask.made in
      let adder =
      some_passes (adds_to given.name) (joined (transaction h fs).asks)
      (added_to (is_tempid given.name) (list_any (adds_to given.name) (joined (transaction h fs).asks)) first.tempid_is unused) in
      let adder_group = comes_from (λ (l : List Ask). l) (transaction h fs).asks adder.element adder.among in
      from_adder given first.tempid_is adder_group.source adder_group.among adder.element adder.among adder_group.made
      (adding given.name adder.element adder.passes)
    where
      added_to : (t x : Bool) → t ≡ true → (t && not x) ≡ false → x ≡ true
      added_to true true is none = refl
      added_to true false is none = absurd (true≢false none)
      added_to false x is none = absurd (true≢false (sym is))

      from_adder : (given : IsGivenTo (db_of h) (joined (transaction h fs).asks) (tempids_in (joined (transaction h fs).asks))
          (users_issued h) (user_entity m))
          → is_tempid given.name ≡ true
          → (group : List Ask) → Contains (transaction h fs).asks group → (ask : Ask) → Contains (joined (transaction h fs).asks) ask
          → Contains group ask → AddsTo given.name ask
          → is_asserted (recorded (transaction h fs) instant) (user_entity m) ≡ true
      from_adder given tempid_is group group_among ask ask_in_all ask_among adding_is =
          let other_is : given.name ≡ adding_is.other = is_same_tempid-true given.name adding_is.other adding_is.same in
          let entity_is : entity_of (db_of h) (transaction h fs).names adding_is.other ≡ Some (user_entity m) =
          assigned_entity adding_is.other (subst (λ n. is_tempid n ≡ true) other_is tempid_is)
          ∙ given.gives adding_is.other adding_is.same in
          let ask_here : Contains group (adds adding_is.other adding_is.k adding_is.part) =
          subst (λ a. Contains group a) adding_is.ask_is ask_among in
          let attribute = attribute_some group (adds adding_is.other adding_is.k adding_is.part) adding_is.k group_among ask_here refl in
          let wrong =
          none_passes (λ ask. option_map_or (has_wrong_part ask) (attribute_in (facts h) ask) false
          || list_any (has_wrong_lookup (facts h)) (names_of ask)) group (adds adding_is.other adding_is.k adding_is.part)
          (none_passes (breaks_wrong_type (db_of h)) (transaction h fs).asks group none.wrong_type group_among) ask_here in
          let right = (or_parts (is_wrong_part attribute.value adding_is.part) false
          (wrong_part_none (facts h) (adds adding_is.other adding_is.k adding_is.part) adding_is.k attribute.value refl attribute.is
          (or_parts _ _ wrong).0)).0 in
          let value = part_some adding_is.other adding_is.k adding_is.part group ask_here group_among attribute.value right in
          let new_one = change (db_of h) true (user_entity m) attribute.value.id value.value in
          let made =
          made_change (db_of h) (transaction h fs).names adding_is.other adding_is.k adding_is.part
          (user_entity m) attribute.value value.value entity_is attribute.is value.is in
          let in_group : Contains (flat_map (additions (db_of h) (transaction h fs).names) group) new_one =
          goes_into (additions (db_of h) (transaction h fs).names) group
          (adds adding_is.other adding_is.k adding_is.part) new_one ask_here made in
          let in_added : Contains (joined (transaction h fs).added) new_one =
          goes_into (λ (l : List Datom). l) (transaction h fs).added (flat_map (additions (db_of h) (transaction h fs).names) group) new_one
          (has_image (flat_map (additions (db_of h) (transaction h fs).names)) (transaction h fs).asks group group_among) in_group in
          let is_new : is_change (said h) new_one ≡ true = ap not (holds-unused h m attribute.value.id value.value above) in
          any_member (λ d. eqb d.e (user_entity m) && d.added) (recorded (transaction h fs) instant) new_one
          (recorded_has h fs lawful none instant new_one
          (change_has h fs lawful none new_one (in_first (joined (transaction h fs).added) (joined (transaction h fs).retracted)
          (joined (transaction h fs).swept) (joined (transaction h fs).replaced) new_one in_added) is_new))
          (and_from _ _ (eq-eqb (user_entity m) (user_entity m) refl) refl)
        where
          in_first : (a b c e : List Datom) (d : Datom) → Contains a d → Contains (a ++ b ++ c ++ e) d
          in_first a b c e d member =
              Contains-append_left (a ++ b ++ c) e d (Contains-append_left (a ++ b) c d (Contains-append_left a b d member))

          part_some : (name : Name) (k : List ℕ) (part : Operand) (group : List Ask)
              → Contains group (adds name k part) → Contains (transaction h fs).asks group → (a : Attribute) → is_wrong_part a part ≡ false
              → IsThere (value_of_part (db_of h) (transaction h fs).names a part)
          part_some name k (plain f) group ask_here group_among a right = there_is (value_in a.kind f) right
          part_some name k (entity other) group ask_here group_among a right =
              let there =
              name_some group (adds name k (entity other)) other group_among ask_here
              (later_of name other (other ∷ []) (first_of other [])) in
              record { value = Ref there.value; is = ap (option_map Ref) there.is }

  -- ---- known numbers

  last_known : (instant : ℤ)
      → last_number (db_of h) (joined (transaction h fs).asks) (tempids_in (joined (transaction h fs).asks)) (users_issued h)
      ≤ users_after h (entry_of h (transaction h fs) instant)
  last_known instant =
      goes_on (recorded (transaction h fs) instant) (users_issued h)
      (last_number (db_of h) (joined (transaction h fs).asks) (tempids_in (joined (transaction h fs).asks)) (users_issued h))
      (last_at_least (db_of h) (joined (transaction h fs).asks) (tempids_in (joined (transaction h fs).asks)) (users_issued h))
      (asserted instant)

  pub issued_known : (instant : ℤ) (n : ℕ) → is_issued h n ≡ true → is_known h (entry_of h (transaction h fs) instant) n ≡ true
  issued_known instant n is = or_left _ _ (or_left _ _ is)

  given_known : (instant : ℤ) (n : ℕ)
      → IsGiven h (users_issued h)
      (last_number (db_of h) (joined (transaction h fs).asks) (tempids_in (joined (transaction h fs).asks)) (users_issued h)) n
      → is_known h (entry_of h (transaction h fs) instant) n ≡ true
  given_known instant n (issued is) = issued_known instant n is
  given_known instant n (new m above under is) =
      or_right _ _ (and_from _ _ (le-leb (user_entity 1) n (omega (arith, is)))
      (le-leb n (user_entity (users_after h (entry_of h (transaction h fs) instant))) (omega (arith, is, last_known instant))))

  pub entity_known : (instant : ℤ) (name : Name) (n : ℕ) → entity_of (db_of h) (transaction h fs).names name ≡ Some n
      → is_known h (entry_of h (transaction h fs) instant) n ≡ true
  entity_known instant (number z) n is = issued_known instant n (found_issued h (number z) n lawful is)
  entity_known instant (ident k) n is = issued_known instant n (found_issued h (ident k) n lawful is)
  entity_known instant (lookup k v) n is = issued_known instant n (found_issued h (lookup k v) n lawful is)
  entity_known instant (nameless path) n is =
      given_known instant n (assigned_given h (joined (transaction h fs).asks) (tempids_in (joined (transaction h fs).asks))
      (users_issued h) (nameless path) n lawful is)
  entity_known instant (tempid s) n is = go (bytes_eq s own_tempid) is
    where
      go : (b : Bool) → cond b (Some (transaction_of (basis h + 1))) (assigned_to (transaction h fs).names (tempid s)) ≡ Some n
          → is_known h (entry_of h (transaction h fs) instant) n ≡ true
      go true is = or_left _ _ (or_right _ _ (eq-eqb n (transaction_of (basis h + 1)) (sym (some_is (transaction_of (basis h + 1)) n is))))
      go false is =
          given_known instant n (assigned_given h (joined (transaction h fs).asks) (tempids_in (joined (transaction h fs).asks))
          (users_issued h) (tempid s) n lawful is)

  part_known : (instant : ℤ) (a : Attribute) (part : Operand) (v : Value) → value_of_part (db_of h) (transaction h fs).names a part ≡ Some v
      → is_known_value h (entry_of h (transaction h fs) instant) v ≡ true
  part_known instant a (plain f) v is = plain_known h (entry_of h (transaction h fs) instant) a.kind f v is
  part_known instant a (entity name) v is = go (entity_of (db_of h) (transaction h fs).names name) refl is
    where
      go : (o : Option ℕ) → entity_of (db_of h) (transaction h fs).names name ≡ o → option_map Ref o ≡ Some v
          → is_known_value h (entry_of h (transaction h fs) instant) v ≡ true
      go None e_is is = absurd (cc)
      go (Some n) e_is is =
          subst (λ x. is_known_value h (entry_of h (transaction h fs) instant) x ≡ true) (some_is (Ref n) v is)
          (entity_known instant name n e_is)

  issued_value_known : (instant : ℤ) (v : Value) → is_issued_value h v ≡ true
      → is_known_value h (entry_of h (transaction h fs) instant) v ≡ true
  issued_value_known instant (Ref n) is = issued_known instant n is
  issued_value_known instant v is = refl

  -- ---- what a change is of

  pub change_known : (instant : ℤ) (d : Datom) → Contains (transaction h fs).changes d
      → (is_known h (entry_of h (transaction h fs) instant) d.e && is_known_value h (entry_of h (transaction h fs) instant) d.v) ≡ true
  change_known instant d member = by_origin (the_change h fs lawful none d member).origin
    where
      asked_known : (added : Bool) (ask : Ask) → IsAskedBy (db_of h) (transaction h fs).names added ask d
          → (is_known h (entry_of h (transaction h fs) instant) d.e && is_known_value h (entry_of h (transaction h fs) instant) d.v) ≡ true
      asked_known added ask asked_by =
          and_from _ _ (entity_known instant asked_by.name d.e asked_by.made.entity_is)
          (part_known instant asked_by.made.attribute asked_by.part d.v asked_by.made.value_is)

      by_origin : Origin (transaction h fs).db (transaction h fs).names (transaction h fs).asks d
          → (is_known h (entry_of h (transaction h fs) instant) d.e && is_known_value h (entry_of h (transaction h fs) instant) d.v) ≡ true
      by_origin (by_addition group group_among ask ask_among asked_by) = asked_known true ask asked_by
      by_origin (by_retraction group group_among ask ask_among asked_by) = asked_known false ask asked_by
      by_origin (by_withdrawal gone) =
          let issued_both = and_parts _ _ (facts_issued h lawful gone.fact gone.member) in
          subst (λ x.
          (is_known h (entry_of h (transaction h fs) instant) x.e && is_known_value h (entry_of h (transaction h fs) instant) x.v) ≡ true)
          gone.is
          (and_from _ _ (issued_known instant gone.fact.e issued_both.0) (issued_value_known instant gone.fact.v issued_both.1))

  pub change_typed : (d : Datom) → Contains (transaction h fs).changes d → is_typed (facts h) d ≡ true
  change_typed d member = by_origin (the_change h fs lawful none d member).origin
    where
      asked_typed : (added : Bool) (ask : Ask) → IsAskedBy (db_of h) (transaction h fs).names added ask d → is_typed (facts h) d ≡ true
      asked_typed added ask asked_by =
          ap (λ o. option_map_or (λ (attribute : Attribute). is_of_type attribute.kind d.v) o false)
          (ap (attribute_of (facts h)) asked_by.made.a_is
          ∙ named_attribute (facts h) asked_by.k asked_by.made.attribute asked_by.made.attribute_is)
          ∙ part_typed (db_of h)
          (transaction h fs).names asked_by.made.attribute asked_by.part d.v asked_by.right_part asked_by.made.value_is
          (λ n is.
          known_small h (entry_of h (transaction h fs) (pos 0)) n lawful (room_for_t h fs lawful none) (few_enough h fs lawful none (pos 0))
          (subst (λ v. is_known_value h (entry_of h (transaction h fs) (pos 0)) v ≡ true) is
          (part_known (pos 0) asked_by.made.attribute asked_by.part d.v asked_by.made.value_is)))

      by_origin : Origin (transaction h fs).db (transaction h fs).names (transaction h fs).asks d → is_typed (facts h) d ≡ true
      by_origin (by_addition group group_among ask ask_among asked_by) = asked_typed true ask asked_by
      by_origin (by_retraction group group_among ask ask_among asked_by) = asked_typed false ask asked_by
      by_origin (by_withdrawal gone) = subst (λ x. is_typed (facts h) x ≡ true) gone.is (facts_typed h lawful gone.fact gone.member)

  pub change_installed : (d : Datom) → Contains (transaction h fs).changes d → is_attribute (facts h) d.a ≡ true
  change_installed d member = go (attribute_of (facts h) d.a) refl (change_typed d member)
    where
      go : (o : Option Attribute) → attribute_of (facts h) d.a ≡ o
          → option_map_or (λ (attribute : Attribute). is_of_type attribute.kind d.v) o false ≡ true → is_attribute (facts h) d.a ≡ true
      go None is typed = absurd (true≢false (sym typed))
      go (Some a) is typed = ap is_some is
