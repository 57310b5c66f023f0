-- Where the changes of a transaction come from.
use Rattle.std.proofs.Common.{◌≡◌, ℕ, ◌+◌, ◌<◌, Bool, true, false, cond, not, ◌&&◌, ◌||◌, List, [], ◌++◌, length, map, refl, ap, sym, ◌∙◌}
use Rattle.std.proofs.Common.{subst, inl, inr, eqb, Option, Some, None}
use Rattle.std.specs.Prelude.{Contains, flat_map, filter, option_and_then, option_map}
use Rattle.std.specs.List.{list_any}
use Rattle.std.specs.Option.{option_map_or}
use Rattle.std.proofs.lemmas.Bool.{true≢false, and_from, or_parts, eqb-true, eq-eqb}
use Rattle.std.proofs.lemmas.List.Elements.{Contains-append_left, Contains-append_right, Contains-append_cases}
use Rattle.edn_model.specs.Form.{Form}
use Rattle.fb_values.specs.declared.facts.Datom.{Datom}
use Rattle.fb_values.specs.declared.facts.Entry.{Entry}
use Rattle.fb_values.specs.declared.facts.Value.{Value}
use Rattle.fb_values.specs.declared.facts.Value.TheVariants.{Ref}
use Rattle.fb_values.specs.declared.indexes.Order.TheVariants.{Eavt}
use Rattle.fb_numbers.specs.Numbers.{type_ref, is_reference}
use Rattle.fb_model.specs.History.{basis, said}
use Rattle.fb_model.specs.Facts.{facts}
use Rattle.fb_model.specs.Types.{is_of_type}
use Rattle.fb_model.specs.Schema.{Attribute, attribute_from, attribute_named, attribute_of, named, is_one}
use Rattle.fb_model.proofs.Members.{kept, in_order_member}
use Rattle.tx_model.specs.Asks.{Name, Operand, plain, entity, Ask, adds, retracts, retracts_all, compares, retracts_entity, meets, mentions}
use Rattle.tx_model.specs.Asks.{lacks_id, names_of, attribute_of_ask}
use Rattle.tx_model.specs.Values.{read_as, value_in, if_of_type}
use Rattle.tx_model.specs.Tempids.{Db, db_of, entity_of}
use Rattle.tx_model.specs.Changes.{value_of_part, change, changes_of, withdrawn, additions, retractions, values_withdrawn, set_withdrawn}
use Rattle.tx_model.specs.Changes.{sweeps, implied, is_replaced}
use Rattle.tx_model.specs.Transaction.{Transaction, joined, is_change, transaction}
use Rattle.tx_model.specs.ChangeRules.{at, asked}
use Rattle.tx_model.specs.NameRules.{breaks_wrong_type, is_wrong_part, is_wrong_old_part, has_wrong_part, has_wrong_lookup, attribute_in}
use Rattle.tx_model.specs.NameRules.{adds_reserved_ident, is_ident, is_reserved_part}
use Rattle.tx_model.proofs.Lists.{not_in_none, none_passes, in_option, comes_from, image_of, map-length, at_of}

some_is : {A : Type 0} (x y : A) → Some x ≡ Some y → x ≡ y
some_is x y same = cc

-- ---- one change

-- a change of an ask, of an entity, an attribute and a value
pub record IsMade (db : Db) (names : List (Name × ℕ)) (added : Bool) (name : Name) (k : List ℕ) (part : Operand) (d : Datom) : Type 0 where
  pub attribute : Attribute
  pub entity_is : entity_of db names name ≡ Some d.e
  pub attribute_is : attribute_named db.facts k ≡ Some attribute
  pub value_is : value_of_part db names attribute part ≡ Some d.v
  pub a_is : d.a ≡ attribute.id
  pub added_is : d.added ≡ added
  pub t_is : d.t ≡ basis db.history + 1

pub made_of : (db : Db) (names : List (Name × ℕ)) (added : Bool) (name : Name) (k : List ℕ) (part : Operand) (d : Datom)
    → Contains (changes_of db names added name k part) d → IsMade db names added name k part d
made_of db names added name k part d member =
    by_entity (entity_of db names name) refl (in_option (option_and_then (λ e. option_and_then (λ (a : Attribute).
    option_map (change db added e a.id) (value_of_part db names a part)) (attribute_named db.facts k)) (entity_of db names name)) d member)
  where
    by_value : (e : ℕ) (a : Attribute) (v : Value) → entity_of db names name ≡ Some e → attribute_named db.facts k ≡ Some a
        → value_of_part db names a part ≡ Some v → change db added e a.id v ≡ d → IsMade db names added name k part d
    by_value e a v e_is a_is v_is is =
        record {
          attribute = a;
          entity_is = e_is ∙ ap (λ (x : Datom). Some x.e) is;
          attribute_is = a_is;
          value_is = v_is ∙ ap (λ (x : Datom). Some x.v) is;
          a_is = sym (ap (λ (x : Datom). x.a) is);
          added_is = sym (ap (λ (x : Datom). x.added) is);
          t_is = sym (ap (λ (x : Datom). x.t) is);
        }

    by_option : (e : ℕ) (a : Attribute) (o : Option Value) → entity_of db names name ≡ Some e → attribute_named db.facts k ≡ Some a
        → value_of_part db names a part ≡ o → option_map (change db added e a.id) o ≡ Some d → IsMade db names added name k part d
    by_option e a None e_is a_is v_is is = absurd (cc)
    by_option e a (Some v) e_is a_is v_is is = by_value e a v e_is a_is v_is (some_is (change db added e a.id v) d is)

    by_attribute : (e : ℕ) (o : Option Attribute) → entity_of db names name ≡ Some e → attribute_named db.facts k ≡ o
        → option_and_then (λ (a : Attribute). option_map (change db added e a.id) (value_of_part db names a part)) o ≡ Some d
        → IsMade db names added name k part d
    by_attribute e None e_is a_is is = absurd (cc)
    by_attribute e (Some a) e_is a_is is = by_option e a (value_of_part db names a part) e_is a_is refl is

    by_entity : (o : Option ℕ) → entity_of db names name ≡ o
        → option_and_then (λ e. option_and_then (λ (a : Attribute). option_map (change db added e a.id) (value_of_part db names a part))
        (attribute_named db.facts k)) o ≡ Some d
        → IsMade db names added name k part d
    by_entity None e_is is = absurd (cc)
    by_entity (Some e) e_is is = by_attribute e (attribute_named db.facts k) e_is refl is

-- ---- what an ask that breaks no rule asks

-- a triple that an ask asks, with what the rules before say of it
pub record IsAskedBy (db : Db) (names : List (Name × ℕ)) (added : Bool) (ask : Ask) (d : Datom) : Type 0 where
  pub name : Name
  pub k : List ℕ
  pub part : Operand
  pub made : IsMade db names added name k part d
  pub keyword_is : attribute_of_ask ask ≡ Some k
  pub right_part : is_wrong_part made.attribute part ≡ false
  pub reserved : added ≡ true → adds_reserved_ident db.facts ask ≡ (is_ident db.facts k && is_reserved_part part)

pub wrong_part_none : (facts : List Datom) (ask : Ask) (k : List ℕ) (a : Attribute) → attribute_of_ask ask ≡ Some k
    → attribute_named facts k ≡ Some a
    → option_map_or (has_wrong_part ask) (attribute_in facts ask) false ≡ false → has_wrong_part ask a ≡ false
wrong_part_none facts ask k a k_is a_is none =
    sym (ap (λ o. option_map_or (has_wrong_part ask) o false) (ap (λ o. option_map_or (attribute_named facts) o None) k_is ∙ a_is)) ∙ none

pub addition_asked : (db : Db) (names : List (Name × ℕ)) (ask : Ask) (d : Datom)
    → option_map_or (has_wrong_part ask) (attribute_in db.facts ask) false ≡ false
    → Contains (additions db names ask) d → IsAskedBy db names true ask d
addition_asked db names (adds name k part) d right member =
    let made = made_of db names true name k part d member in
    record {
      name = name;
      k = k;
      part = part;
      made = made;
      keyword_is = refl;
      right_part =
          (or_parts (is_wrong_part made.attribute part) false
          (wrong_part_none db.facts (adds name k part) k made.attribute refl made.attribute_is right)).0;
      reserved = λ is. refl;
    }
addition_asked db names (compares name k old new) d right member =
    let made = made_of db names true name k new d member in
    record {
      name = name;
      k = k;
      part = new;
      made = made;
      keyword_is = refl;
      right_part =
          (or_parts (is_wrong_old_part made.attribute old) (is_wrong_part made.attribute new)
          (wrong_part_none db.facts (compares name k old new) k made.attribute refl made.attribute_is right)).1;
      reserved = λ is. refl;
    }
addition_asked db names (retracts name k part) d right member = absurd (not_in_none d member)
addition_asked db names (retracts_all name k) d right member = absurd (not_in_none d member)
addition_asked db names (retracts_entity name) d right member = absurd (not_in_none d member)
addition_asked db names (meets name) d right member = absurd (not_in_none d member)
addition_asked db names (mentions k) d right member = absurd (not_in_none d member)
addition_asked db names lacks_id d right member = absurd (not_in_none d member)

pub retraction_asked : (db : Db) (names : List (Name × ℕ)) (ask : Ask) (d : Datom)
    → option_map_or (has_wrong_part ask) (attribute_in db.facts ask) false ≡ false
    → Contains (retractions db names ask) d → IsAskedBy db names false ask d
retraction_asked db names (retracts name k part) d right member =
    let made = made_of db names false name k part d member in
    record {
      name = name;
      k = k;
      part = part;
      made = made;
      keyword_is = refl;
      right_part =
          (or_parts (is_wrong_part made.attribute part) false
          (wrong_part_none db.facts (retracts name k part) k made.attribute refl made.attribute_is right)).0;
      reserved = λ is. absurd (true≢false (sym is));
    }
retraction_asked db names (adds name k part) d right member = absurd (not_in_none d member)
retraction_asked db names (compares name k old new) d right member = absurd (not_in_none d member)
retraction_asked db names (retracts_all name k) d right member = absurd (not_in_none d member)
retraction_asked db names (retracts_entity name) d right member = absurd (not_in_none d member)
retraction_asked db names (meets name) d right member = absurd (not_in_none d member)
retraction_asked db names (mentions k) d right member = absurd (not_in_none d member)
retraction_asked db names lacks_id d right member = absurd (not_in_none d member)

-- ---- what is found in the database

-- the retraction of a fact
pub record IsWithdrawn (db : Db) (d : Datom) : Type 0 where
  pub fact : Datom
  pub member : Contains db.facts fact
  pub is : withdrawn db fact ≡ d

withdrawn_of : (db : Db) (test : Datom → Bool) (d : Datom) → Contains (map (withdrawn db) (filter test db.facts)) d → IsWithdrawn db d
withdrawn_of db test d member =
    let image = image_of (withdrawn db) (filter test db.facts) d member in
    record { fact = image.original; member = (kept test db.facts image.original image.among).member; is = image.image_is }

pub implied_withdrawn : (db : Db) (added : List Datom) (d : Datom) → Contains (implied db added) d → IsWithdrawn db d
implied_withdrawn db added d member = withdrawn_of db (λ f. is_one db.facts f.a && list_any (is_replaced f) added) d member

pub sweep_withdrawn : (db : Db) (names : List (Name × ℕ)) (ask : Ask) (d : Datom) → Contains (sweeps db names ask) d → IsWithdrawn db d
sweep_withdrawn db names (retracts_all name k) d member = by_entity (entity_of db names name) member
  where
    by_attribute : (e : ℕ) (o : Option Attribute) → Contains (option_map_or (values_withdrawn db e) o []) d → IsWithdrawn db d
    by_attribute e None member = absurd (not_in_none d member)
    by_attribute e (Some a) member = withdrawn_of db (λ f. eqb f.e e && eqb f.a a.id) d member

    by_entity : (o : Option ℕ)
        → Contains (option_map_or (λ e. option_map_or (values_withdrawn db e) (attribute_named db.facts k) []) o []) d → IsWithdrawn db d
    by_entity None member = absurd (not_in_none d member)
    by_entity (Some e) member = by_attribute e (attribute_named db.facts k) member
sweep_withdrawn db names (retracts_entity name) d member = by_entity (entity_of db names name) member
  where
    by_entity : (o : Option ℕ) → Contains (option_map_or (set_withdrawn db) o []) d → IsWithdrawn db d
    by_entity None member = absurd (not_in_none d member)
    by_entity (Some e) member = withdrawn_of db _ d member
sweep_withdrawn db names (adds name k part) d member = absurd (not_in_none d member)
sweep_withdrawn db names (retracts name k part) d member = absurd (not_in_none d member)
sweep_withdrawn db names (compares name k old new) d member = absurd (not_in_none d member)
sweep_withdrawn db names (meets name) d member = absurd (not_in_none d member)
sweep_withdrawn db names (mentions k) d member = absurd (not_in_none d member)
sweep_withdrawn db names lacks_id d member = absurd (not_in_none d member)

-- ---- typed values

-- a plain value is of the type, and no entity
pub plain_typed : (kind : ℕ) (f : Form) (v : Value) → value_in kind f ≡ Some v → is_of_type kind v ≡ true
plain_typed kind f v is = by_option (read_as kind f) is
  where
    if_typed : (w : Value) (b : Bool) → is_of_type kind w ≡ b → cond b (Some w) None ≡ Some v → is_of_type kind v ≡ true
    if_typed w true typed is = subst (λ x. is_of_type kind x ≡ true) (some_is w v is) typed
    if_typed w false typed is = absurd (cc)

    by_option : (o : Option Value) → option_map_or (if_of_type kind) o None ≡ Some v → is_of_type kind v ≡ true
    by_option None is = absurd (cc)
    by_option (Some w) is = if_typed w (is_of_type kind w) refl is

-- an entity that there is has a number in the range of references
pub part_typed : (db : Db) (names : List (Name × ℕ)) (a : Attribute) (part : Operand) (v : Value) → is_wrong_part a part ≡ false
    → value_of_part db names a part ≡ Some v
    → ((n : ℕ) → v ≡ Ref n → is_reference n ≡ true) → is_of_type a.kind v ≡ true
part_typed db names a (plain f) v right is small = plain_typed a.kind f v is
part_typed db names a (entity name) v right is small = by_option (entity_of db names name) is
  where
    is_ref : eqb a.kind type_ref ≡ true
    is_ref = not_not (eqb a.kind type_ref) right
      where
        not_not : (b : Bool) → not b ≡ false → b ≡ true
        not_not true e = refl
        not_not false e = absurd (true≢false e)

    by_option : (o : Option ℕ) → option_map Ref o ≡ Some v → is_of_type a.kind v ≡ true
    by_option None is = absurd (cc)
    by_option (Some n) is =
        let v_is = some_is (Ref n) v is in
        subst (λ x. is_of_type a.kind x ≡ true) v_is
        (and_from _ _ (and_from _ _ (eq-eqb type_ref a.kind (sym (eqb-true a.kind type_ref is_ref))) (small n (sym v_is))) refl)

-- ---- attributes by their keywords

from_id : (e : ℕ) (name : Option (List ℕ)) (kind count uniqueness : Option ℕ) (component indexed : Bool) (a : Attribute)
    → attribute_from e name kind count uniqueness component indexed ≡ Some a → e ≡ a.id
from_id e None kind count uniqueness component indexed a is = absurd (cc)
from_id e (Some n) None count uniqueness component indexed a is = absurd (cc)
from_id e (Some n) (Some k) None uniqueness component indexed a is = absurd (cc)
from_id e (Some n) (Some k) (Some c) uniqueness component indexed a is = id_is _ a is
  where
    id_is : (x y : Attribute) → Some x ≡ Some y → x.id ≡ y.id
    id_is x y same = ap (λ (o : Attribute). o.id) (some_is x y same)

pub attribute_id : (facts : List Datom) (e : ℕ) (a : Attribute) → attribute_of facts e ≡ Some a → e ≡ a.id
attribute_id facts e a is = from_id e _ _ _ _ _ _ a is

-- the attribute of a keyword is that of its entity
pub named_attribute : (facts : List Datom) (k : List ℕ) (a : Attribute) → attribute_named facts k ≡ Some a
    → attribute_of facts a.id ≡ Some a
named_attribute facts k a is = by_option (named facts k) is
  where
    by_option : (o : Option ℕ) → option_and_then (attribute_of facts) o ≡ Some a → attribute_of facts a.id ≡ Some a
    by_option None is = absurd (cc)
    by_option (Some e) is = subst (λ x. attribute_of facts x ≡ Some a) (attribute_id facts e a is) is

-- ---- origins

pub data Origin (db : Db) (names : List (Name × ℕ)) (asks : List (List Ask)) (d : Datom) : Type 0 where
  by_addition : (group : List Ask) → Contains asks group → (ask : Ask) → Contains group ask → IsAskedBy db names true ask d
      → Origin db names asks d
  by_retraction : (group : List Ask) → Contains asks group → (ask : Ask) → Contains group ask → IsAskedBy db names false ask d
      → Origin db names asks d
  by_withdrawal : IsWithdrawn db d → Origin db names asks d

-- where what the asks make comes from
pub record IsFromAsk (g : Ask → List Datom) (asks : List (List Ask)) (d : Datom) : Type 0 where
  pub group : List Ask
  pub group_among : Contains asks group
  pub ask : Ask
  pub ask_among : Contains group ask
  pub made : Contains (g ask) d

pub from_ask : (g : Ask → List Datom) (asks : List (List Ask)) (d : Datom) → Contains (joined (map (flat_map g) asks)) d
    → IsFromAsk g asks d
from_ask g asks d member =
    let from = comes_from (λ (l : List Datom). l) (map (flat_map g) asks) d member in
    let image = image_of (flat_map g) asks from.source from.among in
    let source = comes_from g image.original d (subst (λ l. Contains l d) (sym image.image_is) from.made) in
    record { group = image.original; group_among = image.among; ask = source.source; ask_among = source.among; made = source.made }

right_ask : (db : Db) (asks : List (List Ask)) → list_any (breaks_wrong_type db) asks ≡ false → (group : List Ask) → Contains asks group
    → (ask : Ask) → Contains group ask → option_map_or (has_wrong_part ask) (attribute_in db.facts ask) false ≡ false
right_ask db asks none group group_among ask ask_among =
    (or_parts _ _ (none_passes (λ ask. option_map_or (has_wrong_part ask) (attribute_in db.facts ask) false || list_any
    (has_wrong_lookup db.facts) (names_of ask)) group ask (none_passes (breaks_wrong_type db) asks group none group_among) ask_among)).0

-- ---- the changes of a transaction

in_first : (a b c e : List Datom) (d : Datom) → Contains a d → Contains (a ++ b ++ c ++ e) d
in_first a b c e d member = Contains-append_left (a ++ b ++ c) e d (Contains-append_left (a ++ b) c d (Contains-append_left a b d member))

in_second : (a b c e : List Datom) (d : Datom) → Contains b d → Contains (a ++ b ++ c ++ e) d
in_second a b c e d member = Contains-append_left (a ++ b ++ c) e d (Contains-append_left (a ++ b) c d (Contains-append_right a b d member))

in_third : (a b c e : List Datom) (d : Datom) → Contains c d → Contains (a ++ b ++ c ++ e) d
in_third a b c e d member = Contains-append_left (a ++ b ++ c) e d (Contains-append_right (a ++ b) c d member)

in_fourth : (a b c e : List Datom) (d : Datom) → Contains e d → Contains (a ++ b ++ c ++ e) d
in_fourth a b c e d member = Contains-append_right (a ++ b ++ c) e d member

-- a change, what asks it, and where it comes from
pub record IsChangeOf (tx : Transaction) (d : Datom) : Type 0 where
  pub changes : is_change (said tx.db.history) d ≡ true
  pub place : ℕ
  pub within : place < length tx.asks
  pub member : Contains (asked tx place) d
  pub origin : Origin tx.db tx.names tx.asks d
  pub triple : d.added ≡ true → Contains (at tx.added place) d

module _ (h : List Entry) (fs : List Form) (right : list_any (breaks_wrong_type (db_of h)) (transaction h fs).asks ≡ false) where
  not_added : (d : Datom) → d.added ≡ false → d.added ≡ true → ⊥
  not_added d is also = true≢false (sym also ∙ is)

  withdrawn_added : (d : Datom) → IsWithdrawn (db_of h) d → d.added ≡ false
  withdrawn_added d is = sym (ap (λ (x : Datom). x.added) is.is)

  from_added : (d : Datom) → is_change (said h) d ≡ true → Contains (joined (transaction h fs).added) d → IsChangeOf (transaction h fs) d
  from_added d changes member =
      let place = at_of (transaction h fs).added d member in
      let from = from_ask (additions (transaction h fs).db (transaction h fs).names) (transaction h fs).asks d member in
      record {
        changes = changes;
        place = place.place;
        within =
            subst (λ n. place.place < n)
            (map-length (flat_map (additions (transaction h fs).db (transaction h fs).names)) (transaction h fs).asks) place.within;
        member =
            in_first (at (transaction h fs).added place.place) (at (transaction h fs).retracted place.place)
            (at (transaction h fs).swept place.place) (at (transaction h fs).replaced place.place) d place.member;
        origin = by_addition from.group from.group_among from.ask from.ask_among
            (addition_asked (transaction h fs).db (transaction h fs).names from.ask d
            (right_ask (transaction h fs).db (transaction h fs).asks right from.group from.group_among from.ask from.ask_among) from.made);
        triple = λ added. place.member;
      }

  from_retracted : (d : Datom) → is_change (said h) d ≡ true → Contains (joined (transaction h fs).retracted) d
      → IsChangeOf (transaction h fs) d
  from_retracted d changes member =
      let place = at_of (transaction h fs).retracted d member in
      let from = from_ask (retractions (transaction h fs).db (transaction h fs).names) (transaction h fs).asks d member in
      let asked_by =
      retraction_asked (transaction h fs).db (transaction h fs).names from.ask d
      (right_ask (transaction h fs).db (transaction h fs).asks right from.group from.group_among from.ask from.ask_among) from.made in
      record {
        changes = changes;
        place = place.place;
        within =
            subst (λ n. place.place < n)
            (map-length (flat_map (retractions (transaction h fs).db (transaction h fs).names)) (transaction h fs).asks) place.within;
        member =
            in_second (at (transaction h fs).added place.place) (at (transaction h fs).retracted place.place)
            (at (transaction h fs).swept place.place) (at (transaction h fs).replaced place.place) d place.member;
        origin = by_retraction from.group from.group_among from.ask from.ask_among asked_by;
        triple = λ added. absurd (not_added d asked_by.made.added_is added);
      }

  from_swept : (d : Datom) → is_change (said h) d ≡ true → Contains (joined (transaction h fs).swept) d → IsChangeOf (transaction h fs) d
  from_swept d changes member =
      let place = at_of (transaction h fs).swept d member in
      let from = from_ask (sweeps (transaction h fs).db (transaction h fs).names) (transaction h fs).asks d member in
      let gone = sweep_withdrawn (transaction h fs).db (transaction h fs).names from.ask d from.made in
      record {
        changes = changes;
        place = place.place;
        within =
            subst (λ n. place.place < n)
            (map-length (flat_map (sweeps (transaction h fs).db (transaction h fs).names)) (transaction h fs).asks) place.within;
        member =
            in_third (at (transaction h fs).added place.place) (at (transaction h fs).retracted place.place)
            (at (transaction h fs).swept place.place) (at (transaction h fs).replaced place.place) d place.member;
        origin = by_withdrawal gone;
        triple = λ added. absurd (not_added d (withdrawn_added d gone) added);
      }

  from_replaced : (d : Datom) → is_change (said h) d ≡ true → Contains (joined (transaction h fs).replaced) d
      → IsChangeOf (transaction h fs) d
  from_replaced d changes member =
      let place = at_of (transaction h fs).replaced d member in
      let from = comes_from (λ (l : List Datom). l) (transaction h fs).replaced d member in
      let image = image_of (implied (transaction h fs).db) (transaction h fs).added from.source from.among in
      let gone = implied_withdrawn (transaction h fs).db image.original d (subst (λ l. Contains l d) (sym image.image_is) from.made) in
      record {
        changes = changes;
        place = place.place;
        within =
            subst (λ n. place.place < n) (map-length (implied (transaction h fs).db) (transaction h fs).added
            ∙ map-length (flat_map (additions (transaction h fs).db (transaction h fs).names)) (transaction h fs).asks) place.within;
        member =
            in_fourth (at (transaction h fs).added place.place) (at (transaction h fs).retracted place.place)
            (at (transaction h fs).swept place.place) (at (transaction h fs).replaced place.place) d place.member;
        origin = by_withdrawal gone;
        triple = λ added. absurd (not_added d (withdrawn_added d gone) added);
      }

  pub change_of : (d : Datom) → Contains (transaction h fs).changes d → IsChangeOf (transaction h fs) d
  change_of d member =
      let is =
      kept (is_change (said h)) (joined (transaction h fs).added ++ joined (transaction h fs).retracted ++ joined (transaction h fs).swept
      ++ joined (transaction h fs).replaced) d
      (in_order_member Eavt (filter (is_change (said h)) (joined (transaction h fs).added ++ joined (transaction h fs).retracted
      ++ joined (transaction h fs).swept ++ joined (transaction h fs).replaced)) d member) in
      elim (Contains-append_cases (joined (transaction h fs).added ++ joined (transaction h fs).retracted
      ++ joined (transaction h fs).swept) (joined (transaction h fs).replaced) d is.member) [
        | inr replaced ↦ from_replaced d is.passes replaced
        | inl first ↦
            elim (Contains-append_cases (joined (transaction h fs).added ++ joined (transaction h fs).retracted)
            (joined (transaction h fs).swept) d first) [
              | inr swept ↦ from_swept d is.passes swept
              | inl triples ↦
                  elim (Contains-append_cases (joined (transaction h fs).added) (joined (transaction h fs).retracted) d triples) [
                    | inl added ↦ from_added d is.passes added
                    | inr retracted ↦ from_retracted d is.passes retracted
                  ]
            ]
      ]
