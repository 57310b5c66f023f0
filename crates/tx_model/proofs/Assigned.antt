-- The entities of tempids: issued ones, and the next user entities without a gap.
use Rattle.std.proofs.Common.{◌≡◌, ℕ, zero, suc, ◌+◌, ◌-◌, ◌<◌, ◌≤◌, pos, negsuc, Bool, true, false, cond, not, ◌&&◌, ◌||◌, List, [], ◌∷◌}
use Rattle.std.proofs.Common.{length, refl, ap, sym, ◌∙◌, subst, arith, inl, inr, eqb, ltb, Option, Some, None}
use Rattle.std.specs.Prelude.{Contains, flat_map, option_and_then, bytes_eq}
use Rattle.std.specs.List.{cons_option}
use Rattle.std.specs.Cmp.Lexicographic.{bytes_decides}
use Rattle.std.proofs.lemmas.Bool.{true≢false, and_parts, or_parts, eqb-true, ltb-true}
use Rattle.std.proofs.lemmas.Bool.Decides.{nat_tests}
use Rattle.edn_model.specs.Form.{Form}
use Rattle.fb_values.specs.declared.facts.Datom.{Datom}
use Rattle.fb_values.specs.declared.facts.Entry.{Entry}
use Rattle.fb_values.specs.declared.facts.Value.{Value}
use Rattle.fb_values.specs.declared.facts.Value.TheVariants.{Keyword}
use Rattle.fb_numbers.specs.Numbers.{user_entity, ident as ident_attribute}
use Rattle.fb_model.specs.History.{is_issued}
use Rattle.fb_model.specs.Facts.{facts, holder}
use Rattle.fb_model.specs.Schema.{Attribute, attribute_named, is_identity}
use Rattle.fb_model.specs.Laws.{is_asserted, users_behind}
use Rattle.fb_model.specs.Lawful.{IsLawful}
use Rattle.fb_model.proofs.KnownFacts.{holder_issued}
use Rattle.tx_model.specs.Asks.{Name, number, ident, lookup, tempid, nameless, plain, entity, Ask, adds, is_tempid, is_same_tempid}
use Rattle.tx_model.specs.Asks.{names_of}
use Rattle.tx_model.specs.Values.{value_in}
use Rattle.tx_model.specs.Tempids.{Db, db_of, find_by, found, identity_holder, identified, holders, number_next, number_from, assigned_to}
use Rattle.tx_model.specs.Tempids.{tempids_in, met_after, is_among}
use Rattle.tx_model.proofs.Lists.{first_of, later_of, which, not_in_none}

-- ---- what is found is issued

some_is : {A : Type 0} (x y : A) → Some x ≡ Some y → x ≡ y
some_is x y same = cc

found_by_issued : (h : List Entry) (value : Form) (k : Option Attribute) (n : ℕ) → IsLawful h
    → option_and_then (find_by (db_of h) value) k ≡ Some n → is_issued h n ≡ true
found_by_issued h value None n lawful is = absurd (cc)
found_by_issued h value (Some attribute) n lawful is = held (value_in attribute.kind value) is
  where
    held : (o : Option Value) → option_and_then (holder (facts h) attribute.id) o ≡ Some n → is_issued h n ≡ true
    held None is = absurd (cc)
    held (Some v) is = holder_issued h n attribute.id v lawful is

pub found_issued : (h : List Entry) (name : Name) (n : ℕ) → IsLawful h → found (db_of h) name ≡ Some n → is_issued h n ≡ true
found_issued h (number (pos m)) n lawful is = go (is_issued h m) refl is
  where
    go : (b : Bool) → is_issued h m ≡ b → cond b (Some m) None ≡ Some n → is_issued h n ≡ true
    go true issued same = subst (λ x. is_issued h x ≡ true) (some_is m n same) issued
    go false issued same = absurd (cc)
found_issued h (number (negsuc m)) n lawful is = absurd (cc)
found_issued h (ident k) n lawful is = holder_issued h n ident_attribute (Keyword k) lawful is
found_issued h (lookup k value) n lawful is = found_by_issued h value (attribute_named (facts h) k) n lawful is
found_issued h (tempid s) n lawful is = absurd (cc)
found_issued h (nameless path) n lawful is = absurd (cc)

identity_issued : (h : List Entry) (f : Form) (k : Option Attribute) (n : ℕ) → IsLawful h
    → option_and_then (identity_holder (db_of h) f) k ≡ Some n → is_issued h n ≡ true
identity_issued h f None n lawful is = absurd (cc)
identity_issued h f (Some attribute) n lawful is = go (is_identity (facts h) attribute.id) is
  where
    held : (o : Option Value) → option_and_then (holder (facts h) attribute.id) o ≡ Some n → is_issued h n ≡ true
    held None is = absurd (cc)
    held (Some v) is = holder_issued h n attribute.id v lawful is

    go : (b : Bool) → cond b (option_and_then (holder (facts h) attribute.id) (value_in attribute.kind f)) None ≡ Some n
        → is_issued h n ≡ true
    go true is = held (value_in attribute.kind f) is
    go false is = absurd (cc)

identified_issued : (h : List Entry) (name : Name) (ask : Ask) (n : ℕ) → IsLawful h → identified (db_of h) name ask ≡ Some n
    → is_issued h n ≡ true
identified_issued h name (adds other k (plain f)) n lawful is = go (is_same_tempid name other) is
  where
    go : (b : Bool) → cond b (option_and_then (identity_holder (db_of h) f) (attribute_named (facts h) k)) None ≡ Some n
        → is_issued h n ≡ true
    go true is = identity_issued h f (attribute_named (facts h) k) n lawful is
    go false is = absurd (cc)
identified_issued h name (adds other k (entity part)) n lawful is = absurd (cc)
identified_issued h name ask n lawful is = absurd (cc)

holders_issued : (h : List Entry) (name : Name) (asks : List Ask) (n : ℕ) → IsLawful h → Contains (holders (db_of h) asks name) n
    → is_issued h n ≡ true
holders_issued h name [] n lawful member = absurd (not_in_none n member)
holders_issued h name (ask ∷ asks) n lawful member = go (identified (db_of h) name ask) refl (holders_issued h name asks n lawful) member
  where
    go : (o : Option ℕ) → identified (db_of h) name ask ≡ o → (Contains (holders (db_of h) asks name) n → is_issued h n ≡ true)
        → Contains (cons_option o (holders (db_of h) asks name)) n → is_issued h n ≡ true
    go None is next member = next member
    go (Some m) is next member =
        elim (which m n (holders (db_of h) asks name) member) [
          | inl same ↦ identified_issued h name ask n lawful (is ∙ ap Some same)
          | inr later ↦ next later
        ]

-- ---- the assignment

-- the greatest user number after the names
abbrev pub last_after : List ℕ → ℕ → (ℕ → ℕ) → ℕ
last_after [] n rest = rest (n + 1)
last_after (e ∷ es) n rest = rest n

abbrev pub last_number : Db → List Ask → List Name → ℕ → ℕ
last_number db asks [] n = n
last_number db asks (name ∷ names) n = last_after (holders db asks name) n (λ next. last_number db asks names next)

-- an entity that is issued, or one of the new ones
pub data IsGiven (h : List Entry) (n last e : ℕ) : Type 0 where
  issued : is_issued h e ≡ true → IsGiven h n last e
  new : (m : ℕ) → n < m → m ≤ last → e ≡ user_entity m → IsGiven h n last e

pub last_at_least : (db : Db) (asks : List Ask) (names : List Name) (n : ℕ) → n ≤ last_number db asks names n
last_at_least db asks [] n = omega arith
last_at_least db asks (name ∷ names) n = go (holders db asks name) (last_at_least db asks names (n + 1)) (last_at_least db asks names n)
  where
    go : (hs : List ℕ) → n + 1 ≤ last_number db asks names (n + 1) → n ≤ last_number db asks names n
        → n ≤ last_after hs n (λ next. last_number db asks names next)
    go [] more same = omega arith
    go (e ∷ es) more same = same

weaker_given : (h : List Entry) (n m last e : ℕ) → n ≤ m → IsGiven h m last e → IsGiven h n last e
weaker_given h n m last e below (issued is) = issued is
weaker_given h n m last e below (new k above under is) = new k (omega arith) under is

pub assigned_given : (h : List Entry) (asks : List Ask) (names : List Name) (n : ℕ) (name : Name) (e : ℕ) → IsLawful h
    → assigned_to (number_from (db_of h) asks names n) name ≡ Some e → IsGiven h n (last_number (db_of h) asks names n) e
assigned_given h asks [] n name e lawful is = absurd (cc)
assigned_given h asks (first ∷ names) n name e lawful is =
    go (holders (db_of h) asks first) (λ m member. holders_issued h first asks m lawful member) is
    (assigned_given h asks names (n + 1) name e lawful) (assigned_given h asks names n name e lawful)
    (last_at_least (db_of h) asks names (n + 1))
  where
    new_one : (b : Bool) → cond b (Some (user_entity (n + 1))) (assigned_to (number_from (db_of h) asks names (n + 1)) name) ≡ Some e
        → (assigned_to (number_from (db_of h) asks names (n + 1)) name ≡ Some e
        → IsGiven h (n + 1) (last_number (db_of h) asks names (n + 1)) e)
        → n + 1 ≤ last_number (db_of h) asks names (n + 1) → IsGiven h n (last_number (db_of h) asks names (n + 1)) e
    new_one true is next low = new (n + 1) (omega arith) low (sym (some_is (user_entity (n + 1)) e is))
    new_one false is next low = weaker_given h n (n + 1) (last_number (db_of h) asks names (n + 1)) e (omega arith) (next is)

    old_one : (b : Bool) (o : ℕ) → is_issued h o ≡ true → cond b (Some o) (assigned_to (number_from (db_of h) asks names n) name) ≡ Some e
        → (assigned_to (number_from (db_of h) asks names n) name ≡ Some e → IsGiven h n (last_number (db_of h) asks names n) e)
        → IsGiven h n (last_number (db_of h) asks names n) e
    old_one true o held is next = issued (subst (λ x. is_issued h x ≡ true) (some_is o e is) held)
    old_one false o held is next = next is

    go : (hs : List ℕ) → ((m : ℕ) → Contains hs m → is_issued h m ≡ true)
        → assigned_to (number_next first n hs (λ next. number_from (db_of h) asks names next)) name ≡ Some e
        → (assigned_to (number_from (db_of h) asks names (n + 1)) name ≡ Some e
        → IsGiven h (n + 1) (last_number (db_of h) asks names (n + 1)) e)
        → (assigned_to (number_from (db_of h) asks names n) name ≡ Some e → IsGiven h n (last_number (db_of h) asks names n) e)
        → n + 1 ≤ last_number (db_of h) asks names (n + 1)
        → IsGiven h n (last_after hs n (λ next. last_number (db_of h) asks names next)) e
    go [] held is next same low = new_one (is_same_tempid first name) is next low
    go (o ∷ os) held is next same low = old_one (is_same_tempid first name) o (held o (first_of o os)) is same

-- ---- each new number is given to a name

-- a name to which the assignment gives the entity, before which none is the same
pub record IsGivenTo (db : Db) (asks : List Ask) (names : List Name) (n e : ℕ) : Type 0 where
  pub name : Name
  pub among : Contains names name
  pub gives : (other : Name) → is_same_tempid name other ≡ true → assigned_to (number_from db asks names n) other ≡ Some e

-- no name is the same as one before it
abbrev pub are_apart : List Name → Type 0
are_apart [] = Unit {0}
are_apart (name ∷ names) =
    ((other : Name) → Contains names other → (third : Name) → is_same_tempid other third ≡ true → is_same_tempid name third ≡ false)
    × are_apart names

pub each_given : (db : Db) (asks : List Ask) (names : List Name) (n m : ℕ) → are_apart names → n < m → m ≤ last_number db asks names n
    → IsGivenTo db asks names n (user_entity m)
each_given db asks [] n m apart above under = absurd (omega (arith, above, under))
each_given db asks (first ∷ names) n m apart above under =
    go (holders db asks first) refl under (λ a b. each_given db asks names (n + 1) m apart.1 a b)
    (λ a b. each_given db asks names n m apart.1 a b)
  where
    skip_new : (hs : holders db asks first ≡ []) → IsGivenTo db asks names (n + 1) (user_entity m)
        → IsGivenTo db asks (first ∷ names) n (user_entity m)
    skip_new hs given =
        record {
          name = given.name;
          among = later_of first given.name names given.among;
          gives = λ other same. rw hs (rw (apart.0 given.name given.among other same) (given.gives other same));
        }

    skip_old : (o : ℕ) (os : List ℕ) → holders db asks first ≡ o ∷ os → IsGivenTo db asks names n (user_entity m)
        → IsGivenTo db asks (first ∷ names) n (user_entity m)
    skip_old o os hs given =
        record {
          name = given.name;
          among = later_of first given.name names given.among;
          gives = λ other same. rw hs (rw (apart.0 given.name given.among other same) (given.gives other same));
        }

    here : holders db asks first ≡ [] → m ≡ n + 1 → IsGivenTo db asks (first ∷ names) n (user_entity m)
    here hs is =
        record {
          name = first;
          among = first_of first names;
          gives = λ other same. rw hs (rw same (ap (λ k. Some (user_entity k)) (sym is)));
        }

    go : (hs : List ℕ) → holders db asks first ≡ hs → m ≤ last_after hs n (λ next. last_number db asks names next)
        → (n + 1 < m → m ≤ last_number db asks names (n + 1) → IsGivenTo db asks names (n + 1) (user_entity m))
        → (n < m → m ≤ last_number db asks names n → IsGivenTo db asks names n (user_entity m))
        → IsGivenTo db asks (first ∷ names) n (user_entity m)
    go [] hs under next same = pick (ltb (n + 1) m) refl
      where
        pick : (b : Bool) → ltb (n + 1) m ≡ b → IsGivenTo db asks (first ∷ names) n (user_entity m)
        pick true is = skip_new hs (next (ltb-true (n + 1) m is) under)
        pick false is = here hs (is_next n m above is)
          where
            is_next : (n m : ℕ) → n < m → ltb (n + 1) m ≡ false → m ≡ n + 1
            is_next n m above is = grind (arith, nat_tests)
    go (o ∷ os) hs under next same = skip_old o os hs (same above under)

-- ---- numbers without a gap

abbrev hits : List Datom → ℕ → ℕ → ℕ
hits ds n zero = 0
hits ds n (suc k) = cond (is_asserted ds (user_entity (n + 1))) 1 0 + hits ds (n + 1) k

passed_by : (d : Datom) (ds : List Datom) (n k : ℕ) → d.e ≤ user_entity n → hits (d ∷ ds) n k ≡ hits ds n k
passed_by d ds n zero below = refl
passed_by d ds n (suc k) below = rw (other d.e n below, passed_by d ds (n + 1) k (omega (arith, below))) refl
  where
    other : (e n : ℕ) → e ≤ user_entity n → eqb e (user_entity (n + 1)) ≡ false
    other e n below = grind (arith, nat_tests)

one_more : (d : Datom) (ds : List Datom) (n k : ℕ) → hits (d ∷ ds) n k ≤ hits ds n k + 1
one_more d ds n zero = omega arith
one_more d ds n (suc k) = go (eqb d.e (user_entity (n + 1))) refl (one_more d ds (n + 1) k)
  where
    at_most_one : (b : Bool) → cond b 1 0 ≤ 1
    at_most_one true = omega arith
    at_most_one false = omega arith

    go : (b : Bool) → eqb d.e (user_entity (n + 1)) ≡ b → hits (d ∷ ds) (n + 1) k ≤ hits ds (n + 1) k + 1
        → cond ((eqb d.e (user_entity (n + 1)) && d.added) || is_asserted ds (user_entity (n + 1))) 1 0 + hits (d ∷ ds) (n + 1) k
        ≤ cond (is_asserted ds (user_entity (n + 1))) 1 0 + hits ds (n + 1) k + 1
    go true is rest = omega (
      arith,
      passed_by d ds (n + 1) k (omega (arith, eqb-true d.e (user_entity (n + 1)) is)),
      at_most_one ((eqb d.e (user_entity (n + 1)) && d.added) || is_asserted ds (user_entity (n + 1))),
    )
    go false is rest = rw is (omega (arith, rest))

hits_bound : (ds : List Datom) (n k : ℕ) → hits ds n k ≤ length ds
hits_bound [] n k = none n k
  where
    none : (n k : ℕ) → hits [] n k ≤ 0
    none n zero = omega arith
    none n (suc k) = omega (arith, none (n + 1) k)
hits_bound (d ∷ ds) n k = omega (arith, one_more d ds n k, hits_bound ds n k)

all_hit : (ds : List Datom) (n k : ℕ) → ((m : ℕ) → n < m → m ≤ n + k → is_asserted ds (user_entity m) ≡ true) → hits ds n k ≡ k
all_hit ds n zero each = refl
all_hit ds n (suc k) each =
    rw (
      each (n + 1) (omega arith) (omega arith),
      all_hit ds (n + 1) k (λ m above under. each m (omega (arith, above)) (omega (arith, under))),
    ) (omega arith)

reaches : (more ds : List Datom) (n k : ℕ) → k ≤ length more
    → ((m : ℕ) → n < m → m ≤ n + k → is_asserted ds (user_entity m) ≡ true) → n + k ≤ users_behind more ds n
reaches [] ds n k short each = omega (arith, short)
reaches (x ∷ more) ds n zero short each = omega (arith, at_least (x ∷ more) ds n)
  where
    at_least : (more ds : List Datom) (n : ℕ) → n ≤ users_behind more ds n
    at_least [] ds n = omega arith
    at_least (_ ∷ more) ds n =
        either (is_asserted ds (user_entity (n + 1))) n (users_behind more ds (n + 1)) (omega (arith, at_least more ds (n + 1)))
      where
        either : (b : Bool) (n m : ℕ) → n ≤ m → n ≤ cond b m n
        either true n m below = below
        either false n m below = omega arith
reaches (x ∷ more) ds n (suc k) short each =
    rw (each (n + 1) (omega arith) (omega arith))
    (omega (
      arith,
      reaches more ds (n + 1) k (omega (arith, short)) (λ m above under. each m (omega (arith, above)) (omega (arith, under))),
    ))

-- where each user number up to one is that of an asserted entity, the numbers behind go on that far
pub goes_on : (ds : List Datom) (n last : ℕ) → n ≤ last
    → ((m : ℕ) → n < m → m ≤ last → is_asserted ds (user_entity m) ≡ true) → last ≤ users_behind ds ds n
goes_on ds n last below each =
    omega (
      arith,
      reaches ds ds n (last - n)
          (omega (arith, hits_bound ds n (last - n), all_hit ds n (last - n) (λ m above under. each m above (omega (arith, under, below)))))
          (λ m above under. each m above (omega (arith, under, below))),
    )

-- ---- the tempids are apart

bytes_same : (s t : List ℕ) → bytes_eq s t ≡ true → s ≡ t
bytes_same s t is = (bytes_decides s t).0 is

pub is_same_tempid-true : (a b : Name) → is_same_tempid a b ≡ true → a ≡ b
is_same_tempid-true (tempid s) (tempid t) same = ap tempid (bytes_same s t same)
is_same_tempid-true (nameless s) (nameless t) same = ap nameless (bytes_same s t same)
is_same_tempid-true (tempid s) (nameless t) same = absurd (true≢false (sym same))
is_same_tempid-true (tempid s) (number z) same = absurd (true≢false (sym same))
is_same_tempid-true (tempid s) (ident k) same = absurd (true≢false (sym same))
is_same_tempid-true (tempid s) (lookup k v) same = absurd (true≢false (sym same))
is_same_tempid-true (nameless s) (tempid t) same = absurd (true≢false (sym same))
is_same_tempid-true (nameless s) (number z) same = absurd (true≢false (sym same))
is_same_tempid-true (nameless s) (ident k) same = absurd (true≢false (sym same))
is_same_tempid-true (nameless s) (lookup k v) same = absurd (true≢false (sym same))
is_same_tempid-true (number z) b same = absurd (true≢false (sym same))
is_same_tempid-true (ident k) b same = absurd (true≢false (sym same))
is_same_tempid-true (lookup k v) b same = absurd (true≢false (sym same))

-- what the walk meets first is a tempid, among the names, and not among those before
pub record IsFirstMet (before names : List Name) (name : Name) : Type 0 where
  pub among : Contains names name
  pub tempid_is : is_tempid name ≡ true
  pub not_before : is_among before name ≡ false

pub first_met : (before names : List Name) (name : Name) → Contains (met_after before names) name → IsFirstMet before names name
first_met before [] name member = absurd (not_in_none name member)
first_met before (first ∷ names) name member =
    go (is_tempid first && not (is_among before first)) refl member (first_met (first ∷ before) names name) (first_met before names name)
  where
    later : IsFirstMet before names name → IsFirstMet before (first ∷ names) name
    later is = record { among = later_of first name names is.among; tempid_is = is.tempid_is; not_before = is.not_before }

    past : IsFirstMet (first ∷ before) names name → IsFirstMet before (first ∷ names) name
    past is = record {
      among = later_of first name names is.among;
      tempid_is = is.tempid_is;
      not_before = (or_parts (is_same_tempid name first) (is_among before name) is.not_before).1;
    }

    is_not : (b : Bool) → not b ≡ true → b ≡ false
    is_not false e = refl
    is_not true e = absurd (true≢false (sym e))

    now : (is_tempid first && not (is_among before first)) ≡ true → first ≡ name → IsFirstMet before (first ∷ names) name
    now is same =
        let parts = and_parts (is_tempid first) (not (is_among before first)) is in
        subst (λ n. IsFirstMet before (first ∷ names) n) same
        (record { among = first_of first names; tempid_is = parts.0; not_before = is_not (is_among before first) parts.1 })

    go : (b : Bool) → (is_tempid first && not (is_among before first)) ≡ b
        → Contains (cond b (first ∷ met_after (first ∷ before) names) (met_after before names)) name
        → (Contains (met_after (first ∷ before) names) name → IsFirstMet (first ∷ before) names name)
        → (Contains (met_after before names) name → IsFirstMet before names name)
        → IsFirstMet before (first ∷ names) name
    go true is member more same =
        elim (which first name (met_after (first ∷ before) names) member) [ inl is_first ↦ now is is_first | inr rest ↦ past (more rest) ]
    go false is member more same = later (same member)

apart_from : (first other third : Name) → is_same_tempid other first ≡ false → is_same_tempid other third ≡ true
    → is_same_tempid first third ≡ false
apart_from first other third differs same = go (is_same_tempid first third) refl
  where
    go : (b : Bool) → is_same_tempid first third ≡ b → b ≡ false
    go false is = refl
    go true is = absurd (true≢false (sym same ∙ ap (is_same_tempid other) (sym (is_same_tempid-true first third is)) ∙ differs))

met_apart : (before names : List Name) → are_apart (met_after before names)
met_apart before [] = tt
met_apart before (first ∷ names) =
    go (is_tempid first && not (is_among before first)) (met_apart (first ∷ before) names) (met_apart before names)
  where
    go : (b : Bool) → are_apart (met_after (first ∷ before) names) → are_apart (met_after before names)
        → are_apart (cond b (first ∷ met_after (first ∷ before) names) (met_after before names))
    go true more same = (
      (λ other member third alike. apart_from first other third
          (or_parts (is_same_tempid other first) (is_among before other) (first_met (first ∷ before) names other member).not_before).0
          alike),
      more,
    )
    go false more same = same

pub tempids_apart : (asks : List Ask) → are_apart (tempids_in asks)
tempids_apart asks = met_apart [] (flat_map names_of asks)
