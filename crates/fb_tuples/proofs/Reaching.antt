-- The first value of each tuple in a range whose start begins with a value is reached from there.
use Rattle.std.proofs.Common.{◌≡◌, ℕ, ◌<◌, ◌+◌, true, not, ◌&&◌, List, [], ◌∷◌, ◌++◌, length, get_or, take, option_map, map, refl, sym, ap, ◌∙◌, subst, arith, Option, Some, None}
use Rattle.std.specs.Prelude.{◌↔◌, Contains, is_some, nat_eq, slice_get, Result, Ok, Err, IfOk}
use Rattle.std.specs.List.Sorted.{IsStrictlyIncreasing}
use Rattle.std.specs.List.{list_any}
use Rattle.std.specs.Option.{option_map_or}
use Rattle.std.specs.Ordering.{is_lt, ordering_then, ordering_reverse}
use Rattle.std.specs.declared.cmp.Ordering.{Ordering}
use Rattle.std.specs.declared.cmp.Ordering.TheVariants.{Less, Equal, Greater}
use Rattle.std.proofs.lemmas.Bool.{true≢false, and_parts, and_from, eqb-true}
use Rattle.fb_values.specs.Orders.{value_cmp}
use Rattle.fb_values.specs.OrderLaws.{value_cmp_total}
use Rattle.fb_values.specs.declared.facts.Datom.{Datom}
use Rattle.fb_values.specs.declared.facts.Entry.{Entry}
use Rattle.fb_values.specs.declared.facts.Value.{Value}
use Rattle.view_model.specs.Window.{Window, without_history}
use Rattle.tuple_model.specs.Tuples.{Tuple, Row, tuple_cmp, is_in_range}
use Rattle.tuple_model.specs.Seen.{IsMember, AreMembers, IsTupleIn}
use Rattle.tuple_model.proofs.Members.{map_has, map_member, none_of}
use Rattle.tuple_model.proofs.SeenRows.{one_tuple}
use Rattle.std.specs.Borrow.{Bor}
use Rattle.std.proofs.lemmas.List.{take_more, map-append}
use Rattle.fb_tuples.specs.Lent.{tuple_lent}
use Rattle.fb_tuples.specs.Reached.{HasRange, HasReached, HasReachedRows, is_reached, first_member}

-- ---- the first values

not_below : (o rest : Ordering) → not (is_lt (ordering_then o rest)) ≡ true → not (is_lt o) ≡ true
not_below Less rest is = is
not_below Equal rest is = refl
not_below Greater rest is = refl

not_over : (o rest : Ordering) → is_lt (ordering_then o rest) ≡ true → not (is_lt (ordering_reverse o)) ≡ true
not_over Less rest is = refl
not_over Equal rest is = refl
not_over Greater rest is = absurd (true≢false (sym is))

module _ (least : Value) (more : Tuple) where
  from_start : (m : Option Value) (ms : Tuple) → not (is_lt (tuple_cmp (m ∷ ms) (Some least ∷ more))) ≡ true
      → (v : Value) × (m ≡ Some v) × (not (is_lt (value_cmp v least)) ≡ true)
  from_start None ms from = absurd (true≢false (sym from))
  from_start (Some v) ms from = (v, refl, not_below (value_cmp v least) (tuple_cmp ms more) from)

-- what is below an end that begins with a value has no greater first value
upto_end : (end : Option Tuple) (v : Value) (ms : Tuple) → option_map_or (λ bound. is_lt (tuple_cmp (Some v ∷ ms) bound)) end true ≡ true
    → (greatest : Option Value) → greatest ≡ option_map_or first_member end None
    → option_map_or (λ w. not (is_lt (value_cmp w v))) greatest true ≡ true
upto_end None v ms below greatest is = rw is refl
upto_end (Some []) v ms below greatest is = rw is refl
upto_end (Some (None ∷ bound)) v ms below greatest is = rw is refl
upto_end (Some (Some w ∷ bound)) v ms below greatest is =
    rw is
    (ap (λ o. not (is_lt o)) (value_cmp_total.antisymm w v)
    ∙ not_over (value_cmp v w) (tuple_cmp ms bound) below)

-- nothing that begins with a value is below an end that does not
none_below : (end : Tuple) → first_member end ≡ None → (v : Value) (ms : Tuple) → is_lt (tuple_cmp (Some v ∷ ms) end) ≡ true → ⊥
none_below [] is v ms below = true≢false (sym below)
none_below (None ∷ end) is v ms below = true≢false (sym below)
none_below (Some w ∷ end) is v ms below = absurd (cc)

-- a bound that begins with a value
pub begins : (o : Option Tuple) (v : Value) → Some v ≡ option_map_or first_member o None
    → (bound : Tuple) × (o ≡ Some bound) × (first_member bound ≡ Some v)
begins None v is = absurd (cc)
begins (Some bound) v is = (bound, refl, sym is)

-- a list with a first element
pub has_head : {X : Type 0} (xs : List X) (x : X) → slice_get xs 0 ≡ Some x → (rest : List X) × (xs ≡ x ∷ rest)
has_head {X = X} [] x is = absurd (cc)
has_head {X = X} (y ∷ xs) x is = (xs, ap (λ z. z ∷ xs) (one_some y x is))
  where
    one_some : (u w : X) → Some u ≡ Some w → u ≡ w
    one_some u w same = cc

-- ---- rows

module _ (h : List Entry) (w : Window) (Selects : Datom → Type 0) (a : ℕ) (attrs : List ℕ) (least : Value) (more : Tuple)
    (end : Option Tuple) where
  starts : (row : Row) → AreMembers h w Selects row.e (a ∷ attrs) row.tuple → is_in_range (Some (Some least ∷ more)) end row ≡ true
      → (v : Value) × (ms : Tuple) × (row.tuple ≡ Some v ∷ ms) × IsMember h w Selects row.e a (Some v)
      × (not (is_lt (value_cmp v least)) ≡ true)
      × (option_map_or (λ bound. is_lt (tuple_cmp (Some v ∷ ms) bound)) end true ≡ true)
  starts row members inside = go row.tuple members refl inside
    where
      go : (tuple : Tuple) → AreMembers h w Selects row.e (a ∷ attrs) tuple → row.tuple ≡ tuple
          → (not (is_lt (tuple_cmp tuple (Some least ∷ more))) && option_map_or (λ bound. is_lt (tuple_cmp tuple bound)) end true) ≡ true
          → (v : Value) × (ms : Tuple) × (row.tuple ≡ Some v ∷ ms) × IsMember h w Selects row.e a (Some v)
          × (not (is_lt (value_cmp v least)) ≡ true)
          × (option_map_or (λ bound. is_lt (tuple_cmp (Some v ∷ ms) bound)) end true ≡ true)
      go [] are is both = absurd are
      go (None ∷ ms) are is both =
          let parts = and_parts (not (is_lt (tuple_cmp (None ∷ ms) (Some least ∷ more)))) (option_map_or (λ bound. is_lt (tuple_cmp (None ∷ ms) bound)) end true) both in
          absurd (true≢false (sym parts.0))
      go (Some v ∷ ms) are is both =
          let parts = and_parts (not (is_lt (tuple_cmp (Some v ∷ ms) (Some least ∷ more)))) (option_map_or (λ bound. is_lt (tuple_cmp (Some v ∷ ms) bound)) end true) both in
          (v, ms, is, are.0, not_below (value_cmp v least) (tuple_cmp ms more) parts.0, parts.1)

  pub range_reached : (greatest : Option Value) → greatest ≡ option_map_or first_member end None → (rows : List Row)
      → HasReachedRows h w Selects (a ∷ attrs) a least greatest rows
      → HasRange h w Selects (a ∷ attrs) (Some (Some least ∷ more)) end rows
  range_reached greatest is rows has = record {
    apart = has.apart;
    members = λ row inside. (λ member. tuple row inside (has.members row member), λ told. there row inside told);
  }
    where
      tuple : (row : Row) → is_in_range (Some (Some least ∷ more)) end row ≡ true → AreMembers h w Selects row.e (a ∷ attrs) row.tuple
          → IsTupleIn h w Selects (a ∷ attrs) row
      tuple row inside members =
          let first = starts row members inside in
          record { members = members; some = ap (list_any is_some) first.2 }

      there : (row : Row) → is_in_range (Some (Some least ∷ more)) end row ≡ true → IsTupleIn h w Selects (a ∷ attrs) row → Contains rows row
      there row inside told =
          let first = starts row told.members inside in
          let d = first.3.0.0 in
          let seen = first.3.0.1 in
          let on = and_parts (nat_eq d.e row.e) (nat_eq d.a a) first.3.0.2 in
          let reach = subst (λ v. is_reached least greatest v ≡ true) (sym first.3.0.3)
          (and_from _ _ first.4 (upto_end end first.0 first.1 first.5 greatest is)) in
          let from = map_member (λ (r : Row). r.e) rows d.e (has.reached d seen (eqb-true d.a a on.1) reach) in
          let same_e : from.0.e ≡ row.e = from.2 ∙ eqb-true d.e row.e on.0 in
          let same_tuple : from.0.tuple ≡ row.tuple =
          one_tuple h w Selects row.e (a ∷ attrs) from.0.tuple row.tuple
          (subst (λ e. AreMembers h w Selects e (a ∷ attrs) from.0.tuple) same_e (has.members from.0 from.1)) told.members in
          subst (Contains rows) (λ i. record { tuple = same_tuple i; e = same_e i }) from.1

  -- where the end begins with no value, nothing is in the range
  pub range_empty : (bound : Tuple) → end ≡ Some bound → first_member bound ≡ None
      → HasRange h w Selects (a ∷ attrs) (Some (Some least ∷ more)) end []
  range_empty bound is none = record {
    apart = λ k within. absurd (omega (arith, within));
    members = λ row inside. (
      λ member. absurd (none_of row member),
      λ told.
          let first = starts row told.members inside in
          absurd (none_below bound none first.0 first.1
          (subst (λ (o : Option Tuple). option_map_or (λ b. is_lt (tuple_cmp (Some first.0 ∷ first.1) b)) o true ≡ true) is first.5)),
    );
  }

-- ---- the same of any attributes and any start that begin so

module _ (h : List Entry) (w : Window) (Selects : Datom → Type 0) (attrs : List ℕ) (a : ℕ) (first : slice_get attrs 0 ≡ Some a)
    (least : Value) (start : Tuple) (starts_with : first_member start ≡ Some least) where
  start_is : (more : Tuple) × (start ≡ Some least ∷ more)
  start_is = go start starts_with
    where
      go : (bound : Tuple) → first_member bound ≡ Some least → (more : Tuple) × (bound ≡ Some least ∷ more)
      go [] is = absurd (cc)
      go (m ∷ ms) is = (ms, ap (λ n. n ∷ ms) is)

  pub reached_range : (end : Option Tuple) (greatest : Option Value) → greatest ≡ option_map_or first_member end None → (rows : List Row)
      → HasReachedRows h w Selects attrs a least greatest rows → HasRange h w Selects attrs (Some start) end rows
  reached_range end greatest is rows has =
      let rest = has_head attrs a first in
      subst (λ l. HasRange h w Selects l (Some start) end rows) (sym rest.1)
      (subst (λ b. HasRange h w Selects (a ∷ rest.0) (Some b) end rows) (sym start_is.1)
      (range_reached h w Selects a rest.0 least start_is.0 end greatest is rows
      (subst (λ l. HasReachedRows h w Selects l a least greatest rows) rest.1 has)))

  pub empty_range : (bound : Tuple) → first_member bound ≡ None → HasRange h w Selects attrs (Some start) (Some bound) []
  empty_range bound none =
      let rest = has_head attrs a first in
      subst (λ l. HasRange h w Selects l (Some start) (Some bound) []) (sym rest.1)
      (subst (λ b. HasRange h w Selects (a ∷ rest.0) (Some b) (Some bound) []) (sym start_is.1)
      (range_empty h w Selects a rest.0 least start_is.0 (Some bound) bound refl none))

-- ---- the rows of entities with a value that is reached

pub both_ok : {X Y : Type 0} (r : Result X Y) (P Q : X → Type 0) → IfOk r P → IfOk r Q → IfOk r (λ x. P x × Q x)
both_ok (Ok x) P Q first second = (first, second)
both_ok (Err e) P Q first second = tt

map_twice : {A B C : Type 0} (g : B → C) (f : A → B) (xs : List A) → map g (map f xs) ≡ map (λ x. g (f x)) xs
map_twice g f [] = refl
map_twice g f (x ∷ xs) = ap (λ l. g (f x) ∷ l) (map_twice g f xs)

module _ (h : List Entry) (w : Window) (Selects : Datom → Type 0) (attrs : List ℕ) (a : ℕ) (least : Value) (greatest : Option Value) where
  pub rows_reached : {A : Type 0} (f : A → Row) (xs : List A) (ds : List Datom) (es : List ℕ)
      → HasReached h (without_history w) Selects a least greatest ds → IsStrictlyIncreasing es
      → ((e : ℕ) → Contains (map (λ d. d.e) ds) e ↔ Contains es e) → map (λ x. (f x).e) xs ≡ es
      → ((x : A) → Contains xs x → AreMembers h w Selects (f x).e attrs (f x).tuple)
      → HasReachedRows h w Selects attrs a least greatest (map f xs)
  rows_reached f xs ds es has rising entities are each =
      let are_of : map (λ row. row.e) (map f xs) ≡ es = map_twice (λ (row : Row). row.e) f xs ∙ are in
      record {
        apart = subst IsStrictlyIncreasing (sym are_of) rising;
        members = λ row member.
            let from = map_member f xs row member in
            subst (λ (r : Row). AreMembers h w Selects r.e attrs r.tuple) from.2 (each from.0 from.1);
        reached = λ d seen same reach.
            subst (λ l. Contains l d.e) (sym are_of) ((entities d.e).0 (map_has (λ (x : Datom). x.e) ds d (has d seen same reach)));
      }

-- ---- one member more

members_more : (h : List Entry) (w : Window) (Selects : Datom → Type 0) (e : ℕ) (attrs : List ℕ) (a : ℕ) (ms : Tuple) (m : Option Value)
    → AreMembers h w Selects e attrs ms → IsMember h w Selects e a m → AreMembers h w Selects e (attrs ++ a ∷ []) (ms ++ m ∷ [])
members_more h w Selects e [] a [] m are is = (is, tt)
members_more h w Selects e [] a (n ∷ ms) m are is = absurd are
members_more h w Selects e (b ∷ attrs) a [] m are is = absurd are
members_more h w Selects e (b ∷ attrs) a (n ∷ ms) m are is = (are.0, members_more h w Selects e attrs a ms m are.1 is)

pub members_next : (h : List Entry) (w : Window) (Selects : Datom → Type 0) (e : ℕ) (attrs : List ℕ) (i a : ℕ)
    (ms pushed : List (Option (Bor Value))) (m : Option (Bor Value)) → i < length attrs → a ≡ get_or attrs i a
    → AreMembers h w Selects e (take i attrs) (tuple_lent ms) → IsMember h w Selects e a (option_map (λ v. v.now) m)
    → pushed ≡ ms ++ m ∷ [] → AreMembers h w Selects e (take (i + 1) attrs) (tuple_lent pushed)
members_next h w Selects e attrs i a ms pushed m within at are member is =
    let more = members_more h w Selects e (take i attrs) a (tuple_lent ms) (option_map (λ v. v.now) m) are member in
    let same_attrs : take i attrs ++ a ∷ [] ≡ take (i + 1) attrs =
    ap (λ n. take i attrs ++ n ∷ []) at ∙ sym (take_more attrs i a within) in
    let same_tuple : tuple_lent ms ++ option_map (λ v. v.now) m ∷ [] ≡ tuple_lent pushed =
    sym (map-append (option_map (λ v. v.now)) ms (m ∷ [])) ∙ ap tuple_lent (sym is) in
    subst (λ l. AreMembers h w Selects e (take (i + 1) attrs) l) same_tuple
    (subst (λ l. AreMembers h w Selects e l (tuple_lent ms ++ option_map (λ v. v.now) m ∷ [])) same_attrs more)
