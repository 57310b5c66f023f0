-- What the datoms of an attribute, in the order of their entities, say of each entity.
use Rattle.std.proofs.Common.{inl, inr, ◌≡◌, ℕ, zero, suc, ◌<◌, ◌≤◌, Bool, true, false, cond, List, [], ◌∷◌, ◌++◌, length, map, get_or}
use Rattle.std.proofs.Common.{refl, sym, ap, ◌∙◌, subst, arith, Option, Some, None}
use Rattle.std.specs.Prelude.{Contains, IsTrue, All, nat_eq, is_some, take, ◌+◌}
use Rattle.std.proofs.lemmas.List.{take_more, map-append}
use Rattle.std.specs.List.{list_any}
use Rattle.std.specs.Borrow.{Bor}
use Rattle.std.specs.Prelude.{Vec}
use Rattle.std.specs.declared.alloc.Global.{Global}
use Rattle.std.specs.Ordering.{is_lt, is_eq, nat_cmp, ordering_then, ordering_reverse}
use Rattle.std.specs.Cmp.{tied_itself}
use Rattle.std.specs.Cmp.Lexicographic.{slice_cmp}
use Rattle.std.specs.FinMap.{nat_cmp-IsAntisymmetric}
use Rattle.std.specs.declared.cmp.Ordering.{Ordering}
use Rattle.std.specs.declared.cmp.Ordering.TheVariants.{Less, Equal, Greater}
use Rattle.std.proofs.lemmas.Bool.{true≢false, and_parts, and_from, or_cases, or_left, or_right, eqb-true, eqb-false, eq-eqb, cases_lt}
use Rattle.std.proofs.lemmas.List.Elements.{Contains-append_left, Contains-append_right, Contains-append_cases, Contains-get_or}
use Rattle.fb_values.specs.declared.facts.Datom.{Datom}
use Rattle.fb_values.specs.declared.facts.Entry.{Entry}
use Rattle.fb_values.specs.declared.facts.Value.{Value}
use Rattle.fb_values.specs.declared.facts.Value.TheVariants.{Ref}
use Rattle.fb_values.specs.declared.indexes.Order.{Order}
use Rattle.fb_values.specs.declared.indexes.Order.TheVariants.{Aevt}
use Rattle.fb_values.specs.Orders.{value_cmp, key_cmp, probe_cmp}
use Rattle.fb_values.specs.OrderLaws.{value_cmp_total}
use Rattle.fb_values.specs.Rising.{IsRising, IsBelowAll}
use Rattle.fb_values.proofs.Rising.{rising_from}
use Rattle.fb_model.specs.Schema.{is_about}
use Rattle.view_model.specs.Window.{Window, without_history}
use Rattle.view_model.specs.View.{InView}
use Rattle.view_model.specs.Scan.{IsScan, leading}
use Rattle.tuple_model.specs.Seen.{IsMember, AreMembers}
use Rattle.tuple_model.proofs.Members.{here, there, cases_of, none_of, map_has, map_member}
use Rattle.fb_tuples.specs.Lent.{datoms_lent, lists_lent}
use Rattle.fb_tuples.specs.Gathered.{under, AreLists, AreByEntity, IsByEntity, entities_in, first_of}

-- ---- the order of the index

pub then_rest : (o rest : Ordering) → o ≡ Equal → ordering_then o rest ≡ Less → rest ≡ Less
then_rest Less rest is less = absurd (cc)
then_rest Equal rest is less = less
then_rest Greater rest is less = absurd (cc)

above : (m n : ℕ) → n < m → nat_cmp m n ≡ Greater
above m n less = grind arith

upto : (m n : ℕ) (rest : Ordering) → ordering_then (nat_cmp m n) rest ≡ Less → m ≤ n
upto m n rest less =
    elim (cases_lt n m) [
      | inl more ↦ absurd (true≢false (sym (ap is_lt less) ∙ ap (λ o. is_lt (ordering_then o rest)) (above m n more)))
      | inr le ↦ le
    ]

of_one_attribute : (x y : Datom) → x.a ≡ y.a → key_cmp Aevt x y ≡ Less
    → slice_cmp value_cmp (Ref x.e ∷ x.v ∷ Ref x.t ∷ []) (Ref y.e ∷ y.v ∷ Ref y.t ∷ []) ≡ Less
of_one_attribute x y same less =
    then_rest (value_cmp (Ref x.a) (Ref y.a)) (slice_cmp value_cmp (Ref x.e ∷ x.v ∷ Ref x.t ∷ []) (Ref y.e ∷ y.v ∷ Ref y.t ∷ []))
    (subst (λ n. value_cmp (Ref x.a) (Ref n) ≡ Equal) same (tied_itself value_cmp_total (Ref x.a))) less

entities_rise : (x y : Datom) → x.a ≡ y.a → key_cmp Aevt x y ≡ Less → x.e ≤ y.e
entities_rise x y same less =
    upto x.e y.e (slice_cmp value_cmp (x.v ∷ Ref x.t ∷ []) (y.v ∷ Ref y.t ∷ [])) (of_one_attribute x y same less)

pub not_less_back : (v w : Value) (rest : Ordering) → ordering_then (value_cmp v w) rest ≡ Less → is_lt (value_cmp w v) ≡ false
not_less_back v w rest less = go (value_cmp v w) refl less
  where
    go : (o : Ordering) → value_cmp v w ≡ o → ordering_then o rest ≡ Less → is_lt (value_cmp w v) ≡ false
    go Less is by = ap is_lt (value_cmp_total.antisymm w v ∙ ap ordering_reverse is)
    go Equal is by = ap is_lt (value_cmp_total.antisymm w v ∙ ap ordering_reverse is)
    go Greater is by = absurd (cc)

values_rise : (x y : Datom) → x.a ≡ y.a → x.e ≡ y.e → key_cmp Aevt x y ≡ Less → is_lt (value_cmp y.v x.v) ≡ false
values_rise x y same_a same_e less =
    not_less_back x.v y.v (slice_cmp value_cmp (Ref x.t ∷ []) (Ref y.t ∷ []))
    (then_rest (value_cmp (Ref x.e) (Ref y.e)) (slice_cmp value_cmp (x.v ∷ Ref x.t ∷ []) (y.v ∷ Ref y.t ∷ []))
    (subst (λ n. value_cmp (Ref x.e) (Ref n) ≡ Equal) same_e (tied_itself value_cmp_total (Ref x.e))) (of_one_attribute x y same_a less))

pub below_member : (order : Order) (x y : Datom) (ds : List Datom) → IsBelowAll order x ds → Contains ds y → key_cmp order x y ≡ Less
below_member order x y [] below member = absurd (none_of y member)
below_member order x y (d ∷ ds) below member = elim (cases_of d y ds member) [
  | inl same ↦ subst (λ z. key_cmp order x z ≡ Less) same below.0
  | inr later ↦ below_member order x y ds below.1 later
]

-- ---- a rising list of datoms of one attribute

-- the least value of the entity in the list, or none
abbrev IsFirst : ℕ → List Datom → Option Value → Type 0
IsFirst e ds None = (d : Datom) → Contains ds d → d.e ≡ e → ⊥
IsFirst e ds (Some v) =
    ((d : Datom) × Contains ds d × (d.e ≡ e) × (d.v ≡ v)) × ((d : Datom) → Contains ds d → d.e ≡ e → is_lt (value_cmp d.v v) ≡ false)

module _ (a : ℕ) where
  value_first : (e : ℕ) (ds : List Datom) → IsRising Aevt ds → ((d : Datom) → Contains ds d → d.a ≡ a) → IsFirst e ds (first_of e ds)
  value_first e [] rising each = λ d member. absurd (none_of d member)
  value_first e (x ∷ ds) rising each =
      go (nat_eq x.e e) refl (value_first e ds rising.1 (λ d member. each d (there x d ds member)))
    where
      mine : x.e ≡ e → (d : Datom) → Contains (x ∷ ds) d → d.e ≡ e → is_lt (value_cmp d.v x.v) ≡ false
      mine same d member of = elim (cases_of x d ds member) [
        | inl is ↦ subst (λ (z : Datom). is_lt (value_cmp z.v x.v) ≡ false) is (ap is_lt (tied_itself value_cmp_total x.v))
        | inr later ↦
            values_rise x d (each x (here x ds) ∙ sym (each d (there x d ds later))) (same ∙ sym of) (below_member Aevt x d ds rising.0 later)
      ]

      later_first : (o : Option Value) → nat_eq x.e e ≡ false → IsFirst e ds o → IsFirst e (x ∷ ds) o
      later_first None apart none = λ d member of. elim (cases_of x d ds member) [
        | inl is ↦ eqb-false x.e e apart (ap (λ (z : Datom). z.e) is ∙ of)
        | inr later ↦ none d later of
      ]
      later_first (Some v) apart first = (
        (first.0.0, there x first.0.0 ds first.0.1, first.0.2, first.0.3),
        λ d member of. elim (cases_of x d ds member) [
          | inl is ↦ absurd (eqb-false x.e e apart (ap (λ (z : Datom). z.e) is ∙ of))
          | inr later ↦ first.1 d later of
        ],
      )

      go : (b : Bool) → nat_eq x.e e ≡ b → IsFirst e ds (first_of e ds) → IsFirst e (x ∷ ds) (cond b (Some x.v) (first_of e ds))
      go true is rest = let same = eqb-true x.e e is in ((x, here x ds, same, refl), mine same)
      go false is rest = later_first (first_of e ds) is rest

  by_entities : (ds : List Datom) → IsRising Aevt ds → ((d : Datom) → Contains ds d → d.a ≡ a) → AreByEntity ds
  unfolding AreByEntity
  by_entities [] rising each i j d le within = absurd (omega (arith, within))
  by_entities (x ∷ ds) rising each zero zero d le within = omega arith
  by_entities (x ∷ ds) rising each zero (suc j) d le within =
      let member = Contains-get_or ds j d (omega (arith, within)) in
      entities_rise x (get_or ds j d) (each x (here x ds) ∙ sym (each (get_or ds j d) (there x (get_or ds j d) ds member)))
      (below_member Aevt x (get_or ds j d) ds rising.0 member)
  by_entities (x ∷ ds) rising each (suc i) zero d le within = absurd (omega (arith, le))
  by_entities (x ∷ ds) rising each (suc i) (suc j) d le within =
      by_entities ds rising.1 (λ y member. each y (there x y ds member)) i j d (omega (arith, le)) (omega (arith, within))

-- ---- the scan of an attribute

nothing_then : (o : Ordering) → is_eq (ordering_then o Equal) ≡ is_eq o
nothing_then Less = refl
nothing_then Equal = refl
nothing_then Greater = refl

is_tied : (o : Ordering) → is_eq o ≡ true → o ≡ Equal
is_tied Less is = absurd (true≢false (sym is))
is_tied Equal is = refl
is_tied Greater is = absurd (true≢false (sym is))

under_itself : (a : ℕ) (d : Datom) → is_eq (probe_cmp (under a) d) ≡ is_eq (value_cmp (Ref a) (Ref d.a))
under_itself a d = nothing_then (value_cmp (Ref a) (Ref d.a))

led_by : (a : ℕ) (d : Datom) → is_eq (probe_cmp (under a) d) ≡ true → d.a ≡ a
led_by a d led =
    sym (nat_cmp-IsAntisymmetric a d.a (then_nothing (nat_cmp a d.a) (is_tied (value_cmp (Ref a) (Ref d.a)) (sym (under_itself a d) ∙ led))))
  where
    then_nothing : (o : Ordering) → o ≡ Equal → o ≡ Equal
    then_nothing o is = is

pub leads : (a : ℕ) (d : Datom) → d.a ≡ a → is_eq (probe_cmp (under a) d) ≡ true
leads a d same =
    under_itself a d ∙ ap is_eq (subst (λ n. value_cmp (Ref a) (Ref n) ≡ Equal) (sym same) (tied_itself value_cmp_total (Ref a)))

module _ (h : List Entry) (w : Window) (Selects : Datom → Type 0) where
  all_under : (a : ℕ) (ds : List Datom) → IsScan h w Selects Aevt (leading (under a)) ds → (d : Datom) → Contains ds d → d.a ≡ a
  all_under a ds scan d member = led_by a d ((scan.members d).0 member).1

  -- each list is in the order of its entities
  pub each_by_entity : (attrs : List ℕ) (lists : List (Vec (Bor Datom) Global)) → AreLists h w Selects attrs (lists_lent lists)
      → All IsByEntity lists
  each_by_entity attrs [] are k d within = absurd (omega (arith, within))
  each_by_entity [] (list ∷ lists) are k d within = absurd are
  each_by_entity (a ∷ attrs) (list ∷ lists) are zero d within =
      by_entities a (datoms_lent list.items) (rising_from Aevt (datoms_lent list.items) are.0.rising)
      (all_under a (datoms_lent list.items) are.0)
  each_by_entity (a ∷ attrs) (list ∷ lists) are (suc k) d within = each_by_entity attrs lists are.1 k d (omega (arith, within))

module _ (h : List Entry) (w : Window) (Selects : Datom → Type 0) where
  member_listed : (e a : ℕ) (ds : List Datom) → IsScan h (without_history w) Selects Aevt (leading (under a)) ds
      → IsMember h w Selects e a (first_of e ds)
  member_listed e a ds scan =
      go (first_of e ds)
      (value_first a e ds (rising_from Aevt ds scan.rising) (all_under h (without_history w) Selects a ds scan))
    where
      listed : (d : Datom) → InView h (without_history w) Selects d → IsTrue (is_about e a d) → Contains ds d × (d.e ≡ e)
      listed d seen about =
          let parts = and_parts (nat_eq d.e e) (nat_eq d.a a) about in
          ((scan.members d).1 (seen, leads a d (eqb-true d.a a parts.1)), eqb-true d.e e parts.0)

      go : (o : Option Value) → IsFirst e ds o → IsMember h w Selects e a o
      go None none = λ d seen about. let is = listed d seen about in none d is.0 is.1
      go (Some v) first =
          let seen = (scan.members first.0.0).0 first.0.1 in
          let about = and_from _ _ (eq-eqb first.0.0.e e first.0.2) (eq-eqb first.0.0.a a (led_by a first.0.0 seen.1)) in
          ((first.0.0, seen.0, about, first.0.3), λ d also on. let is = listed d also on in first.1 d is.0 is.1)

  pub members_listed : (e : ℕ) (attrs : List ℕ) (lists : List (List Datom)) → AreLists h (without_history w) Selects attrs lists
      → AreMembers h w Selects e attrs (map (first_of e) lists)
  members_listed e [] [] are = tt
  members_listed e [] (ds ∷ lists) are = absurd are
  members_listed e (a ∷ attrs) [] are = absurd are
  members_listed e (a ∷ attrs) (ds ∷ lists) are = (member_listed e a ds are.0, members_listed e attrs lists are.1)

-- ---- the entities of the lists are those that have some value

has_first : (e : ℕ) (ds : List Datom) (d : Datom) → Contains ds d → d.e ≡ e → is_some (first_of e ds) ≡ true
has_first e [] d member of = absurd (none_of d member)
has_first e (x ∷ ds) d member of = go (nat_eq x.e e) refl (λ later. has_first e ds d later of)
  where
    go : (b : Bool) → nat_eq x.e e ≡ b → (Contains ds d → is_some (first_of e ds) ≡ true)
        → is_some (cond b (Some x.v) (first_of e ds)) ≡ true
    go true is next = refl
    go false is next = elim (cases_of x d ds member) [
      | inl same ↦ absurd (eqb-false x.e e is (ap (λ (z : Datom). z.e) same ∙ of))
      | inr later ↦ next later
    ]

first_has : (e : ℕ) (ds : List Datom) → is_some (first_of e ds) ≡ true → (d : Datom) × Contains ds d × (d.e ≡ e)
first_has e [] some = absurd (true≢false (sym some))
first_has e (x ∷ ds) some = go (nat_eq x.e e) refl (first_has e ds) some
  where
    go : (b : Bool) → nat_eq x.e e ≡ b → (is_some (first_of e ds) ≡ true → (d : Datom) × Contains ds d × (d.e ≡ e))
        → is_some (cond b (Some x.v) (first_of e ds)) ≡ true → (d : Datom) × Contains (x ∷ ds) d × (d.e ≡ e)
    go true is next has = (x, here x ds, eqb-true x.e e is)
    go false is next has = let rest = next has in (rest.0, there x rest.0 ds rest.1, rest.2)

pub entity_has : (e : ℕ) (lists : List (List Datom)) → Contains (entities_in lists) e → list_any is_some (map (first_of e) lists) ≡ true
entity_has e [] member = absurd (none_of e member)
entity_has e (ds ∷ lists) member =
    let first = is_some (first_of e ds) in
    let rest = list_any is_some (map (first_of e) lists) in
    elim (Contains-append_cases (map (λ d. d.e) ds) (entities_in lists) e member) [
      | inl mine ↦ let from = map_member (λ (d : Datom). d.e) ds e mine in or_left first rest (has_first e ds from.0 from.1 from.2)
      | inr later ↦ or_right first rest (entity_has e lists later)
    ]

pub has_entity : (e : ℕ) (lists : List (List Datom)) → list_any is_some (map (first_of e) lists) ≡ true → Contains (entities_in lists) e
has_entity e [] some = absurd (true≢false (sym some))
has_entity e (ds ∷ lists) some = elim (or_cases (is_some (first_of e ds)) (list_any is_some (map (first_of e) lists)) some) [
  | inl first ↦
      let from = first_has e ds first in
      Contains-append_left (map (λ d. d.e) ds) (entities_in lists) e
      (subst (Contains (map (λ (d : Datom). d.e) ds)) from.2 (map_has (λ (d : Datom). d.e) ds from.0 from.1))
  | inr later ↦ Contains-append_right (map (λ d. d.e) ds) (entities_in lists) e (has_entity e lists later)
]

-- ---- one list more

pub lists_more : (h : List Entry) (w : Window) (Selects : Datom → Type 0) (attrs : List ℕ) (a : ℕ) (lists : List (List Datom)) (ds : List Datom)
    → AreLists h w Selects attrs lists → IsScan h w Selects Aevt (leading (under a)) ds
    → AreLists h w Selects (attrs ++ a ∷ []) (lists ++ ds ∷ [])
lists_more h w Selects [] a [] ds are scan = (scan, tt)
lists_more h w Selects [] a (other ∷ lists) ds are scan = absurd are
lists_more h w Selects (b ∷ attrs) a [] ds are scan = absurd are
lists_more h w Selects (b ∷ attrs) a (other ∷ lists) ds are scan = (are.0, lists_more h w Selects attrs a lists ds are.1 scan)

pub lists_next : (h : List Entry) (w : Window) (Selects : Datom → Type 0) (attrs : List ℕ) (i a : ℕ)
    (lists pushed : List (Vec (Bor Datom) Global)) (list : Vec (Bor Datom) Global)
    → i < length attrs → a ≡ get_or attrs i a → AreLists h w Selects (take i attrs) (lists_lent lists)
    → IsScan h w Selects Aevt (leading (under a)) (datoms_lent list.items) → pushed ≡ lists ++ list ∷ []
    → AreLists h w Selects (take (i + 1) attrs) (lists_lent pushed)
lists_next h w Selects attrs i a lists pushed list within at are scan is =
    let more = lists_more h w Selects (take i attrs) a (lists_lent lists) (datoms_lent list.items) are scan in
    let same_attrs : take i attrs ++ a ∷ [] ≡ take (i + 1) attrs =
    ap (λ n. take i attrs ++ n ∷ []) at ∙ sym (take_more attrs i a within) in
    let same_lists : lists_lent lists ++ datoms_lent list.items ∷ [] ≡ lists_lent pushed =
    sym (map-append (λ (l : Vec (Bor Datom) Global). datoms_lent l.items) lists (list ∷ [])) ∙ ap lists_lent (sym is) in
    subst (λ l. AreLists h w Selects (take (i + 1) attrs) l) same_lists
    (subst (λ l. AreLists h w Selects l (lists_lent lists ++ datoms_lent list.items ∷ [])) same_attrs more)
