-- The changes of the triples are those of the transaction.
use Rattle.std.proofs.Common.{◌≡◌, ℕ, ◌+◌, Bool, true, false, cond, not, ◌&&◌, ◌||◌, List, [], ◌∷◌, ◌++◌, map, refl, ap, sym, ◌∙◌, subst}
use Rattle.std.proofs.Common.{inl, inr, ◌⊎◌}
use Rattle.std.specs.Prelude.{nat_eq, filter, flat_map, is_some, Contains, Some}
use Rattle.std.specs.List.{list_any}
use Rattle.std.specs.Ordering.{is_lt, nat_cmp, ordering_then}
use Rattle.std.specs.declared.cmp.Ordering.{Ordering}
use Rattle.std.specs.declared.cmp.Ordering.TheVariants.{Less, Equal, Greater}
use Rattle.std.proofs.lemmas.Bool.{true≢false, and_parts, and_from, or_cases, or_left, or_right, eqb-true}
use Rattle.std.proofs.lemmas.List.Folds.{list_any-append}
use Rattle.std.proofs.lemmas.List.Elements.{All-contains, Contains-append_left, Contains-append_right, Contains-append_cases}
use Rattle.fb_values.specs.declared.facts.Datom.{Datom}
use Rattle.fb_values.specs.declared.facts.Value.{Value}
use Rattle.fb_values.specs.declared.indexes.Order.TheVariants.{Eavt}
use Rattle.fb_values.specs.Orders.{key_cmp, value_cmp}
use Rattle.fb_values.specs.Rising.{rises}
use Rattle.fb_model.specs.History.{basis, said}
use Rattle.fb_model.specs.Rising.{in_order}
use Rattle.fb_model.specs.Facts.{is_of, value_eq, holds_after}
use Rattle.fb_model.proofs.Members.{kept, keep, in_order-rises, in_order_member}
use Rattle.fb_model.proofs.InOrder.{one_rising_list, in_order_has}
use Rattle.fb_model.proofs.Triples.{is_of-true, value_eq-true}
use Rattle.tx_model.specs.Asks.{Name, Ask, adds, retracts, retracts_all, compares, retracts_entity, meets, mentions, lacks_id}
use Rattle.tx_model.specs.Tempids.{Db}
use Rattle.tx_model.specs.Changes.{additions, retractions, sweeps, implied}
use Rattle.tx_model.specs.Step.{first_yes}
use Rattle.tx_model.specs.Transaction as model
use Rattle.tx_model.specs.Transaction.{Transaction, joined, with_names}
use Rattle.tx_model.proofs.Lists.{first_of, later_of, which, not_in_none, comes_from, image_of, has_image}
use Rattle.tx_model.proofs.Changed.{made_of, IsWithdrawn, sweep_withdrawn, implied_withdrawn}
use Rattle.tx_model.proofs.Recorded.{one_change}
use Rattle.tx_asks.specs.declared.triples.Triple.{Triple}
use Rattle.tx_asks.specs.Triples.{first_asking, is_triple, is_below, rise, is_asked, IsExact, AreTriples}
use Rattle.tx_sweep.proofs.Members.{any_of, some_of}
use Rattle.tx_sweep.proofs.Sweeping.{is_of-itself}
use Rattle.tx_changes.specs.Recorded.{datom_of, is_change}
use Rattle.tx_changes.proofs.Folds.{triple_cmp_total}

-- ---- the datoms rise

less : (r : Ordering) → is_lt r ≡ true → r ≡ Less
less Less is = refl
less Equal is = absurd (true≢false (sym is))
less Greater is = absurd (true≢false (sym is))

below_chain : (x y z : Triple) → is_below x y ≡ true → is_below y z ≡ true → is_below x z ≡ true
below_chain x y z p q = ap is_lt (triple_cmp_total.trans x y z (less _ p) (less _ q))

first_below : (x : Triple) (xs : List Triple) (z : Triple) → rise (x ∷ xs) ≡ true → Contains xs z → is_below x z ≡ true
first_below x [] z rising among = absurd (not_in_none z among)
first_below x (y ∷ xs) z rising among =
    let parts = and_parts (is_below x y) (rise (y ∷ xs)) rising in
    elim (which y z xs among) [
      | inl same ↦ subst (λ u. is_below x u ≡ true) same parts.0
      | inr later ↦ below_chain x y z parts.0 (first_below y xs z parts.1 later)
    ]

rest_rises : (x : Triple) (xs : List Triple) → rise (x ∷ xs) ≡ true → rise xs ≡ true
rest_rises x [] rising = refl
rest_rises x (y ∷ xs) rising = (and_parts (is_below x y) (rise (y ∷ xs)) rising).1

then_more : (p q r s : Ordering) → is_lt (ordering_then (ordering_then p q) r) ≡ true
    → is_lt (ordering_then p (ordering_then q (ordering_then r s))) ≡ true
then_more Less q r s is = refl
then_more Greater q r s is = absurd (true≢false (sym is))
then_more Equal Less r s is = refl
then_more Equal Greater r s is = absurd (true≢false (sym is))
then_more Equal Equal Less s is = refl
then_more Equal Equal Equal s is = absurd (true≢false (sym is))
then_more Equal Equal Greater s is = absurd (true≢false (sym is))

datoms_below : (t : ℕ) (x y : Triple) → is_below x y ≡ true → is_lt (key_cmp Eavt (datom_of t x) (datom_of t y)) ≡ true
datoms_below t x y below = then_more (nat_cmp x.e y.e) (nat_cmp x.a y.a) (value_cmp x.v y.v) _ below

record IsKept (p : Triple → Bool) (xs : List Triple) (x : Triple) : Type 0 where
  among : Contains xs x
  passes : p x ≡ true

kept_triple : (p : Triple → Bool) (xs : List Triple) (x : Triple) → Contains (filter p xs) x → IsKept p xs x
kept_triple p [] x among = absurd (not_in_none x among)
kept_triple p (y ∷ xs) x among = go (p y) refl (kept_triple p xs x) among
  where
    later : IsKept p xs x → IsKept p (y ∷ xs) x
    later is = record { among = later_of y x xs is.among; passes = is.passes }

    go : (b : Bool) → p y ≡ b → (Contains (filter p xs) x → IsKept p xs x) → Contains (cond b (y ∷ filter p xs) (filter p xs)) x
        → IsKept p (y ∷ xs) x
    go false is next member = later (next member)
    go true is next member =
        elim (which y x (filter p xs) member) [
          | inl same ↦ record { among = subst (λ u. Contains (y ∷ xs) u) same (first_of y xs); passes = subst (λ u. p u ≡ true) same is }
          | inr more ↦ later (next more)
        ]

keep_triple : (p : Triple → Bool) (xs : List Triple) (x : Triple) → Contains xs x → p x ≡ true → Contains (filter p xs) x
keep_triple p [] x among pass = absurd (not_in_none x among)
keep_triple p (y ∷ xs) x among pass = go (p y) refl (which y x xs among) (λ later. keep_triple p xs x later pass)
  where
    go : (b : Bool) → p y ≡ b → (y ≡ x) ⊎ Contains xs x → (Contains xs x → Contains (filter p xs) x)
        → Contains (cond b (y ∷ filter p xs) (filter p xs)) x
    go true is (inl same) next = subst (λ u. Contains (u ∷ filter p xs) x) (sym same) (first_of x (filter p xs))
    go true is (inr later) next = later_of y x (filter p xs) (next later)
    go false is (inl same) next = absurd (true≢false (sym pass ∙ ap p (sym same) ∙ is))
    go false is (inr later) next = next later

rises-lead : (d : Datom) (ds : List Datom) → ((y : Datom) → Contains ds y → is_lt (key_cmp Eavt d y) ≡ true) → rises Eavt ds ≡ true
    → rises Eavt (d ∷ ds) ≡ true
rises-lead d [] least rising = refl
rises-lead d (y ∷ ds) least rising = and_from _ _ (least y (first_of y ds)) rising

changes_rise : (t : ℕ) (xs : List Triple) → rise xs ≡ true → rises Eavt (map (datom_of t) (filter is_change xs)) ≡ true
changes_rise t [] rising = refl
changes_rise t (x ∷ xs) rising = go (is_change x) (changes_rise t xs (rest_rises x xs rising))
  where
    least : (y : Datom) → Contains (map (datom_of t) (filter is_change xs)) y → is_lt (key_cmp Eavt (datom_of t x) y) ≡ true
    least y among =
        let image = image_of (datom_of t) (filter is_change xs) y among in
        subst (λ u. is_lt (key_cmp Eavt (datom_of t x) u) ≡ true) image.image_is
        (datoms_below t x image.original
        (first_below x xs image.original rising (kept_triple is_change xs image.original image.among).among))

    go : (b : Bool) → rises Eavt (map (datom_of t) (filter is_change xs)) ≡ true
        → rises Eavt (map (datom_of t) (cond b (x ∷ filter is_change xs) (filter is_change xs))) ≡ true
    go true rest = rises-lead (datom_of t x) (map (datom_of t) (filter is_change xs)) least rest
    go false rest = rest

-- ---- what is asked

-- a datom of the transaction, to be added or not
record IsOwn (db : Db) (added : Bool) (d : Datom) : Type 0 where
  t_is : d.t ≡ basis db.history + 1
  added_is : d.added ≡ added

own_withdrawn : (db : Db) (d : Datom) → IsWithdrawn db d → IsOwn db false d
own_withdrawn db d is = record { t_is = sym (ap (λ (x : Datom). x.t) is.is); added_is = sym (ap (λ (x : Datom). x.added) is.is) }

own_addition : (db : Db) (names : List (Name × ℕ)) (ask : Ask) (d : Datom) → Contains (additions db names ask) d → IsOwn db true d
own_addition db names (adds name k part) d member =
    let made = made_of db names true name k part d member in record { t_is = made.t_is; added_is = made.added_is }
own_addition db names (compares name k old new) d member =
    let made = made_of db names true name k new d member in record { t_is = made.t_is; added_is = made.added_is }
own_addition db names (retracts name k part) d member = absurd (not_in_none d member)
own_addition db names (retracts_all name k) d member = absurd (not_in_none d member)
own_addition db names (retracts_entity name) d member = absurd (not_in_none d member)
own_addition db names (meets name) d member = absurd (not_in_none d member)
own_addition db names (mentions k) d member = absurd (not_in_none d member)
own_addition db names lacks_id d member = absurd (not_in_none d member)

own_retraction : (db : Db) (names : List (Name × ℕ)) (ask : Ask) (d : Datom) → Contains (retractions db names ask) d → IsOwn db false d
own_retraction db names (retracts name k part) d member =
    let made = made_of db names false name k part d member in record { t_is = made.t_is; added_is = made.added_is }
own_retraction db names (adds name k part) d member = absurd (not_in_none d member)
own_retraction db names (compares name k old new) d member = absurd (not_in_none d member)
own_retraction db names (retracts_all name k) d member = absurd (not_in_none d member)
own_retraction db names (retracts_entity name) d member = absurd (not_in_none d member)
own_retraction db names (meets name) d member = absurd (not_in_none d member)
own_retraction db names (mentions k) d member = absurd (not_in_none d member)
own_retraction db names lacks_id d member = absurd (not_in_none d member)

-- of what all forms ask
joined_source : (f : Ask → List Datom) (asks : List (List Ask)) (d : Datom) → Contains (joined (map (flat_map f) asks)) d
    → (ask : Ask) × Contains (f ask) d
joined_source f asks d member =
    let list = comes_from (λ (list : List Datom). list) (map (flat_map f) asks) d member in
    let image = image_of (flat_map f) asks list.source list.among in
    let one = comes_from f image.original d (subst (λ ds. Contains ds d) (sym image.image_is) list.made) in
    (one.source, one.made)

own_implied : (db : Db) (lists : List (List Datom)) (d : Datom) → Contains (joined (map (implied db) lists)) d → IsOwn db false d
own_implied db lists d member =
    let list = comes_from (λ (list : List Datom). list) (map (implied db) lists) d member in
    let image = image_of (implied db) lists list.source list.among in
    own_withdrawn db d (implied_withdrawn db image.original d (subst (λ ds. Contains ds d) (sym image.image_is) list.made))

-- some form asks the triple
first_any : (e a : ℕ) (v : Value) (n : ℕ) (lists : List (List Datom))
    → is_some (first_yes n (map (list_any (is_of e a v)) lists)) ≡ list_any (is_of e a v) (joined lists)
first_any e a v n [] = refl
first_any e a v n (ds ∷ lists) =
    go (list_any (is_of e a v) ds) (first_any e a v (n + 1) lists) ∙ sym (list_any-append (is_of e a v) ds (joined lists))
  where
    go : (b : Bool) → is_some (first_yes (n + 1) (map (list_any (is_of e a v)) lists)) ≡ list_any (is_of e a v) (joined lists)
        → is_some (cond b (Some n) (first_yes (n + 1) (map (list_any (is_of e a v)) lists))) ≡ (b || list_any (is_of e a v) (joined lists))
    go true rest = refl
    go false rest = rest

any_joined : (e a : ℕ) (v : Value) (lists : List (List Datom))
    → list_any (list_any (is_of e a v)) lists ≡ list_any (is_of e a v) (joined lists)
any_joined e a v [] = refl
any_joined e a v (ds ∷ lists) =
    ap (λ b. list_any (is_of e a v) ds || b) (any_joined e a v lists) ∙ sym (list_any-append (is_of e a v) ds (joined lists))

same_datom : (x y : Datom) → x.e ≡ y.e → x.a ≡ y.a → x.v ≡ y.v → x.t ≡ y.t → x.added ≡ y.added → x ≡ y
same_datom x y p q r s u = go x.e y.e p x.a y.a q x.v y.v r x.t y.t s x.added y.added u
  where
    go : (e f : ℕ) → e ≡ f → (a b : ℕ) → a ≡ b → (v w : Value) → v ≡ w → (t s : ℕ) → t ≡ s → (m n : Bool) → m ≡ n
        → ◌≡◌ {A = Datom} (record { e = e; a = a; v = v; t = t; added = m }) (record { e = f; a = b; v = w; t = s; added = n })
    go e f p a b q v w r t s s_is m n u = cc

module _ (db : Db) (asks : List (List Ask)) (names : List (Name × ℕ)) (triples : List Triple)
    (are : AreTriples (with_names db asks names) triples) where
  abbrev tx : Transaction
  tx = with_names db asks names

  abbrev all : List Datom
  all =
      joined (with_names db asks names).added ++ joined (with_names db asks names).retracted ++ joined (with_names db asks names).swept
      ++ joined (with_names db asks names).replaced

  own_added : (d : Datom) → Contains (joined (with_names db asks names).added) d → IsOwn db true d
  own_added d member = let one = joined_source (additions db names) asks d member in own_addition db names one.0 d one.1

  own_retracted : (d : Datom) → Contains (joined (with_names db asks names).retracted) d → IsOwn db false d
  own_retracted d member = let one = joined_source (retractions db names) asks d member in own_retraction db names one.0 d one.1

  own_swept : (d : Datom) → Contains (joined (with_names db asks names).swept) d → IsOwn db false d
  own_swept d member =
      let one = joined_source (sweeps db names) asks d member in own_withdrawn db d (sweep_withdrawn db names one.0 d one.1)

  own_replaced : (d : Datom) → Contains (joined (with_names db asks names).replaced) d → IsOwn db false d
  own_replaced d member = own_implied db (map (flat_map (additions db names)) asks) d member

  told : (z : Triple) → Contains triples z → IsExact (with_names db asks names) z
  told z among = All-contains (IsExact (with_names db asks names)) triples z are.exact among

  -- a datom that one of the lists has
  from_list : (t : ℕ) → t ≡ basis db.history + 1 → (added : Bool) (list : List Datom)
      → ((d : Datom) → Contains list d → IsOwn db added d) → (z : Triple) → not z.holds ≡ added
      → list_any (is_of z.e z.a z.v) list ≡ true → Contains list (datom_of t z)
  from_list t t_is added list own z flag asked =
      let one = some_of (is_of z.e z.a z.v) list asked in
      let its = is_of-true z.e z.a z.v one.0 one.2 in
      let mine = own one.0 one.1 in
      subst (λ d. Contains list d)
      (same_datom one.0 (datom_of t z) its.e_is its.a_is its.v_is (mine.t_is ∙ sym t_is) (mine.added_is ∙ sym flag)) one.1

  in_added : (d : Datom) → Contains (joined (with_names db asks names).added) d → Contains all d
  in_added d member =
      Contains-append_left _ _ d
      (Contains-append_left _ _ d (Contains-append_left _ (joined (with_names db asks names).retracted) d member))

  in_retracted : (d : Datom) → Contains (joined (with_names db asks names).retracted) d → Contains all d
  in_retracted d member =
      Contains-append_left _ _ d (Contains-append_left _ _ d (Contains-append_right (joined (with_names db asks names).added) _ d member))

  in_swept : (d : Datom) → Contains (joined (with_names db asks names).swept) d → Contains all d
  in_swept d member =
      Contains-append_left _ _ d
      (Contains-append_right (joined (with_names db asks names).added ++ joined (with_names db asks names).retracted) _ d member)

  in_replaced : (d : Datom) → Contains (joined (with_names db asks names).replaced) d → Contains all d
  in_replaced d member =
      Contains-append_right
      (joined (with_names db asks names).added ++ joined (with_names db asks names).retracted ++ joined (with_names db asks names).swept) _
      d member

  -- what is recorded of a triple is asked
  datom_asked : (t : ℕ) → t ≡ basis db.history + 1 → (z : Triple) → Contains triples z → is_change z ≡ true → Contains all (datom_of t z)
  datom_asked t t_is z among changes = go z.holds refl changes
    where
      its : IsExact (with_names db asks names) z
      its = told z among

      go : (b : Bool) → z.holds ≡ b → cond b (is_some z.retracted || is_some z.swept || is_some z.replaced) (is_some z.added) ≡ true
          → Contains all (datom_of t z)
      go false holds some =
          in_added (datom_of t z) (from_list t t_is true _ own_added z (ap not holds)
          (sym (first_any z.e z.a z.v 0 (with_names db asks names).added) ∙ sym (ap is_some its.added) ∙ some))
      go true holds some =
          elim (or_cases (is_some z.retracted || is_some z.swept) (is_some z.replaced) some) [
            | inl two ↦ elim (or_cases (is_some z.retracted) (is_some z.swept) two) [
              | inl is ↦
                  in_retracted (datom_of t z) (from_list t t_is false _ own_retracted z (ap not holds)
                  (sym (first_any z.e z.a z.v 0 (with_names db asks names).retracted) ∙ sym (ap is_some its.retracted) ∙ is))
              | inr is ↦
                  in_swept (datom_of t z) (from_list t t_is false _ own_swept z (ap not holds)
                  (sym (first_any z.e z.a z.v 0 (with_names db asks names).swept) ∙ sym (ap is_some its.swept) ∙ is))
            ]
            | inr is ↦
                in_replaced (datom_of t z) (from_list t t_is false _ own_replaced z (ap not holds)
                (sym (first_any z.e z.a z.v 0 (with_names db asks names).replaced) ∙ sym (ap is_some its.replaced) ∙ is))
          ]

  datom_changes : (t : ℕ) (z : Triple) → Contains triples z → model.is_change (said db.history) (datom_of t z) ≡ true
  datom_changes t z among = go z.holds (sym (told z among).holding)
    where
      go : (b : Bool) → holds_after false (said db.history) z.e z.a z.v ≡ b
          → cond (not b) (not (holds_after false (said db.history) z.e z.a z.v)) (holds_after false (said db.history) z.e z.a z.v) ≡ true
      go true holds = holds
      go false holds = ap not holds

  -- what changes is of a triple that is recorded
  triple_of : (d : Datom) → is_asked (with_names db asks names) d.e d.a d.v ≡ true
      → (z : Triple) × Contains triples z × (z.e ≡ d.e) × (z.a ≡ d.a) × (z.v ≡ d.v)
  triple_of d asked =
      let one = some_of (is_triple d.e d.a d.v) triples (are.whole d.e d.a d.v asked) in
      let parts = and_parts (nat_eq one.0.e d.e && nat_eq one.0.a d.a) (value_eq one.0.v d.v) one.2 in
      let numbers = and_parts (nat_eq one.0.e d.e) (nat_eq one.0.a d.a) parts.0 in
      (one.0, one.1, eqb-true one.0.e d.e numbers.0, eqb-true one.0.a d.a numbers.1, value_eq-true one.0.v d.v parts.1)

  by_list : (t : ℕ) → t ≡ basis db.history + 1 → (added : Bool) (lists : List (List Datom))
      → ((d : Datom) → Contains (joined lists) d → IsOwn db added d)
      → ((e a : ℕ) (v : Value) → list_any (list_any (is_of e a v)) lists ≡ true → is_asked (with_names db asks names) e a v ≡ true)
      → ((z : Triple) → Contains triples z → is_some (first_asking lists z.e z.a z.v) ≡ true → not z.holds ≡ added → is_change z ≡ true)
      → (d : Datom) → Contains (joined lists) d → model.is_change (said db.history) d ≡ true
      → Contains (map (datom_of t) (filter is_change triples)) d
  by_list t t_is added lists own asks_it records d member changes =
      let any : list_any (is_of d.e d.a d.v) (joined lists) ≡ true = any_of (is_of d.e d.a d.v) (joined lists) d member (is_of-itself d) in
      let found = triple_of d (asks_it d.e d.a d.v (any_joined d.e d.a d.v lists ∙ any)) in
      let z = found.0 in
      let mine = own d member in
      let held : z.holds ≡ holds_after false (said db.history) d.e d.a d.v =
      (told z found.1).holding
      ∙ ap (λ e. holds_after false (said db.history) e z.a z.v) found.2
      ∙ ap (λ a. holds_after false (said db.history) d.e a z.v) found.3
      ∙ ap (λ v. holds_after false (said db.history) d.e d.a v) found.4 in
      let flag : not z.holds ≡ added =
      ap not held
      ∙ way added (holds_after false (said db.history) d.e d.a d.v)
      (ap (λ b. cond b (not (holds_after false (said db.history) d.e d.a d.v)) (holds_after false (said db.history) d.e d.a d.v))
      (sym mine.added_is) ∙ changes) in
      let first : is_some (first_asking lists z.e z.a z.v) ≡ true =
      ap (λ e. is_some (first_asking lists e z.a z.v)) found.2
      ∙ ap (λ a. is_some (first_asking lists d.e a z.v)) found.3
      ∙ ap (λ v. is_some (first_asking lists d.e d.a v)) found.4
      ∙ first_any d.e d.a d.v 0 lists
      ∙ any in
      subst (λ x. Contains (map (datom_of t) (filter is_change triples)) x)
      (same_datom (datom_of t z) d found.2 found.3 found.4 (t_is ∙ sym mine.t_is) (flag ∙ sym mine.added_is))
      (has_image (datom_of t) (filter is_change triples) z (keep_triple is_change triples z found.1 (records z found.1 first flag)))
    where
      way : (added held : Bool) → cond added (not held) held ≡ true → not held ≡ added
      way true held is = is
      way false true is = refl
      way false false is = absurd (true≢false (sym is))

  recorded_added : (z : Triple) → Contains triples z → is_some (first_asking (with_names db asks names).added z.e z.a z.v) ≡ true
      → not z.holds ≡ true → is_change z ≡ true
  recorded_added z among first flag = go z.holds flag (ap is_some (told z among).added ∙ first)
    where
      go : (b : Bool) → not b ≡ true → is_some z.added ≡ true
          → cond b (is_some z.retracted || is_some z.swept || is_some z.replaced) (is_some z.added) ≡ true
      go false flag some = some
      go true flag some = absurd (true≢false (sym flag))

  recorded_by : (z : Triple) → not z.holds ≡ false → (is_some z.retracted || is_some z.swept || is_some z.replaced) ≡ true
      → is_change z ≡ true
  recorded_by z flag some = go z.holds flag
    where
      go : (b : Bool) → not b ≡ false → cond b (is_some z.retracted || is_some z.swept || is_some z.replaced) (is_some z.added) ≡ true
      go true flag = some
      go false flag = absurd (true≢false flag)

  change_recorded : (t : ℕ) → t ≡ basis db.history + 1 → (d : Datom) → Contains all d → model.is_change (said db.history) d ≡ true
      → Contains (map (datom_of t) (filter is_change triples)) d
  change_recorded t t_is d member changes =
      elim (Contains-append_cases (joined (with_names db asks names).added ++ joined (with_names db asks names).retracted
      ++ joined (with_names db asks names).swept) (joined (with_names db asks names).replaced) d member) [
        | inl three ↦
            elim (Contains-append_cases (joined (with_names db asks names).added ++ joined (with_names db asks names).retracted)
            (joined (with_names db asks names).swept) d three) [
              | inl two ↦
                  elim (Contains-append_cases (joined (with_names db asks names).added)
                  (joined (with_names db asks names).retracted) d two) [
                    | inl is ↦
                        by_list t t_is true (with_names db asks names).added own_added
                        (λ e a v some. or_left _ _ (or_left _ _ (or_left _ _ some))) recorded_added d is changes
                    | inr is ↦
                        by_list t t_is false (with_names db asks names).retracted own_retracted (λ e a v some.
                        or_left _ _ (or_left _ _ (or_right (list_any (list_any (is_of e a v)) (with_names db asks names).added) _ some)))
                        (λ z among first flag. recorded_by z flag (or_left _ _ (or_left _ _ (ap is_some (told z among).retracted ∙ first))))
                        d is
                        changes
                  ]
              | inr is ↦ by_list t t_is false (with_names db asks names).swept own_swept
                  (λ e a v some. or_left _ _ (or_right (list_any (list_any (is_of e a v)) (with_names db asks names).added
                  || list_any (list_any (is_of e a v)) (with_names db asks names).retracted) _ some))
                  (λ z among first flag.
                  recorded_by z flag (or_left _ _ (or_right (is_some z.retracted) _ (ap is_some (told z among).swept ∙ first)))) d is
                  changes
            ]
        | inr is ↦ by_list t t_is false (with_names db asks names).replaced own_replaced
            (λ e a v some. or_right (list_any (list_any (is_of e a v)) (with_names db asks names).added || list_any (list_any (is_of e a v))
            (with_names db asks names).retracted || list_any (list_any (is_of e a v)) (with_names db asks names).swept) _ some)
            (λ z among first flag. recorded_by z flag
            (or_right (is_some z.retracted || is_some z.swept) _ (ap is_some (told z among).replaced ∙ first))) d is changes
      ]

  pub changes_are : (t : ℕ) → t ≡ basis db.history + 1 → map (datom_of t) (filter is_change triples) ≡ (with_names db asks names).changes
  changes_are t t_is =
      one_rising_list Eavt (map (datom_of t) (filter is_change triples)) (in_order Eavt (filter (model.is_change (said db.history)) all))
      (changes_rise t triples are.rising) (in_order-rises Eavt (filter (model.is_change (said db.history)) all)) there back
    where
      there : (d : Datom) → Contains (map (datom_of t) (filter is_change triples)) d
          → Contains (in_order Eavt (filter (model.is_change (said db.history)) all)) d
      there d member =
          let image = image_of (datom_of t) (filter is_change triples) d member in
          let is = kept_triple is_change triples image.original image.among in
          subst (λ x. Contains (in_order Eavt (filter (model.is_change (said db.history)) all)) x) image.image_is
          (in_order_has Eavt (filter (model.is_change (said db.history)) all) (one_change (said db.history) all) (datom_of t image.original)
          (keep (model.is_change (said db.history)) all (datom_of t image.original) (datom_asked t t_is image.original is.among is.passes)
          (datom_changes t image.original is.among)))

      back : (d : Datom) → Contains (in_order Eavt (filter (model.is_change (said db.history)) all)) d
          → Contains (map (datom_of t) (filter is_change triples)) d
      back d member =
          let is =
          kept (model.is_change (said db.history)) all d (in_order_member Eavt (filter (model.is_change (said db.history)) all) d member) in
          change_recorded t t_is d is.member is.passes
