-- Members of lists of datoms, and lists that are put in order.
use Rattle.std.proofs.Common.{◌≡◌, ℕ, zero, suc, ◌<◌, Bool, true, false, cond, not, ◌&&◌, ◌||◌, List, [], ◌∷◌, refl, ap, sym, ◌∙◌, subst}
use Rattle.std.proofs.Common.{arith, inl, inr, ◌⊎◌}
use Rattle.std.specs.Prelude.{filter, Contains, slice_index_or}
use Rattle.std.specs.List.{list_any, list_all}
use Rattle.std.specs.Ordering.{is_lt}
use Rattle.std.proofs.lemmas.Bool.{true≢false, and_parts, and_from, or_left, or_right, or_cases}
use Rattle.std.proofs.lemmas.List.Elements.{Contains-append_left, Contains-append_right, Contains-append_cases, Contains-push}
use Rattle.fb_values.specs.declared.facts.Datom.{Datom}
use Rattle.fb_values.specs.declared.indexes.Order.{Order}
use Rattle.fb_values.specs.Orders.{key_cmp}
use Rattle.fb_values.specs.Rising.{rises}
use Rattle.fb_model.specs.Rising.{put_in_order, in_order}
use Rattle.fb_model.specs.Facts.{is_of, standing, is_last_assertion}

-- ---- members

pub here : (d : Datom) (ds : List Datom) → Contains (d ∷ ds) d
here d ds = Contains-append_left (d ∷ []) ds d (Contains-push [] d)

pub there : (x d : Datom) (ds : List Datom) → Contains ds d → Contains (x ∷ ds) d
there x d ds member = Contains-append_right (x ∷ []) ds d member

only : (x d : Datom) → Contains (x ∷ []) d → x ≡ d
only x d member = one member.0 member.1 member.2
  where
    one : (k : ℕ) → k < 1 → slice_index_or (x ∷ []) k d ≡ d → x ≡ d
    one zero below is = is
    one (suc k) below is = absurd (omega (arith, below))

pub cases_of : (x d : Datom) (ds : List Datom) → Contains (x ∷ ds) d → (x ≡ d) ⊎ Contains ds d
cases_of x d ds member = elim (Contains-append_cases (x ∷ []) ds d member) [ inl first ↦ inl (only x d first) | inr later ↦ inr later ]

pub none_of : (d : Datom) → Contains [] d → ⊥
none_of d member = omega (arith, member.1)

pub member_passes : (p : Datom → Bool) (ds : List Datom) (d : Datom) → list_all p ds ≡ true → Contains ds d → p d ≡ true
member_passes p [] d every member = absurd (none_of d member)
member_passes p (x ∷ ds) d every member =
    let parts = and_parts (p x) (list_all p ds) every in
    elim (cases_of x d ds member) [ inl is ↦ subst (λ y. p y ≡ true) is parts.0 | inr later ↦ member_passes p ds d parts.1 later ]

pub all_members : (p : Datom → Bool) (ds : List Datom) → ((d : Datom) → Contains ds d → p d ≡ true) → list_all p ds ≡ true
all_members p [] each = refl
all_members p (x ∷ ds) each = and_from _ _ (each x (here x ds)) (all_members p ds (λ d member. each d (there x d ds member)))

pub any_member : (p : Datom → Bool) (ds : List Datom) (d : Datom) → Contains ds d → p d ≡ true → list_any p ds ≡ true
any_member p [] d member pass = absurd (none_of d member)
any_member p (x ∷ ds) d member pass =
    elim (cases_of x d ds member) [
      | inl is ↦ or_left _ _ (subst (λ y. p y ≡ true) (sym is) pass)
      | inr later ↦ or_right _ _ (any_member p ds d later pass)
    ]

pub some_member : (p : Datom → Bool) (ds : List Datom) → list_any p ds ≡ true → (d : Datom) × Contains ds d × (p d ≡ true)
some_member p [] some = absurd (true≢false (sym some))
some_member p (x ∷ ds) some =
    let next : list_any p ds ≡ true → (d : Datom) × Contains (x ∷ ds) d × (p d ≡ true) =
    λ more. let rest = some_member p ds more in (rest.0, there x rest.0 ds rest.1, rest.2) in
    elim (or_cases (p x) (list_any p ds) some) [ inl first ↦ (x, here x ds, first) | inr more ↦ next more ]

-- ---- filters

pub record IsKept (p : Datom → Bool) (ds : List Datom) (d : Datom) : Type 0 where
  pub member : Contains ds d
  pub passes : p d ≡ true

pub kept : (p : Datom → Bool) (ds : List Datom) (d : Datom) → Contains (filter p ds) d → IsKept p ds d
kept p [] d member = absurd (none_of d member)
kept p (x ∷ ds) d member = go (p x) refl (kept p ds d) member
  where
    later : IsKept p ds d → IsKept p (x ∷ ds) d
    later is = record { member = there x d ds is.member; passes = is.passes }

    go : (b : Bool) → p x ≡ b → (Contains (filter p ds) d → IsKept p ds d) → Contains (cond b (x ∷ filter p ds) (filter p ds)) d
        → IsKept p (x ∷ ds) d
    go false is next rest = later (next rest)
    go true is next rest =
        elim (cases_of x d (filter p ds) rest) [
          | inl same ↦ record { member = subst (λ y. Contains (x ∷ ds) y) same (here x ds); passes = subst (λ y. p y ≡ true) same is }
          | inr more ↦ later (next more)
        ]

pub keep : (p : Datom → Bool) (ds : List Datom) (d : Datom) → Contains ds d → p d ≡ true → Contains (filter p ds) d
keep p [] d member pass = absurd (none_of d member)
keep p (x ∷ ds) d member pass = go (p x) refl (keep p ds d) (cases_of x d ds member)
  where
    go : (b : Bool) → p x ≡ b → (Contains ds d → p d ≡ true → Contains (filter p ds) d) → (x ≡ d) ⊎ Contains ds d
        → Contains (cond b (x ∷ filter p ds) (filter p ds)) d
    go true is next (inl same) = subst (λ y. Contains (x ∷ filter p ds) y) same (here x (filter p ds))
    go true is next (inr later) = there x d (filter p ds) (next later pass)
    go false is next (inl same) = absurd (true≢false (sym pass ∙ ap p (sym same) ∙ is))
    go false is next (inr later) = next later pass

pub filter_agree_on : (r p q : Datom → Bool) → ((d : Datom) → r d ≡ true → p d ≡ q d) → (ds : List Datom) → list_all r ds ≡ true
    → filter p ds ≡ filter q ds
filter_agree_on r p q agree [] every = refl
filter_agree_on r p q agree (x ∷ ds) every =
    let parts = and_parts (r x) (list_all r ds) every in
    rw (agree x parts.0, filter_agree_on r p q agree ds parts.1) refl

pub filter_twice : (p q : Datom → Bool) (ds : List Datom) → filter p (filter q ds) ≡ filter (λ d. p d && q d) ds
filter_twice p q [] = refl
filter_twice p q (x ∷ ds) = go (q x) (p x) (filter_twice p q ds)
  where
    go : (b c : Bool) → filter p (filter q ds) ≡ filter (λ d. p d && q d) ds
        → filter p (cond b (x ∷ filter q ds) (filter q ds))
        ≡ cond (p x && b) (x ∷ filter (λ d. p d && q d) ds) (filter (λ d. p d && q d) ds)
    go true c rest = both (p x) rest
      where
        both : (c : Bool) → filter p (filter q ds) ≡ filter (λ d. p d && q d) ds
            → cond c (x ∷ filter p (filter q ds)) (filter p (filter q ds))
            ≡ cond (c && true) (x ∷ filter (λ d. p d && q d) ds) (filter (λ d. p d && q d) ds)
        both true rest = ap (λ l. x ∷ l) rest
        both false rest = rest
    go false c rest = none (p x) rest
      where
        none : (c : Bool) → filter p (filter q ds) ≡ filter (λ d. p d && q d) ds
            → filter p (filter q ds) ≡ cond (c && false) (x ∷ filter (λ d. p d && q d) ds) (filter (λ d. p d && q d) ds)
        none true rest = rest
        none false rest = rest

-- ---- what stands

pub standing_member : (ds : List Datom) (d : Datom) → Contains (standing ds) d → Contains ds d
standing_member [] d member = absurd (none_of d member)
standing_member (x ∷ ds) d member = go (is_last_assertion x ds) (standing_member ds d) member
  where
    go : (b : Bool) → (Contains (standing ds) d → Contains ds d) → Contains (cond b (x ∷ standing ds) (standing ds)) d → Contains (x ∷ ds) d
    go false next rest = there x d ds (next rest)
    go true next rest = elim (cases_of x d (standing ds) rest) [
      | inl same ↦ subst (λ y. Contains (x ∷ ds) y) same (here x ds)
      | inr later ↦ there x d ds (next later)
    ]

-- ---- lists in order

is_below : Order → Datom → List Datom → Bool
is_below order x [] = true
is_below order x (y ∷ ys) = is_lt (key_cmp order x y)

rises-cons : (order : Order) (x : Datom) (ds : List Datom) → rises order (x ∷ ds) ≡ (is_below order x ds && rises order ds)
unfolding is_below
rises-cons order x [] = refl
rises-cons order x (y ∷ ds) = refl

put-below : (order : Order) (x d : Datom) (ds : List Datom) → is_lt (key_cmp order x d) ≡ true → is_below order x ds ≡ true
    → is_below order x (put_in_order order d ds) ≡ true
unfolding is_below
put-below order x d [] lt below = lt
put-below order x d (y ∷ ds) lt below = go (is_lt (key_cmp order d y)) (is_lt (key_cmp order y d))
  where
    go : (b c : Bool) → is_below order x (cond b (d ∷ y ∷ ds) (cond c (y ∷ put_in_order order d ds) (y ∷ ds))) ≡ true
    go true c = lt
    go false true = below
    go false false = below

pub put-rises : (order : Order) (d : Datom) (ds : List Datom) → rises order ds ≡ true → rises order (put_in_order order d ds) ≡ true
put-rises order d [] rising = refl
put-rises order d (y ∷ ds) rising =
    let parts = and_parts (is_below order y ds) (rises order ds) (sym (rises-cons order y ds) ∙ rising) in
    go (is_lt (key_cmp order d y)) refl (is_lt (key_cmp order y d)) refl parts.0 (put-rises order d ds parts.1)
  where
    go : (b : Bool) → is_lt (key_cmp order d y) ≡ b → (c : Bool) → is_lt (key_cmp order y d) ≡ c → is_below order y ds ≡ true
        → rises order (put_in_order order d ds) ≡ true
        → rises order (cond b (d ∷ y ∷ ds) (cond c (y ∷ put_in_order order d ds) (y ∷ ds))) ≡ true
    go true is c also below rest = and_from _ _ is rising
    go false is true also below rest = rises-cons order y (put_in_order order d ds) ∙ and_from _ _ (put-below order y d ds also below) rest
    go false is false also below rest = rising

pub in_order-rises : (order : Order) (ds : List Datom) → rises order (in_order order ds) ≡ true
in_order-rises order [] = refl
in_order-rises order (d ∷ ds) = put-rises order d (in_order order ds) (in_order-rises order ds)

put_member : (order : Order) (x : Datom) (ds : List Datom) (d : Datom) → Contains (put_in_order order x ds) d → (x ≡ d) ⊎ Contains ds d
put_member order x [] d member = cases_of x d [] member
put_member order x (y ∷ ds) d member = go (is_lt (key_cmp order x y)) (is_lt (key_cmp order y x)) (put_member order x ds d) member
  where
    go : (b c : Bool) → (Contains (put_in_order order x ds) d → (x ≡ d) ⊎ Contains ds d)
        → Contains (cond b (x ∷ y ∷ ds) (cond c (y ∷ put_in_order order x ds) (y ∷ ds))) d → (x ≡ d) ⊎ Contains (y ∷ ds) d
    go true c next rest = cases_of x d (y ∷ ds) rest
    go false true next rest =
        elim (cases_of y d (put_in_order order x ds) rest) [
          | inl same ↦ inr (subst (λ z. Contains (y ∷ ds) z) same (here y ds))
          | inr later ↦ elim (next later) [ inl same ↦ inl same | inr more ↦ inr (there y d ds more) ]
        ]
    go false false next rest = inr rest

pub in_order_member : (order : Order) (ds : List Datom) (d : Datom) → Contains (in_order order ds) d → Contains ds d
in_order_member order [] d member = absurd (none_of d member)
in_order_member order (x ∷ ds) d member =
    elim (put_member order x (in_order order ds) d member) [
      | inl same ↦ subst (λ z. Contains (x ∷ ds) z) same (here x ds)
      | inr later ↦ there x d ds (in_order_member order ds d later)
    ]

-- ---- one datom for each triple

pub standing_added : (ds : List Datom) (d : Datom) → Contains (standing ds) d → d.added ≡ true
standing_added [] d member = absurd (none_of d member)
standing_added (x ∷ ds) d member = go (is_last_assertion x ds) refl (standing_added ds d) member
  where
    go : (b : Bool) → is_last_assertion x ds ≡ b → (Contains (standing ds) d → d.added ≡ true)
        → Contains (cond b (x ∷ standing ds) (standing ds)) d → d.added ≡ true
    go false is next rest = next rest
    go true is next rest = elim (cases_of x d (standing ds) rest) [
      | inl same ↦ subst (λ y. y.added ≡ true) same (and_parts x.added (not (list_any (is_of x.e x.a x.v) ds)) is).0
      | inr later ↦ next later
    ]

-- no datom is of the triple of one before it
abbrev pub are_of_other_triples : List Datom → Bool
are_of_other_triples [] = true
are_of_other_triples (d ∷ ds) = not (list_any (is_of d.e d.a d.v) ds) && are_of_other_triples ds

none_standing : (p : Datom → Bool) (ds : List Datom) → list_any p ds ≡ false → list_any p (standing ds) ≡ false
none_standing p ds none = go (list_any p (standing ds)) refl
  where
    go : (b : Bool) → list_any p (standing ds) ≡ b → b ≡ false
    go false is = refl
    go true is = absurd (true≢false (sym (found is) ∙ none))
      where
        found : list_any p (standing ds) ≡ true → list_any p ds ≡ true
        found some =
            let member = some_member p (standing ds) some in any_member p ds member.0 (standing_member ds member.0 member.1) member.2

pub standing-apart : (ds : List Datom) → are_of_other_triples (standing ds) ≡ true
standing-apart [] = refl
standing-apart (x ∷ ds) = go (is_last_assertion x ds) refl (standing-apart ds)
  where
    is_not : (b : Bool) → not b ≡ true → b ≡ false
    is_not false e = refl
    is_not true e = absurd (true≢false (sym e))

    go : (b : Bool) → is_last_assertion x ds ≡ b → are_of_other_triples (standing ds) ≡ true
        → are_of_other_triples (cond b (x ∷ standing ds) (standing ds)) ≡ true
    go false is rest = rest
    go true is rest =
        and_from _ _
        (ap not (none_standing (is_of x.e x.a x.v) ds (is_not _ (and_parts x.added (not (list_any (is_of x.e x.a x.v) ds)) is).1))) rest

-- what is asserted stands, where each datom is of another triple
pub standing_has : (ds : List Datom) (d : Datom) → are_of_other_triples ds ≡ true → Contains ds d → d.added ≡ true
    → Contains (standing ds) d
standing_has [] d apart member added = absurd (none_of d member)
standing_has (x ∷ ds) d apart member added =
    let parts = and_parts (not (list_any (is_of x.e x.a x.v) ds)) (are_of_other_triples ds) apart in
    go (is_last_assertion x ds) refl parts.0 (cases_of x d ds member) (λ later. standing_has ds d parts.1 later added)
  where
    go : (b : Bool) → is_last_assertion x ds ≡ b → not (list_any (is_of x.e x.a x.v) ds) ≡ true → (x ≡ d) ⊎ Contains ds d
        → (Contains ds d → Contains (standing ds) d) → Contains (cond b (x ∷ standing ds) (standing ds)) d
    go true is alone (inl same) next = subst (λ y. Contains (x ∷ standing ds) y) same (here x (standing ds))
    go true is alone (inr later) next = there x d (standing ds) (next later)
    go false is alone (inl same) next =
        absurd (true≢false
        (sym (and_from x.added (not (list_any (is_of x.e x.a x.v) ds)) (subst (λ y. y.added ≡ true) (sym same) added) alone) ∙ is))
    go false is alone (inr later) next = next later

same_any : (test : Datom → Bool) → ((d other : Datom) → is_of d.e d.a d.v other ≡ true → test d ≡ test other) → (x : Datom) → test x ≡ true
    → (ds : List Datom)
    → list_any (is_of x.e x.a x.v) (filter test ds) ≡ list_any (is_of x.e x.a x.v) ds
same_any test on x pass [] = refl
same_any test on x pass (y ∷ ds) = go (test y) refl (is_of x.e x.a x.v y) refl (same_any test on x pass ds)
  where
    go : (b : Bool) → test y ≡ b → (c : Bool) → is_of x.e x.a x.v y ≡ c
        → list_any (is_of x.e x.a x.v) (filter test ds) ≡ list_any (is_of x.e x.a x.v) ds
        → list_any (is_of x.e x.a x.v) (cond b (y ∷ filter test ds) (filter test ds))
        ≡ (is_of x.e x.a x.v y || list_any (is_of x.e x.a x.v) ds)
    go true is c of rest = ap (λ b. is_of x.e x.a x.v y || b) rest
    go false is false of rest = rw of rest
    go false is true of rest = absurd (true≢false (sym pass ∙ on x y of ∙ is))

-- a test that tells no triple's datoms apart may be made before or after
pub filter-standing : (test : Datom → Bool) → ((d other : Datom) → is_of d.e d.a d.v other ≡ true → test d ≡ test other) → (ds : List Datom)
    → filter test (standing ds) ≡ standing (filter test ds)
filter-standing test on [] = refl
filter-standing test on (x ∷ ds) = go (test x) refl (filter-standing test on ds)
  where
    passing : test x ≡ true → (b : Bool) → filter test (standing ds) ≡ standing (filter test ds)
        → filter test (cond b (x ∷ standing ds) (standing ds)) ≡ cond b (x ∷ standing (filter test ds)) (standing (filter test ds))
    passing is true rest = rw is (ap (λ l. x ∷ l) rest)
    passing is false rest = rest

    failing : test x ≡ false → (b : Bool) → filter test (standing ds) ≡ standing (filter test ds)
        → filter test (cond b (x ∷ standing ds) (standing ds)) ≡ standing (filter test ds)
    failing is true rest = rw is rest
    failing is false rest = rest

    go : (b : Bool) → test x ≡ b → filter test (standing ds) ≡ standing (filter test ds)
        → filter test (standing (x ∷ ds)) ≡ standing (cond b (x ∷ filter test ds) (filter test ds))
    go true is rest =
        passing is (is_last_assertion x ds) rest
        ∙ ap (λ any. cond (x.added && not any) (x ∷ standing (filter test ds)) (standing (filter test ds))) (sym (same_any test on x is ds))
    go false is rest = failing is (is_last_assertion x ds) rest

-- putting in order a datom that fails a test changes nothing of what passes it
pub filter-put : (test : Datom → Bool) (order : Order) (d : Datom) (ds : List Datom) → test d ≡ false
    → filter test (put_in_order order d ds) ≡ filter test ds
filter-put test order d [] fails = rw fails refl
filter-put test order d (y ∷ ds) fails = go (is_lt (key_cmp order d y)) (is_lt (key_cmp order y d)) (filter-put test order d ds fails)
  where
    go : (b c : Bool) → filter test (put_in_order order d ds) ≡ filter test ds
        → filter test (cond b (d ∷ y ∷ ds) (cond c (y ∷ put_in_order order d ds) (y ∷ ds))) ≡ filter test (y ∷ ds)
    go true c rest = rw fails refl
    go false true rest = ap (λ l. cond (test y) (y ∷ l) l) rest
    go false false rest = refl
