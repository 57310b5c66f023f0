-- Lists in order: what they have, and that there is one for each set of datoms.
use Rattle.std.proofs.Common.{◌≡◌, Bool, true, false, cond, List, [], ◌∷◌, refl, ap, sym, ◌∙◌, subst, inl, inr, ◌⊎◌}
use Rattle.std.specs.Prelude.{Contains}
use Rattle.std.specs.Ordering.{is_lt, ordering_reverse}
use Rattle.std.specs.declared.cmp.Ordering.{Ordering}
use Rattle.std.specs.declared.cmp.Ordering.TheVariants.{Less, Equal, Greater}
use Rattle.std.specs.Cmp.{tied_itself}
use Rattle.std.proofs.lemmas.Bool.{true≢false, and_parts}
use Rattle.fb_values.specs.declared.facts.Datom.{Datom}
use Rattle.fb_values.specs.declared.indexes.Order.{Order}
use Rattle.fb_values.specs.Orders.{key_cmp}
use Rattle.fb_values.specs.OrderLaws.{key_cmp_total}
use Rattle.fb_values.specs.Rising.{rises}
use Rattle.fb_model.specs.Rising.{put_in_order, in_order}
use Rattle.fb_model.proofs.Members.{here, there, cases_of, none_of, in_order_member}

-- ---- what a list in order has

-- two datoms of the list with equal keys are equal
pub record OneForEachKey (order : Order) (ds : List Datom) : Type 0 where
  pub same : (x y : Datom) → Contains ds x → Contains ds y → key_cmp order x y ≡ Equal → x ≡ y

neither : (r : Ordering) → is_lt r ≡ false → is_lt (ordering_reverse r) ≡ false → r ≡ Equal
neither Less p q = absurd (true≢false p)
neither Equal p q = refl
neither Greater p q = absurd (true≢false q)

pub equal_keys : (order : Order) (x y : Datom) → is_lt (key_cmp order x y) ≡ false → is_lt (key_cmp order y x) ≡ false
    → key_cmp order x y ≡ Equal
equal_keys order x y p q = neither (key_cmp order x y) p (sym (ap is_lt ((key_cmp_total order).antisymm y x)) ∙ q)

pub put_has_new : (order : Order) (x : Datom) (ds : List Datom)
    → ((y : Datom) → Contains ds y → key_cmp order x y ≡ Equal → x ≡ y) → Contains (put_in_order order x ds) x
put_has_new order x [] same = here x []
put_has_new order x (y ∷ ds) same =
    go (is_lt (key_cmp order x y)) refl (is_lt (key_cmp order y x)) refl (put_has_new order x ds (λ z member. same z (there y z ds member)))
  where
    go : (b : Bool) → is_lt (key_cmp order x y) ≡ b → (c : Bool) → is_lt (key_cmp order y x) ≡ c → Contains (put_in_order order x ds) x
        → Contains (cond b (x ∷ y ∷ ds) (cond c (y ∷ put_in_order order x ds) (y ∷ ds))) x
    go true is c also rest = here x (y ∷ ds)
    go false is true also rest = there y x (put_in_order order x ds) rest
    go false is false also rest = subst (λ z. Contains (y ∷ ds) z) (sym (same y (here y ds) (equal_keys order x y is also))) (here y ds)

pub put_has_old : (order : Order) (x : Datom) (ds : List Datom) (d : Datom) → Contains ds d → Contains (put_in_order order x ds) d
put_has_old order x [] d member = absurd (none_of d member)
put_has_old order x (y ∷ ds) d member =
    go (is_lt (key_cmp order x y)) (is_lt (key_cmp order y x)) (put_has_old order x ds d) (cases_of y d ds member)
  where
    go : (b c : Bool) → (Contains ds d → Contains (put_in_order order x ds) d) → (y ≡ d) ⊎ Contains ds d
        → Contains (cond b (x ∷ y ∷ ds) (cond c (y ∷ put_in_order order x ds) (y ∷ ds))) d
    go true c next which = there x d (y ∷ ds) member
    go false true next (inl same) = subst (λ z. Contains (y ∷ put_in_order order x ds) z) same (here y (put_in_order order x ds))
    go false true next (inr later) = there y d (put_in_order order x ds) (next later)
    go false false next which = member

pub in_order_has : (order : Order) (ds : List Datom) → OneForEachKey order ds → (d : Datom) → Contains ds d → Contains (in_order order ds) d
in_order_has order [] one d member = absurd (none_of d member)
in_order_has order (x ∷ ds) one d member =
    elim (cases_of x d ds member) [
      | inl is ↦ subst (λ z. Contains (put_in_order order x (in_order order ds)) z) is
          (put_has_new order x (in_order order ds) (λ y later. one.same x y (here x ds) (there x y ds (in_order_member order ds y later))))
      | inr later ↦ put_has_old order x (in_order order ds) d
          (in_order_has order ds (record { same = λ a b a_in b_in. one.same a b (there x a ds a_in) (there x b ds b_in) }) d later)
    ]

-- ---- there is one

is_less : (r : Ordering) → is_lt r ≡ true → r ≡ Less
is_less Less e = refl
is_less Equal e = absurd (true≢false (sym e))
is_less Greater e = absurd (true≢false (sym e))

lt_chain : (order : Order) (x y z : Datom) → is_lt (key_cmp order x y) ≡ true → is_lt (key_cmp order y z) ≡ true
    → is_lt (key_cmp order x z) ≡ true
lt_chain order x y z p q = ap is_lt ((key_cmp_total order).trans x y z (is_less (key_cmp order x y) p) (is_less (key_cmp order y z) q))

not_itself : (order : Order) (x : Datom) → is_lt (key_cmp order x x) ≡ true → ⊥
not_itself order x lt = true≢false (sym lt ∙ ap is_lt (tied_itself (key_cmp_total order) x))

not_both : (order : Order) (x y : Datom) → is_lt (key_cmp order x y) ≡ true → is_lt (key_cmp order y x) ≡ true → ⊥
not_both order x y p q = not_itself order x (lt_chain order x y x p q)

rest_rises : (order : Order) (x : Datom) (ds : List Datom) → rises order (x ∷ ds) ≡ true → rises order ds ≡ true
rest_rises order x [] rising = refl
rest_rises order x (y ∷ ds) rising = (and_parts _ _ rising).1

pub first_is_least : (order : Order) (x : Datom) (ds : List Datom) (d : Datom) → rises order (x ∷ ds) ≡ true → Contains ds d
    → is_lt (key_cmp order x d) ≡ true
first_is_least order x [] d rising member = absurd (none_of d member)
first_is_least order x (y ∷ ds) d rising member =
    let parts = and_parts (is_lt (key_cmp order x y)) (rises order (y ∷ ds)) rising in
    elim (cases_of y d ds member) [
      | inl same ↦ subst (λ z. is_lt (key_cmp order x z) ≡ true) same parts.0
      | inr later ↦ lt_chain order x y d parts.0 (first_is_least order y ds d parts.1 later)
    ]

pub one_rising_list : (order : Order) (ds es : List Datom) → rises order ds ≡ true → rises order es ≡ true
    → ((d : Datom) → Contains ds d → Contains es d) → ((d : Datom) → Contains es d → Contains ds d) → ds ≡ es
one_rising_list order [] [] p q there_too back = refl
one_rising_list order [] (y ∷ es) p q there_too back = absurd (none_of y (back y (here y es)))
one_rising_list order (x ∷ ds) [] p q there_too back = absurd (none_of x (there_too x (here x ds)))
one_rising_list order (x ∷ ds) (y ∷ es) p q there_too back = cons x y first_same ds es
    (one_rising_list order ds es (rest_rises order x ds p) (rest_rises order y es q)
    (λ d member. elim (cases_of y d es (there_too d (there x d ds member))) [
      | inl same ↦
          absurd
          (not_itself order d (subst (λ z. is_lt (key_cmp order z d) ≡ true) (first_same ∙ same) (first_is_least order x ds d p member)))
      | inr later ↦ later
    ])
    (λ d member. elim (cases_of x d ds (back d (there y d es member))) [
      | inl same ↦
          absurd (not_itself order d
          (subst (λ z. is_lt (key_cmp order z d) ≡ true) (sym first_same ∙ same) (first_is_least order y es d q member)))
      | inr later ↦ later
    ]))
  where
    first_same : x ≡ y
    first_same =
        elim (cases_of y x es (there_too x (here x ds))) [
          | inl same ↦ sym same
          | inr x_later ↦ elim (cases_of x y ds (back y (here y es))) [
            | inl same ↦ same
            | inr y_later ↦ absurd (not_both order x y (first_is_least order x ds y p y_later) (first_is_least order y es x q x_later))
          ]
        ]

    cons : (a b : Datom) → a ≡ b → (xs ys : List Datom) → xs ≡ ys → (a ∷ xs) ≡ (b ∷ ys)
    cons a b first xs ys rest = cc
