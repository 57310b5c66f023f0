-- Rows are totally ordered, and a rising list of them is told by its members.
use Rattle.std.proofs.Common.{inl, inr, ◌⊎◌, ◌≡◌, Bool, true, false, cond, ◌&&◌, List, [], ◌∷◌, refl, sym, ◌∙◌, ap, subst}
use Rattle.std.proofs.Common.{T, Option, Some, None}
use Rattle.std.specs.Prelude.{Contains, filter}
use Rattle.std.specs.Ordering.{is_lt, is_eq, nat_cmp, ordering_then, ordering_reverse}
use Rattle.std.specs.Cmp.{IsTotalOrder, on_total, then_total, nat_cmp_total, tied_itself}
use Rattle.std.specs.Cmp.Lexicographic.{slice_cmp, lists_total}
use Rattle.std.specs.FinMap.{IsAntisymmetric, nat_cmp-IsAntisymmetric, slice_cmp-IsAntisymmetric}
use Rattle.std.specs.declared.cmp.Ordering.{Ordering}
use Rattle.std.specs.declared.cmp.Ordering.TheVariants.{Less, Equal, Greater}
use Rattle.std.proofs.lemmas.Bool.{true≢false, and_parts, and_from}
use Rattle.fb_values.specs.Orders.{value_cmp}
use Rattle.fb_values.specs.OrderLaws.{value_cmp_total, value_cmp-IsAntisymmetric}
use Rattle.fb_values.specs.declared.facts.Value.{Value}
use Rattle.tuple_model.proofs.Members.{here, there, cases_of, none_of, kept_member}
use Rattle.tuple_model.specs.Tuples.{Tuple, Row, member_cmp, tuple_cmp, row_cmp, rows_rise, put_row, rows_in_order}

-- ---- the order

abbrev as_list : Option Value → List Value
as_list None = []
as_list (Some v) = v ∷ []

then-Equal : (r : Ordering) → r ≡ ordering_then r Equal
then-Equal Less = refl
then-Equal Equal = refl
then-Equal Greater = refl

member_cmp-as_list : (x y : Option Value) → member_cmp x y ≡ slice_cmp value_cmp (as_list x) (as_list y)
member_cmp-as_list None None = refl
member_cmp-as_list None (Some w) = refl
member_cmp-as_list (Some v) None = refl
member_cmp-as_list (Some v) (Some w) = then-Equal (value_cmp v w)

member_cmp_total : IsTotalOrder member_cmp
member_cmp_total = subst IsTotalOrder (λ i x y. sym (member_cmp-as_list x y) i) (on_total as_list (lists_total value_cmp_total))

row_cmp_total : IsTotalOrder row_cmp
row_cmp_total =
    then_total (on_total (λ (row : Row). row.tuple) (lists_total member_cmp_total)) (on_total (λ (row : Row). row.e) nat_cmp_total)

different : {A : Type 0} (r : Ordering) → T (is_eq r) ≡ ⊥ → r ≡ Equal → A
different r e is = absurd (subst (λ a. a) e (subst (λ q. T (is_eq q)) (sym is) tt))

member_cmp-IsAntisymmetric : IsAntisymmetric member_cmp
member_cmp-IsAntisymmetric None None e = refl
member_cmp-IsAntisymmetric None (Some w) e = different Less refl e
member_cmp-IsAntisymmetric (Some v) None e = different Greater refl e
member_cmp-IsAntisymmetric (Some v) (Some w) e = ap Some (value_cmp-IsAntisymmetric v w e)

then_parts : (r s : Ordering) → ordering_then r s ≡ Equal → (r ≡ Equal) × (s ≡ Equal)
then_parts Less s e = different Less refl e
then_parts Equal s e = (refl, e)
then_parts Greater s e = different Greater refl e

pub tuple_cmp-Equal : (s t : Tuple) → tuple_cmp s t ≡ Equal → s ≡ t
tuple_cmp-Equal = slice_cmp-IsAntisymmetric member_cmp-IsAntisymmetric

pub tuple_cmp-itself : (t : Tuple) → tuple_cmp t t ≡ Equal
tuple_cmp-itself t = tied_itself (lists_total member_cmp_total) t

pub row_cmp-Equal : (x y : Row) → row_cmp x y ≡ Equal → x ≡ y
row_cmp-Equal x y e =
    let parts = then_parts (tuple_cmp x.tuple y.tuple) (nat_cmp x.e y.e) e in
    let tuples = tuple_cmp-Equal x.tuple y.tuple parts.0 in
    let entities = nat_cmp-IsAntisymmetric x.e y.e parts.1 in
    λ i. record { tuple = tuples i; e = entities i }

-- ---- lists in order

neither : (r : Ordering) → is_lt r ≡ false → is_lt (ordering_reverse r) ≡ false → r ≡ Equal
neither Less p q = absurd (true≢false p)
neither Equal p q = refl
neither Greater p q = absurd (true≢false q)

equal_rows : (x y : Row) → is_lt (row_cmp x y) ≡ false → is_lt (row_cmp y x) ≡ false → x ≡ y
equal_rows x y p q = row_cmp-Equal x y (neither (row_cmp x y) p (sym (ap is_lt (row_cmp_total.antisymm y x)) ∙ q))

is_below : Row → List Row → Bool
is_below x [] = true
is_below x (y ∷ rows) = is_lt (row_cmp x y)

rows_rise-cons : (x : Row) (rows : List Row) → rows_rise (x ∷ rows) ≡ (is_below x rows && rows_rise rows)
unfolding is_below
rows_rise-cons x [] = refl
rows_rise-cons x (y ∷ rows) = refl

put-below : (x d : Row) (rows : List Row) → is_lt (row_cmp x d) ≡ true → is_below x rows ≡ true → is_below x (put_row d rows) ≡ true
unfolding is_below
put-below x d [] lt below = lt
put-below x d (y ∷ rows) lt below = go (is_lt (row_cmp d y)) (is_lt (row_cmp y d))
  where
    go : (b c : Bool) → is_below x (cond b (d ∷ y ∷ rows) (cond c (y ∷ put_row d rows) (y ∷ rows))) ≡ true
    go true c = lt
    go false true = below
    go false false = below

put-rises : (d : Row) (rows : List Row) → rows_rise rows ≡ true → rows_rise (put_row d rows) ≡ true
put-rises d [] rising = refl
put-rises d (y ∷ rows) rising =
    let parts = and_parts (is_below y rows) (rows_rise rows) (sym (rows_rise-cons y rows) ∙ rising) in
    go (is_lt (row_cmp d y)) refl (is_lt (row_cmp y d)) refl parts.0 (put-rises d rows parts.1)
  where
    go : (b : Bool) → is_lt (row_cmp d y) ≡ b → (c : Bool) → is_lt (row_cmp y d) ≡ c → is_below y rows ≡ true
        → rows_rise (put_row d rows) ≡ true
        → rows_rise (cond b (d ∷ y ∷ rows) (cond c (y ∷ put_row d rows) (y ∷ rows))) ≡ true
    go true is c also below rest = and_from _ _ is rising
    go false is true also below rest = rows_rise-cons y (put_row d rows) ∙ and_from _ _ (put-below y d rows also below) rest
    go false is false also below rest = rising

pub in_order-rises : (rows : List Row) → rows_rise (rows_in_order rows) ≡ true
in_order-rises [] = refl
in_order-rises (d ∷ rows) = put-rises d (rows_in_order rows) (in_order-rises rows)

put_member : (x : Row) (rows : List Row) (d : Row) → Contains (put_row x rows) d → (x ≡ d) ⊎ Contains rows d
put_member x [] d member = cases_of x d [] member
put_member x (y ∷ rows) d member = go (is_lt (row_cmp x y)) (is_lt (row_cmp y x)) (put_member x rows d) member
  where
    go : (b c : Bool) → (Contains (put_row x rows) d → (x ≡ d) ⊎ Contains rows d)
        → Contains (cond b (x ∷ y ∷ rows) (cond c (y ∷ put_row x rows) (y ∷ rows))) d → (x ≡ d) ⊎ Contains (y ∷ rows) d
    go true c next rest = cases_of x d (y ∷ rows) rest
    go false true next rest =
        elim (cases_of y d (put_row x rows) rest) [
          | inl same ↦ inr (subst (λ z. Contains (y ∷ rows) z) same (here y rows))
          | inr later ↦ elim (next later) [ inl same ↦ inl same | inr more ↦ inr (there y d rows more) ]
        ]
    go false false next rest = inr rest

pub in_order_member : (rows : List Row) (d : Row) → Contains (rows_in_order rows) d → Contains rows d
in_order_member [] d member = absurd (none_of d member)
in_order_member (x ∷ rows) d member =
    elim (put_member x (rows_in_order rows) d member) [
      | inl same ↦ subst (λ z. Contains (x ∷ rows) z) same (here x rows)
      | inr later ↦ there x d rows (in_order_member rows d later)
    ]

put_has_new : (x : Row) (rows : List Row) → Contains (put_row x rows) x
put_has_new x [] = here x []
put_has_new x (y ∷ rows) = go (is_lt (row_cmp x y)) refl (is_lt (row_cmp y x)) refl (put_has_new x rows)
  where
    go : (b : Bool) → is_lt (row_cmp x y) ≡ b → (c : Bool) → is_lt (row_cmp y x) ≡ c → Contains (put_row x rows) x
        → Contains (cond b (x ∷ y ∷ rows) (cond c (y ∷ put_row x rows) (y ∷ rows))) x
    go true is c also rest = here x (y ∷ rows)
    go false is true also rest = there y x (put_row x rows) rest
    go false is false also rest = subst (λ z. Contains (y ∷ rows) z) (sym (equal_rows x y is also)) (here y rows)

put_has_old : (x : Row) (rows : List Row) (d : Row) → Contains rows d → Contains (put_row x rows) d
put_has_old x [] d member = absurd (none_of d member)
put_has_old x (y ∷ rows) d member = go (is_lt (row_cmp x y)) (is_lt (row_cmp y x)) (put_has_old x rows d) (cases_of y d rows member)
  where
    go : (b c : Bool) → (Contains rows d → Contains (put_row x rows) d) → (y ≡ d) ⊎ Contains rows d
        → Contains (cond b (x ∷ y ∷ rows) (cond c (y ∷ put_row x rows) (y ∷ rows))) d
    go true c next which = there x d (y ∷ rows) member
    go false true next (inl same) = subst (λ z. Contains (y ∷ put_row x rows) z) same (here y (put_row x rows))
    go false true next (inr later) = there y d (put_row x rows) (next later)
    go false false next which = member

pub in_order_has : (rows : List Row) (d : Row) → Contains rows d → Contains (rows_in_order rows) d
in_order_has [] d member = absurd (none_of d member)
in_order_has (x ∷ rows) d member =
    elim (cases_of x d rows member) [
      | inl same ↦ subst (λ z. Contains (put_row x (rows_in_order rows)) z) same (put_has_new x (rows_in_order rows))
      | inr later ↦ put_has_old x (rows_in_order rows) d (in_order_has rows d later)
    ]

-- ---- one rising list has these members

is_less : (r : Ordering) → is_lt r ≡ true → r ≡ Less
is_less Less e = refl
is_less Equal e = absurd (true≢false (sym e))
is_less Greater e = absurd (true≢false (sym e))

lt_chain : (x y z : Row) → is_lt (row_cmp x y) ≡ true → is_lt (row_cmp y z) ≡ true → is_lt (row_cmp x z) ≡ true
lt_chain x y z p q = ap is_lt (row_cmp_total.trans x y z (is_less (row_cmp x y) p) (is_less (row_cmp y z) q))

not_itself : (x : Row) → is_lt (row_cmp x x) ≡ true → ⊥
not_itself x lt = true≢false (sym lt ∙ ap is_lt (tied_itself row_cmp_total x))

not_both : (x y : Row) → is_lt (row_cmp x y) ≡ true → is_lt (row_cmp y x) ≡ true → ⊥
not_both x y p q = not_itself x (lt_chain x y x p q)

pub rest_rises : (x : Row) (rows : List Row) → rows_rise (x ∷ rows) ≡ true → rows_rise rows ≡ true
rest_rises x [] rising = refl
rest_rises x (y ∷ rows) rising = (and_parts _ _ rising).1

pub first_is_least : (x : Row) (rows : List Row) (d : Row) → rows_rise (x ∷ rows) ≡ true → Contains rows d → is_lt (row_cmp x d) ≡ true
first_is_least x [] d rising member = absurd (none_of d member)
first_is_least x (y ∷ rows) d rising member =
    let parts = and_parts (is_lt (row_cmp x y)) (rows_rise (y ∷ rows)) rising in
    elim (cases_of y d rows member) [
      | inl same ↦ subst (λ z. is_lt (row_cmp x z) ≡ true) same parts.0
      | inr later ↦ lt_chain x y d parts.0 (first_is_least y rows d parts.1 later)
    ]

below_rest : (x : Row) (rows : List Row) → ((d : Row) → Contains rows d → is_lt (row_cmp x d) ≡ true) → is_below x rows ≡ true
unfolding is_below
below_rest x [] below = refl
below_rest x (y ∷ rows) below = below y (here y rows)

pub filter-rises : (p : Row → Bool) (rows : List Row) → rows_rise rows ≡ true → rows_rise (filter p rows) ≡ true
filter-rises p [] rising = refl
filter-rises p (x ∷ rows) rising = go (p x) (filter-rises p rows (rest_rises x rows rising))
  where
    go : (b : Bool) → rows_rise (filter p rows) ≡ true → rows_rise (cond b (x ∷ filter p rows) (filter p rows)) ≡ true
    go true rest =
        rows_rise-cons x (filter p rows)
        ∙ and_from _ _ (below_rest x (filter p rows) (λ d member. first_is_least x rows d rising (kept_member p rows d member).0)) rest
    go false rest = rest

pub one_rising_list : (xs ys : List Row) → rows_rise xs ≡ true → rows_rise ys ≡ true
    → ((d : Row) → Contains xs d → Contains ys d) → ((d : Row) → Contains ys d → Contains xs d) → xs ≡ ys
one_rising_list [] [] p q there_too back = refl
one_rising_list [] (y ∷ ys) p q there_too back = absurd (none_of y (back y (here y ys)))
one_rising_list (x ∷ xs) [] p q there_too back = absurd (none_of x (there_too x (here x xs)))
one_rising_list (x ∷ xs) (y ∷ ys) p q there_too back =
    let rest : xs ≡ ys = one_rising_list xs ys (rest_rises x xs p) (rest_rises y ys q)
    (λ d member. elim (cases_of y d ys (there_too d (there x d xs member))) [
      | inl same ↦ absurd (not_itself d (subst (λ z. is_lt (row_cmp z d) ≡ true) (first_same ∙ same) (first_is_least x xs d p member)))
      | inr later ↦ later
    ])
    (λ d member. elim (cases_of x d xs (back d (there y d ys member))) [
      | inl same ↦ absurd (not_itself d (subst (λ z. is_lt (row_cmp z d) ≡ true) (sym first_same ∙ same) (first_is_least y ys d q member)))
      | inr later ↦ later
    ]) in
    λ i. first_same i ∷ rest i
  where
    first_same : x ≡ y
    first_same =
        elim (cases_of y x ys (there_too x (here x xs))) [
          | inl same ↦ sym same
          | inr x_later ↦ elim (cases_of x y xs (back y (here y ys))) [
            | inl same ↦ same
            | inr y_later ↦ absurd (not_both x y (first_is_least x xs y p y_later) (first_is_least y ys x q x_later))
          ]
        ]
