-- Two lists of an order read as one, datom by datom.
use Rattle.std.proofs.Common.{◌≡◌, ◌∙◌, ℕ, zero, suc, ◌+◌, ◌<◌, inl, inr, false, List, [], ◌∷◌, ◌++◌, length, drop, get_or, refl, sym, ap}
use Rattle.std.proofs.Common.{subst, arith, Some, None}
use Rattle.std.specs.Prelude.{Contains}
use Rattle.std.specs.List.{slice_get}
use Rattle.std.specs.Ordering.{is_lt}
use Rattle.std.specs.declared.cmp.Ordering.{Ordering}
use Rattle.std.specs.declared.cmp.Ordering.TheVariants.{Less, Equal, Greater}
use Rattle.std.proofs.lemmas.List.Elements.{Contains-append_left, Contains-append_right, Contains-append_cases}
use Rattle.fb_values.specs.declared.facts.Datom.{Datom}
use Rattle.fb_values.specs.declared.indexes.Order.{Order}
use Rattle.fb_values.specs.Orders.{key_cmp}
use Rattle.fb_values.specs.OrderLaws.{key_cmp_total, key_cmp-Equal}
use Rattle.fb_values.specs.Rising.{IsBelowAll, IsRising}
use Rattle.fb_model.specs.Rising.{put_in_order, in_order}
use Rattle.fb_model.proofs.Members.{in_order_member}
use Rattle.live_index.specs.Halves.{IsPair, merged}
use Rattle.live_index.proofs.Members.{contains-cons, contains_head, contains_tail, contains_none}
use Rattle.live_index.proofs.Together.{before_member, before_all}

pub put_first : (order : Order) (x : Datom) (ds : List Datom) → IsBelowAll order x ds → put_in_order order x ds ≡ x ∷ ds
put_first order x [] before = refl
put_first order x (y ∷ ds) before = rw before.0 refl

-- a rising list is in order
pub in_order_rising : (order : Order) (ds : List Datom) → IsRising order ds → in_order order ds ≡ ds
in_order_rising order [] rising = refl
in_order_rising order (d ∷ ds) rising = ap (put_in_order order d) (in_order_rising order ds rising.1) ∙ put_first order d ds rising.0

-- a datom before all others comes first
merge_left : (order : Order) (x : Datom) (ds : List Datom)
    → ((d : Datom) → Contains ds d → key_cmp order x d ≡ Less) → in_order order (x ∷ ds) ≡ x ∷ in_order order ds
merge_left order x ds each =
    put_first order x (in_order order ds) (before_all order x (in_order order ds) (λ d there. each d (in_order_member order ds d there)))

greater_than : (order : Order) (x y : Datom) → key_cmp order y x ≡ Less → key_cmp order x y ≡ Greater
greater_than order x y less = cc ((key_cmp_total order).antisymm x y)

put_second : (order : Order) (x y : Datom) (ds : List Datom) → key_cmp order y x ≡ Less
    → put_in_order order x (y ∷ ds) ≡ y ∷ put_in_order order x ds
put_second order x y ds less = rw (greater_than order x y less, less) refl

merge_right : (order : Order) (xs : List Datom) (y : Datom) (ys : List Datom) → ((d : Datom) → Contains xs d → key_cmp order y d ≡ Less)
    → ((d : Datom) → Contains ys d → key_cmp order y d ≡ Less) → in_order order (xs ++ y ∷ ys) ≡ y ∷ in_order order (xs ++ ys)
merge_right order [] y ys left right = merge_left order y ys right
merge_right order (x ∷ xs) y ys left right =
    ap (put_in_order order x) (merge_right order xs y ys (λ d there. left d (contains_tail x xs d there)) right)
    ∙ put_second order x y (in_order order (xs ++ ys)) (left x (contains_head x xs x refl))

-- ---- what is left of a list

pub drop_next : {X : Type 0} (ds : List X) (i : ℕ) (d : X) → slice_get ds i ≡ Some d → drop i ds ≡ d ∷ drop (i + 1) ds
drop_next [] i d read = absurd (cc)
drop_next (x ∷ ds) zero d read = let same : x ≡ d = cc in ap (λ z. z ∷ ds) same
drop_next (x ∷ ds) (suc i) d read = let one : suc i + 1 ≡ suc (i + 1) = omega arith in rw one (drop_next ds i d read)

pub drop_past : {X : Type 0} (ds : List X) (i : ℕ) → slice_get ds i ≡ None → drop i ds ≡ []
drop_past [] zero none = refl
drop_past [] (suc i) none = refl
drop_past (x ∷ ds) zero none = absurd (cc)
drop_past (x ∷ ds) (suc i) none = drop_past ds i none

pub from_drop : (ds : List Datom) (i : ℕ) (d : Datom) → Contains (drop i ds) d → Contains ds d
from_drop ds zero d there = there
from_drop [] (suc i) d there = there
from_drop (x ∷ ds) (suc i) d there = contains_tail x ds d (from_drop ds i d there)

pub rising-drop : (order : Order) (ds : List Datom) (i : ℕ) → IsRising order ds → IsRising order (drop i ds)
rising-drop order ds zero rising = rising
rising-drop order [] (suc i) rising = tt
rising-drop order (x ∷ ds) (suc i) rising = rising-drop order ds i rising.1

-- the datom at a place is before all behind it
before_rest : (order : Order) (ds : List Datom) (i : ℕ) (x : Datom) → IsRising order ds → slice_get ds i ≡ Some x
    → (d : Datom) → Contains (drop (i + 1) ds) d → key_cmp order x d ≡ Less
before_rest order ds i x rising read d there =
    let rest : IsRising order (x ∷ drop (i + 1) ds) = subst (IsRising order) (drop_next ds i x read) (rising-drop order ds i rising) in
    before_member order x (drop (i + 1) ds) d rest.0 there

read_member : (ds : List Datom) (i : ℕ) (x : Datom) → slice_get ds i ≡ Some x → Contains ds x
read_member ds i x read =
    from_drop ds i x (subst (λ (l : List Datom). Contains l x) (sym (drop_next ds i x read)) (contains_head x (drop (i + 1) ds) x refl))

module _ (order : Order) (older live : List Datom) (pair : IsPair order older live) (i j : ℕ) where
  pub next_none : slice_get older i ≡ None → slice_get live j ≡ None → merged order (drop i older) (drop j live) ≡ []
  next_none none none_live = rw (drop_past older i none, drop_past live j none_live) refl

  pub next_older_alone : (x : Datom) → slice_get older i ≡ Some x → slice_get live j ≡ None
      → merged order (drop i older) (drop j live) ≡ x ∷ merged order (drop (i + 1) older) (drop j live)
  next_older_alone x read none =
      rw (drop_next older i x read, drop_past live j none)
      (merge_left order x (drop (i + 1) older ++ []) (λ d there. elim (Contains-append_cases (drop (i + 1) older) [] d there) [
        | inl behind ↦ before_rest order older i x pair.older_rises read d behind
        | inr nothing ↦ absurd (contains_none d nothing)
      ]))

  pub next_live_alone : (y : Datom) → slice_get older i ≡ None → slice_get live j ≡ Some y
      → merged order (drop i older) (drop j live) ≡ y ∷ merged order (drop i older) (drop (j + 1) live)
  next_live_alone y none read =
      rw (drop_past older i none, drop_next live j y read)
      (merge_left order y (drop (j + 1) live) (before_rest order live j y pair.live_rises read))

  -- the datom of the other list at hand, and those behind it
  behind_live : (x y : Datom) → slice_get live j ≡ Some y → key_cmp order x y ≡ Less → (d : Datom) → Contains (drop j live) d
      → key_cmp order x d ≡ Less
  behind_live x y read less d there =
      elim (contains-cons y (drop (j + 1) live) d (subst (λ (l : List Datom). Contains l d) (drop_next live j y read) there)) [
        | inl same ↦ subst (λ (z : Datom). key_cmp order x z ≡ Less) same less
        | inr behind ↦ (key_cmp_total order).trans x y d less (before_rest order live j y pair.live_rises read d behind)
      ]

  behind_older : (x y : Datom) → slice_get older i ≡ Some x → key_cmp order y x ≡ Less → (d : Datom) → Contains (drop i older) d
      → key_cmp order y d ≡ Less
  behind_older x y read less d there =
      elim (contains-cons x (drop (i + 1) older) d (subst (λ (l : List Datom). Contains l d) (drop_next older i x read) there)) [
        | inl same ↦ subst (λ (z : Datom). key_cmp order y z ≡ Less) same less
        | inr behind ↦ (key_cmp_total order).trans y x d less (before_rest order older i x pair.older_rises read d behind)
      ]

  pub next_older : (x y : Datom) → slice_get older i ≡ Some x → slice_get live j ≡ Some y → key_cmp order x y ≡ Less
      → merged order (drop i older) (drop j live) ≡ x ∷ merged order (drop (i + 1) older) (drop j live)
  next_older x y read read_live less =
      ap (λ (l : List Datom). in_order order (l ++ drop j live)) (drop_next older i x read)
      ∙ merge_left order x (drop (i + 1) older ++ drop j live)
      (λ d there. elim (Contains-append_cases (drop (i + 1) older) (drop j live) d there) [
        | inl behind ↦ before_rest order older i x pair.older_rises read d behind
        | inr other ↦ behind_live x y read_live less d other
      ])

  live_less : (x y : Datom) → slice_get older i ≡ Some x → slice_get live j ≡ Some y → is_lt (key_cmp order x y) ≡ false
      → key_cmp order y x ≡ Less
  live_less x y read read_live not_less = go (key_cmp order x y) refl not_less
    where
      go : (o : Ordering) → key_cmp order x y ≡ o → is_lt o ≡ false → key_cmp order y x ≡ Less
      go Less is fails = absurd (cc)
      go Equal is fails =
          let x_in = read_member older i x read in
          let y_in = read_member live j y read_live in
          let same =
          pair.single x y (Contains-append_left older live x x_in) (Contains-append_right older live y y_in) (key_cmp-Equal order x y is) in
          absurd (pair.apart y (subst (Contains older) same x_in) y_in)
      go Greater is fails = cc ((key_cmp_total order).antisymm x y, (key_cmp_total order).antisymm y x)

  pub next_live : (x y : Datom) → slice_get older i ≡ Some x → slice_get live j ≡ Some y → is_lt (key_cmp order x y) ≡ false
      → merged order (drop i older) (drop j live) ≡ y ∷ merged order (drop i older) (drop (j + 1) live)
  next_live x y read read_live not_less =
      let less = live_less x y read read_live not_less in
      ap (λ (l : List Datom). in_order order (drop i older ++ l)) (drop_next live j y read_live)
      ∙ merge_right order (drop i older) y (drop (j + 1) live) (behind_older x y read less)
      (before_rest order live j y pair.live_rises read_live)

pub read_at : (ds : List Datom) (i : ℕ) (d : Datom) → slice_get ds i ≡ Some d → (i < length ds) × (get_or ds i d ≡ d)
read_at [] i d read = absurd (cc)
read_at (x ∷ ds) zero d read = (omega arith, cc)
read_at (x ∷ ds) (suc i) d read = let rest = read_at ds i d read in (omega (arith, rest.0), rest.1)

-- ---- how many there are

-- of one key with none of the list
abbrev IsApart : Order → Datom → List Datom → Type 0
IsApart order d ds = (y : Datom) → Contains ds y → key_cmp order d y ≡ Equal → ⊥

length-put : (order : Order) (d : Datom) (ds : List Datom) → IsApart order d ds → length (put_in_order order d ds) ≡ suc (length ds)
length-put order d [] apart = refl
length-put order d (f ∷ ds) apart =
    go (key_cmp order d f) (key_cmp order f d) refl refl (length-put order d ds (λ y there. apart y (contains_tail f ds y there)))
  where
    go : (o p : Ordering) → key_cmp order d f ≡ o → key_cmp order f d ≡ p → length (put_in_order order d ds) ≡ suc (length ds)
        → length (put_in_order order d (f ∷ ds)) ≡ suc (length (f ∷ ds))
    go Less p is back rest = rw is refl
    go Equal p is back rest = absurd (apart f (contains_head f ds f refl) is)
    go Greater Less is back rest = rw (is, back) (ap suc rest)
    go Greater Equal is back rest = let t = key_cmp_total order in absurd (cc (t.antisymm d f, t.antisymm f d))
    go Greater Greater is back rest = let t = key_cmp_total order in absurd (cc (t.antisymm d f, t.antisymm f d))

less_apart : (order : Order) (x y : Datom) → key_cmp order x y ≡ Less → key_cmp order x y ≡ Equal → ⊥
less_apart order x y less equal = absurd (cc)

length-rising : (order : Order) (ds : List Datom) → IsRising order ds → length (in_order order ds) ≡ length ds
length-rising order [] rising = refl
length-rising order (x ∷ ds) rising =
    length-put order x (in_order order ds)
    (λ y there. less_apart order x y (before_member order x ds y rising.0 (in_order_member order ds y there)))
    ∙ ap suc (length-rising order ds rising.1)

pub length-merged : (order : Order) (older live : List Datom) → IsPair order older live
    → length (merged order older live) ≡ length older + length live
length-merged order [] live pair = length-rising order live pair.live_rises ∙ omega arith
length-merged order (x ∷ older) live pair =
    length-put order x (in_order order (older ++ live))
    (λ y there equal. elim (Contains-append_cases older live y (in_order_member order (older ++ live) y there)) [
      | inl mine ↦ less_apart order x y (before_member order x older y pair.older_rises.0 mine) equal
      | inr other ↦
          let same =
          pair.single x y (Contains-append_left (x ∷ older) live x (contains_head x older x refl))
          (Contains-append_right (x ∷ older) live y other) (key_cmp-Equal order x y equal) in
          pair.apart y (subst (Contains (x ∷ older)) same (contains_head x older x refl)) other
    ])
    ∙ ap suc (length-merged order older live rest)
    ∙ omega arith
  where
    rest : IsPair order older live
    rest = record {
      older_rises = pair.older_rises.1;
      live_rises = pair.live_rises;
      apart = λ d there also. pair.apart d (contains_tail x older d there) also;
      single = λ y z y_in z_in at. pair.single y z (contains_tail x (older ++ live) y y_in) (contains_tail x (older ++ live) z z_in) at;
    }
