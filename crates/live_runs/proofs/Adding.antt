-- A list with one datom more.
use Rattle.std.proofs.Common.{◌≡◌, ◌∙◌, ◌+◌, inl, inr, Bool, true, false, cond, List, [], ◌∷◌, length, refl, sym, ap, subst, arith}
use Rattle.std.specs.Prelude.{Contains}
use Rattle.std.specs.Ordering.{is_lt}
use Rattle.std.specs.declared.cmp.Ordering.{Ordering}
use Rattle.std.specs.declared.cmp.Ordering.TheVariants.{Less, Equal, Greater}
use Rattle.std.proofs.lemmas.Bool.{true≢false}
use Rattle.fb_values.specs.declared.facts.Datom.{Datom}
use Rattle.fb_values.specs.declared.indexes.Order.{Order}
use Rattle.fb_values.specs.Orders.{key_cmp}
use Rattle.fb_values.specs.OrderLaws.{key_cmp_total}
use Rattle.fb_values.specs.Rising.{IsRising}
use Rattle.fb_values.proofs.Rising.{rises_from, rising_from}
use Rattle.fb_model.specs.Rising.{in_order, put_in_order}
use Rattle.fb_model.proofs.InOrder.{in_order_has, put_has_new, put_has_old}
use Rattle.fb_model.proofs.Members.{here, there, cases_of, none_of, put-rises, in_order-rises, in_order_member}
use Rattle.live_runs.specs.Changed.{HasNoTwins, IsWithin, changed, MayChange}
use Rattle.live_runs.proofs.Rises.{one_key, same_list}
use Rattle.live_runs.proofs.Changed.{IsOfChanged, changed_is}

in_order_same : (order : Order) (table ds : List Datom) → HasNoTwins table → IsWithin table ds → IsRising order ds → in_order order ds ≡ ds
in_order_same order table ds single within rising =
    same_list order (in_order order ds) ds (rising_from order (in_order order ds) (in_order-rises order ds)) rising
    (λ d inside. in_order_member order ds d inside)
    (λ d inside. in_order_has order ds
    (record { same = λ x y x_in y_in equal. one_key order table x y single (within x x_in) (within y y_in) equal }) d inside)

module _ (order : Order) (table : List Datom) (d : Datom) (ds : List Datom) (single : HasNoTwins table) (within : IsWithin table ds)
    (d_in : Contains table d) (rising : IsRising order ds) (fresh : Contains ds d → ⊥) where
  pub adding_may : MayChange order table [] (d ∷ []) ds
  adding_may =
      record {
        rising = rising;
        gone_rises = tt;
        come_rises = (tt, tt);
        within = within;
        come_within = λ e comes. elim (cases_of d e [] comes) [ inl same ↦ subst (Contains table) same d_in | inr none ↦ absurd (none_of e none) ];
        there = λ e goes. absurd (none_of e goes);
        fresh = λ e comes inside. elim (cases_of d e [] comes) [
          | inl same ↦ fresh (subst (Contains ds) (sym same) inside)
          | inr none ↦ none_of e none
        ];
      }

  put_rises : IsRising order (put_in_order order d ds)
  put_rises = rising_from order (put_in_order order d ds) (put-rises order d ds (rises_from order ds rising))

  from : (e : Datom) → Contains (put_in_order order d ds) e → IsOfChanged [] (d ∷ []) ds e
  from e inside =
      let put : Contains (in_order order (d ∷ ds)) e =
      subst (λ (l : List Datom). Contains (put_in_order order d l) e) (sym (in_order_same order table ds single within rising)) inside in
      elim (cases_of d e ds (in_order_member order (d ∷ ds) e put)) [
        | inl same ↦ inr (subst (Contains (d ∷ [])) same (here d []))
        | inr behind ↦ inl (behind, none_of e)
      ]

  into : (e : Datom) → IsOfChanged [] (d ∷ []) ds e → Contains (put_in_order order d ds) e
  into e (inl stayed) = put_has_old order d ds e stayed.0
  into e (inr comes) =
      elim (cases_of d e [] comes) [
        | inl same ↦
            subst (Contains (put_in_order order d ds)) same
            (put_has_new order d ds (λ y y_in equal. one_key order table d y single d_in (within y y_in) equal))
        | inr none ↦ absurd (none_of e none)
      ]

  pub adding_is : changed order [] (d ∷ []) ds ≡ put_in_order order d ds
  adding_is = changed_is order table [] (d ∷ []) ds single adding_may (put_in_order order d ds) put_rises from into

  no_equal : (y : Datom) → Contains ds y → key_cmp order d y ≡ Equal → ⊥
  no_equal y y_in equal = fresh (subst (Contains ds) (sym (one_key order table d y single d_in (within y y_in) equal)) y_in)

  pub adding_length : length (put_in_order order d ds) ≡ length ds + 1
  adding_length = length-put order d ds no_equal
    where
      length-put : (order : Order) (d : Datom) (ds : List Datom) → ((y : Datom) → Contains ds y → key_cmp order d y ≡ Equal → ⊥)
          → length (put_in_order order d ds) ≡ length ds + 1
      length-put order d [] none = omega arith
      length-put order d (y ∷ ds) none =
          go (is_lt (key_cmp order d y)) refl (is_lt (key_cmp order y d)) refl (length-put order d ds (λ z z_in. none z (there y z ds z_in)))
        where
          other : (o : Ordering) → key_cmp order d y ≡ o → is_lt o ≡ false → is_lt (key_cmp order y d) ≡ false → ⊥
          other Less is not_less not_more = true≢false not_less
          other Equal is not_less not_more = none y (here y ds) is
          other Greater is not_less not_more =
              let back : key_cmp order y d ≡ Less = cc ((key_cmp_total order).antisymm y d) in
              true≢false (sym (ap is_lt back) ∙ not_more)

          go : (b : Bool) → is_lt (key_cmp order d y) ≡ b → (c : Bool) → is_lt (key_cmp order y d) ≡ c
              → length (put_in_order order d ds) ≡ length ds + 1
              → length (cond b (d ∷ y ∷ ds) (cond c (y ∷ put_in_order order d ds) (y ∷ ds))) ≡ length (y ∷ ds) + 1
          go true is c also rest = omega arith
          go false is true also rest = omega (arith, rest)
          go false is false also rest = absurd (other (key_cmp order d y) refl is also)
