-- The last datom of two lists that are read as one.
use Rattle.std.proofs.Common.{◌≡◌, ◌∙◌, ℕ, suc, ◌-◌, ◌⊎◌, inl, inr, false, List, [], ◌∷◌, length, refl, sym, ap, subst}
use Rattle.std.proofs.Common.{arith, Option, Some, None}
use Rattle.std.specs.Prelude.{Contains}
use Rattle.std.specs.List.{slice_get}
use Rattle.std.specs.Cmp.{tied_itself}
use Rattle.std.specs.Ordering.{is_lt}
use Rattle.std.specs.declared.cmp.Ordering.{Ordering}
use Rattle.std.specs.declared.cmp.Ordering.TheVariants.{Less, Equal, Greater}
use Rattle.std.proofs.lemmas.Bool.{cases_Bool, true≢false}
use Rattle.std.proofs.lemmas.List.Elements.{Contains-append_left, Contains-append_right}
use Rattle.fb_values.specs.declared.facts.Datom.{Datom}
use Rattle.fb_values.specs.declared.indexes.Order.{Order}
use Rattle.fb_values.specs.Orders.{key_cmp}
use Rattle.fb_values.specs.OrderLaws.{key_cmp-Equal, key_cmp_total}
use Rattle.fb_values.specs.Rising.{IsRising}
use Rattle.fb_values.proofs.Rising.{less_is}
use Rattle.live_index.specs.Halves.{IsPair, merged}
use Rattle.live_index.specs.Walks.{later_of}
use Rattle.live_index.proofs.Halves.{from_merged, into_merged, merged_rises}
use Rattle.live_index.proofs.Members.{contains-cons, contains_head, contains_none, contains_tail}
use Rattle.live_index.proofs.Together.{before_member}

-- the datom is of the list, and all others stand before it
record IsGreatest (order : Order) (ds : List Datom) (x : Datom) : Type 0 where
  pub there : Contains ds x
  pub above : (y : Datom) → Contains ds y → (y ≡ x) ⊎ (key_cmp order y x ≡ Less)

not_self : (order : Order) (x : Datom) → key_cmp order x x ≡ Less → ⊥
not_self order x less = let tied : key_cmp order x x ≡ Equal = tied_itself (key_cmp_total order) x in absurd (cc)

one_more : (n : ℕ) → suc (suc n) - 1 ≡ suc n
one_more n = omega arith

none_less : (n : ℕ) → suc n - 1 ≡ n
none_less n = omega arith

last_step : (d e : Datom) (ds : List Datom) → slice_get (d ∷ e ∷ ds) (length (d ∷ e ∷ ds) - 1) ≡ slice_get (e ∷ ds) (length (e ∷ ds) - 1)
last_step d e ds =
    ap (slice_get (d ∷ e ∷ ds)) (one_more (length ds)) ∙ ap (slice_get (e ∷ ds)) (sym (none_less (length ds)))

greatest_last : (order : Order) (ds : List Datom) (x : Datom) → IsRising order ds → IsGreatest order ds x
    → slice_get ds (length ds - 1) ≡ Some x
greatest_last order [] x rising is = absurd (contains_none x is.there)
greatest_last order (d ∷ []) x rising is =
    elim (contains-cons d [] x is.there) [
      | inl same ↦ ap Some same
      | inr none ↦ absurd (contains_none x none)
    ]
greatest_last order (d ∷ e ∷ ds) x rising is =
    last_step d e ds ∙ greatest_last order (e ∷ ds) x rising.1 (record {
      there = behind (contains-cons d (e ∷ ds) x is.there);
      above = λ y there. is.above y (contains_tail d (e ∷ ds) y there);
    })
  where
    behind : (d ≡ x) ⊎ Contains (e ∷ ds) x → Contains (e ∷ ds) x
    behind (inr there) = there
    behind (inl same) =
        let less : key_cmp order x e ≡ Less = subst (λ (y : Datom). key_cmp order y e ≡ Less) same rising.0.0 in
        elim (is.above e (contains_tail d (e ∷ ds) e (contains_head e ds e refl))) [
          | inl equal ↦ absurd (not_self order x (subst (λ (y : Datom). key_cmp order x y ≡ Less) equal less))
          | inr back ↦ absurd (not_self order x ((key_cmp_total order).trans x e x less back))
        ]

last_greatest : (order : Order) (ds : List Datom) (x : Datom) → IsRising order ds → slice_get ds (length ds - 1) ≡ Some x
    → IsGreatest order ds x
last_greatest order [] x rising is = absurd (cc)
last_greatest order (d ∷ []) x rising is =
    let same : d ≡ x = some_is is in
    record {
      there = contains_head d [] x same;
      above = λ y there. elim (contains-cons d [] y there) [
        | inl is ↦ inl (sym is ∙ same)
        | inr none ↦ absurd (contains_none y none)
      ];
    }
  where
    some_is : Some d ≡ Some x → d ≡ x
    some_is is = cc
last_greatest order (d ∷ e ∷ ds) x rising is =
    let rest = last_greatest order (e ∷ ds) x rising.1 (sym (last_step d e ds) ∙ is) in
    record {
      there = contains_tail d (e ∷ ds) x rest.there;
      above = λ y there. elim (contains-cons d (e ∷ ds) y there) [
        | inl same ↦ inr (subst (λ (z : Datom). key_cmp order z x ≡ Less) same (before_member order d (e ∷ ds) x rising.0 rest.there))
        | inr behind ↦ rest.above y behind
      ];
    }

last_none : (ds : List Datom) → slice_get ds (length ds - 1) ≡ None → (x : Datom) → Contains ds x → ⊥
last_none [] is x there = contains_none x there
last_none (d ∷ []) is x there = absurd (cc)
last_none (d ∷ e ∷ ds) is x there = last_none (e ∷ ds) (sym (last_step d e ds) ∙ is) e (contains_head e ds e refl)

last_empty : (ds : List Datom) → ((x : Datom) → Contains ds x → ⊥) → slice_get ds (length ds - 1) ≡ None
last_empty [] none = refl
last_empty (d ∷ ds) none = absurd (none d (contains_head d ds d refl))

module _ (order : Order) (older live : List Datom) (pair : IsPair order older live) where
  rises : IsRising order (merged order older live)
  rises = merged_rises order older live

  in_both : (x : Datom) → Contains older x ⊎ Contains live x → Contains (merged order older live) x
  in_both x given = into_merged order older live x pair.single given

  through : (y x z : Datom) → (y ≡ x) ⊎ (key_cmp order y x ≡ Less) → key_cmp order x z ≡ Less → key_cmp order y z ≡ Less
  through y x z (inl same) less = subst (λ (w : Datom). key_cmp order w z ≡ Less) (sym same) less
  through y x z (inr first) less = (key_cmp_total order).trans y x z first less

  greatest : (a b : Option Datom) → slice_get older (length older - 1) ≡ a → slice_get live (length live - 1) ≡ b
      → slice_get (merged order older live) (length (merged order older live) - 1) ≡ later_of order a b
  greatest None None none none_live =
      last_empty (merged order older live) (λ x there. elim (from_merged order older live x there) [
        | inl mine ↦ last_none older none x mine
        | inr other ↦ last_none live none_live x other
      ])
  greatest None (Some y) none last =
      let top = last_greatest order live y pair.live_rises last in
      greatest_last order (merged order older live) y rises (record {
        there = in_both y (inr top.there);
        above = λ z there. elim (from_merged order older live z there) [
          | inl mine ↦ absurd (last_none older none z mine)
          | inr other ↦ top.above z other
        ];
      })
  greatest (Some x) None last none =
      let top = last_greatest order older x pair.older_rises last in
      greatest_last order (merged order older live) x rises (record {
        there = in_both x (inl top.there);
        above = λ z there. elim (from_merged order older live z there) [
          | inl mine ↦ top.above z mine
          | inr other ↦ absurd (last_none live none z other)
        ];
      })
  greatest (Some x) (Some y) last last_live =
      elim (cases_Bool (is_lt (key_cmp order x y))) [
        | inl less ↦ rw less
            (greatest_last order (merged order older live) y rises (record {
              there = in_both y (inr of_live.there);
              above = λ z there. elim (from_merged order older live z there) [
                | inl mine ↦ inr (through z x y (of_older.above z mine) (less_is (key_cmp order x y) less))
                | inr other ↦ of_live.above z other
              ];
            }))
        | inr not_less ↦ rw not_less
            (greatest_last order (merged order older live) x rises (record {
              there = in_both x (inl of_older.there);
              above = λ z there. elim (from_merged order older live z there) [
                | inl mine ↦ of_older.above z mine
                | inr other ↦ inr (through z y x (of_live.above z other) (back (key_cmp order x y) refl not_less))
              ];
            }))
      ]
    where
      of_older : IsGreatest order older x
      of_older = last_greatest order older x pair.older_rises last

      of_live : IsGreatest order live y
      of_live = last_greatest order live y pair.live_rises last_live

      back : (o : Ordering) → key_cmp order x y ≡ o → is_lt o ≡ false → key_cmp order y x ≡ Less
      back Less is lt = absurd (true≢false lt)
      back Equal is lt =
          let same =
          pair.single x y (Contains-append_left older live x of_older.there) (Contains-append_right older live y of_live.there)
          (key_cmp-Equal order x y is) in
          absurd (pair.apart y (subst (Contains older) same of_older.there) of_live.there)
      back Greater is lt = cc ((key_cmp_total order).antisymm y x)

  pub last_merged : slice_get (merged order older live) (length (merged order older live) - 1)
      ≡ later_of order (slice_get older (length older - 1)) (slice_get live (length live - 1))
  last_merged = greatest (slice_get older (length older - 1)) (slice_get live (length live - 1)) refl refl
