-- Entries of new entities may follow one another.
use Rattle.std.proofs.Common.{◌≡◌, ◌∙◌, ℕ, ◌+◌, ◌<◌, ◌≤◌, ◌⊎◌, inl, inr, true, false, List, [], ◌∷◌, ◌++◌, length, get_or, refl, sym, ap}
use Rattle.std.proofs.Common.{subst, arith}
use Rattle.std.specs.Prelude.{Contains, IsTrue}
use Rattle.std.specs.List.{All}
use Rattle.std.specs.Ordering.{nat_cmp}
use Rattle.std.specs.declared.cmp.Ordering.TheVariants.{Less, Equal}
use Rattle.std.proofs.lemmas.Bool.Decides.{nat_tests}
use Rattle.std.proofs.lemmas.List.Elements.{Contains-append_cases, Contains-get_or}
use Rattle.fb_values.specs.declared.facts.Datom.{Datom}
use Rattle.fb_values.specs.declared.indexes.Order.{Order}
use Rattle.fb_values.specs.declared.indexes.Order.TheVariants.{Eavt}
use Rattle.fb_values.specs.Orders.{key_cmp}
use Rattle.fb_values.specs.OrderLaws.{IsAtOnePlace}
use Rattle.fb_values.specs.Rising.{IsRising}
use Rattle.fb_covers.specs.Coverage.{Coverage}
use Rattle.fb_model.specs.Facts.{standing}
use Rattle.fb_model.proofs.Members.{standing_member}
use Rattle.fb_model.proofs.Triples.{is_of-true}
use Rattle.live_index.specs.Ending.{is_mate}
use Rattle.live_index.specs.Growth.{HasNoTwins, IsGrown, is_held}
use Rattle.live_index.specs.Halves.{MayFollow}
use Rattle.live_index.proofs.Members.{contains-cons, contains_none}
use Rattle.live_index.proofs.Halves.{no_twins-rising}
use Rattle.seg_merge.proofs.Before.{rising_join}
use Rattle.bench.specs.Entries.{IsOf, IsEntry, IsUpto, IsFrom, IsEntryUpto, IsBefore}

abbrev pub AreOlder : ℕ → List Datom → Type 0
AreOlder n ds = (d : Datom) → Contains ds d → (m : ℕ) × (m < n) × IsOf m d

-- ---- one entry

pub none_yet : (n e a : ℕ) (ds : List Datom) → ds ≡ [] → IsEntryUpto n e a ds
none_yet n e a ds is =
    subst (IsEntryUpto n e a) (sym is) (record {
      entry = record { of = λ d there. absurd (contains_none d there); rising = tt };
      upto = λ d there. absurd (contains_none d there);
    })

-- what stands before a place stands before what stands behind it
passes : (e a : ℕ) (x d : Datom) → IsUpto e a x → IsFrom e a d → IsUpto d.e d.a x
passes e a x d upto from =
    elim upto [
      | inl less ↦ elim from [
        | inl more ↦ inl (omega (arith, less, more))
        | inr same ↦ inl (omega (arith, less, same.0))
      ]
      | inr at ↦ elim from [
        | inl more ↦ inl (omega (arith, at.0, more))
        | inr same ↦ inr (at.0 ∙ same.0, omega (arith, at.1, same.1))
      ]
    ]

stands_before : (x d : Datom) → IsUpto d.e d.a x → key_cmp Eavt x d ≡ Less
stands_before x d upto =
    elim upto [
      | inl less ↦ let first = less_now x.e d.e less in rw first refl
      | inr at ↦ let first = equal_now x.e d.e at.0 in let second = less_now x.a d.a at.1 in rw (first, second) refl
    ]
  where
    less_now : (m n : ℕ) → m < n → nat_cmp m n ≡ Less
    less_now m n less = grind (arith, nat_tests)

    equal_now : (m n : ℕ) → m ≡ n → nat_cmp m n ≡ Equal
    equal_now m n same = grind (arith, nat_tests)

pub one_more : (n e a : ℕ) (ds : List Datom) (d : Datom) → IsEntryUpto n e a ds → IsOf n d → IsFrom e a d
    → IsEntryUpto n d.e (d.a + 1) (ds ++ d ∷ [])
one_more n e a ds d all of from =
    record {
      entry = record {
        of = λ x there. elim (cases x there) [ inl older ↦ all.entry.of x older | inr same ↦ subst (IsOf n) same of ];
        rising = rising_join Eavt ds (d ∷ []) all.entry.rising (tt, tt) (λ x y x_in y_in. before x y x_in (contains-cons d [] y y_in));
      };
      upto = λ x there. elim (cases x there) [
        | inl older ↦ elim (passes e a x d (all.upto x older) from) [
          | inl less ↦ inl less
          | inr at ↦ inr (at.0, omega (arith, at.1))
        ]
        | inr same ↦ inr (ap (λ (z : Datom). z.e) (sym same), omega (arith, ap (λ (z : Datom). z.a) same))
      ];
    }
  where
    before : (x y : Datom) → Contains ds x → (d ≡ y) ⊎ Contains [] y → key_cmp Eavt x y ≡ Less
    before x y x_in (inl same) =
        subst (λ (z : Datom). key_cmp Eavt x z ≡ Less) same (stands_before x d (passes e a x d (all.upto x x_in) from))
    before x y x_in (inr more) = absurd (contains_none y more)

    cases : (x : Datom) → Contains (ds ++ d ∷ []) x → Contains ds x ⊎ (d ≡ x)
    cases x there = elim (Contains-append_cases ds (d ∷ []) x there) [
      | inl older ↦ inl older
      | inr last ↦ elim (contains-cons d [] x last) [ inl same ↦ inr same | inr more ↦ absurd (contains_none x more) ]
    ]

-- ---- one entry after others

-- entries of different numbers are of different entities
apart : (m n : ℕ) (x d : Datom) → m < n → n < 4294967296 → IsOf m x → IsOf n d → x.e ≡ d.e → ⊥
apart m n x d less small of_x of_d same =
    elim of_x.e [
      | inl tx ↦ elim of_d.e [ inl td ↦ absurd (omega arith) | inr ud ↦ absurd (omega arith) ]
      | inr ux ↦ elim of_d.e [ inl td ↦ absurd (omega arith) | inr ud ↦ absurd (omega arith) ]
    ]

module _ (order : Order) (n : ℕ) (old ds : List Datom) (small : n < 4294967296) (rising : IsRising order old) (older : AreOlder n old)
    (entry : IsEntry n ds) where
  no_mates : (x d : Datom) → Contains old x → Contains ds d → is_mate d x ≡ true → ⊥
  no_mates x d x_in d_in mate =
      let was = older x x_in in
      apart was.0 n x d was.1 small was.2 (entry.of d d_in) (is_of-true d.e d.a d.v x mate).e_is

  other_t : (x y : Datom) → Contains old x → Contains ds y → x.t ≡ y.t → ⊥
  other_t x y x_in y_in same = let was = older x x_in in absurd (omega (arith, was.1, was.2.t, (entry.of y y_in).t, same))

  pub single : HasNoTwins (old ++ ds)
  single x y x_in y_in at =
      elim (Contains-append_cases old ds x x_in) [
        | inl was_x ↦ elim (Contains-append_cases old ds y y_in) [
          | inl was_y ↦ no_twins-rising order old rising x y was_x was_y at
          | inr new_y ↦ absurd (other_t x y was_x new_y at.t)
        ]
        | inr new_x ↦ elim (Contains-append_cases old ds y y_in) [
          | inl was_y ↦ absurd (other_t y x was_y new_x (sym at.t))
          | inr new_y ↦ no_twins-rising Eavt ds entry.rising x y new_x new_y at
        ]
      ]

  pub follows : MayFollow old ds
  follows = record {
    single = single;
    later = λ x d x_in d_in mate. absurd (no_mates x d x_in d_in mate);
    one = λ x d x_in d_in mate. no_twins-rising Eavt ds entry.rising x d x_in d_in
        (let same = is_of-true d.e d.a d.v x mate in
        record { e = same.e_is; a = same.a_is; v = same.v_is; t = (entry.of x x_in).t ∙ sym (entry.of d d_in).t });
    fresh = λ x d x_in d_in mate. absurd (no_mates x d (standing_member old x x_in) d_in mate);
  }

pub grown : (order : Order) (c : Coverage) (n : ℕ) (old ds new : List Datom) → AreOlder n old → IsEntry n ds → IsGrown order c old [] ds new
    → IsBefore c (n + 1) order new
grown order c n old ds new older entry g =
    record {
      rising = g.rising;
      held = λ k e within. ((g.members (get_or new k e)).0 (Contains-get_or new k e within)).1;
      older = λ d there. elim ((g.members d).0 there).0 [
        | inl was ↦ elim was [
          | inl one ↦ let m = older d one in (m.0, omega (arith, m.1), m.2)
          | inr filled ↦ absurd (contains_none d filled.1)
        ]
        | inr now ↦ (n, omega arith, entry.of d now)
      ];
    }

-- nothing but older ones are in lists that were refilled with nothing
pub filled_older : (order : Order) (c : Coverage) (n : ℕ) (old filled : List Datom) → AreOlder n old → IsGrown order c old [] [] filled
    → AreOlder n filled
filled_older order c n old filled older g d there =
    elim ((g.members d).0 there).0 [
      | inl was ↦ elim was [ inl one ↦ older d one | inr more ↦ absurd (contains_none d more.1) ]
      | inr now ↦ absurd (contains_none d now)
    ]

pub empty_before : (c : Coverage) (n : ℕ) (order : Order) (ds : List Datom) → ds ≡ [] → IsBefore c n order ds
empty_before c n order ds is =
    subst (IsBefore c n order) (sym is) (record {
      rising = tt;
      held = λ k e within. absurd (omega arith);
      older = λ d there. absurd (contains_none d there);
    })
