-- The two halves of a live list, and how they grow by an entry.
use Rattle.std.proofs.Common.{◌≡◌, ◌∙◌, ◌≤◌, ◌⊎◌, inl, inr, Bool, true, false, not, ◌&&◌, cond, List, [], ◌∷◌, ◌++◌, refl, sym, ap, subst}
use Rattle.std.proofs.Common.{arith}
use Rattle.std.specs.Prelude.{Contains}
use Rattle.std.specs.List.{All}
use Rattle.std.specs.Cmp.{tied_itself}
use Rattle.std.specs.Cmp.Lexicographic.{lists_total, slice_cmp}
use Rattle.std.specs.declared.cmp.Ordering.TheVariants.{Less, Equal}
use Rattle.std.proofs.lemmas.Bool.{cases_Bool, true≢false, and_parts, and_from}
use Rattle.std.proofs.lemmas.List.Elements.{Contains-append_left, Contains-append_right, Contains-append_cases}
use Rattle.fb_values.specs.declared.facts.Datom.{Datom}
use Rattle.fb_values.specs.declared.indexes.Order.{Order}
use Rattle.fb_values.specs.declared.indexes.Order.TheVariants.{Eavt, Aevt, Avet, Vaet}
use Rattle.fb_values.specs.Lists.{Lists, list_in}
use Rattle.fb_values.specs.Orders.{key_cmp, key_of, value_cmp}
use Rattle.fb_values.specs.OrderLaws.{IsAtOnePlace, key_cmp-Equal, key_cmp_total, value_cmp_total}
use Rattle.fb_values.specs.Rising.{IsBelowAll, IsRising}
use Rattle.fb_values.proofs.Rising.{rises_from, rising_from}
use Rattle.fb_covers.specs.Coverage.{Coverage}
use Rattle.fb_model.specs.Facts.{standing, is_last_assertion}
use Rattle.fb_model.proofs.Members.{in_order-rises, in_order_member, some_member, any_member, standing_member}
use Rattle.fb_model.proofs.Times.{same_keys}
use Rattle.fb_model.proofs.Triples.{is_of-true}
use Rattle.fb_model.proofs.InOrder.{OneForEachKey, in_order_has, one_rising_list}
use Rattle.live_index.specs.Growth.{HasNoTwins, is_held, takes, IsGrown}
use Rattle.live_index.specs.Ending.{is_mate, MayEndAll, ends, are_ending, withdraws, IsRetracted}
use Rattle.live_index.specs.Halves.{IsPair, both_lists, merged, withdrawn, AreHalves, MayFollow}
use Rattle.live_index.proofs.Members.{contains-cons, contains_head, contains_tail, contains_none}
use Rattle.live_index.proofs.Growing.{Gains, single_part}
use Rattle.live_index.proofs.Together.{IsByTime, of_itself, before_all, before_member, IsLast, standing_last, last_stands, rising_by_time}
use Rattle.live_index.proofs.Together.{rising-standing, of_back, of_through}

-- ---- both lists read as one

pub one_each : (order : Order) (older live : List Datom) → HasNoTwins (older ++ live) → OneForEachKey order (older ++ live)
one_each order older live single = record { same = λ x y x_in y_in equal. single x y x_in y_in (key_cmp-Equal order x y equal) }

pub merged_rises : (order : Order) (older live : List Datom) → IsRising order (merged order older live)
merged_rises order older live = rising_from order (merged order older live) (in_order-rises order (older ++ live))

pub from_merged : (order : Order) (older live : List Datom) (d : Datom) → Contains (merged order older live) d
    → Contains older d ⊎ Contains live d
from_merged order older live d there = Contains-append_cases older live d (in_order_member order (older ++ live) d there)

pub into_merged : (order : Order) (older live : List Datom) (d : Datom) → HasNoTwins (older ++ live) → Contains older d ⊎ Contains live d
    → Contains (merged order older live) d
into_merged order older live d single given =
    in_order_has order (older ++ live) (one_each order older live single) d
    (elim given [ inl a ↦ Contains-append_left older live d a | inr b ↦ Contains-append_right older live d b ])

-- two rising lists of the same members are one
pub same_list : (order : Order) (ds es : List Datom) → IsRising order ds → IsRising order es
    → ((d : Datom) → Contains ds d → Contains es d) → ((d : Datom) → Contains es d → Contains ds d) → ds ≡ es
same_list order ds es rising also forth back =
    one_rising_list order ds es (rises_from order ds rising) (rises_from order es also) forth back

-- ---- what does not stand

pub withdrawn_member : (ds : List Datom) (x : Datom) → Contains (withdrawn ds) x → Contains ds x
withdrawn_member [] x there = there
withdrawn_member (d ∷ ds) x there =
    let P : Bool → Type 0 = λ b. Contains (cond b (withdrawn ds) (d ∷ withdrawn ds)) x in
    elim (cases_Bool (is_last_assertion d ds)) [
      | inl stands ↦ contains_tail d ds x (withdrawn_member ds x (subst P stands there))
      | inr not_so ↦ elim (contains-cons d (withdrawn ds) x (subst P not_so there)) [
        | inl same ↦ contains_head d ds x same
        | inr behind ↦ contains_tail d ds x (withdrawn_member ds x behind)
      ]
    ]

pub rising-withdrawn : (order : Order) (ds : List Datom) → IsRising order ds → IsRising order (withdrawn ds)
rising-withdrawn order [] rising = tt
rising-withdrawn order (d ∷ ds) rising =
    elim (is_last_assertion d ds) as (λ b. IsRising order (cond b (withdrawn ds) (d ∷ withdrawn ds))) [
      | true ↦ rising-withdrawn order ds rising.1
      | false ↦ (
        before_all order d (withdrawn ds) (λ x there. before_member order d ds x rising.0 (withdrawn_member ds x there)),
        rising-withdrawn order ds rising.1,
      )
    ]

-- each datom stands or is withdrawn
pub one_of_both : (ds : List Datom) (x : Datom) → Contains ds x → Contains (standing ds) x ⊎ Contains (withdrawn ds) x
one_of_both [] x there = absurd (contains_none x there)
one_of_both (d ∷ ds) x there = go (is_last_assertion d ds) refl (contains-cons d ds x there) (λ behind. one_of_both ds x behind)
  where
    go : (b : Bool)
        → is_last_assertion d ds ≡ b → (d ≡ x) ⊎ Contains ds x → (Contains ds x → Contains (standing ds) x ⊎ Contains (withdrawn ds) x)
        → Contains (standing (d ∷ ds)) x ⊎ Contains (withdrawn (d ∷ ds)) x
    go true is (inl same) rest = inl (rw is (contains_head d (standing ds) x same))
    go true is (inr behind) rest = elim (rest behind) [
      | inl stands ↦ inl (rw is (contains_tail d (standing ds) x stands))
      | inr gone ↦ inr (rw is gone)
    ]
    go false is (inl same) rest = inr (rw is (contains_head d (withdrawn ds) x same))
    go false is (inr behind) rest = elim (rest behind) [
      | inl stands ↦ inl (rw is stands)
      | inr gone ↦ inr (rw is (contains_tail d (withdrawn ds) x gone))
    ]

-- no datom stands behind itself
behind_itself : (order : Order) (d : Datom) (ds : List Datom) → IsBelowAll order d ds → Contains ds d → ⊥
behind_itself order d ds before there =
    let less : key_cmp order d d ≡ Less = before_member order d ds d before there in
    let tied : key_cmp order d d ≡ Equal = tied_itself (key_cmp_total order) d in
    absurd (cc)

-- and none does both
not_both : (order : Order) (ds : List Datom) (x : Datom) → IsRising order ds → Contains (standing ds) x → Contains (withdrawn ds) x → ⊥
not_both order [] x rising stands gone = contains_none x stands
not_both order (d ∷ ds) x rising stands gone = go (is_last_assertion d ds) refl (λ a b. not_both order ds x rising.1 a b)
  where
    go : (b : Bool) → is_last_assertion d ds ≡ b → (Contains (standing ds) x → Contains (withdrawn ds) x → ⊥) → ⊥
    go true is rest =
        let after : Contains (withdrawn ds) x = rw is at gone in
        let before : Contains (d ∷ standing ds) x = rw is at stands in
        elim (contains-cons d (standing ds) x before) [
          | inl same ↦ behind_itself order d ds rising.0 (subst (Contains ds) (sym same) (withdrawn_member ds x after))
          | inr behind ↦ rest behind after
        ]
    go false is rest =
        let after : Contains (d ∷ withdrawn ds) x = rw is at gone in
        let before : Contains (standing ds) x = rw is at stands in
        elim (contains-cons d (withdrawn ds) x after) [
          | inl same ↦ behind_itself order d ds rising.0 (subst (Contains ds) (sym same) (standing_member ds x before))
          | inr behind ↦ rest before behind
        ]

-- the second half is what does not stand
pub past_is : (order : Order) (holding past : List Datom) → AreHalves order holding past → past ≡ withdrawn (merged order holding past)
past_is order holding past are =
    same_list order past (withdrawn all) are.pair.live_rises (rising-withdrawn order all rises) forth back
  where
    all : List Datom
    all = merged order holding past

    rises : IsRising order (merged order holding past)
    rises = merged_rises order holding past

    forth : (x : Datom) → Contains past x → Contains (withdrawn (merged order holding past)) x
    forth x there =
        elim (one_of_both (merged order holding past) x (into_merged order holding past x are.pair.single (inr there))) [
          | inl stands ↦ absurd (are.pair.apart x (subst (λ (l : List Datom). Contains l x) (sym are.stands) stands) there)
          | inr gone ↦ gone
        ]

    back : (x : Datom) → Contains (withdrawn (merged order holding past)) x → Contains past x
    back x gone =
        elim (from_merged order holding past x (withdrawn_member (merged order holding past) x gone)) [
          | inl holds ↦
              absurd (not_both order (merged order holding past) x rises (subst (λ (l : List Datom). Contains l x) are.stands holds) gone)
          | inr there ↦ there
        ]

-- ---- with an entry

-- a datom among some ends the other one
ending_one : (c : Coverage) (order : Order) (ds : List Datom) (x : Datom) → are_ending c order ds x ≡ true
    → (d : Datom) × Contains ds d × (d.added ≡ false) × (is_held c order d ≡ true) × (is_mate d x ≡ true)
ending_one c order ds x some =
    let found = some_member (λ d. ends c order d x) ds some in
    let parts = and_parts (not found.0.added) (is_held c order found.0 && is_mate found.0 x) found.2 in
    let more = and_parts (is_held c order found.0) (is_mate found.0 x) parts.1 in
    (found.0, found.1, not_true found.0.added parts.0, more.0, more.1)
  where
    not_true : (b : Bool) → not b ≡ true → b ≡ false
    not_true true is = absurd (true≢false (sym is))
    not_true false is = refl

module _ (order : Order) (c : Coverage) (holding past ds h p new : List Datom) (halves : AreHalves order holding past)
    (follow : MayFollow (merged order holding past) ds) (held : All (λ d. is_held c order d ≡ true) (merged order holding past))
    (retracted : IsRetracted order c holding past ds h p) (gains : Gains h (λ d. Contains ds d × (takes c order d ≡ true)) new)
    (rises : IsRising order new) (gone_rises : IsRising order p) where
  old : List Datom
  old = merged order holding past

  -- those of the entry that the index takes
  abbrev IsTaken : Datom → Type 0
  IsTaken d = Contains ds d × (is_held c order d ≡ true)

  in_old : (x : Datom) → Contains holding x ⊎ Contains past x → Contains (merged order holding past) x
  in_old x given = into_merged order holding past x halves.pair.single given

  stands_old : (x : Datom) → Contains holding x → Contains (standing (merged order holding past)) x
  stands_old x there = subst (λ (l : List Datom). Contains l x) halves.stands there

  last_old : (x : Datom) → Contains holding x → IsLast (merged order holding past) x
  last_old x there =
      standing_last (merged order holding past) x (rising_by_time order (merged order holding past) (merged_rises order holding past))
      (stands_old x there)

  taken_asserts : (d : Datom) → Contains ds d → takes c order d ≡ true → IsTaken d
  taken_asserts d there is = (there, (and_parts d.added (is_held c order d) is).1)

  taken_withdraws : (d : Datom) → Contains ds d → withdraws c order d ≡ true → IsTaken d
  taken_withdraws d there is = (there, (and_parts (not d.added) (is_held c order d) is).1)

  from_new : (x : Datom) → Contains new x ⊎ Contains p x → Contains (merged order holding past) x ⊎ IsTaken x
  from_new x (inl there) =
      elim ((gains x).0 there) [
        | inl stays ↦ inl (in_old x (inl ((retracted.new_is x).0 stays).0))
        | inr adds ↦ inr (taken_asserts x adds.0 adds.1)
      ]
  from_new x (inr there) =
      elim ((retracted.gone_is x).0 there) [
        | inl older ↦ elim older [
          | inl was ↦ inl (in_old x (inr was))
          | inr ended ↦ inl (in_old x (inl ended.0))
        ]
        | inr now ↦ inr (taken_withdraws x now.0 now.1)
      ]

  into_new : (x : Datom) → Contains (merged order holding past) x ⊎ IsTaken x → Contains new x ⊎ Contains p x
  into_new x (inl there) =
      elim (from_merged order holding past x there) [
        | inl holds ↦ elim (cases_Bool (are_ending c order ds x)) [
          | inl ended ↦ inr ((retracted.gone_is x).1 (inl (inr (holds, ended))))
          | inr stays ↦ inl ((gains x).1 (inl ((retracted.new_is x).1 (holds, stays))))
        ]
        | inr was ↦ inr ((retracted.gone_is x).1 (inl (inl was)))
      ]
  into_new x (inr taken) =
      elim (cases_Bool x.added) [
        | inl adds ↦ inl ((gains x).1 (inr (taken.0, and_from _ _ adds taken.1)))
        | inr ends_one ↦ inr ((retracted.gone_is x).1 (inr (taken.0, and_from _ _ (ap not ends_one) taken.1)))
      ]

  -- all of them are of the list before and of the entry
  single_new : HasNoTwins (new ++ p)
  single_new =
      single_part (new ++ p) (merged order holding past ++ ds) (λ x there. elim (from_new x (Contains-append_cases new p x there)) [
        | inl before ↦ Contains-append_left (merged order holding past) ds x before
        | inr taken ↦ Contains-append_right (merged order holding past) ds x taken.0
      ]) follow.single

  -- a datom of the entry is not among the older ones
  not_older : (d : Datom) → Contains ds d → Contains (merged order holding past) d → ⊥
  not_older d there older = let late = follow.later d d older there (of_itself d) in omega arith

  apart_new : (x : Datom) → Contains new x → Contains p x → ⊥
  apart_new x there gone =
      elim ((gains x).0 there) [
        | inl stays ↦
            let was = (retracted.new_is x).0 stays in
            elim ((retracted.gone_is x).0 gone) [
              | inl older ↦ elim older [
                | inl past_one ↦ halves.pair.apart x was.0 past_one
                | inr ended ↦ true≢false (sym ended.1 ∙ was.1)
              ]
              | inr now ↦ not_older x now.0 (in_old x (inl was.0))
            ]
        | inr adds ↦
            elim ((retracted.gone_is x).0 gone) [
              | inl older ↦ elim older [
                | inl past_one ↦ not_older x adds.0 (in_old x (inr past_one))
                | inr ended ↦ not_older x adds.0 (in_old x (inl ended.0))
              ]
              | inr now ↦ true≢false (sym (and_parts x.added _ adds.1).0 ∙ added_false x.added (and_parts (not x.added) _ now.1).0)
            ]
      ]
    where
      added_false : (b : Bool) → not b ≡ true → b ≡ false
      added_false true is = absurd (true≢false (sym is))
      added_false false is = refl

  pub pair_new : IsPair order new p
  pair_new = record { older_rises = rises; live_rises = gone_rises; apart = apart_new; single = single_new }

  member_new : (x : Datom) → Contains (merged order new p) x → Contains (merged order holding past) x ⊎ IsTaken x
  member_new x there = from_new x (from_merged order new p x there)

  new_member : (x : Datom) → Contains (merged order holding past) x ⊎ IsTaken x → Contains (merged order new p) x
  new_member x given = into_merged order new p x single_new (into_new x given)

  by_time : IsByTime (merged order new p)
  by_time = rising_by_time order (merged order new p) (merged_rises order new p)

  -- what is in the first half stands
  last_new : (x : Datom) → Contains new x → IsLast (merged order new p) x
  last_new x there =
      elim ((gains x).0 there) [
        | inl stays ↦
            let was = (retracted.new_is x).0 stays in
            let last = last_old x was.0 in
            record {
              there = new_member x (inl last.there);
              added = last.added;
              latest = λ y in_it mate. elim (member_new y in_it) [
                | inl older ↦ last.latest y older mate
                | inr taken ↦ absurd (not_ended x y was.0 was.1 taken mate)
              ];
            }
        | inr adds ↦
            record {
              there = into_merged order new p x single_new (inl there);
              added = (and_parts x.added _ adds.1).0;
              latest = λ y in_it mate. elim (member_new y in_it) [
                | inl older ↦ let late = follow.later y x older adds.0 mate in omega arith
                | inr taken ↦ let same = follow.one y x taken.0 adds.0 mate in subst (λ (z : Datom). y.t ≤ z.t) same (omega arith)
              ];
            }
      ]
    where
      -- what is not ended has no datom of its triple in the entry
      not_ended : (x y : Datom) → Contains holding x → are_ending c order ds x ≡ false → IsTaken y → is_mate x y ≡ true → ⊥
      not_ended x y holds none taken mate =
          let back = of_back x y mate in
          let retracts = follow.fresh x y (stands_old x holds) taken.0 back in
          let ends_it : ends c order y x ≡ true = and_from _ _ (ap not retracts) (and_from _ _ taken.1 back) in
          true≢false (sym (any_member (λ d. ends c order d x) ds y taken.0 ends_it) ∙ none)

  -- and what stands is in the first half
  stands_new : (x : Datom) → IsLast (merged order new p) x → Contains new x
  stands_new x last =
      elim (from_merged order new p x last.there) [
        | inl there ↦ there
        | inr gone ↦ elim ((retracted.gone_is x).0 gone) [
          | inl older ↦ elim older [
            | inl was ↦ absurd (halves.pair.apart x (stood x last was) was)
            | inr ended ↦ absurd (followed ended.0 (ending_one c order ds x ended.1))
          ]
          | inr now ↦ absurd (true≢false (sym last.added ∙ added_false x.added (and_parts (not x.added) _ now.1).0))
        ]
      ]
    where
      added_false : (b : Bool) → not b ≡ true → b ≡ false
      added_false true is = absurd (true≢false (sym is))
      added_false false is = refl

      stood : (x : Datom) → IsLast (merged order new p) x → Contains past x → Contains holding x
      stood x last was =
          subst (λ (l : List Datom). Contains l x) (sym halves.stands)
          (last_stands (merged order holding past) x (rising_by_time order (merged order holding past) (merged_rises order holding past))
          (record {
            there = in_old x (inr was);
            added = last.added;
            latest = λ y older mate. last.latest y (new_member y (inl older)) mate;
          }))

      followed : Contains holding x → (d : Datom) × Contains ds d × (d.added ≡ false) × (is_held c order d ≡ true) × (is_mate d x ≡ true)
          → ⊥
      followed holds found =
          let late = follow.later x found.0 (in_old x (inl holds)) found.1 found.4 in
          let bound = last.latest found.0 (new_member found.0 (inr (found.1, found.3))) (of_back found.0 x found.4) in
          omega arith

  pub halves_new : AreHalves order new p
  halves_new = record {
    pair = pair_new;
    stands =
        same_list order new (standing (merged order new p)) rises (rising-standing order (merged order new p) (merged_rises order new p))
        (λ x there. last_stands (merged order new p) x by_time (last_new x there))
        (λ x there. stands_new x (standing_last (merged order new p) x by_time there));
  }

  pub grown_new : IsGrown order c (merged order holding past) [] ds (merged order new p)
  grown_new = record {
    rising = merged_rises order new p;
    members = λ x. (
      λ there. elim (member_new x there) [
        | inl older ↦ (inl (inl older), held_one x older)
        | inr taken ↦ (inr taken.0, taken.1)
      ],
      λ given. new_member x (elim given.0 [
        | inl older ↦ elim older [
          | inl was ↦ inl was
          | inr filled ↦ absurd (contains_none x filled.1)
        ]
        | inr now ↦ inr (now, given.1)
      ]),
    );
  }
    where
      held_one : (x : Datom) → Contains (merged order holding past) x → is_held c order x ≡ true
      held_one x (k, within, is) = ap (is_held c order) (sym is) ∙ held k x within

-- ---- in all orders

pub both_at : (holding past : Lists) (order : Order)
    → list_in (both_lists holding past) order ≡ merged order (list_in holding order) (list_in past order)
both_at holding past Eavt = refl
both_at holding past Aevt = refl
both_at holding past Avet = refl
both_at holding past Vaet = refl

-- a datom of the entry ends at most one fact, which is earlier, and is not in the past
pub may_end : (order : Order) (holding past ds : List Datom) → AreHalves order holding past → MayFollow (merged order holding past) ds
    → MayEndAll holding past ds
may_end order holding past ds halves follow d there =
    record {
      apart = halves.pair.apart;
      fresh = λ was.
          let late = follow.later d d (into_merged order holding past d halves.pair.single (inr was)) there (of_itself d) in omega arith;
      earlier = λ x holds mate. follow.later x d (in_all x holds) there mate;
      one = λ x y x_in y_in mate_x mate_y.
          let mates = of_through d x y mate_x mate_y in
          let upto_x = (last_of x x_in).latest y (in_all y y_in) mates in
          let upto_y = (last_of y y_in).latest x (in_all x x_in) (of_back x y mates) in
          let of = is_of-true x.e x.a x.v y mates in
          halves.pair.single x y (Contains-append_left holding past x x_in) (Contains-append_left holding past y y_in)
          (record { e = sym of.e_is; a = sym of.a_is; v = sym of.v_is; t = omega (arith, upto_x, upto_y) });
    }
  where
    in_all : (x : Datom) → Contains holding x → Contains (merged order holding past) x
    in_all x holds = into_merged order holding past x halves.pair.single (inl holds)

    last_of : (x : Datom) → Contains holding x → IsLast (merged order holding past) x
    last_of x holds =
        standing_last (merged order holding past) x (rising_by_time order (merged order holding past) (merged_rises order holding past))
        (subst (λ (l : List Datom). Contains l x) halves.stands holds)

pub halves_none : (order : Order) (holding past : List Datom) → holding ≡ [] → past ≡ [] → AreHalves order holding past
halves_none order holding past none none_past =
    record {
      pair = record {
        older_rises = rw none tt;
        live_rises = rw none_past tt;
        apart = λ d there also. contains_none d (subst (λ (l : List Datom). Contains l d) none there);
        single =
            λ x y x_in y_in at.
            absurd (contains_none x (subst (λ (l : List Datom). Contains l x) (ap (λ (l : List Datom). l ++ past) none ∙ none_past) x_in));
      };
      stands = rw (none, none_past) refl;
    }

-- ---- any rising list has two halves

clash : (order : Order) (x y : Datom) → key_cmp order x y ≡ Less → IsAtOnePlace x y → ⊥
clash order x y less at =
    let same : key_cmp order x y ≡ Equal =
    subst (λ key. slice_cmp value_cmp (key_of order x) key ≡ Equal) (same_keys order x y at)
    (tied_itself (lists_total value_cmp_total) (key_of order x)) in
    absurd (cc)

pub no_twins-rising : (order : Order) (ds : List Datom) → IsRising order ds → HasNoTwins ds
no_twins-rising order [] rising x y x_in y_in at = absurd (contains_none x x_in)
no_twins-rising order (d ∷ ds) rising x y x_in y_in at =
    elim (contains-cons d ds x x_in) [
      | inl first ↦ elim (contains-cons d ds y y_in) [
        | inl second ↦ sym first ∙ second
        | inr behind ↦
            absurd (clash order d y (before_member order d ds y rising.0 behind) (subst (λ (z : Datom). IsAtOnePlace z y) (sym first) at))
      ]
      | inr behind_x ↦ elim (contains-cons d ds y y_in) [
        | inl second ↦
            absurd (clash order d x (before_member order d ds x rising.0 behind_x)
            (subst (λ (z : Datom). IsAtOnePlace z x) (sym second) (record { e = sym at.e; a = sym at.a; v = sym at.v; t = sym at.t })))
        | inr behind_y ↦ no_twins-rising order ds rising.1 x y behind_x behind_y at
      ]
    ]

pub pair_of : (order : Order) (ds : List Datom) → IsRising order ds → IsPair order (standing ds) (withdrawn ds)
pair_of order ds rising =
    record {
      older_rises = rising-standing order ds rising;
      live_rises = rising-withdrawn order ds rising;
      apart = λ x stands gone. not_both order ds x rising stands gone;
      single = single_part (standing ds ++ withdrawn ds) ds (λ x there. elim (Contains-append_cases (standing ds) (withdrawn ds) x there) [
        | inl stands ↦ standing_member ds x stands
        | inr gone ↦ withdrawn_member ds x gone
      ]) (no_twins-rising order ds rising);
    }

-- both of them together are the list
pub both_of : (order : Order) (ds : List Datom) → IsRising order ds → merged order (standing ds) (withdrawn ds) ≡ ds
both_of order ds rising =
    same_list order (merged order (standing ds) (withdrawn ds)) ds (merged_rises order (standing ds) (withdrawn ds)) rising
    (λ x there. elim (from_merged order (standing ds) (withdrawn ds) x there) [
      | inl stands ↦ standing_member ds x stands
      | inr gone ↦ withdrawn_member ds x gone
    ])
    (λ x there. into_merged order (standing ds) (withdrawn ds) x (pair_of order ds rising).single (one_of_both ds x there))
