-- What an order's two lists are after one retraction, and after some.
use Rattle.std.proofs.Common.{◌≡◌, ◌∙◌, ℕ, zero, suc, ◌+◌, ◌<◌, length, take, get_or, ◌⊎◌, inl, inr, Bool, true, false, not, ◌&&◌, ◌||◌, List, []}
use Rattle.std.proofs.Common.{◌∷◌, ◌++◌, refl, sym, ap, subst, arith}
use Rattle.std.specs.Prelude.{Contains, ◌↔◌}
use Rattle.std.specs.List.{list_any}
use Rattle.std.specs.Cmp.{tied_itself}
use Rattle.std.specs.Ordering.{is_eq}
use Rattle.std.specs.declared.cmp.Ordering.{Ordering}
use Rattle.std.specs.declared.cmp.Ordering.TheVariants.{Less, Equal, Greater}
use Rattle.std.proofs.lemmas.Bool.{cases_Bool, true≢false, and_parts, not-true}
use Rattle.std.proofs.lemmas.List.{take_more, get_or_default}
use Rattle.std.proofs.lemmas.List.Folds.{list_any-append}
use Rattle.std.proofs.lemmas.List.Elements.{Contains-append_left, Contains-append_right, Contains-append_cases}
use Rattle.fb_values.specs.declared.facts.Datom.{Datom}
use Rattle.fb_values.specs.declared.indexes.Order.{Order}
use Rattle.fb_values.specs.Orders.{key_cmp}
use Rattle.fb_values.specs.OrderLaws.{key_cmp_total}
use Rattle.fb_values.specs.Rising.{IsRising}
use Rattle.fb_covers.specs.Coverage.{Coverage}
use Rattle.fb_model.specs.Rising.{put_in_order}
use Rattle.fb_model.proofs.Members.{any_member, some_member}
use Rattle.live_runs.specs.Changed.{without}
use Rattle.live_index.specs.Growth.{is_held}
use Rattle.live_index.specs.Ending.{is_mate, IsEnded, MayEnd, MayEndAll, ends, are_ending, withdraws, IsRetracted}
use Rattle.live_index.proofs.Members.{contains-cons, contains_head, contains_none, from_filter, into_filter}
use Rattle.live_index.proofs.Growing.{from_take}
use Rattle.live_index.proofs.Taking.{AreOneIfEqual, put-gains}
use Rattle.live_index.proofs.Together.{before_member, of_itself}

-- ---- none

pub retracted-none : (order : Order) (c : Coverage) (holding past : List Datom) → IsRetracted order c holding past [] holding past
retracted-none order c holding past =
    record {
      new_is = λ x. (λ there. (there, refl), λ given. given.0);
      gone_is = λ x. (
        λ there. inl (inl there),
        λ given. elim given [
          | inl older ↦ elim older [
            | inl there ↦ there
            | inr ended ↦ absurd (true≢false (sym ended.1))
          ]
          | inr now ↦ absurd (contains_none x now.0)
        ],
      );
    }

-- ---- datoms of which none is a retraction of the order

pub retracted-kept : (order : Order) (c : Coverage) (holding past ds : List Datom)
    → ((d : Datom) → Contains ds d → withdraws c order d ≡ false) → IsRetracted order c holding past ds holding past
retracted-kept order c holding past ds stay =
    record {
      new_is = λ x. (λ there. (there, none x (cases_Bool (are_ending c order ds x))), λ given. given.0);
      gone_is = λ x. (
        λ there. inl (inl there),
        λ given. elim given [
          | inl older ↦ elim older [
            | inl there ↦ there
            | inr ended ↦ absurd (true≢false (sym ended.1 ∙ none x (cases_Bool (are_ending c order ds x))))
          ]
          | inr now ↦ absurd (true≢false (sym now.1 ∙ stay x now.0))
        ],
      );
    }
  where
    nothing_ends : (r h m : Bool) → (r && h) ≡ false → (r && (h && m)) ≡ true → ⊥
    nothing_ends false h m none is = true≢false (sym is)
    nothing_ends true false m none is = true≢false (sym is)
    nothing_ends true true m none is = true≢false none

    none : (x : Datom) → (are_ending c order ds x ≡ true) ⊎ (are_ending c order ds x ≡ false) → are_ending c order ds x ≡ false
    none x (inr is) = is
    none x (inl some) =
        let found = some_member (λ d. ends c order d x) ds some in
        absurd (nothing_ends (not found.0.added) (is_held c order found.0) (is_mate found.0 x) (stay found.0 found.1) found.2)

-- without retractions
pub all_added : (c : Coverage) (order : Order) (ds : List Datom) → list_any (λ d. not d.added) ds ≡ false → (d : Datom) → Contains ds d
    → withdraws c order d ≡ false
all_added c order ds none d there = go (cases_Bool (withdraws c order d))
  where
    go : (withdraws c order d ≡ true) ⊎ (withdraws c order d ≡ false) → withdraws c order d ≡ false
    go (inr is) = is
    go (inl some) =
        absurd (true≢false (sym (any_member (λ x. not x.added) ds d there (and_parts (not d.added) (is_held c order d) some).0) ∙ none))

-- ---- what a retraction ends

pub ended-none : (d : Datom) (holding past : List Datom) → ((x : Datom) → Contains holding x → is_mate d x ≡ false)
    → IsEnded d holding past holding past
ended-none d holding past none =
    record {
      new_is = λ x. (λ there. (there, none x there), λ given. given.0);
      gone_is = λ x. (
        inl,
        λ given. elim given [
          | inl was ↦ was
          | inr ended ↦ absurd (true≢false (sym ended.1 ∙ none x ended.0))
        ],
      );
    }

eq_is : (o : Ordering) → is_eq o ≡ true → o ≡ Equal
eq_is Less is = absurd (true≢false (sym is))
eq_is Equal is = refl
eq_is Greater is = absurd (true≢false (sym is))

pub ended-moved : (order : Order) (d fact : Datom) (holding past : List Datom) → IsRising order past → MayEnd holding past d
    → Contains holding fact → is_mate d fact ≡ true → AreOneIfEqual order fact holding → AreOneIfEqual order fact past
    → IsEnded d holding past (without order fact holding) (put_in_order order fact past)
ended-moved order d fact holding past past_rises may in_it mate one one_past =
    record { new_is = λ x. (from x, λ given. into x given.0 given.1); gone_is = gone }
  where
    other : Datom → Bool
    other x = not (is_eq (key_cmp order fact x))

    from : (x : Datom) → Contains (without order fact holding) x → Contains holding x × (is_mate d x ≡ false)
    from x there =
        let at = from_filter (λ y. not (is_eq (key_cmp order fact y))) holding x there in
        (at.0, go (cases_Bool (is_mate d x)) at.0 at.1)
      where
        go : (is_mate d x ≡ true) ⊎ (is_mate d x ≡ false) → Contains holding x → not (is_eq (key_cmp order fact x)) ≡ true
            → is_mate d x ≡ false
        go (inr is) inside apart = is
        go (inl also) inside apart =
            let same : fact ≡ x = may.one fact x in_it inside mate also in
            let tied : key_cmp order fact x ≡ Equal =
            subst (λ (y : Datom). key_cmp order fact y ≡ Equal) same (tied_itself (key_cmp_total order) fact) in
            absurd (true≢false (sym (ap is_eq tied) ∙ not-true (is_eq (key_cmp order fact x)) apart))

    into : (x : Datom) → Contains holding x → is_mate d x ≡ false → Contains (without order fact holding) x
    into x inside not_mate =
        into_filter (λ y. not (is_eq (key_cmp order fact y))) holding x inside (elim (cases_Bool (is_eq (key_cmp order fact x))) [
          | inl equal ↦
              let same : fact ≡ x = one x inside (eq_is (key_cmp order fact x) equal) in
              absurd (true≢false (sym (subst (λ (y : Datom). is_mate d y ≡ true) same mate) ∙ not_mate))
          | inr apart ↦ ap not apart
        ])

    gone : (x : Datom) → Contains (put_in_order order fact past) x ↔ (Contains past x ⊎ (Contains holding x × (is_mate d x ≡ true)))
    gone x =
        let gains = put-gains order past fact (λ y. Unit {0}) past_rises one_past tt x in (
          λ there. elim (gains.0 there) [
            | inl was ↦ inl was
            | inr now ↦ inr (subst (Contains holding) now.0 in_it, subst (λ (y : Datom). is_mate d y ≡ true) now.0 mate)
          ],
          λ given. gains.1 (elim given [
            | inl was ↦ inl was
            | inr ended ↦ inr (may.one fact x in_it ended.0 mate ended.1, tt)
          ]),
        )

-- ---- a retraction

pub retracted-one : (order : Order) (c : Coverage) (holding past new gone : List Datom) (d : Datom) → withdraws c order d ≡ true
    → IsEnded d holding past new gone → IsRising order gone → AreOneIfEqual order d gone
    → IsRetracted order c holding past (d ∷ []) new (put_in_order order d gone)
retracted-one order c holding past new gone d takes ended gone_rises one =
    record {
      new_is = λ x. (
        λ there. let is = (ended.new_is x).0 there in (is.0, ending_is x ∙ is.1),
        λ given. (ended.new_is x).1 (given.0, sym (ending_is x) ∙ given.1),
      );
      gone_is = λ x.
          let gains = put-gains order gone d (λ y. Unit {0}) gone_rises one tt x in (
            λ there. elim (gains.0 there) [
              | inl before ↦ elim ((ended.gone_is x).0 before) [
                | inl was ↦ inl (inl was)
                | inr fact ↦ inl (inr (fact.0, ending_is x ∙ fact.1))
              ]
              | inr now ↦ inr (contains_head d [] x now.0, subst (λ (y : Datom). withdraws c order y ≡ true) now.0 takes)
            ],
            λ given. gains.1 (elim given [
              | inl older ↦ inl ((ended.gone_is x).1 (elim older [
                | inl was ↦ inl was
                | inr fact ↦ inr (fact.0, sym (ending_is x) ∙ fact.1)
              ]))
              | inr now ↦ elim (contains-cons d [] x now.0) [
                | inl same ↦ inr (same, tt)
                | inr behind ↦ absurd (contains_none x behind)
              ]
            ]),
          );
    }
  where
    alone : (r h m : Bool) → (r && h) ≡ true → ((r && (h && m)) || false) ≡ m
    alone true true true is = refl
    alone true true false is = refl
    alone true false m is = absurd (true≢false (sym is))
    alone false h m is = absurd (true≢false (sym is))

    ending_is : (x : Datom) → are_ending c order (d ∷ []) x ≡ is_mate d x
    ending_is x = alone (not d.added) (is_held c order d) (is_mate d x) takes

-- ---- one more

both_false : (a b : Bool) → (a || b) ≡ false → (a ≡ false) × (b ≡ false)
both_false true b none = absurd (true≢false none)
both_false false b none = (refl, none)

or_false_both : (a b : Bool) → a ≡ false → b ≡ false → (a || b) ≡ false
or_false_both a b first second = rw (first, second) refl

or_true_left : (a b : Bool) → a ≡ true → (a || b) ≡ true
or_true_left a b is = rw is refl

or_true_right : (a b : Bool) → b ≡ true → (a || b) ≡ true
or_true_right true b is = refl
or_true_right false b is = is

either : (a b : Bool) → (a || b) ≡ true → (a ≡ true) ⊎ ((a ≡ false) × (b ≡ true))
either true b is = inl refl
either false b is = inr (refl, is)

pub retracted-more : (order : Order) (c : Coverage) (holding past ds h p : List Datom) (d : Datom) (new gone : List Datom)
    → IsRetracted order c holding past ds h p → IsRetracted order c h p (d ∷ []) new gone
    → IsRetracted order c holding past (ds ++ d ∷ []) new gone
retracted-more order c holding past ds h p d new gone before next =
    record {
      new_is = λ x. (
        λ there.
            let one = (next.new_is x).0 there in
            let some = (before.new_is x).0 one.0 in
            (some.0, split x ∙ or_false_both _ _ some.1 one.1),
        λ given.
            let parts = both_false _ _ (sym (split x) ∙ given.1) in
            (next.new_is x).1 ((before.new_is x).1 (given.0, parts.0), parts.1),
      );
      gone_is = λ x. (
        λ there. elim ((next.gone_is x).0 there) [
          | inl older ↦ elim older [
            | inl was ↦ elim ((before.gone_is x).0 was) [
              | inl first ↦ elim first [
                | inl past_one ↦ inl (inl past_one)
                | inr ended ↦ inl (inr (ended.0, split x ∙ or_true_left _ _ ended.1))
              ]
              | inr given ↦ inr (Contains-append_left ds (d ∷ []) x given.0, given.1)
            ]
            | inr ended ↦ inl (inr (((before.new_is x).0 ended.0).0, split x ∙ or_true_right _ _ ended.1))
          ]
          | inr given ↦ inr (Contains-append_right ds (d ∷ []) x given.0, given.1)
        ],
        λ given. (next.gone_is x).1 (elim given [
          | inl older ↦ elim older [
            | inl past_one ↦ inl (inl ((before.gone_is x).1 (inl (inl past_one))))
            | inr ended ↦ elim (either _ _ (sym (split x) ∙ ended.1)) [
              | inl now ↦ inl (inl ((before.gone_is x).1 (inl (inr (ended.0, now)))))
              | inr later ↦ inl (inr ((before.new_is x).1 (ended.0, later.0), later.1))
            ]
          ]
          | inr in_it ↦ elim (Contains-append_cases ds (d ∷ []) x in_it.0) [
            | inl first ↦ inl (inl ((before.gone_is x).1 (inr (first, in_it.1))))
            | inr last ↦ inr (last, in_it.1)
          ]
        ]),
      );
    }
  where
    split : (x : Datom) → are_ending c order (ds ++ d ∷ []) x ≡ (are_ending c order ds x || are_ending c order (d ∷ []) x)
    split x = list_any-append (λ y. ends c order y x) ds (d ∷ [])

-- ---- the next datom of an entry

-- none of the datoms before a place of a rising list stands there
not_before : (order : Order) (ds : List Datom) (i : ℕ) (e x : Datom) → IsRising order ds → i < length ds → Contains (take i ds) x
    → x ≡ get_or ds i e → ⊥
not_before order [] i e x rising within there same = absurd (omega arith)
not_before order (d ∷ ds) zero e x rising within there same = contains_none x there
not_before order (d ∷ ds) (suc i) e x rising within there same =
    elim (contains-cons d (take i ds) x there) [
      | inl first ↦
          let less : key_cmp order d (get_or ds i e) ≡ Less =
          before_member order d ds (get_or ds i e) rising.0 (i, omega arith, get_or_default ds i (get_or ds i e) e (omega arith)) in
          let tied : key_cmp order d d ≡ Equal = tied_itself (key_cmp_total order) d in
          let self : key_cmp order d d ≡ Less =
          subst (λ (y : Datom). key_cmp order d y ≡ Less) (sym same ∙ sym first) less in
          absurd (cc)
      | inr behind ↦ not_before order ds i e x rising.1 (omega arith) behind same
    ]

pub is_new : (order : Order) (ds : List Datom) (i : ℕ) (item : Datom) → IsRising order ds → i < length ds → item ≡ get_or ds i item
    → Contains (take i ds) item → ⊥
is_new order ds i item rising within is there = not_before order ds i item item rising within there is

pub in_them : (ds : List Datom) (i : ℕ) (item : Datom) → i < length ds → item ≡ get_or ds i item → Contains ds item
in_them ds i item within is = (i, within, sym is)

module _ (order rank : Order) (c : Coverage) (holding past ds h p : List Datom) (i : ℕ) (item : Datom) (rising : IsRising rank ds)
    (all : MayEndAll holding past ds) (before : IsRetracted order c holding past (take i ds) h p) (within : i < length ds)
    (is : item ≡ get_or ds i item) where
  -- no datom of the entry holds
  not_held : (x : Datom) → Contains ds x → Contains holding x → ⊥
  not_held x there holds = let early = (all x there).earlier x holds (of_itself x) in omega arith

  pub may-next : MayEnd h p item
  may-next =
      let may = all item (in_them ds i item within is) in
      record {
        earlier = λ x there mate. may.earlier x ((before.new_is x).0 there).0 mate;
        one = λ x y x_in y_in mate_x mate_y. may.one x y ((before.new_is x).0 x_in).0 ((before.new_is y).0 y_in).0 mate_x mate_y;
        apart = λ x there gone.
            let at = (before.new_is x).0 there in
            elim ((before.gone_is x).0 gone) [
              | inl older ↦ elim older [
                | inl was ↦ may.apart x at.0 was
                | inr ended ↦ true≢false (sym ended.1 ∙ at.1)
              ]
              | inr now ↦ not_held x (from_take i ds x now.0) at.0
            ];
        fresh = λ gone.
            elim ((before.gone_is item).0 gone) [
              | inl older ↦ elim older [
                | inl was ↦ may.fresh was
                | inr ended ↦ not_held item (in_them ds i item within is) ended.0
              ]
              | inr now ↦ is_new rank ds i item rising within is now.0
            ];
      }

  pub retracted-next : (new gone : List Datom) → IsRetracted order c h p (item ∷ []) new gone
      → IsRetracted order c holding past (take (i + 1) ds) new gone
  retracted-next new gone next =
      let split : take (i + 1) ds ≡ take i ds ++ item ∷ [] =
      take_more ds i item within ∙ ap (λ (z : Datom). take i ds ++ z ∷ []) (sym is) in
      subst (λ (l : List Datom). IsRetracted order c holding past l new gone) (sym split)
      (retracted-more order c holding past (take i ds) h p item new gone before next)

-- one addition more
pub none_more : (ds : List Datom) (i : ℕ) (item : Datom) → i < length ds → item ≡ get_or ds i item
    → list_any (λ d. not d.added) (take i ds) ≡ false → not item.added ≡ false → list_any (λ d. not d.added) (take (i + 1) ds) ≡ false
none_more ds i item within is none adds =
    let split : take (i + 1) ds ≡ take i ds ++ item ∷ [] =
    take_more ds i item within ∙ ap (λ (z : Datom). take i ds ++ z ∷ []) (sym is) in
    ap (list_any (λ d. not d.added)) split
    ∙ list_any-append (λ d. not d.added) (take i ds) (item ∷ [])
    ∙ or_false_both _ _ none (or_false_both _ _ adds refl)
