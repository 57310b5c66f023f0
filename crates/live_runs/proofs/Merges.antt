-- Newer changes of a changed list and its older ones are together the changes of the list.
use denote.Ref.{Bor}
use Rattle.std.proofs.Common.{◌≡◌, ◌∙◌, ℕ, zero, suc, ◌+◌, ◌<◌, length, ◌≤◌, get_or, inl, inr, Bool, true, false, cond, List, [], ◌∷◌, ◌++◌, take, drop, refl, sym, ap, subst, arith, append_assoc, Some, None, Option}
use Rattle.std.specs.Prelude.{Contains}
use Rattle.std.specs.List.{All, insert, remove, slice_get}
use Rattle.std.specs.Option.{option_copied}
use Rattle.std.specs.Ordering.{is_eq, is_gt}
use Rattle.std.specs.declared.cmp.Ordering.TheVariants.{Less, Equal, Greater}
use Rattle.std.specs.declared.cmp.Ordering.{Ordering}
use Rattle.std.proofs.lemmas.Bool.{true≢false}
use Rattle.std.proofs.Math.ListN.{drop_of_length-le}
use Rattle.std.proofs.lemmas.List.{append-nil, drop-map, drop_more, take-map}
use Rattle.std.proofs.lemmas.List.Elements.{All-cons, All-drop, All-head, All-nil, All-tail, Contains-append_cases, Contains-append_left, Contains-append_right}
use Rattle.fb_values.specs.declared.facts.Datom.{Datom}
use Rattle.fb_values.specs.declared.indexes.Order.{Order}
use Rattle.fb_values.specs.Orders.{key_cmp}
use Rattle.fb_values.specs.OrderLaws.{key_cmp_total}
use Rattle.fb_values.specs.Rising.{IsRising}
use Rattle.fb_model.proofs.Members.{here, there, cases_of, none_of}
use Rattle.fb_search.specs.Places.{is_below, probe_of}
use Rattle.fb_search.proofs.Own.{is_below-probe_of}
use Rattle.live_runs.specs.declared.members.Change.{Change}
use Rattle.live_runs.specs.declared.members.Member.{Member}
use Rattle.live_runs.specs.declared.parts.Part.{Part}
use Rattle.live_runs.specs.Changed.{HasNoTwins, IsWithin, MayChange}
use Rattle.live_runs.specs.Changes.{AreChanges, added, changed_by, is_met, place_in, removed, with_change}
use Rattle.live_runs.specs.Members.{IsMember, changing, datom_by, datom_of, held_by, named}
use Rattle.live_runs.specs.Merged.{behind_newer, first_and, heads_meet, is_newer_first, merged, upto_newer}
use Rattle.live_runs.specs.Walks.{AreBothLeft, AreLeft, meets, members_left}
use Rattle.live_runs.proofs.Rises.{before_member, not_behind_itself}
use Rattle.live_runs.proofs.Changed.{changed_rises, changed_within, from_changed, into_changed, unchanged}
use Rattle.live_runs.proofs.Twice.{AreTogether, twice}
use Rattle.live_runs.proofs.Beside.{one_more}
use Rattle.live_runs.proofs.Named.{added_of, added_rises, may_change, removed_of, removed_rises}
use Rattle.live_runs.proofs.Left.{none_safe}
use Rattle.live_runs.proofs.Stepping.{before_own, members_within, rising-drop}
use Rattle.live_runs.proofs.Parted.{added-append, removed-append}
use Rattle.live_runs.proofs.Putting.{IsPut, put_is}

-- ---- the first of some changes, and then the others

module _ (order : Order) (table : List Datom) (c : Change) (cs : List Change) (base : List Datom) (single : HasNoTwins table)
    (are : AreChanges order table (c ∷ cs) base) (rises : IsRising order base) (within : IsWithin table base) where
  gone_both : removed table (c ∷ cs) ≡ removed table (c ∷ []) ++ removed table cs
  gone_both = removed-append table (c ∷ []) cs

  come_both : added table (c ∷ cs) ≡ added table (c ∷ []) ++ added table cs
  come_both = added-append table (c ∷ []) cs

  apart : (d : Datom) → Contains (held_by changing table (c ∷ [])) d → Contains (held_by changing table cs) d → ⊥
  apart d first second = elim (cases_of (datom_of table c.number) d [] first) [
    | inl same ↦
        not_behind_itself order (datom_of table c.number) (held_by changing table cs) are.rising.0
        (subst (Contains (held_by changing table cs)) (sym same) second)
    | inr none ↦ none_of d none
  ]

  gone_first : (d : Datom) → Contains (removed table (c ∷ [])) d → Contains (removed table (c ∷ cs)) d
  gone_first d inside =
      subst (λ (l : List Datom). Contains l d) (sym gone_both) (Contains-append_left (removed table (c ∷ [])) (removed table cs) d inside)

  gone_later : (d : Datom) → Contains (removed table cs) d → Contains (removed table (c ∷ cs)) d
  gone_later d inside =
      subst (λ (l : List Datom). Contains l d) (sym gone_both) (Contains-append_right (removed table (c ∷ [])) (removed table cs) d inside)

  come_first : (d : Datom) → Contains (added table (c ∷ [])) d → Contains (added table (c ∷ cs)) d
  come_first d inside =
      subst (λ (l : List Datom). Contains l d) (sym come_both) (Contains-append_left (added table (c ∷ [])) (added table cs) d inside)

  come_later : (d : Datom) → Contains (added table cs) d → Contains (added table (c ∷ cs)) d
  come_later d inside =
      subst (λ (l : List Datom). Contains l d) (sym come_both) (Contains-append_right (added table (c ∷ [])) (added table cs) d inside)

  pub one_are : AreChanges order table (c ∷ []) base
  one_are =
      record {
        members =
            All-cons (λ x. IsMember order table (changing x)) c []
            (All-head (λ x. IsMember order table (changing x)) c cs are.members) (All-nil (λ x. IsMember order table (changing x)));
        rising = (tt, tt);
        there = λ d inside. are.there d (gone_first d inside);
        fresh = λ d comes inside. are.fresh d (come_first d comes) inside;
      }

  may0 : MayChange order table (removed table (c ∷ [])) (added table (c ∷ [])) base
  may0 = may_change order table (c ∷ []) base one_are rises within

  pub rest_are : AreChanges order table cs (changed_by order table (c ∷ []) base)
  rest_are =
      record {
        members = All-tail (λ x. IsMember order table (changing x)) c cs are.members;
        rising = are.rising.1;
        there = λ d inside.
            into_changed order table (removed table (c ∷ [])) (added table (c ∷ [])) base single may0 d
            (inl (are.there d (gone_later d inside), λ went. apart d (removed_of table (c ∷ []) d went) (removed_of table cs d inside)));
        fresh = λ d comes inside.
            elim (from_changed order table (removed table (c ∷ [])) (added table (c ∷ [])) base single may0 d inside) [
              | inl stayed ↦ are.fresh d (come_later d comes) stayed.0
              | inr came ↦ apart d (added_of table (c ∷ []) d came) (added_of table cs d comes)
            ];
      }

  pub one_rises : IsRising order (changed_by order table (c ∷ []) base)
  one_rises = changed_rises order table (removed table (c ∷ [])) (added table (c ∷ [])) base single may0

  pub one_within : IsWithin table (changed_by order table (c ∷ []) base)
  one_within = changed_within order table (removed table (c ∷ [])) (added table (c ∷ [])) base single may0

  both_ways : AreTogether order (removed table (c ∷ [])) (added table (c ∷ [])) (removed table cs) (added table cs) (removed table (c ∷ cs))
      (added table (c ∷ cs))
  both_ways =
      record {
        gone_rises = removed_rises order table (c ∷ cs) are.rising;
        come_rises = added_rises order table (c ∷ cs) are.rising;
        goes = λ d. (
          λ inside. elim (Contains-append_cases (removed table (c ∷ [])) (removed table cs) d
              (subst (λ (l : List Datom). Contains l d) gone_both inside)) [
                | inl a ↦ inl (a, λ comes. apart d (removed_of table (c ∷ []) d a) (added_of table cs d comes))
                | inr b ↦ inr (b, λ comes. apart d (added_of table (c ∷ []) d comes) (removed_of table cs d b))
              ],
          λ given. elim given [ inl a ↦ gone_first d a.0 | inr b ↦ gone_later d b.0 ],
        );
        comes = λ d. (
          λ inside. elim (Contains-append_cases (added table (c ∷ [])) (added table cs) d
              (subst (λ (l : List Datom). Contains l d) come_both inside)) [
                | inl a ↦ inl (a, λ goes. apart d (added_of table (c ∷ []) d a) (removed_of table cs d goes))
                | inr b ↦ inr (b, λ goes. apart d (removed_of table (c ∷ []) d goes) (added_of table cs d b))
              ],
          λ given. elim given [ inl a ↦ come_first d a.0 | inr b ↦ come_later d b.0 ],
        );
      }

  pub one_then : changed_by order table cs (changed_by order table (c ∷ []) base) ≡ changed_by order table (c ∷ cs) base
  one_then =
      twice order table (removed table (c ∷ [])) (added table (c ∷ [])) (removed table cs) (added table cs) (removed table (c ∷ cs))
      (added table (c ∷ cs)) base single may0 (may_change order table cs (changed_by order table (c ∷ []) base) rest_are one_rises one_within)
      both_ways

-- ---- the first of both

above_own : (order : Order) (n o : Datom) → is_gt (key_cmp order n o) ≡ false → is_below (probe_of order n) o ≡ false
above_own order n o is = is_below-probe_of order n o ∙ is

pub merged_older : (order : Order) (table : List Datom) (n : Change) (ns : List Change) (o : Change) (os : List Change)
    → key_cmp order (datom_of table o.number) (datom_of table n.number) ≡ Less
    → merged order table (n ∷ ns) (o ∷ os) ≡ o ∷ merged order table (n ∷ ns) os
merged_older order table n ns o os less =
    let back : key_cmp order (datom_of table n.number) (datom_of table o.number) ≡ Greater =
    cc ((key_cmp_total order).antisymm (datom_of table n.number) (datom_of table o.number)) in
    let below : is_below (probe_of order (datom_of table n.number)) (datom_of table o.number) ≡ true =
    is_below-probe_of order (datom_of table n.number) (datom_of table o.number) ∙ ap is_gt back in
    rw (below, one_more (place_in order table n.number os)) refl

pub merged_met : (order : Order) (table : List Datom) (n : Change) (ns : List Change) (o : Change) (os : List Change)
    → key_cmp order (datom_of table o.number) (datom_of table n.number) ≡ Equal
    → merged order table (n ∷ ns) (o ∷ os) ≡ merged order table ns os
merged_met order table n ns o os equal =
    let back : key_cmp order (datom_of table n.number) (datom_of table o.number) ≡ Equal =
    cc ((key_cmp_total order).antisymm (datom_of table n.number) (datom_of table o.number)) in
    let above : is_below (probe_of order (datom_of table n.number)) (datom_of table o.number) ≡ false =
    above_own order (datom_of table n.number) (datom_of table o.number) (ap is_gt back) in
    rw (above, equal) refl

pub merged_newer : (order : Order) (table : List Datom) (n : Change) (ns : List Change) (o : Change) (os : List Change)
    → key_cmp order (datom_of table o.number) (datom_of table n.number) ≡ Greater
    → merged order table (n ∷ ns) (o ∷ os) ≡ n ∷ merged order table ns (o ∷ os)
merged_newer order table n ns o os greater =
    let back : key_cmp order (datom_of table n.number) (datom_of table o.number) ≡ Less =
    cc ((key_cmp_total order).antisymm (datom_of table n.number) (datom_of table o.number)) in
    let above : is_below (probe_of order (datom_of table n.number)) (datom_of table o.number) ≡ false =
    above_own order (datom_of table n.number) (datom_of table o.number) (ap is_gt back) in
    rw (above, greater) refl

pub merged_alone : (order : Order) (table : List Datom) (n : Change) (ns : List Change)
    → merged order table (n ∷ ns) [] ≡ n ∷ merged order table ns []
merged_alone order table n ns = refl

-- ---- one newer change after the other

front_copied : (order : Order) (table : List Datom) (ns front back : List Change)
    → ((x y : Datom) → Contains (held_by changing table front) x → Contains (held_by changing table ns) y → key_cmp order x y ≡ Less)
    → merged order table ns (front ++ back) ≡ front ++ merged order table ns back
front_copied order table [] front back before = refl
front_copied order table (n ∷ ns) [] back before = refl
front_copied order table (n ∷ ns) (f ∷ front) back before =
    merged_older order table n ns f (front ++ back)
    (before (datom_of table f.number) (datom_of table n.number) (here (datom_of table f.number) (held_by changing table front))
    (here (datom_of table n.number) (held_by changing table ns)))
    ∙ ap (λ (l : List Change). f ∷ l)
    (front_copied order table (n ∷ ns) front back
    (λ x y x_in y_in. before x y (there (datom_of table f.number) x (held_by changing table front) x_in) y_in))

get_behind : {X : Type 0} (xs : List X) (n : ℕ) → slice_get (drop n xs) 0 ≡ slice_get xs n
get_behind [] zero = refl
get_behind [] (suc n) = refl
get_behind (x ∷ xs) zero = refl
get_behind (x ∷ xs) (suc n) = get_behind xs n

drop_behind : {X : Type 0} (xs : List X) (n : ℕ) → drop 1 (drop n xs) ≡ drop (suc n) xs
drop_behind [] zero = refl
drop_behind [] (suc n) = refl
drop_behind (x ∷ xs) zero = refl
drop_behind (x ∷ xs) (suc n) = drop_behind xs n

pub merged_put : (order : Order) (table : List Datom) (n : Change) (ns older : List Change) → IsRising order (held_by changing table (n ∷ ns))
    → merged order table (n ∷ ns) older ≡ merged order table ns (with_change order table older n)
merged_put order table n ns older rising = go (is_met order table n.number (slice_get older (place_in order table n.number older))) refl
  where
    before : (x y : Datom) → Contains (held_by changing table (take (place_in order table n.number older) older)) x
        → Contains (held_by changing table ns) y → key_cmp order x y ≡ Less
    before x y x_in y_in =
        (key_cmp_total order).trans x (datom_of table n.number) y
        (before_own order (datom_of table n.number) (held_by changing table older) x
        (subst (λ (l : List Datom). Contains l x) (sym (take-map (datom_by changing table) (place_in order table n.number older) older)) x_in))
        (before_member order (datom_of table n.number) (held_by changing table ns) y rising.0 y_in)

    own : (x y : Datom) → Contains (held_by changing table (n ∷ [])) x → Contains (held_by changing table ns) y → key_cmp order x y ≡ Less
    own x y x_in y_in = elim (cases_of (datom_of table n.number) x [] x_in) [
      | inl same ↦
          subst (λ (z : Datom). key_cmp order z y ≡ Less) same
          (before_member order (datom_of table n.number) (held_by changing table ns) y rising.0 y_in)
      | inr none ↦ absurd (none_of x none)
    ]

    go : (b : Bool) → is_met order table n.number (slice_get older (place_in order table n.number older)) ≡ b
        → merged order table (n ∷ ns) older ≡ merged order table ns (with_change order table older n)
    go true is =
        let here_too : is_met order table n.number (slice_get (drop (place_in order table n.number older) older) 0) ≡ true =
        ap (is_met order table n.number) (get_behind older (place_in order table n.number older)) ∙ is in
        let left : merged order table (n ∷ ns) older
        ≡ take (place_in order table n.number older) older
        ++ merged order table ns (drop 1 (drop (place_in order table n.number older) older)) =
        rw here_too
        (ap (λ (l : List Change). l ++ merged order table ns (drop 1 (drop (place_in order table n.number older) older)))
        (append-nil (take (place_in order table n.number older) older))) in
        let right : with_change order table older n ≡ remove older (place_in order table n.number older) = rw is refl in
        left
        ∙ ap (λ (l : List Change). take (place_in order table n.number older) older ++ merged order table ns l)
        (drop_behind older (place_in order table n.number older))
        ∙ sym (front_copied order table ns (take (place_in order table n.number older) older)
        (drop (suc (place_in order table n.number older)) older) before)
        ∙ ap (merged order table ns) (sym right)
    go false is =
        let here_too : is_met order table n.number (slice_get (drop (place_in order table n.number older) older) 0) ≡ false =
        ap (is_met order table n.number) (get_behind older (place_in order table n.number older)) ∙ is in
        let left : merged order table (n ∷ ns) older
        ≡ take (place_in order table n.number older) older
        ++ n ∷ merged order table ns (drop (place_in order table n.number older) older) =
        rw here_too
        (append_assoc (take (place_in order table n.number older) older) (n ∷ [])
        (merged order table ns (drop (place_in order table n.number older) older))) in
        let right : with_change order table older n ≡ insert older (place_in order table n.number older) n = rw is refl in
        left
        ∙ ap (λ (l : List Change). take (place_in order table n.number older) older ++ l)
        (sym (front_copied order table ns (n ∷ []) (drop (place_in order table n.number older) older) own))
        ∙ sym (front_copied order table ns (take (place_in order table n.number older) older)
        (n ∷ drop (place_in order table n.number older) older) before)
        ∙ ap (merged order table ns) (sym right)

-- ---- both as one

pub record IsMerged (order : Order) (table : List Datom) (newer older : List Change) (base : List Datom) : Type 0 where
  pub are : AreChanges order table (merged order table newer older) base
  pub whole : changed_by order table (merged order table newer older) base
      ≡ changed_by order table newer (changed_by order table older base)

pub merged_is : (order : Order) (table : List Datom) (newer older : List Change) (base : List Datom) → HasNoTwins table
    → IsRising order base → IsWithin table base → AreChanges order table older base
    → AreChanges order table newer (changed_by order table older base) → IsMerged order table newer older base
merged_is order table [] older base single rises within older_are newer_are =
    let may = may_change order table older base older_are rises within in
    record {
      are = older_are;
      whole =
          sym (unchanged order table (changed_by order table older base) single
          (may_change order table [] (changed_by order table older base) newer_are
          (changed_rises order table (removed table older) (added table older) base single may)
          (changed_within order table (removed table older) (added table older) base single may)));
    }
merged_is order table (n ∷ ns) older base single rises within older_are newer_are =
    let may = may_change order table older base older_are rises within in
    let mid_rises : IsRising order (changed_by order table older base) =
    changed_rises order table (removed table older) (added table older) base single may in
    let mid_within : IsWithin table (changed_by order table older base) =
    changed_within order table (removed table older) (added table older) base single may in
    let one = one_are order table n ns (changed_by order table older base) single newer_are mid_rises mid_within in
    let put : IsPut order table older n base (with_change order table older n) =
    put_is order table older n base single (All-head (λ x. IsMember order table (changing x)) n ns newer_are.members) older_are rises within
    (may_change order table (n ∷ []) (changed_by order table older base) one mid_rises mid_within) in
    let rest : AreChanges order table ns (changed_by order table (with_change order table older n) base) =
    subst (AreChanges order table ns) (sym put.whole)
    (rest_are order table n ns (changed_by order table older base) single newer_are mid_rises mid_within) in
    let next = merged_is order table ns (with_change order table older n) base single rises within put.are rest in
    let same = merged_put order table n ns older newer_are.rising in
    record {
      are = subst (λ (l : List Change). AreChanges order table l base) (sym same) next.are;
      whole =
          ap (λ (l : List Change). changed_by order table l base) same
          ∙ next.whole
          ∙ ap (changed_by order table ns) put.whole
          ∙ one_then order table n ns (changed_by order table older base) single newer_are mid_rises mid_within;
    }

-- what a walk begins with
pub both_left : (order : Order) (table : List Datom) (newest middle : List Change) (chunk : List Member) (later : List Part)
    → AreBothLeft order table newest middle chunk later
    → AreLeft order table (merged order table newest middle) chunk later 0
    × (changed_by order table (merged order table newest middle) (named table (members_left chunk later))
    ≡ changed_by order table newest (changed_by order table middle (named table (members_left chunk later))))
both_left order table newest middle chunk later left =
    let both = merged_is order table newest middle (named table (members_left chunk later)) left.single left.members.rising
    (members_within order table (members_left chunk later) left.members) left.middle_are left.newest_are in (
      record {
        single = left.single;
        parts = left.parts;
        members = left.members;
        changes = both.are;
        within = omega arith;
        before = none_safe order table (merged order table newest middle) chunk;
      },
      both.whole,
    )

-- what meets a member is a change
pub met_first : (order : Order) (table : List Datom) (first : Option (Bor Change)) (rest : List Change) (ms : List Member)
    → meets order table (first_and first rest) ms ≡ true → (c : Change) × (first_and first rest ≡ c ∷ rest)
met_first order table None rest ms met = absurd (true≢false (sym met))
met_first order table (Some c) rest ms met = (c.now, refl)

-- ---- what is popped

pub heads_dropped : (order : Order) (table : List Datom) (newer older : List Change) → heads_meet order table newer older ≡ true
    → (merged order table (drop 1 newer) (drop 1 older) ≡ merged order table newer older) × (length (drop 1 newer) < length newer)
heads_dropped order table [] older meet = absurd (true≢false (sym meet))
heads_dropped order table (n ∷ ns) [] meet = absurd (true≢false (sym meet))
heads_dropped order table (n ∷ ns) (o ∷ os) meet =
    (sym (merged_met order table n ns o os (eq_is (key_cmp order (datom_of table o.number) (datom_of table n.number)) meet)), omega arith)
  where
    eq_is : (x : Ordering) → is_eq x ≡ true → x ≡ Equal
    eq_is Less is = absurd (true≢false (sym is))
    eq_is Equal is = refl
    eq_is Greater is = absurd (true≢false (sym is))

pub newer_popped : (order : Order) (table : List Datom) (n : Change) (ns older : List Change)
    → is_newer_first order table (n ∷ ns) older ≡ true → merged order table (n ∷ ns) older ≡ n ∷ merged order table ns older
newer_popped order table n ns [] first = merged_alone order table n ns
newer_popped order table n ns (o ∷ os) first =
    merged_newer order table n ns o os (gt_is (key_cmp order (datom_of table o.number) (datom_of table n.number)) first)
  where
    gt_is : (x : Ordering) → is_gt x ≡ true → x ≡ Greater
    gt_is Less is = absurd (true≢false (sym is))
    gt_is Equal is = absurd (true≢false (sym is))
    gt_is Greater is = refl

pub older_popped : (order : Order) (table : List Datom) (newer : List Change) (o : Change) (os : List Change)
    → heads_meet order table newer (o ∷ os) ≡ false → is_newer_first order table newer (o ∷ os) ≡ false
    → merged order table newer (o ∷ os) ≡ o ∷ merged order table newer os
older_popped order table [] o os apart later = refl
older_popped order table (n ∷ ns) o os apart later =
    merged_older order table n ns o os (lt_is (key_cmp order (datom_of table o.number) (datom_of table n.number)) apart later)
  where
    lt_is : (x : Ordering) → is_eq x ≡ false → is_gt x ≡ false → x ≡ Less
    lt_is Less eq gt = refl
    lt_is Equal eq gt = absurd (true≢false eq)
    lt_is Greater eq gt = absurd (true≢false gt)

pub none_popped : (order : Order) (table : List Datom) (newer : List Change) → is_newer_first order table newer [] ≡ false
    → merged order table newer [] ≡ []
none_popped order table [] later = refl
none_popped order table (n ∷ ns) later = absurd (true≢false later)

pub newer_taken : (order : Order) (table : List Datom) (newer older : List Change) (first : Option (Bor Change))
    → is_newer_first order table newer older ≡ true → option_copied first ≡ slice_get newer 0
    → merged order table newer older ≡ first_and first (merged order table (drop 1 newer) older)
newer_taken order table [] older first is found = absurd (true≢false (sym is))
newer_taken order table (n ∷ ns) older None is found = absurd (cc)
newer_taken order table (n ∷ ns) older (Some c) is found =
    let same : c.now ≡ n = cc in
    newer_popped order table n ns older is ∙ ap (λ (x : Change). x ∷ merged order table ns older) (sym same)

pub older_taken : (order : Order) (table : List Datom) (newer older : List Change) (first : Option (Bor Change))
    → heads_meet order table newer older ≡ false → is_newer_first order table newer older ≡ false → option_copied first ≡ slice_get older 0
    → merged order table newer older ≡ first_and first (merged order table newer (drop 1 older))
older_taken order table newer [] None apart later found = none_popped order table newer later
older_taken order table newer [] (Some c) apart later found = absurd (cc)
older_taken order table newer (o ∷ os) None apart later found = absurd (cc)
older_taken order table newer (o ∷ os) (Some c) apart later found =
    let same : c.now ≡ o = cc in
    older_popped order table newer o os apart later ∙ ap (λ (x : Change). x ∷ merged order table newer os) (sym same)

-- ---- the changes that are made

module _ (order : Order) (table : List Datom) (n : Change) (left before behind : List Change)
    (before_is : before ≡ take (place_in order table n.number left) left) (behind_is : behind ≡ drop (place_in order table n.number left) left) where
  met_is : (b : Bool) → is_met order table n.number (slice_get behind 0) ≡ b
      → is_met order table n.number (slice_get (drop (place_in order table n.number left) left) 0) ≡ b
  met_is b is = ap (λ (l : List Change). is_met order table n.number (slice_get l 0)) (sym behind_is) ∙ is

  pub upto_met : is_met order table n.number (slice_get behind 0) ≡ true → upto_newer order table n left ≡ before
  upto_met is =
      let met = met_is true is in
      rw met (append-nil (take (place_in order table n.number left) left) ∙ sym before_is)

  pub behind_met : is_met order table n.number (slice_get behind 0) ≡ true → behind_newer order table n left ≡ drop 1 behind
  behind_met is = let met = met_is true is in rw met (ap (drop 1) (sym behind_is))

  pub upto_not : is_met order table n.number (slice_get behind 0) ≡ false → upto_newer order table n left ≡ before ++ n ∷ []
  upto_not is = let met = met_is false is in rw met (ap (λ (l : List Change). l ++ n ∷ []) (sym before_is))

  pub behind_not : is_met order table n.number (slice_get behind 0) ≡ false → behind_newer order table n left ≡ behind
  behind_not is = let met = met_is false is in rw met (sym behind_is)

pub behind_members : (order : Order) (table : List Datom) (n : Change) (left : List Change)
    → All (λ c. IsMember order table (changing c)) left → All (λ c. IsMember order table (changing c)) (behind_newer order table n left)
behind_members order table n left all =
    let rest = drop (place_in order table n.number left) left in
    let of_rest : All (λ c. IsMember order table (changing c)) (drop (place_in order table n.number left) left) =
    All-drop (λ c. IsMember order table (changing c)) (place_in order table n.number left) left all in
    elim (is_met order table n.number (slice_get (drop (place_in order table n.number left) left) 0))
    as (λ b. All (λ c. IsMember order table (changing c)) (cond b (drop 1 (drop (place_in order table n.number left) left))
    (drop (place_in order table n.number left) left))) [
      | true ↦ All-drop (λ c. IsMember order table (changing c)) 1 rest of_rest
      | false ↦ of_rest
    ]

pub behind_rises : (order : Order) (table : List Datom) (n : Change) (left : List Change) → IsRising order (held_by changing table left)
    → IsRising order (held_by changing table (behind_newer order table n left))
behind_rises order table n left rising =
    let rest = drop (place_in order table n.number left) left in
    let of_rest : IsRising order (held_by changing table (drop (place_in order table n.number left) left)) =
    subst (IsRising order) (drop-map (datom_by changing table) (place_in order table n.number left) left)
    (rising-drop order (place_in order table n.number left) (held_by changing table left) rising) in
    elim (is_met order table n.number (slice_get (drop (place_in order table n.number left) left) 0))
    as (λ b. IsRising order (held_by changing table (cond b (drop 1 (drop (place_in order table n.number left) left))
    (drop (place_in order table n.number left) left)))) [
      | true ↦
          subst (IsRising order) (drop-map (datom_by changing table) 1 rest)
          (rising-drop order 1 (held_by changing table (drop (place_in order table n.number left) left)) of_rest)
      | false ↦ of_rest
    ]

-- what the loop over the newer changes keeps
pub merged_more : (order : Order) (table : List Datom) (newer : List Change) (i : ℕ) (d : Change) (all left more rest whole : List Change)
    → i < length newer → all ++ merged order table (drop i newer) left ≡ whole
    → more ≡ all ++ upto_newer order table (get_or newer i d) left → rest ≡ behind_newer order table (get_or newer i d) left
    → more ++ merged order table (drop (i + 1) newer) rest ≡ whole
merged_more order table newer i d all left more rest whole within is more_is rest_is =
    ap (λ (l : List Change). l ++ merged order table (drop (i + 1) newer) rest) more_is
    ∙ ap (λ (l : List Change). (all ++ upto_newer order table (get_or newer i d) left) ++ merged order table (drop (i + 1) newer) l) rest_is
    ∙ append_assoc all (upto_newer order table (get_or newer i d) left)
    (merged order table (drop (i + 1) newer) (behind_newer order table (get_or newer i d) left))
    ∙ ap (λ (l : List Change). all ++ merged order table l left) (sym (drop_more newer i d within))
    ∙ is

pub merged_end : (order : Order) (table : List Datom) (newer : List Change) (i : ℕ) (all left new whole : List Change) → length newer ≤ i
    → all ++ merged order table (drop i newer) left ≡ whole → new ≡ all ++ left → new ≡ whole
merged_end order table newer i all left new whole past is new_is =
    new_is ∙ ap (λ (l : List Change). all ++ merged order table l left) (sym (drop_of_length-le newer past)) ∙ is
