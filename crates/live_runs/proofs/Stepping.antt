-- A changed list up to a change and behind it.
use Rattle.std.proofs.Common.{◌≡◌, ◌∙◌, ℕ, ◌+◌, ◌<◌, ◌≤◌, ◌⊎◌, inl, inr, Bool, true, false, cond, List, [], ◌∷◌, ◌++◌, length, get_or, take, drop, refl, sym, ap, subst, arith}
use Rattle.std.proofs.Common.{append_assoc}
use Rattle.std.specs.Prelude.{Contains}
use Rattle.std.specs.List.{All}
use Rattle.std.specs.Ordering.{is_gt}
use Rattle.std.specs.declared.cmp.Ordering.{Ordering}
use Rattle.std.specs.declared.cmp.Ordering.TheVariants.{Less, Equal, Greater}
use Rattle.std.proofs.lemmas.Bool.{true≢false}
use Rattle.std.proofs.lemmas.List.{take-append-drop, take-map, drop-map, map-append, append-nil, length-drop, drop_more, nil_from_length}
use Rattle.std.proofs.Math.ListN.{drop_of_length-le}
use Rattle.std.proofs.lemmas.List.Elements.{All-append, All-cons, All-drop, All-nil, All-same, All-take, All-head, All-tail}
use Rattle.fb_values.specs.declared.facts.Datom.{Datom}
use Rattle.fb_values.specs.declared.indexes.Order.{Order}
use Rattle.fb_values.specs.Orders.{key_cmp}
use Rattle.fb_values.specs.OrderLaws.{key_cmp_total}
use Rattle.fb_values.specs.Rising.{IsBelowAll, IsRising}
use Rattle.fb_model.proofs.Members.{here, there, cases_of, none_of}
use Rattle.fb_search.specs.Places.{place_of, probe_of}
use Rattle.fb_search.proofs.Ends.{rising-append_left, rising-append_right}
use Rattle.fb_search.proofs.Own.{is_below-probe_of}
use Rattle.live_runs.specs.declared.members.Change.{Change}
use Rattle.live_runs.specs.declared.members.Member.{Member}
use Rattle.live_runs.specs.Changed.{HasNoTwins, IsWithin, changed, MayChange, from_probe}
use Rattle.live_runs.specs.Changes.{AreChanges, AreMembers, added, behind, changed_by, place_for, removed, taken}
use Rattle.live_runs.specs.Members.{IsMember, changing, datom_of, named}
use Rattle.live_runs.proofs.Rises.{before_member, before_all, one_key, AreBefore}
use Rattle.live_runs.proofs.Changed.{base_first, behind_base, come_first, behind_come, gone_first, behind_both, unchanged}
use Rattle.live_runs.proofs.Beside.{upto_probe, upto_below, from_above}
use Rattle.live_runs.proofs.Named.{held_within, below_removed, below_added, may_change}

-- ---- before a datom and behind it

gt_back : (order : Order) (d x : Datom) → is_gt (key_cmp order d x) ≡ true → key_cmp order x d ≡ Less
gt_back order d x is = go (key_cmp order d x) refl is
  where
    go : (o : Ordering) → key_cmp order d x ≡ o → is_gt o ≡ true → key_cmp order x d ≡ Less
    go Less at gt = absurd (true≢false (sym gt))
    go Equal at gt = absurd (true≢false (sym gt))
    go Greater at gt = cc ((key_cmp_total order).antisymm x d)

not_gt : (o : Ordering) → is_gt o ≡ false → (o ≡ Less) ⊎ (o ≡ Equal)
not_gt Less is = inl refl
not_gt Equal is = inr refl
not_gt Greater is = absurd (true≢false is)

pub before_own : (order : Order) (d : Datom) (base : List Datom) (x : Datom) → Contains (upto_probe (probe_of order d) base) x
    → key_cmp order x d ≡ Less
before_own order d base x inside =
    gt_back order d x (sym (is_below-probe_of order d x) ∙ upto_below (probe_of order d) base x inside)

pub not_before_own : (order : Order) (d : Datom) (base : List Datom) (x : Datom) → IsRising order base
    → Contains (from_probe (probe_of order d) base) x → key_cmp order x d ≡ Less → ⊥
not_before_own order d base x rising inside less =
    let more : key_cmp order d x ≡ Greater = cc ((key_cmp_total order).antisymm d x) in
    let below : is_gt (key_cmp order d x) ≡ true = rw more refl in
    true≢false (sym below ∙ sym (is_below-probe_of order d x) ∙ from_above (probe_of order d) base x rising inside)

pub behind_own : (order : Order) (table : List Datom) (d : Datom) (base : List Datom) (x : Datom) → HasNoTwins table → Contains table d
    → Contains table x → IsRising order base → Contains (from_probe (probe_of order d) base) x → (d ≡ x → ⊥) → key_cmp order d x ≡ Less
behind_own order table d base x single d_in x_in rising inside other =
    elim (not_gt (key_cmp order d x) (sym (is_below-probe_of order d x) ∙ from_above (probe_of order d) base x rising inside)) [
      | inl less ↦ less
      | inr equal ↦ absurd (other (one_key order table d x single d_in x_in equal))
    ]

-- what stands before all changes stays as it is
pub front_same : (order : Order) (table gone come xs ys : List Datom) → HasNoTwins table → MayChange order table gone come (xs ++ ys)
    → AreBefore order xs gone → AreBefore order xs come
    → (changed order gone come (xs ++ ys) ≡ xs ++ changed order gone come ys) × MayChange order table gone come ys
front_same order table gone come [] ys single may before also = (refl, may)
front_same order table gone come (x ∷ xs) ys single may before also =
    let below : IsBelowAll order x gone = before_all order x gone (λ d inside. before x d (here x xs) inside) in
    let too : IsBelowAll order x come = before_all order x come (λ d inside. also x d (here x xs) inside) in
    let rest =
    front_same order table gone come xs ys single (behind_base order table gone come x (xs ++ ys) may below)
    (λ a b a_in b_in. before a b (there x a xs a_in) b_in) (λ a b a_in b_in. also a b (there x a xs a_in) b_in) in
    (base_first order table gone come x (xs ++ ys) single may below too ∙ ap (λ (l : List Datom). x ∷ l) rest.0, rest.1)

before_rest : (order : Order) (d : Datom) (base ds : List Datom) → IsBelowAll order d ds
    → AreBefore order (upto_probe (probe_of order d) base) ds
before_rest order d base ds before x y x_in y_in =
    (key_cmp_total order).trans x d y (before_own order d base x x_in) (before_member order d ds y before y_in)

before_both : (order : Order) (d : Datom) (base ds : List Datom) → IsBelowAll order d ds
    → AreBefore order (upto_probe (probe_of order d) base) (d ∷ ds)
before_both order d base ds before x y x_in y_in =
    elim (cases_of d y ds y_in) [
      | inl same ↦ subst (λ (z : Datom). key_cmp order x z ≡ Less) same (before_own order d base x x_in)
      | inr behind ↦ before_rest order d base ds before x y x_in behind
    ]

-- the first change adds a datom
pub step_adds : (order : Order) (table gone : List Datom) (d : Datom) (come base : List Datom) → HasNoTwins table
    → MayChange order table gone (d ∷ come) base → IsBelowAll order d gone
    → (changed order gone (d ∷ come) base
    ≡ upto_probe (probe_of order d) base ++ d ∷ changed order gone come (from_probe (probe_of order d) base))
    × MayChange order table gone come (from_probe (probe_of order d) base)
step_adds order table gone d come base single may before =
    let upto = upto_probe (probe_of order d) base in
    let from = from_probe (probe_of order d) base in
    let whole : upto ++ from ≡ base = take-append-drop (place_of (probe_of order d) base) base in
    let may_both : MayChange order table gone (d ∷ come) (upto ++ from) = subst (MayChange order table gone (d ∷ come)) (sym whole) may in
    let front =
    front_same order table gone (d ∷ come) upto from single may_both (before_rest order d base gone before)
    (before_both order d base come may.come_rises.0) in
    let first : changed order gone (d ∷ come) from ≡ d ∷ changed order gone come from =
    come_first order table gone d come from single front.1
    (before_all order d from
    (λ x inside. behind_own order table d base x single (may.come_within d (here d come)) (front.1.within x inside) may.rising inside
    (λ same. front.1.fresh d (here d come) (subst (Contains from) (sym same) inside)))) in (
      ap (changed order gone (d ∷ come)) (sym whole) ∙ front.0 ∙ ap (λ (l : List Datom). upto ++ l) first,
      behind_come order table gone d come from front.1,
    )

-- a datom that goes is the first of a list in which none is before it
take_off : (order : Order) (table : List Datom) (d : Datom) (gone come base : List Datom) → HasNoTwins table
    → MayChange order table (d ∷ gone) come base → ((x : Datom) → Contains base x → key_cmp order x d ≡ Less → ⊥)
    → (0 < length base) × (changed order (d ∷ gone) come base ≡ changed order gone come (drop 1 base))
    × MayChange order table gone come (drop 1 base)
take_off order table d gone come [] single may least = absurd (none_of d (may.there d (here d gone)))
take_off order table d gone come (x ∷ base) single may least =
    let same : d ≡ x = elim (cases_of x d base (may.there d (here d gone))) [
      | inl is ↦ sym is
      | inr behind ↦ absurd (least x (here x base) (before_member order x base d may.rising.0 behind))
    ] in
    let both : MayChange order table (x ∷ gone) come (x ∷ base) =
    subst (λ (z : Datom). MayChange order table (z ∷ gone) come (x ∷ base)) same may in (
      omega arith,
      ap (λ (z : Datom). changed order (z ∷ gone) come (x ∷ base)) same ∙ gone_first order table x gone come base single both,
      behind_both order table x gone come base both,
    )

-- the first change removes one
pub step_removes : (order : Order) (table : List Datom) (d : Datom) (gone come base : List Datom) → HasNoTwins table
    → MayChange order table (d ∷ gone) come base → IsBelowAll order d come
    → (place_of (probe_of order d) base < length base)
    × (changed order (d ∷ gone) come base
    ≡ upto_probe (probe_of order d) base ++ changed order gone come (drop 1 (from_probe (probe_of order d) base)))
    × MayChange order table gone come (drop 1 (from_probe (probe_of order d) base))
step_removes order table d gone come base single may before =
    let upto = upto_probe (probe_of order d) base in
    let from = from_probe (probe_of order d) base in
    let whole : upto ++ from ≡ base = take-append-drop (place_of (probe_of order d) base) base in
    let may_both : MayChange order table (d ∷ gone) come (upto ++ from) = subst (MayChange order table (d ∷ gone) come) (sym whole) may in
    let front =
    front_same order table (d ∷ gone) come upto from single may_both (before_both order d base gone may.gone_rises.0)
    (before_rest order d base come before) in
    let off =
    take_off order table d gone come from single front.1 (λ x inside less. not_before_own order d base x may.rising inside less) in (
      omega (arith, off.0, length-drop (place_of (probe_of order d) base) base),
      ap (changed order (d ∷ gone) come) (sym whole) ∙ front.0 ∙ ap (λ (l : List Datom). upto ++ l) off.1,
      off.2,
    )

-- ---- members

pub rising-drop : (order : Order) (n : ℕ) (ds : List Datom) → IsRising order ds → IsRising order (drop n ds)
rising-drop order n ds rising =
    rising-append_right order (take n ds) (drop n ds) (subst (IsRising order) (sym (take-append-drop n ds)) rising)

pub rising-take : (order : Order) (n : ℕ) (ds : List Datom) → IsRising order ds → IsRising order (take n ds)
rising-take order n ds rising =
    rising-append_left order (take n ds) (drop n ds) (subst (IsRising order) (sym (take-append-drop n ds)) rising)

pub members-drop : (order : Order) (table : List Datom) (n : ℕ) (ms : List Member) → AreMembers order table ms
    → AreMembers order table (drop n ms)
members-drop order table n ms are =
    record {
      members = All-drop (IsMember order table) n ms are.members;
      rising =
          subst (IsRising order) (drop-map (λ (m : Member). datom_of table m.number) n ms) (rising-drop order n (named table ms) are.rising);
    }

pub members-take : (order : Order) (table : List Datom) (n : ℕ) (ms : List Member) → AreMembers order table ms
    → AreMembers order table (take n ms)
members-take order table n ms are =
    record {
      members = All-take (IsMember order table) n ms are.members;
      rising =
          subst (IsRising order) (take-map (λ (m : Member). datom_of table m.number) n ms) (rising-take order n (named table ms) are.rising);
    }

pub members_within : (order : Order) (table : List Datom) (ms : List Member) → AreMembers order table ms → IsWithin table (named table ms)
members_within order table ms are d inside = held_within (λ m. m) order table ms d are.members inside

-- what one change makes of members, and what is left to do behind it
pub record IsStep (order : Order) (table : List Datom) (c : Change) (cs : List Change) (left : List Member) (removes : Bool) : Type 0 where
  pub left_is : AreMembers order table (behind order table c left removes)
  pub changes_are : AreChanges order table cs (named table (behind order table c left removes))
  pub whole : changed_by order table (c ∷ cs) (named table left)
      ≡ named table (taken order table c left removes) ++ changed_by order table cs (named table (behind order table c left removes))

module _ (order : Order) (table : List Datom) (c : Change) (cs : List Change) (left : List Member) (single : HasNoTwins table)
    (are : AreMembers order table left) (changes : AreChanges order table (c ∷ cs) (named table left)) where
  may : MayChange order table (removed table (c ∷ cs)) (added table (c ∷ cs)) (named table left)
  may = may_change order table (c ∷ cs) (named table left) changes are.rising (members_within order table left are)

  front_is : named table (take (place_for order table c left) left) ≡ upto_probe (probe_of order (datom_of table c.number)) (named table left)
  front_is = sym (take-map (λ (m : Member). datom_of table m.number) (place_for order table c left) left)

  back_is : named table (drop (place_for order table c left) left) ≡ from_probe (probe_of order (datom_of table c.number)) (named table left)
  back_is = sym (drop-map (λ (m : Member). datom_of table m.number) (place_for order table c left) left)

  rest_changes : (base : List Datom) → MayChange order table (removed table cs) (added table cs) base → AreChanges order table cs base
  rest_changes base is =
      record {
        members = All-tail (λ x. IsMember order table (changing x)) c cs changes.members;
        rising = changes.rising.1;
        there = is.there;
        fresh = is.fresh;
      }

  pub step_for : (b : Bool) → c.removes ≡ b → IsStep order table c cs left b
  step_for true is =
      let goes : removed table (c ∷ cs) ≡ datom_of table c.number ∷ removed table cs = rw is refl in
      let comes : added table (c ∷ cs) ≡ added table cs = rw is refl in
      let at : MayChange order table (datom_of table c.number ∷ removed table cs) (added table cs) (named table left) =
      subst (λ (l : List Datom). MayChange order table (datom_of table c.number ∷ removed table cs) l (named table left)) comes
      (subst (λ (l : List Datom). MayChange order table l (added table (c ∷ cs)) (named table left)) goes may) in
      let step =
      step_removes order table (datom_of table c.number) (removed table cs) (added table cs) (named table left) single at
      (below_added order table (datom_of table c.number) cs changes.rising.0) in
      let one : drop 1 (from_probe (probe_of order (datom_of table c.number)) (named table left))
      ≡ named table (drop 1 (drop (place_for order table c left) left)) =
      ap (drop 1) (sym back_is) ∙ drop-map (λ (m : Member). datom_of table m.number) 1 (drop (place_for order table c left) left) in
      record {
        left_is =
            members-drop order table 1 (drop (place_for order table c left) left)
            (members-drop order table (place_for order table c left) left are);
        changes_are =
            rest_changes (named table (drop 1 (drop (place_for order table c left) left)))
            (subst (MayChange order table (removed table cs) (added table cs)) one step.2);
        whole =
            ap (λ (l : List Datom). changed order l (added table (c ∷ cs)) (named table left)) goes
            ∙ ap (λ (l : List Datom). changed order (datom_of table c.number ∷ removed table cs) l (named table left)) comes
            ∙ step.1
            ∙ ap (λ (l : List Datom). l ++ changed order (removed table cs) (added table cs)
            (drop 1 (from_probe (probe_of order (datom_of table c.number)) (named table left)))) (sym front_is)
            ∙ ap (λ (l : List Datom). named table (take (place_for order table c left) left)
            ++ changed order (removed table cs) (added table cs) l) one
            ∙ ap (λ (l : List Member). named table l ++ changed_by order table cs
            (named table (drop 1 (drop (place_for order table c left) left))))
            (sym (append-nil (take (place_for order table c left) left)));
      }
  step_for false is =
      let goes : removed table (c ∷ cs) ≡ removed table cs = rw is refl in
      let comes : added table (c ∷ cs) ≡ datom_of table c.number ∷ added table cs = rw is refl in
      let at : MayChange order table (removed table cs) (datom_of table c.number ∷ added table cs) (named table left) =
      subst (λ (l : List Datom). MayChange order table (removed table cs) l (named table left)) comes
      (subst (λ (l : List Datom). MayChange order table l (added table (c ∷ cs)) (named table left)) goes may) in
      let step =
      step_adds order table (removed table cs) (datom_of table c.number) (added table cs) (named table left) single at
      (below_removed order table (datom_of table c.number) cs changes.rising.0) in
      let rest = changed order (removed table cs) (added table cs)
      (from_probe (probe_of order (datom_of table c.number)) (named table left)) in
      record {
        left_is = members-drop order table (place_for order table c left) left are;
        changes_are =
            rest_changes (named table (drop (place_for order table c left) left))
            (subst (MayChange order table (removed table cs) (added table cs)) (sym back_is) step.1);
        whole =
            ap (λ (l : List Datom). changed order l (added table (c ∷ cs)) (named table left)) goes
            ∙ ap (λ (l : List Datom). changed order (removed table cs) l (named table left)) comes
            ∙ step.0
            ∙ ap (λ (l : List Datom). l ++ datom_of table c.number ∷ rest) (sym front_is)
            ∙ sym (append_assoc (named table (take (place_for order table c left) left)) (datom_of table c.number ∷ []) rest)
            ∙ ap (λ (l : List Datom). l ++ rest)
            (sym (map-append (λ (m : Member). datom_of table m.number) (take (place_for order table c left) left) (changing c ∷ [])))
            ∙ ap (λ (l : List Datom). named table (take (place_for order table c left) left ++ changing c ∷ [])
            ++ changed order (removed table cs) (added table cs) l) (sym back_is);
      }

-- what the loop over the changes keeps
pub record IsTakenOver (order : Order) (table target : List Datom) (cs : List Change) (left all : List Member) : Type 0 where
  pub left_is : AreMembers order table left
  pub changes_are : AreChanges order table cs (named table left)
  pub whole : named table all ++ changed_by order table cs (named table left) ≡ target
  pub all_are : All (IsMember order table) all

added_member : (order : Order) (table : List Datom) (c : Change) (b : Bool) → IsMember order table (changing c)
    → All (IsMember order table) (cond b [] (changing c ∷ []))
added_member order table c true is = All-nil (IsMember order table)
added_member order table c false is = All-cons (IsMember order table) (changing c) [] is (All-nil (IsMember order table))

pub taken_more : (order : Order) (table whole : List Datom) (cs : List Change) (i : ℕ) (e : Change) (all new left rest : List Member)
    → HasNoTwins table → i < length cs → IsTakenOver order table whole (drop i cs) left all
    → new ≡ all ++ taken order table (get_or cs i e) left (get_or cs i e).removes
    → rest ≡ behind order table (get_or cs i e) left (get_or cs i e).removes
    → IsTakenOver order table whole (drop (i + 1) cs) rest new
taken_more order table whole cs i e all new left rest single within before new_is rest_is =
    let c = get_or cs i e in
    let next : drop i cs ≡ get_or cs i e ∷ drop (i + 1) cs = drop_more cs i e within in
    let at : AreChanges order table (get_or cs i e ∷ drop (i + 1) cs) (named table left) =
    subst (λ (l : List Change). AreChanges order table l (named table left)) next before.changes_are in
    let step = step_for order table (get_or cs i e) (drop (i + 1) cs) left single before.left_is at (get_or cs i e).removes refl in
    let t = taken order table (get_or cs i e) left (get_or cs i e).removes in
    let b = behind order table (get_or cs i e) left (get_or cs i e).removes in
    let of_taken : All (IsMember order table) (taken order table (get_or cs i e) left (get_or cs i e).removes) =
    All-append (IsMember order table) (take (place_for order table (get_or cs i e) left) left)
    (cond (get_or cs i e).removes [] (changing (get_or cs i e) ∷ []))
    (All-take (IsMember order table) (place_for order table (get_or cs i e) left) left before.left_is.members)
    (added_member order table (get_or cs i e) (get_or cs i e).removes
    (All-head (λ x. IsMember order table (changing x)) (get_or cs i e) (drop (i + 1) cs) at.members)) in
    let sum : named table (all ++ t) ++ changed_by order table (drop (i + 1) cs) (named table b) ≡ whole =
    ap (λ (l : List Datom). l ++ changed_by order table (drop (i + 1) cs) (named table b))
    (map-append (λ (m : Member). datom_of table m.number) all t)
    ∙ append_assoc (named table all) (named table t) (changed_by order table (drop (i + 1) cs) (named table b))
    ∙ ap (λ (l : List Datom). named table all ++ l) (sym step.whole)
    ∙ ap (λ (l : List Change). named table all ++ changed_by order table l (named table left)) (sym next)
    ∙ before.whole in
    let is : IsTakenOver order table whole (drop (i + 1) cs) b (all ++ t) =
    record {
      left_is = step.left_is;
      changes_are = step.changes_are;
      whole = sum;
      all_are = All-append (IsMember order table) all t before.all_are of_taken;
    } in
    rw (new_is, rest_is) is

-- behind the last change all is left as it is
pub taken_all : (order : Order) (table whole : List Datom) (cs : List Change) (i : ℕ) (all left new : List Member)
    → HasNoTwins table → length cs ≤ i → IsTakenOver order table whole (drop i cs) left all → new ≡ all ++ left
    → IsRising order whole → AreMembers order table new × (named table new ≡ whole)
taken_all order table whole cs i all left new single past before new_is rises =
    let none : drop i cs ≡ [] = drop_of_length-le cs past in
    let at : AreChanges order table [] (named table left) =
    subst (λ (l : List Change). AreChanges order table l (named table left)) none before.changes_are in
    let stays : changed_by order table [] (named table left) ≡ named table left =
    unchanged order table (named table left) single
    (may_change order table [] (named table left) at before.left_is.rising (members_within order table left before.left_is)) in
    let same : named table (all ++ left) ≡ whole =
    map-append (λ (m : Member). datom_of table m.number) all left
    ∙ ap (λ (l : List Datom). named table all ++ l) (sym stays)
    ∙ ap (λ (l : List Change). named table all ++ changed_by order table l (named table left)) (sym none)
    ∙ before.whole in
    let named_is : named table new ≡ whole = ap (named table) new_is ∙ same in (
      record {
        members =
            All-same (IsMember order table) new (all ++ left) new_is
            (All-append (IsMember order table) all left before.all_are before.left_is.members);
        rising = subst (IsRising order) (sym named_is) rises;
      },
      named_is,
    )

pub no_changes_same : (order : Order) (table : List Datom) (cs : List Change) (ms : List Member) → HasNoTwins table
    → AreMembers order table ms → AreChanges order table cs (named table ms) → length cs ≡ 0
    → changed_by order table cs (named table ms) ≡ named table ms
no_changes_same order table cs ms single are changes empty =
    let none : cs ≡ [] = nil_from_length cs empty in
    let at : AreChanges order table [] (named table ms) =
    subst (λ (l : List Change). AreChanges order table l (named table ms)) none changes in
    ap (λ (l : List Change). changed_by order table l (named table ms)) none
    ∙ unchanged order table (named table ms) single
    (may_change order table [] (named table ms) at are.rising (members_within order table ms are))
