-- Runs whose changes are settled, and runs with one datom more.
use Rattle.std.proofs.Common.{◌≡◌, ◌∙◌, ℕ, zero, suc, ◌+◌, ◌<◌, ◌≤◌, true, false, List, [], ◌∷◌, length, length-append, take, drop, refl, sym, ap, subst, arith}
use Rattle.std.specs.Prelude.{Contains}
use Rattle.std.specs.List.{insert, remove, slice_get}
use Rattle.std.proofs.lemmas.Bool.{true≢false}
use Rattle.std.proofs.lemmas.List.{length-drop, length-map, length-take}
use Rattle.std.proofs.lemmas.List.Elements.{All-nil}
use Rattle.fb_values.specs.declared.facts.Datom.{Datom}
use Rattle.fb_values.specs.declared.indexes.Order.{Order}
use Rattle.fb_values.specs.Rising.{IsRising}
use Rattle.fb_model.specs.Rising.{put_in_order}
use Rattle.fb_model.proofs.Members.{none_of}
use Rattle.live_runs.specs.declared.members.Change.{Change}
use Rattle.live_runs.specs.declared.members.Member.{Member}
use Rattle.live_runs.specs.Changed.{HasNoTwins, IsWithin, changed, MayChange, without}
use Rattle.live_runs.specs.Changes.{AreChanges, AreMembers, added, changed_by, is_met, place_in, removed, with_change}
use Rattle.live_runs.specs.Members.{IsMember, changing, datom_of, named}
use Rattle.live_runs.specs.Runs.{AreRuns, IsSettled, Layers, runs_datoms, settled_datoms}
use Rattle.live_runs.proofs.Adding.{adding_is, adding_length, adding_may}
use Rattle.live_runs.proofs.Changed.{changed_rises, changed_within, unchanged}
use Rattle.live_runs.proofs.Named.{datom_within, may_change}
use Rattle.live_runs.proofs.Putting.{IsPut, put_is}
use Rattle.live_runs.proofs.Removing.{removing_is, removing_length, removing_may}
use Rattle.live_runs.proofs.Stepping.{members_within}

no_changes : (order : Order) (table base : List Datom) → AreChanges order table [] base
no_changes order table base =
    record {
      members = All-nil (λ c. IsMember order table (changing c));
      rising = tt;
      there = λ d goes. absurd (none_of d goes);
      fresh = λ d comes inside. none_of d comes;
    }

pub no_members : (order : Order) (table : List Datom) → AreMembers order table []
no_members order table = record { members = All-nil (IsMember order table); rising = tt }

module _ (order : Order) (table : List Datom) (middle : List Change) (ms : List Member) (single : HasNoTwins table)
    (is : IsSettled order table middle ms) where
  pub settled_may : MayChange order table (removed table middle) (added table middle) (named table ms)
  settled_may =
      may_change order table middle (named table ms) is.changes_are is.members_are.rising (members_within order table ms is.members_are)

  pub settled_rises : IsRising order (settled_datoms order table middle ms)
  settled_rises = changed_rises order table (removed table middle) (added table middle) (named table ms) single settled_may

  pub settled_within : IsWithin table (settled_datoms order table middle ms)
  settled_within = changed_within order table (removed table middle) (added table middle) (named table ms) single settled_may

-- no changes of a list
pub none_changed : (order : Order) (table base : List Datom) → HasNoTwins table → IsRising order base → IsWithin table base
    → changed_by order table [] base ≡ base
none_changed order table base single rises within =
    unchanged order table base single (may_change order table [] base (no_changes order table base) rises within)

-- a list alone
pub alone_settled : (order : Order) (table : List Datom) (middle : List Change) (ms : List Member) → HasNoTwins table
    → AreMembers order table ms → middle ≡ []
    → IsSettled order table middle ms × (settled_datoms order table middle ms ≡ named table ms)
alone_settled order table middle ms single are none =
    let stays : changed_by order table [] (named table ms) ≡ named table ms =
    none_changed order table (named table ms) single are.rising (members_within order table ms are) in
    let at : IsSettled order table [] ms =
    record {
      members_are = are;
      changes_are = no_changes order table (named table ms);
      short = omega arith;
      few = omega (arith, ap length stays, length-map ms (λ (m : Member). datom_of table m.number));
    } in (
      subst (λ (l : List Change). IsSettled order table l ms) (sym none) at,
      subst (λ (l : List Change). changed_by order table l (named table ms) ≡ named table ms) (sym none) stays,
    )

-- what is settled, without newer changes
pub settled_runs : (order : Order) (table : List Datom) (newest middle : List Change) (ms : List Member) (count : ℕ) (target : List Datom)
    → HasNoTwins table → IsSettled order table middle ms → newest ≡ [] → settled_datoms order table middle ms ≡ target
    → count ≡ length target
    → AreRuns order table (record { newest = newest; middle = middle; settled = ms; count = count })
    × (runs_datoms order table (record { newest = newest; middle = middle; settled = ms; count = count }) ≡ target)
settled_runs order table newest middle ms count target single are none is counted =
    let stays : changed_by order table [] (settled_datoms order table middle ms) ≡ settled_datoms order table middle ms =
    none_changed order table (settled_datoms order table middle ms) single (settled_rises order table middle ms single are)
    (settled_within order table middle ms single are) in
    let at : AreRuns order table (record { newest = []; middle = middle; settled = ms; count = count }) =
    record {
      single = single;
      settled = are;
      newest = no_changes order table (settled_datoms order table middle ms);
      count_is = counted ∙ ap length (sym (stays ∙ is));
    } in (
      subst (λ (l : List Change). AreRuns order table (record { newest = l; middle = middle; settled = ms; count = count })) (sym none) at,
      subst (λ (l : List Change). changed_by order table l (settled_datoms order table middle ms) ≡ target) (sym none) (stays ∙ is),
    )

-- a list that is made anew
pub rising_runs : (order : Order) (table : List Datom) (newest middle : List Change) (ms members : List Member) (count : ℕ) → HasNoTwins table
    → AreMembers order table members → newest ≡ [] → middle ≡ [] → ms ≡ members → count ≡ length members
    → AreRuns order table (record { newest = newest; middle = middle; settled = ms; count = count })
    × (runs_datoms order table (record { newest = newest; middle = middle; settled = ms; count = count }) ≡ named table members)
rising_runs order table newest middle ms members count single are none none_waits same counted =
    let alone = alone_settled order table middle ms single (subst (AreMembers order table) (sym same) are) none_waits in
    settled_runs order table newest middle ms count (named table members) single alone.0 none (alone.1 ∙ ap (named table) same)
    (counted ∙ sym (length-map members (λ (m : Member). datom_of table m.number)))

-- a change that adds a datom
pub added_runs : (order : Order) (table : List Datom) (r : Layers) (c : Change) (newest : List Change) (count : ℕ)
    → AreRuns order table r → IsMember order table (changing c) → c.removes ≡ false
    → (Contains (runs_datoms order table r) (datom_of table c.number) → ⊥) → newest ≡ with_change order table r.newest c
    → count ≡ r.count + 1
    → AreRuns order table (record { newest = newest; middle = r.middle; settled = r.settled; count = count })
    × (runs_datoms order table (record { newest = newest; middle = r.middle; settled = r.settled; count = count })
    ≡ put_in_order order (datom_of table c.number) (runs_datoms order table r))
added_runs order table r c newest count are member adds fresh newest_is count_is =
    let d = datom_of table c.number in
    let base = settled_datoms order table r.middle r.settled in
    let runs = runs_datoms order table r in
    let base_rises : IsRising order base = settled_rises order table r.middle r.settled are.single are.settled in
    let base_within : IsWithin table base = settled_within order table r.middle r.settled are.single are.settled in
    let may0 : MayChange order table (removed table r.newest) (added table r.newest) base =
    may_change order table r.newest base are.newest base_rises base_within in
    let rises : IsRising order runs = changed_rises order table (removed table r.newest) (added table r.newest) base are.single may0 in
    let within : IsWithin table runs = changed_within order table (removed table r.newest) (added table r.newest) base are.single may0 in
    let d_in : Contains table d = datom_within table c.number member.within in
    let goes : removed table (c ∷ []) ≡ [] = rw adds refl in
    let comes : added table (c ∷ []) ≡ d ∷ [] = rw adds refl in
    let plain : MayChange order table [] (d ∷ []) runs = adding_may order table d runs are.single within d_in rises fresh in
    let may1 : MayChange order table (removed table (c ∷ [])) (added table (c ∷ [])) runs =
    subst (λ (l : List Datom). MayChange order table l (added table (c ∷ [])) runs) (sym goes)
    (subst (λ (l : List Datom). MayChange order table [] l runs) (sym comes) plain) in
    let put : IsPut order table r.newest c base (with_change order table r.newest c) =
    put_is order table r.newest c base are.single member are.newest base_rises base_within may1 in
    let sum : changed_by order table (c ∷ []) runs ≡ put_in_order order d runs =
    ap (λ (l : List Datom). changed order l (added table (c ∷ [])) runs) goes
    ∙ ap (λ (l : List Datom). changed order [] l runs) comes
    ∙ adding_is order table d runs are.single within d_in rises fresh in
    let whole : changed_by order table newest base ≡ put_in_order order d runs =
    ap (λ (l : List Change). changed_by order table l base) newest_is ∙ put.whole ∙ sum in
    let long : length (put_in_order order d runs) ≡ length runs + 1 = adding_length order table d runs are.single within d_in rises fresh in (
      record {
        single = are.single;
        settled = are.settled;
        newest = subst (λ (l : List Change). AreChanges order table l base) (sym newest_is) put.are;
        count_is = count_is ∙ ap (λ n. n + 1) are.count_is ∙ sym long ∙ ap length (sym whole);
      },
      whole,
    )

-- ---- a change that is put

pub met_within : (order : Order) (table : List Datom) (number place : ℕ) (cs : List Change)
    → is_met order table number (slice_get cs place) ≡ true → place < length cs
met_within order table number place [] met = absurd (true≢false (sym met))
met_within order table number zero (c ∷ cs) met = omega arith
met_within order table number (suc place) (c ∷ cs) met = omega (arith, met_within order table number place cs met)

pub put_away : (order : Order) (table : List Datom) (cs : List Change) (c : Change) (place : ℕ) → place ≡ place_in order table c.number cs
    → is_met order table c.number (slice_get cs place) ≡ true → with_change order table cs c ≡ remove cs place
put_away order table cs c place at met =
    let here : is_met order table c.number (slice_get cs (place_in order table c.number cs)) ≡ true =
    subst (λ n. is_met order table c.number (slice_get cs n) ≡ true) at met in
    rw here (ap (remove cs) (sym at))

pub put_in : (order : Order) (table : List Datom) (cs : List Change) (c : Change) (place : ℕ) → place ≡ place_in order table c.number cs
    → is_met order table c.number (slice_get cs place) ≡ false → with_change order table cs c ≡ insert cs place c
put_in order table cs c place at met =
    let here : is_met order table c.number (slice_get cs (place_in order table c.number cs)) ≡ false =
    subst (λ n. is_met order table c.number (slice_get cs n) ≡ false) at met in
    rw here (ap (λ n. insert cs n c) (sym at))

pub length_removed : {X : Type 0} (xs : List X) (i : ℕ) → length (remove xs i) ≤ length xs
length_removed xs i =
    omega (arith, length-append (take i xs) (drop (suc i) xs), length-take i xs, length-drop (suc i) xs)

pub length_inserted : {X : Type 0} (xs : List X) (i : ℕ) (x : X) → i ≤ length xs → length (insert xs i x) ≡ length xs + 1
length_inserted xs i x within =
    omega (arith, length-append (take i xs) (x ∷ drop i xs), length-take i xs, length-drop i xs)

-- a change that removes a datom
pub removed_runs : (order : Order) (table : List Datom) (r : Layers) (c : Change) (newest : List Change) (count : ℕ)
    → AreRuns order table r → IsMember order table (changing c) → c.removes ≡ true
    → Contains (runs_datoms order table r) (datom_of table c.number) → newest ≡ with_change order table r.newest c
    → count + 1 ≡ r.count
    → AreRuns order table (record { newest = newest; middle = r.middle; settled = r.settled; count = count })
    × (runs_datoms order table (record { newest = newest; middle = r.middle; settled = r.settled; count = count })
    ≡ without order (datom_of table c.number) (runs_datoms order table r))
removed_runs order table r c newest count are member removes there newest_is count_is =
    let d = datom_of table c.number in
    let base = settled_datoms order table r.middle r.settled in
    let runs = runs_datoms order table r in
    let base_rises : IsRising order base = settled_rises order table r.middle r.settled are.single are.settled in
    let base_within : IsWithin table base = settled_within order table r.middle r.settled are.single are.settled in
    let may0 : MayChange order table (removed table r.newest) (added table r.newest) base =
    may_change order table r.newest base are.newest base_rises base_within in
    let rises : IsRising order runs = changed_rises order table (removed table r.newest) (added table r.newest) base are.single may0 in
    let within : IsWithin table runs = changed_within order table (removed table r.newest) (added table r.newest) base are.single may0 in
    let goes : removed table (c ∷ []) ≡ d ∷ [] = rw removes refl in
    let comes : added table (c ∷ []) ≡ [] = rw removes refl in
    let plain : MayChange order table (d ∷ []) [] runs = removing_may order table d runs are.single within rises there in
    let may1 : MayChange order table (removed table (c ∷ [])) (added table (c ∷ [])) runs =
    subst (λ (l : List Datom). MayChange order table l (added table (c ∷ [])) runs) (sym goes)
    (subst (λ (l : List Datom). MayChange order table (d ∷ []) l runs) (sym comes) plain) in
    let put : IsPut order table r.newest c base (with_change order table r.newest c) =
    put_is order table r.newest c base are.single member are.newest base_rises base_within may1 in
    let sum : changed_by order table (c ∷ []) runs ≡ without order d runs =
    ap (λ (l : List Datom). changed order l (added table (c ∷ [])) runs) goes
    ∙ ap (λ (l : List Datom). changed order (d ∷ []) l runs) comes
    ∙ removing_is order table d runs are.single within rises there in
    let whole : changed_by order table newest base ≡ without order d runs =
    ap (λ (l : List Change). changed_by order table l base) newest_is ∙ put.whole ∙ sum in
    let long : length (without order d runs) + 1 ≡ length runs = removing_length order table d runs are.single within rises there in
    let counted : count ≡ length (without order d runs) = omega (arith, count_is, are.count_is, long) in (
      record {
        single = are.single;
        settled = are.settled;
        newest = subst (λ (l : List Change). AreChanges order table l base) (sym newest_is) put.are;
        count_is = counted ∙ ap length (sym whole);
      },
      whole,
    )
