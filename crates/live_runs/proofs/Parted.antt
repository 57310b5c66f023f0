-- Changes of a list that lies in two parts.
use Rattle.std.proofs.Common.{◌≡◌, ◌∙◌, ℕ, inl, inr, Bool, true, false, cond, List, [], ◌∷◌, ◌++◌, Some, length, take, drop, append_assoc, refl, sym, ap, subst}
use Rattle.std.specs.Prelude.{Contains}
use Rattle.std.specs.List.{All, slice_get}
use Rattle.std.specs.Ordering.{is_gt}
use Rattle.std.specs.Cmp.{tied_itself}
use Rattle.std.specs.declared.cmp.Ordering.TheVariants.{Less, Greater}
use Rattle.std.proofs.Math.Seq.{drop-length}
use Rattle.std.proofs.lemmas.List.{take-append-drop, take-map, drop-map, append-nil, map-append}
use Rattle.std.proofs.lemmas.List.Elements.{All-cons, All-drop, All-head, All-nil, All-tail, All-take}
use Rattle.fb_values.specs.declared.facts.Datom.{Datom}
use Rattle.fb_values.specs.declared.indexes.Order.{Order}
use Rattle.fb_values.specs.declared.indexes.Probe.{Probe}
use Rattle.fb_values.specs.Orders.{key_cmp}
use Rattle.fb_values.specs.OrderLaws.{key_cmp_total}
use Rattle.fb_values.specs.Rising.{IsRising}
use Rattle.fb_model.proofs.Members.{here, there, cases_of, none_of}
use Rattle.fb_search.specs.Places.{is_below, place_of, probe_of}
use Rattle.fb_search.proofs.Own.{is_below-probe_of}
use Rattle.live_runs.specs.declared.members.Change.{Change}
use Rattle.live_runs.specs.declared.members.Member.{Member}
use Rattle.live_runs.specs.declared.parts.Part.{Part}
use Rattle.live_runs.specs.Changed.{HasNoTwins, IsWithin, changed, MayChange, from_probe}
use Rattle.live_runs.specs.Changes.{AreChanges, AreMembers, added, changed_by, removed}
use Rattle.live_runs.specs.Members.{IsMember, changing, datom_by, datom_of, held_by, named}
use Rattle.live_runs.specs.Parts.{IsPart, members_in, members_of, upto_next}
use Rattle.live_runs.proofs.Rises.{AreBefore, before_member, rising_parts, rising_right}
use Rattle.live_runs.proofs.Beside.{upto_probe, upto_below, from_above, one_more, turns_at, upto_may, from_may, joined_up}
use Rattle.live_runs.proofs.Named.{added_of, may_change, removed_of}
use Rattle.live_runs.proofs.Stepping.{members-drop, members-take, members_within, rising-drop, rising-take}

pub upto_turns : (p : Probe) (xs ys : List Datom) → ((d : Datom) → Contains xs d → is_below p d ≡ true)
    → ((d : Datom) → Contains ys d → is_below p d ≡ false) → upto_probe p (xs ++ ys) ≡ xs
upto_turns p [] [] below above = refl
upto_turns p [] (y ∷ ys) below above = rw (above y (here y ys)) refl
upto_turns p (x ∷ xs) ys below above =
    rw (below x (here x xs), one_more (place_of p (xs ++ ys)))
    (ap (λ (l : List Datom). x ∷ l) (upto_turns p xs ys (λ d inside. below d (there x d xs inside)) above))

pub removed-append : (table : List Datom) (xs ys : List Change) → removed table (xs ++ ys) ≡ removed table xs ++ removed table ys
removed-append table [] ys = refl
removed-append table (c ∷ xs) ys = go c.removes (removed-append table xs ys)
  where
    go : (b : Bool) → removed table (xs ++ ys) ≡ removed table xs ++ removed table ys
        → cond b (datom_of table c.number ∷ removed table (xs ++ ys)) (removed table (xs ++ ys))
        ≡ cond b (datom_of table c.number ∷ removed table xs) (removed table xs) ++ removed table ys
    go true same = ap (λ (l : List Datom). datom_of table c.number ∷ l) same
    go false same = same

pub added-append : (table : List Datom) (xs ys : List Change) → added table (xs ++ ys) ≡ added table xs ++ added table ys
added-append table [] ys = refl
added-append table (c ∷ xs) ys = go c.removes (added-append table xs ys)
  where
    go : (b : Bool) → added table (xs ++ ys) ≡ added table xs ++ added table ys
        → cond b (added table (xs ++ ys)) (datom_of table c.number ∷ added table (xs ++ ys))
        ≡ cond b (added table xs) (datom_of table c.number ∷ added table xs) ++ added table ys
    go true same = same
    go false same = ap (λ (l : List Datom). datom_of table c.number ∷ l) same

-- ---- changes before a probe and behind it

module _ (p : Probe) (table : List Datom) (cs : List Change) (rising : IsRising p.order (held_by changing table cs)) where
  first_below : (d : Datom) → Contains (held_by changing table (take (place_of p (held_by changing table cs)) cs)) d → is_below p d ≡ true
  first_below d inside =
      upto_below p (held_by changing table cs) d
      (subst (λ (l : List Datom). Contains l d)
      (sym (take-map (datom_by changing table) (place_of p (held_by changing table cs)) cs)) inside)

  rest_above : (d : Datom) → Contains (held_by changing table (drop (place_of p (held_by changing table cs)) cs)) d → is_below p d ≡ false
  rest_above d inside =
      from_above p (held_by changing table cs) d rising
      (subst (λ (l : List Datom). Contains l d)
      (sym (drop-map (datom_by changing table) (place_of p (held_by changing table cs)) cs)) inside)

  removed_both : removed table cs ≡ removed table (take (place_of p (held_by changing table cs)) cs)
      ++ removed table (drop (place_of p (held_by changing table cs)) cs)
  removed_both =
      ap (removed table) (sym (take-append-drop (place_of p (held_by changing table cs)) cs))
      ∙ removed-append table (take (place_of p (held_by changing table cs)) cs) (drop (place_of p (held_by changing table cs)) cs)

  added_both : added table cs ≡ added table (take (place_of p (held_by changing table cs)) cs)
      ++ added table (drop (place_of p (held_by changing table cs)) cs)
  added_both =
      ap (added table) (sym (take-append-drop (place_of p (held_by changing table cs)) cs))
      ∙ added-append table (take (place_of p (held_by changing table cs)) cs) (drop (place_of p (held_by changing table cs)) cs)

  pub removed_first : upto_probe p (removed table cs) ≡ removed table (take (place_of p (held_by changing table cs)) cs)
  removed_first =
      ap (upto_probe p) removed_both
      ∙ upto_turns p (removed table (take (place_of p (held_by changing table cs)) cs))
      (removed table (drop (place_of p (held_by changing table cs)) cs))
      (λ d inside. first_below d (removed_of table (take (place_of p (held_by changing table cs)) cs) d inside))
      (λ d inside. rest_above d (removed_of table (drop (place_of p (held_by changing table cs)) cs) d inside))

  pub removed_rest : from_probe p (removed table cs) ≡ removed table (drop (place_of p (held_by changing table cs)) cs)
  removed_rest =
      ap (from_probe p) removed_both
      ∙ turns_at p (removed table (take (place_of p (held_by changing table cs)) cs))
      (removed table (drop (place_of p (held_by changing table cs)) cs))
      (λ d inside. first_below d (removed_of table (take (place_of p (held_by changing table cs)) cs) d inside))
      (λ d inside. rest_above d (removed_of table (drop (place_of p (held_by changing table cs)) cs) d inside))

  pub added_first : upto_probe p (added table cs) ≡ added table (take (place_of p (held_by changing table cs)) cs)
  added_first =
      ap (upto_probe p) added_both
      ∙ upto_turns p (added table (take (place_of p (held_by changing table cs)) cs))
      (added table (drop (place_of p (held_by changing table cs)) cs))
      (λ d inside. first_below d (added_of table (take (place_of p (held_by changing table cs)) cs) d inside))
      (λ d inside. rest_above d (added_of table (drop (place_of p (held_by changing table cs)) cs) d inside))

  pub added_rest : from_probe p (added table cs) ≡ added table (drop (place_of p (held_by changing table cs)) cs)
  added_rest =
      ap (from_probe p) added_both
      ∙ turns_at p (added table (take (place_of p (held_by changing table cs)) cs))
      (added table (drop (place_of p (held_by changing table cs)) cs))
      (λ d inside. first_below d (added_of table (take (place_of p (held_by changing table cs)) cs) d inside))
      (λ d inside. rest_above d (added_of table (drop (place_of p (held_by changing table cs)) cs) d inside))

-- the first so many changes are those of the first part, and the others those of the second
pub record IsParted (order : Order) (table : List Datom) (cs : List Change) (n : ℕ) (xs ys : List Datom) : Type 0 where
  pub own : AreChanges order table (take n cs) xs
  pub rest : AreChanges order table (drop n cs) ys
  pub whole : changed_by order table cs (xs ++ ys) ≡ changed_by order table (take n cs) xs ++ changed_by order table (drop n cs) ys

changes-take : (order : Order) (table : List Datom) (n : ℕ) (cs : List Change) (base part : List Datom) → AreChanges order table cs base
    → MayChange order table (removed table (take n cs)) (added table (take n cs)) part → AreChanges order table (take n cs) part
changes-take order table n cs base part are may =
    record {
      members = All-take (λ c. IsMember order table (changing c)) n cs are.members;
      rising =
          subst (IsRising order) (take-map (datom_by changing table) n cs) (rising-take order n (held_by changing table cs) are.rising);
      there = may.there;
      fresh = may.fresh;
    }

changes-drop : (order : Order) (table : List Datom) (n : ℕ) (cs : List Change) (base part : List Datom) → AreChanges order table cs base
    → MayChange order table (removed table (drop n cs)) (added table (drop n cs)) part → AreChanges order table (drop n cs) part
changes-drop order table n cs base part are may =
    record {
      members = All-drop (λ c. IsMember order table (changing c)) n cs are.members;
      rising =
          subst (IsRising order) (drop-map (datom_by changing table) n cs) (rising-drop order n (held_by changing table cs) are.rising);
      there = may.there;
      fresh = may.fresh;
    }

same_changed : (order : Order) (g g' c c' b b' : List Datom) → g ≡ g' → c ≡ c' → b ≡ b' → changed order g c b ≡ changed order g' c' b'
same_changed order g g' c c' b b' goes comes base =
    ap (λ (l : List Datom). changed order l c b) goes ∙ ap (λ (l : List Datom). changed order g' l b) comes ∙ ap (changed order g' c') base

same_may : (order : Order) (table g g' c c' b b' : List Datom) → g ≡ g' → c ≡ c' → b ≡ b' → MayChange order table g c b
    → MayChange order table g' c' b'
same_may order table g g' c c' b b' goes comes base may =
    subst (MayChange order table g' c') base
    (subst (λ (l : List Datom). MayChange order table g' l b) comes (subst (λ (l : List Datom). MayChange order table l c b) goes may))

same_sum : (a a' b b' : List Datom) → a ≡ a' → b ≡ b' → a ++ b ≡ a' ++ b'
same_sum a a' b b' first second = ap (λ (l : List Datom). l ++ b) first ∙ ap (λ (l : List Datom). a' ++ l) second

pub parted_at : (p : Probe) (table : List Datom) (cs : List Change) (xs ys : List Datom) → HasNoTwins table
    → AreChanges p.order table cs (xs ++ ys) → IsRising p.order (xs ++ ys) → IsWithin table (xs ++ ys)
    → ((d : Datom) → Contains xs d → is_below p d ≡ true) → ((d : Datom) → Contains ys d → is_below p d ≡ false)
    → IsParted p.order table cs (place_of p (held_by changing table cs)) xs ys
parted_at p table cs xs ys single are rising within below above =
    let may = may_change p.order table cs (xs ++ ys) are rising within in
    let goes = removed_first p table cs are.rising in
    let comes = added_first p table cs are.rising in
    let first = upto_turns p xs ys below above in
    let goes_on = removed_rest p table cs are.rising in
    let comes_on = added_rest p table cs are.rising in
    let second = turns_at p xs ys below above in
    record {
      own =
          changes-take p.order table (place_of p (held_by changing table cs)) cs (xs ++ ys) xs are
          (same_may p.order table (upto_probe p (removed table cs)) (removed table (take (place_of p (held_by changing table cs)) cs))
          (upto_probe p (added table cs)) (added table (take (place_of p (held_by changing table cs)) cs)) (upto_probe p (xs ++ ys)) xs goes
          comes first (upto_may p table (removed table cs) (added table cs) (xs ++ ys) single may));
      rest =
          changes-drop p.order table (place_of p (held_by changing table cs)) cs (xs ++ ys) ys are
          (same_may p.order table (from_probe p (removed table cs)) (removed table (drop (place_of p (held_by changing table cs)) cs))
          (from_probe p (added table cs)) (added table (drop (place_of p (held_by changing table cs)) cs)) (from_probe p (xs ++ ys)) ys
          goes_on comes_on second (from_may p table (removed table cs) (added table cs) (xs ++ ys) single may));
      whole =
          joined_up p table (removed table cs) (added table cs) (xs ++ ys) single may
          ∙ same_sum (changed p.order (upto_probe p (removed table cs)) (upto_probe p (added table cs)) (upto_probe p (xs ++ ys)))
          (changed_by p.order table (take (place_of p (held_by changing table cs)) cs) xs)
          (changed p.order (from_probe p (removed table cs)) (from_probe p (added table cs)) (from_probe p (xs ++ ys)))
          (changed_by p.order table (drop (place_of p (held_by changing table cs)) cs) ys)
          (same_changed p.order (upto_probe p (removed table cs)) (removed table (take (place_of p (held_by changing table cs)) cs))
          (upto_probe p (added table cs)) (added table (take (place_of p (held_by changing table cs)) cs)) (upto_probe p (xs ++ ys)) xs goes
          comes first)
          (same_changed p.order (from_probe p (removed table cs)) (removed table (drop (place_of p (held_by changing table cs)) cs))
          (from_probe p (added table cs)) (added table (drop (place_of p (held_by changing table cs)) cs)) (from_probe p (xs ++ ys)) ys
          goes_on comes_on second);
    }

take-all : {X : Type 0} (xs : List X) → take (length xs) xs ≡ xs
take-all [] = refl
take-all (x ∷ xs) = ap (λ l. x ∷ l) (take-all xs)

no_changes : (order : Order) (table : List Datom) → AreChanges order table [] []
no_changes order table =
    record {
      members = All-nil (λ c. IsMember order table (changing c));
      rising = tt;
      there = λ d inside. absurd (none_of d inside);
      fresh = λ d comes inside. none_of d inside;
    }

-- where nothing is behind the first part
pub parted_last : (order : Order) (table : List Datom) (cs : List Change) (xs : List Datom) → AreChanges order table cs (xs ++ [])
    → IsParted order table cs (length cs) xs []
parted_last order table cs xs are =
    record {
      own =
          subst (λ (l : List Change). AreChanges order table l xs) (sym (take-all cs)) (subst (AreChanges order table cs) (append-nil xs) are);
      rest = subst (λ (l : List Change). AreChanges order table l []) (sym (drop-length cs)) (no_changes order table);
      whole =
          ap (changed_by order table cs) (append-nil xs)
          ∙ sym (append-nil (changed_by order table cs xs))
          ∙ ap (λ (l : List Change). changed_by order table l xs ++ []) (sym (take-all cs))
          ∙ ap (λ (l : List Change). changed_by order table (take (length cs) cs) xs ++ changed_by order table l []) (sym (drop-length cs));
    }

-- ---- the changes of a part

first_of : (ms : List Member) (m : Member) → slice_get ms 0 ≡ Some m → ms ≡ m ∷ drop 1 ms
first_of [] m is = absurd (cc)
first_of (x ∷ ms) m is = let same : x ≡ m = cc in ap (λ (y : Member). y ∷ ms) same

below_own : (order : Order) (d x : Datom) → key_cmp order x d ≡ Less → is_below (probe_of order d) x ≡ true
below_own order d x less =
    let more : key_cmp order d x ≡ Greater = cc ((key_cmp_total order).antisymm d x) in
    is_below-probe_of order d x ∙ ap is_gt more

above_own : (order : Order) (d x : Datom) → key_cmp order d x ≡ Less → is_below (probe_of order d) x ≡ false
above_own order d x less = is_below-probe_of order d x ∙ ap is_gt less

itself_own : (order : Order) (d : Datom) → is_below (probe_of order d) d ≡ false
itself_own order d = is_below-probe_of order d d ∙ ap is_gt (tied_itself (key_cmp_total order) d)

pub part_parted : (order : Order) (table : List Datom) (cs : List Change) (p : Part) (rest : List Part) → HasNoTwins table
    → All IsPart (p ∷ rest) → AreMembers order table (members_of (p ∷ rest))
    → AreChanges order table cs (named table (members_of (p ∷ rest)))
    → IsParted order table cs (upto_next order table rest cs) (named table (members_in p)) (named table (members_of rest))
part_parted order table cs p [] single parts are changes =
    parted_last order table cs (named table (members_in p))
    (subst (AreChanges order table cs) (map-append (λ (m : Member). datom_of table m.number) (members_in p) []) changes)
part_parted order table cs p (q ∷ rest) single parts are changes =
    let xs = named table (members_in p) in
    let ys = named table (members_of (q ∷ rest)) in
    let d = datom_of table q.first.number in
    let whole : named table (members_of (p ∷ q ∷ rest)) ≡ xs ++ ys =
    map-append (λ (m : Member). datom_of table m.number) (members_in p) (members_of (q ∷ rest)) in
    let rising : IsRising order (xs ++ ys) = subst (IsRising order) whole are.rising in
    let within : IsWithin table (xs ++ ys) = subst (IsWithin table) whole (members_within order table (members_of (p ∷ q ∷ rest)) are) in
    let part : IsPart q = All-head IsPart q rest (All-tail IsPart p (q ∷ rest) parts) in
    let front : ys ≡ d ∷ named table (drop 1 (members_in q) ++ members_of rest) =
    ap (λ (l : List Member). named table (l ++ members_of rest)) (first_of (members_in q) q.first part.first) in
    let before : AreBefore order xs ys = rising_parts order xs ys rising in
    let d_in : Contains ys d = subst (λ (l : List Datom). Contains l d) (sym front) (here d (named table (drop 1 (members_in q) ++ members_of rest))) in
    let behind : IsRising order (d ∷ named table (drop 1 (members_in q) ++ members_of rest)) =
    subst (IsRising order) front (rising_right order xs ys rising) in
    parted_at (probe_of order d) table cs xs ys single (subst (AreChanges order table cs) whole changes) rising within
    (λ x inside. below_own order d x (before x d inside d_in))
    (λ y inside. elim (cases_of d y (named table (drop 1 (members_in q) ++ members_of rest)) (subst (λ (l : List Datom). Contains l y) front inside)) [
      | inl same ↦ subst (λ (z : Datom). is_below (probe_of order d) z ≡ false) same (itself_own order d)
      | inr later ↦ above_own order d y (before_member order d (named table (drop 1 (members_in q) ++ members_of rest)) y behind.0 later)
    ])

-- what the loop over the parts keeps
pub record IsWoven (order : Order) (table target : List Datom) (cs : List Change) (later : List Part) (new : List Member) : Type 0 where
  pub parts : All IsPart later
  pub later_are : AreMembers order table (members_of later)
  pub changes_are : AreChanges order table cs (named table (members_of later))
  pub whole : named table new ++ changed_by order table cs (named table (members_of later)) ≡ target
  pub new_are : All (IsMember order table) new

pub of_part : (order : Order) (table : List Datom) (p : Part) (rest : List Part) → AreMembers order table (members_of (p ∷ rest))
    → AreMembers order table (members_in p)
of_part order table p rest are =
    let front : take (length (members_in p)) (members_in p ++ members_of rest) ≡ members_in p = take-front (members_in p) (members_of rest) in
    subst (AreMembers order table) front (members-take order table (length (members_in p)) (members_in p ++ members_of rest) are)
  where
    take-front : {X : Type 0} (xs ys : List X) → take (length xs) (xs ++ ys) ≡ xs
    take-front [] ys = refl
    take-front (x ∷ xs) ys = ap (λ l. x ∷ l) (take-front xs ys)

pub of_rest : (order : Order) (table : List Datom) (p : Part) (rest : List Part) → AreMembers order table (members_of (p ∷ rest))
    → AreMembers order table (members_of rest)
of_rest order table p rest are =
    let back : drop (length (members_in p)) (members_in p ++ members_of rest) ≡ members_of rest = drop-front (members_in p) (members_of rest) in
    subst (AreMembers order table) back (members-drop order table (length (members_in p)) (members_in p ++ members_of rest) are)
  where
    drop-front : {X : Type 0} (xs ys : List X) → drop (length xs) (xs ++ ys) ≡ ys
    drop-front [] ys = refl
    drop-front (x ∷ xs) ys = drop-front xs ys

pub woven_more : (order : Order) (table whole : List Datom) (cs : List Change) (p : Part) (rest : List Part) (old new : List Member)
    → HasNoTwins table → IsWoven order table whole cs (p ∷ rest) old → All (IsMember order table) new
    → named table new ≡ named table old ++ changed_by order table (take (upto_next order table rest cs) cs) (named table (members_in p))
    → IsWoven order table whole (drop (upto_next order table rest cs) cs) rest new
woven_more order table whole cs p rest old new single is new_are new_is =
    let parted = part_parted order table cs p rest single is.parts is.later_are is.changes_are in
    let n = upto_next order table rest cs in
    let own = changed_by order table (take (upto_next order table rest cs) cs) (named table (members_in p)) in
    let others = changed_by order table (drop (upto_next order table rest cs) cs) (named table (members_of rest)) in
    record {
      parts = All-tail IsPart p rest is.parts;
      later_are = of_rest order table p rest is.later_are;
      changes_are = parted.rest;
      whole =
          ap (λ (l : List Datom). l ++ others) new_is
          ∙ append_assoc (named table old) own others
          ∙ ap (λ (l : List Datom). named table old ++ l)
          (sym parted.whole
          ∙ ap (changed_by order table cs) (sym (map-append (λ (m : Member). datom_of table m.number) (members_in p) (members_of rest))))
          ∙ is.whole;
      new_are = new_are;
    }

pub firsts_are : (order : Order) (table : List Datom) (ps : List Part) → All IsPart ps → AreMembers order table (members_of ps)
    → All (λ p. IsMember order table p.first) ps
firsts_are order table [] parts are = All-nil (λ p. IsMember order table p.first)
firsts_are order table (q ∷ qs) parts are =
    let part : IsPart q = All-head IsPart q qs parts in
    let front : members_of (q ∷ qs) ≡ q.first ∷ (drop 1 (members_in q) ++ members_of qs) =
    ap (λ (l : List Member). l ++ members_of qs) (first_of (members_in q) q.first part.first) in
    All-cons (λ p. IsMember order table p.first) q qs
    (All-head (IsMember order table) q.first (drop 1 (members_in q) ++ members_of qs)
    (subst (All (IsMember order table)) front are.members))
    (firsts_are order table qs (All-tail IsPart q qs parts) (of_rest order table q qs are))
