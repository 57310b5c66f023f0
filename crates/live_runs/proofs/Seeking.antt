-- Where a probe leads in members, in parts and in changes.
use Rattle.std.proofs.Common.{◌≡◌, ◌∙◌, ℕ, zero, suc, ◌+◌, ◌-◌, ◌<◌, ◌⊎◌, inl, inr, true, false, cond, List, [], ◌∷◌, ◌++◌, Some, length, get_or, take, drop, append_assoc, refl, sym, ap, subst, arith}
use Rattle.std.specs.Prelude.{Contains}
use Rattle.std.specs.List.{All, slice_get}
use Rattle.std.proofs.lemmas.Bool.{cases_Bool}
use Rattle.std.proofs.lemmas.List.{take-append-drop, take-map, drop-map, map-append, length-drop}
use Rattle.std.proofs.lemmas.List.Elements.{All-head, All-tail, Contains-append_cases, Contains-append_right}
use Rattle.fb_values.specs.declared.facts.Datom.{Datom}
use Rattle.fb_values.specs.declared.indexes.Order.{Order}
use Rattle.fb_values.specs.declared.indexes.Probe.{Probe}
use Rattle.fb_values.specs.Rising.{IsRising}
use Rattle.fb_prefix.specs.declared.prefixes.Prefix.{Prefix}
use Rattle.fb_prefix.specs.declared.probes.Sought.{Sought}
use Rattle.fb_prefix.specs.Prefixes.{is_lesser}
use Rattle.fb_model.proofs.Members.{here, cases_of, none_of}
use Rattle.fb_search.specs.Places.{is_below, place_of}
use Rattle.fb_search.proofs.Below.{below_earlier}
use Rattle.live_runs.specs.declared.members.Change.{Change}
use Rattle.live_runs.specs.declared.members.Member.{Member}
use Rattle.live_runs.specs.declared.parts.Part.{Part}
use Rattle.live_runs.specs.Changed.{HasNoTwins, IsWithin, changed, from_probe}
use Rattle.live_runs.specs.Changes.{AreChanges, AreMembers, added, changed_by, removed}
use Rattle.live_runs.specs.Members.{IsMember, changing, datom_of, held_by, named}
use Rattle.live_runs.specs.Parts.{IsPart, members_in, members_of}
use Rattle.live_runs.specs.Seeks.{IsCut, IsSoughtBy}
use Rattle.live_runs.specs.Runs.{AreRuns, Layers, runs_datoms, settled_datoms}
use Rattle.live_runs.specs.Walks.{AreBothLeft, members_left}
use Rattle.live_runs.proofs.Rises.{before_all, before_member, rising_parts}
use Rattle.live_runs.proofs.Beside.{cut, from_above, turns_at, upto_below, upto_probe}
use Rattle.live_runs.proofs.Named.{may_change}
use Rattle.live_runs.proofs.Parted.{added_rest, of_part, of_rest, parted_at, removed_rest}
use Rattle.live_runs.proofs.Running.{settled_rises, settled_within}
use Rattle.live_runs.proofs.Stepping.{members-drop, members_within}

-- ---- one member

-- of two prefixes one is lesser, or they are equal
pub neither_lesser : (x y : Prefix) → is_lesser x y ≡ false → is_lesser y x ≡ false → x ≡ y
neither_lesser x y low high =
    let highs : x.high ≡ y.high = grind arith in
    let lows : x.low ≡ y.low = grind arith in
    let first : x ≡ record { high = y.high; low = x.low } = ap (λ n. record { high = n; low = x.low }) highs in
    first ∙ ap (λ n. record { high = y.high; low = n }) lows

module _ (p : Probe) (table : List Datom) (s : Sought) (m : Member) (sought : IsSoughtBy p s) (is : IsMember p.order table m) where
  pub told_below : is_lesser m.prefix s.from ≡ true → is_below p (datom_of table m.number) ≡ true
  told_below less =
      sought.below (datom_of table m.number) (subst (λ (x : Prefix). is_lesser x s.from ≡ true) is.prefix_is less)

  pub told_above : is_lesser s.from m.prefix ≡ true → is_below p (datom_of table m.number) ≡ false
  told_above less =
      sought.above (datom_of table m.number) (subst (λ (x : Prefix). is_lesser s.from x ≡ true) is.prefix_is less)

  pub told_whole : s.is_whole ≡ true → is_lesser m.prefix s.from ≡ false → is_below p (datom_of table m.number) ≡ false
  told_whole whole low = elim (cases_Bool (is_lesser s.from m.prefix)) [
    | inl less ↦ told_above less
    | inr high ↦ sought.whole whole (datom_of table m.number) (sym is.prefix_is ∙ neither_lesser m.prefix s.from low high)
  ]

-- ---- members in parts

abbrev pub firsts : List Datom → List Part → List Datom
firsts table ps = held_by (λ (p : Part). p.first) table ps

front_is : (ms : List Member) (m : Member) → slice_get ms 0 ≡ Some m → ms ≡ m ∷ drop 1 ms
front_is [] m is = absurd (cc)
front_is (x ∷ ms) m is = let same : x ≡ m = cc in ap (λ (y : Member). y ∷ ms) same

pub firsts_front : (table : List Datom) (q : Part) (rest : List Part) → IsPart q
    → named table (members_of (q ∷ rest)) ≡ datom_of table q.first.number ∷ named table (drop 1 (members_in q) ++ members_of rest)
firsts_front table q rest part =
    ap (λ (l : List Member). named table (l ++ members_of rest)) (front_is (members_in q) q.first part.first)

pub named_both : (table : List Datom) (xs ys : List Member) → named table (xs ++ ys) ≡ named table xs ++ named table ys
named_both table xs ys = map-append (λ (m : Member). datom_of table m.number) xs ys

-- the probe leads into the first part
cut_here : (p : Probe) (table : List Datom) (q : Part) (rest : List Part) → AreMembers p.order table (members_of (q ∷ rest))
    → ((d : Datom) → Contains (named table (members_of rest)) d → is_below p d ≡ false)
    → IsCut p table (members_of (q ∷ rest)) (drop (place_of p (named table (members_in q))) (members_in q) ++ members_of rest)
cut_here p table q rest are later =
    let own : AreMembers p.order table (members_in q) = of_part p.order table q rest are in
    record {
      front = take (place_of p (named table (members_in q))) (members_in q);
      both =
          ap (λ (l : List Member). l ++ members_of rest) (sym (take-append-drop (place_of p (named table (members_in q))) (members_in q)))
          ∙ append_assoc (take (place_of p (named table (members_in q))) (members_in q))
          (drop (place_of p (named table (members_in q))) (members_in q)) (members_of rest);
      below = λ d inside. upto_below p (named table (members_in q)) d
          (subst (λ (l : List Datom). Contains l d)
          (sym (take-map (λ (m : Member). datom_of table m.number) (place_of p (named table (members_in q))) (members_in q))) inside);
      above = λ d inside.
          elim (Contains-append_cases (named table (drop (place_of p (named table (members_in q))) (members_in q)))
          (named table (members_of rest)) d
          (subst (λ (l : List Datom). Contains l d)
          (named_both table (drop (place_of p (named table (members_in q))) (members_in q)) (members_of rest)) inside)) [
            | inl first ↦
                from_above p (named table (members_in q)) d own.rising
                (subst (λ (l : List Datom). Contains l d)
                (sym (drop-map (λ (m : Member). datom_of table m.number) (place_of p (named table (members_in q))) (members_in q))) first)
            | inr behind ↦ later d behind
          ];
    }

-- it leads behind the first part
cut_later : (p : Probe) (table : List Datom) (q : Part) (rest : List Part) (left : List Member)
    → ((d : Datom) → Contains (named table (members_in q)) d → is_below p d ≡ true) → IsCut p table (members_of rest) left
    → IsCut p table (members_of (q ∷ rest)) left
cut_later p table q rest left earlier is =
    record {
      front = members_in q ++ is.front;
      both =
          ap (λ (l : List Member). members_in q ++ l) is.both ∙ sym (append_assoc (members_in q) is.front left);
      below = λ d inside.
          elim (Contains-append_cases (named table (members_in q)) (named table is.front) d
          (subst (λ (l : List Datom). Contains l d) (named_both table (members_in q) is.front) inside)) [
            | inl first ↦ earlier d first
            | inr behind ↦ is.below d behind
          ];
      above = is.above;
    }

-- where the first member of all is not below the probe, none is
none_below : (p : Probe) (table : List Datom) (rest : List Part) → All IsPart rest → AreMembers p.order table (members_of rest)
    → place_of p (firsts table rest) ≡ 0 → (d : Datom) → Contains (named table (members_of rest)) d → is_below p d ≡ false
none_below p table [] parts are none d inside = absurd (none_of d inside)
none_below p table (r ∷ rs) parts are none d inside =
    let ds = named table (members_of (r ∷ rs)) in
    let front = firsts_front table r rs (All-head IsPart r rs parts) in
    let above : is_below p (datom_of table r.first.number) ≡ false = elim (cases_Bool (is_below p (datom_of table r.first.number))) [
      | inl below ↦ let more : 1 + place_of p (firsts table rs) ≡ 0 = rw below at none in absurd (omega arith)
      | inr is ↦ is
    ] in
    let start : place_of p (named table (members_of (r ∷ rs))) ≡ 0 =
    ap (place_of p) front
    ∙ ap (λ b. cond b (1 + place_of p (named table (drop 1 (members_in r) ++ members_of rs))) 0) above in
    from_above p (named table (members_of (r ∷ rs))) d are.rising
    (subst (λ n. Contains (drop n (named table (members_of (r ∷ rs)))) d) (sym start) inside)

pub cut_parts : (p : Probe) (table : List Datom) (q : Part) (rest : List Part) (k : ℕ) (at : Part) → All IsPart (q ∷ rest)
    → AreMembers p.order table (members_of (q ∷ rest)) → place_of p (firsts table rest) ≡ k → at ≡ get_or (q ∷ rest) k at
    → IsCut p table (members_of (q ∷ rest)) (drop (place_of p (named table (members_in at))) (members_in at) ++ members_of (drop k rest))
cut_parts p table q rest zero at parts are is at_is =
    subst
    (λ (a : Part). IsCut p table (members_of (q ∷ rest)) (drop (place_of p (named table (members_in a))) (members_in a) ++ members_of rest))
    (sym at_is)
    (cut_here p table q rest are (none_below p table rest (All-tail IsPart q rest parts) (of_rest p.order table q rest are) is))
cut_parts p table q [] (suc k) at parts are is at_is = absurd (omega (arith, is))
cut_parts p table q (r ∷ rs) (suc k) at parts are is at_is =
    go (cases_Bool (is_below p (datom_of table r.first.number)))
    (λ same. cut_parts p table r rs k at (All-tail IsPart q (r ∷ rs) parts) (of_rest p.order table q (r ∷ rs) are) same at_is)
  where
    left : List Member
    left = drop (place_of p (named table (members_in at))) (members_in at) ++ members_of (drop k rs)

    first_in : Contains (named table (members_of (r ∷ rs))) (datom_of table r.first.number)
    first_in =
        subst (λ (l : List Datom). Contains l (datom_of table r.first.number))
        (sym (firsts_front table r rs (All-head IsPart r rs (All-tail IsPart q (r ∷ rs) parts))))
        (here (datom_of table r.first.number) (named table (drop 1 (members_in r) ++ members_of rs)))

    go : (is_below p (datom_of table r.first.number) ≡ true) ⊎ (is_below p (datom_of table r.first.number) ≡ false)
        → (place_of p (firsts table rs) ≡ k
        → IsCut p table (members_of (r ∷ rs)) (drop (place_of p (named table (members_in at))) (members_in at) ++ members_of (drop k rs)))
        → IsCut p table (members_of (q ∷ r ∷ rs)) (drop (place_of p (named table (members_in at))) (members_in at) ++ members_of (drop k rs))
    go (inr above) rest = let none : 0 ≡ suc k = rw above at is in absurd (omega arith)
    go (inl below) rest =
        let some : 1 + place_of p (firsts table rs) ≡ suc k = rw below at is in
        let rising : IsRising p.order (named table (members_in q) ++ named table (members_of (r ∷ rs))) =
        subst (IsRising p.order) (named_both table (members_in q) (members_of (r ∷ rs))) are.rising in
        cut_later p table q (r ∷ rs) (drop (place_of p (named table (members_in at))) (members_in at) ++ members_of (drop k rs))
        (λ d inside. below_earlier p d (datom_of table r.first.number)
        (rising_parts p.order (named table (members_in q)) (named table (members_of (r ∷ rs))) rising d (datom_of table r.first.number) inside
        first_in) below)
        (rest (omega (arith, some)))

-- ---- what the search of the parts is given, and what it gives

firsts_in : (table : List Datom) (ps : List Part) (d : Datom) → All IsPart ps → Contains (firsts table ps) d
    → Contains (named table (members_of ps)) d
firsts_in table [] d parts inside = absurd (none_of d inside)
firsts_in table (r ∷ rs) d parts inside = elim (cases_of (datom_of table r.first.number) d (firsts table rs) inside) [
  | inl same ↦
      subst (λ (l : List Datom). Contains l d) (sym (firsts_front table r rs (All-head IsPart r rs parts)))
      (subst (Contains (datom_of table r.first.number ∷ named table (drop 1 (members_in r) ++ members_of rs))) same
      (here (datom_of table r.first.number) (named table (drop 1 (members_in r) ++ members_of rs))))
  | inr behind ↦
      subst (λ (l : List Datom). Contains l d) (sym (named_both table (members_in r) (members_of rs)))
      (Contains-append_right (named table (members_in r)) (named table (members_of rs)) d
      (firsts_in table rs d (All-tail IsPart r rs parts) behind))
]

pub firsts_rise : (order : Order) (table : List Datom) (ps : List Part) → All IsPart ps → AreMembers order table (members_of ps)
    → IsRising order (firsts table ps)
firsts_rise order table [] parts are = tt
firsts_rise order table (r ∷ rs) parts are =
    let front = firsts_front table r rs (All-head IsPart r rs parts) in
    let rising : IsRising order (datom_of table r.first.number ∷ named table (drop 1 (members_in r) ++ members_of rs)) =
    subst (IsRising order) front are.rising in (
      before_all order (datom_of table r.first.number) (firsts table rs)
          (λ d inside. before_member order (datom_of table r.first.number) (named table (drop 1 (members_in r) ++ members_of rs)) d rising.0
          (subst (λ (l : List Datom). Contains l d) (sym (named_both table (drop 1 (members_in r)) (members_of rs)))
          (Contains-append_right (named table (drop 1 (members_in r))) (named table (members_of rs)) d
          (firsts_in table rs d (All-tail IsPart r rs parts) inside)))),
      firsts_rise order table rs (All-tail IsPart r rs parts) (of_rest order table r rs are),
    )

pub members_at : (order : Order) (table : List Datom) (ps : List Part) (k : ℕ) (at : Part) → AreMembers order table (members_of ps)
    → k < length ps → at ≡ get_or ps k at → AreMembers order table (members_in at)
members_at order table [] k at are within is = absurd (omega (arith, within))
members_at order table (p ∷ ps) zero at are within is =
    subst (λ (q : Part). AreMembers order table (members_in q)) (sym is) (of_part order table p ps are)
members_at order table (p ∷ ps) (suc k) at are within is =
    members_at order table ps k at (of_rest order table p ps are) (omega (arith, within)) is

pub part_at : (ps : List Part) (k : ℕ) (at : Part) → All IsPart ps → k < length ps → at ≡ get_or ps k at → IsPart at
part_at ps k at parts within is = subst IsPart (sym is) (parts k at within)

take_all : {X : Type 0} (xs : List X) → take (length xs) xs ≡ xs
take_all [] = refl
take_all (x ∷ xs) = ap (λ l. x ∷ l) (take_all xs)

-- a slice up to the end
pub tail_is : {X : Type 0} (xs : List X) (k : ℕ) → take (length xs - k) (drop k xs) ≡ drop k xs
tail_is xs k = ap (λ n. take n (drop k xs)) (sym (length-drop k xs)) ∙ take_all (drop k xs)

pub cut_slices : (p : Probe) (table : List Datom) (whole own slice : List Member) (place : ℕ) (others : List Part) (k : ℕ)
    → IsCut p table whole (drop (place_of p (named table own)) own ++ members_of (drop k others)) → slice ≡ own
    → place ≡ place_of p (named table slice)
    → IsCut p table whole (take (length slice - place) (drop place slice) ++ members_of (take (length others - k) (drop k others)))
cut_slices p table whole own slice place others k is same place_is =
    let first : take (length slice - place) (drop place slice) ≡ drop (place_of p (named table own)) own =
    tail_is slice place
    ∙ ap (λ n. drop n slice) place_is
    ∙ ap (λ (l : List Member). drop (place_of p (named table l)) l) same in
    subst
    (λ (l : List Member). IsCut p table whole (l ++ members_of (take (length others - k) (drop k others)))) (sym first)
    (subst (λ (l : List Part). IsCut p table whole (drop (place_of p (named table own)) own ++ members_of l)) (sym (tail_is others k)) is)

-- ---- changes of what is cut

-- what is not below the probe in a changed list
pub cut_at : (p : Probe) (table : List Datom) (cs : List Change) (xs ys : List Datom) → HasNoTwins table
    → AreChanges p.order table cs (xs ++ ys) → IsRising p.order (xs ++ ys) → IsWithin table (xs ++ ys)
    → ((d : Datom) → Contains xs d → is_below p d ≡ true) → ((d : Datom) → Contains ys d → is_below p d ≡ false)
    → from_probe p (changed_by p.order table cs (xs ++ ys))
    ≡ changed_by p.order table (drop (place_of p (held_by changing table cs)) cs) ys
cut_at p table cs xs ys single are rising within below above =
    cut p table (removed table cs) (added table cs) (xs ++ ys) single (may_change p.order table cs (xs ++ ys) are rising within)
    ∙ ap (λ (l : List Datom). changed p.order l (from_probe p (added table cs)) (from_probe p (xs ++ ys))) (removed_rest p table cs are.rising)
    ∙ ap (λ (l : List Datom). changed p.order (removed table (drop (place_of p (held_by changing table cs)) cs)) l (from_probe p (xs ++ ys)))
    (added_rest p table cs are.rising)
    ∙ ap (changed p.order (removed table (drop (place_of p (held_by changing table cs)) cs))
    (added table (drop (place_of p (held_by changing table cs)) cs))) (turns_at p xs ys below above)

pub members_behind : (order : Order) (table : List Datom) (xs ys : List Member) → AreMembers order table (xs ++ ys) → AreMembers order table ys
members_behind order table xs ys are =
    subst (AreMembers order table) (behind xs ys) (members-drop order table (length xs) (xs ++ ys) are)
  where
    behind : {X : Type 0} (xs ys : List X) → drop (length xs) (xs ++ ys) ≡ ys
    behind [] ys = refl
    behind (x ∷ xs) ys = behind xs ys

pub record IsLeftBy (p : Probe) (table : List Datom) (cs : List Change) (whole left : List Member) : Type 0 where
  pub members : AreMembers p.order table left
  pub changes : AreChanges p.order table (drop (place_of p (held_by changing table cs)) cs) (named table left)
  pub datoms : from_probe p (changed_by p.order table cs (named table whole))
      ≡ changed_by p.order table (drop (place_of p (held_by changing table cs)) cs) (named table left)

pub left_by : (p : Probe) (table : List Datom) (cs : List Change) (whole left : List Member) → HasNoTwins table
    → AreMembers p.order table whole → AreChanges p.order table cs (named table whole) → IsCut p table whole left
    → IsLeftBy p table cs whole left
left_by p table cs whole left single are changes is =
    let both : named table whole ≡ named table is.front ++ named table left = ap (named table) is.both ∙ named_both table is.front left in
    let changes_both : AreChanges p.order table cs (named table is.front ++ named table left) =
    subst (AreChanges p.order table cs) both changes in
    let rising : IsRising p.order (named table is.front ++ named table left) = subst (IsRising p.order) both are.rising in
    let within : IsWithin table (named table is.front ++ named table left) =
    subst (IsWithin table) both (members_within p.order table whole are) in
    record {
      members = members_behind p.order table is.front left (subst (AreMembers p.order table) is.both are);
      changes =
          (parted_at p table cs (named table is.front) (named table left) single changes_both rising within is.below is.above).rest;
      datoms =
          ap (λ (l : List Datom). from_probe p (changed_by p.order table cs l)) both
          ∙ cut_at p table cs (named table is.front) (named table left) single changes_both rising within is.below is.above;
    }

-- changes of what begins at the probe
pub cut_changed : (p : Probe) (table : List Datom) (cs : List Change) (base : List Datom) → HasNoTwins table
    → AreChanges p.order table cs base → IsRising p.order base → IsWithin table base
    → AreChanges p.order table (drop (place_of p (held_by changing table cs)) cs) (from_probe p base)
    × (from_probe p (changed_by p.order table cs base)
    ≡ changed_by p.order table (drop (place_of p (held_by changing table cs)) cs) (from_probe p base))
cut_changed p table cs base single are rises within =
    let whole : upto_probe p base ++ from_probe p base ≡ base = take-append-drop (place_of p base) base in (
      (parted_at p table cs (upto_probe p base) (from_probe p base) single (subst (AreChanges p.order table cs) (sym whole) are)
          (subst (IsRising p.order) (sym whole) rises) (subst (IsWithin table) (sym whole) within) (λ d inside. upto_below p base d inside)
          (λ d inside. from_above p base d rises inside)).rest,
      ap (λ (l : List Datom). from_probe p (changed_by p.order table cs l)) (sym whole)
          ∙ cut_at p table cs (upto_probe p base) (from_probe p base) single (subst (AreChanges p.order table cs) (sym whole) are)
          (subst (IsRising p.order) (sym whole) rises) (subst (IsWithin table) (sym whole) within) (λ d inside. upto_below p base d inside)
          (λ d inside. from_above p base d rises inside),
    )

slice_from : (p : Probe) (table : List Datom) (cs all : List Change) (place : ℕ) → cs ≡ all → place ≡ place_of p (held_by changing table cs)
    → take (length cs - place) (drop place cs) ≡ drop (place_of p (held_by changing table all)) all
slice_from p table cs all place cs_is place_is =
    tail_is cs place
    ∙ ap (λ n. drop n cs) place_is
    ∙ ap (λ (l : List Change). drop (place_of p (held_by changing table l)) l) cs_is

-- the walk from there on
pub walk_left : (p : Probe) (table : List Datom) (r : Layers) (order : Order) (cs ds : List Change) (first second : ℕ) (whole : List Member)
    (chunk : List Member) (later : List Part) → AreRuns p.order table r → order ≡ p.order → cs ≡ r.newest
    → first ≡ place_of p (held_by changing table cs) → ds ≡ r.middle → second ≡ place_of p (held_by changing table ds)
    → whole ≡ r.settled → IsCut p table whole (members_left chunk later) → All IsPart later
    → AreBothLeft order table (take (length cs - first) (drop first cs)) (take (length ds - second) (drop second ds)) chunk later
    × (changed_by order table (take (length cs - first) (drop first cs))
    (changed_by order table (take (length ds - second) (drop second ds)) (named table (members_left chunk later)))
    ≡ from_probe p (runs_datoms p.order table r))
walk_left p table r order cs ds first second whole chunk later are order_is cs_is first_is ds_is second_is whole_is is parts =
    let newer = drop (place_of p (held_by changing table r.newest)) r.newest in
    let older = drop (place_of p (held_by changing table r.middle)) r.middle in
    let at = left_by p table r.middle r.settled (members_left chunk later) are.single are.settled.members_are are.settled.changes_are
    (subst (λ (l : List Member). IsCut p table l (members_left chunk later)) whole_is is) in
    let above = cut_changed p table r.newest (settled_datoms p.order table r.middle r.settled) are.single are.newest
    (settled_rises p.order table r.middle r.settled are.single are.settled)
    (settled_within p.order table r.middle r.settled are.single are.settled) in
    let newer_is : take (length cs - first) (drop first cs) ≡ drop (place_of p (held_by changing table r.newest)) r.newest =
    slice_from p table cs r.newest first cs_is first_is in
    let older_is : take (length ds - second) (drop second ds) ≡ drop (place_of p (held_by changing table r.middle)) r.middle =
    slice_from p table ds r.middle second ds_is second_is in
    let both : AreBothLeft p.order table (drop (place_of p (held_by changing table r.newest)) r.newest)
    (drop (place_of p (held_by changing table r.middle)) r.middle) chunk later =
    record {
      single = are.single;
      parts = parts;
      members = at.members;
      middle_are = at.changes;
      newest_are =
          subst (AreChanges p.order table (drop (place_of p (held_by changing table r.newest)) r.newest)) at.datoms above.0;
    } in (
      subst
          (λ (o : Order). AreBothLeft o table (take (length cs - first) (drop first cs)) (take (length ds - second) (drop second ds)) chunk
          later) (sym order_is)
          (subst (λ (l : List Change). AreBothLeft p.order table l (take (length ds - second) (drop second ds)) chunk later) (sym newer_is)
          (subst (λ (l : List Change). AreBothLeft p.order table (drop (place_of p (held_by changing table r.newest)) r.newest) l chunk later)
          (sym older_is) both)),
      ap (λ (o : Order). changed_by o table (take (length cs - first) (drop first cs))
          (changed_by o table (take (length ds - second) (drop second ds)) (named table (members_left chunk later)))) order_is
          ∙ ap (λ (l : List Change). changed_by p.order table l
          (changed_by p.order table (take (length ds - second) (drop second ds)) (named table (members_left chunk later)))) newer_is
          ∙ ap (λ (l : List Change). changed_by p.order table (drop (place_of p (held_by changing table r.newest)) r.newest)
          (changed_by p.order table l (named table (members_left chunk later)))) older_is
          ∙ ap (changed_by p.order table (drop (place_of p (held_by changing table r.newest)) r.newest)) (sym at.datoms)
          ∙ sym above.1,
    )
