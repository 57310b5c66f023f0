-- What a walk leaves at each of its steps.
use Rattle.std.proofs.Common.{◌≡◌, ◌∙◌, ℕ, zero, suc, ◌+◌, ◌-◌, ◌<◌, ◌≤◌, inl, inr, true, false, List, [], ◌∷◌, ◌++◌, length, take, refl, sym, ap, subst, arith}
use Rattle.std.specs.Prelude.{Contains}
use Rattle.std.specs.Ordering.{is_eq, is_gt}
use Rattle.std.specs.declared.cmp.Ordering.{Ordering}
use Rattle.std.specs.declared.cmp.Ordering.TheVariants.{Less, Equal, Greater}
use Rattle.std.proofs.lemmas.Bool.{cases_Bool, true≢false}
use Rattle.std.proofs.lemmas.List.{nil_from_length, take-map}
use Rattle.std.proofs.lemmas.List.Elements.{All-head, All-tail}
use Rattle.fb_values.specs.declared.facts.Datom.{Datom}
use Rattle.fb_values.specs.declared.indexes.Order.{Order}
use Rattle.fb_values.specs.Orders.{key_cmp}
use Rattle.fb_values.specs.OrderLaws.{key_cmp_total}
use Rattle.fb_values.specs.Rising.{IsBelowAll}
use Rattle.fb_values.proofs.Rising.{stands_later}
use Rattle.fb_model.proofs.Members.{here, there, cases_of, none_of}
use Rattle.fb_search.specs.Places.{is_below, place_of, probe_of}
use Rattle.fb_search.proofs.Own.{is_below-probe_of}
use Rattle.live_runs.specs.declared.members.Change.{Change}
use Rattle.live_runs.specs.declared.members.Member.{Member}
use Rattle.live_runs.specs.declared.parts.Part.{Part}
use Rattle.live_runs.specs.Changes.{AreChanges, AreMembers, changed_by}
use Rattle.live_runs.specs.Members.{IsMember, changing, datom_of, held_by, named}
use Rattle.live_runs.specs.Parts.{IsPart, members_in, members_of}
use Rattle.live_runs.specs.Walks.{AreLeft, IsAhead, meets, members_left, upto_change}
use Rattle.live_runs.proofs.Rises.{before_member, before_all, one_key}
use Rattle.live_runs.proofs.Named.{datom_within}
use Rattle.live_runs.proofs.Stepping.{before_own}
use Rattle.live_runs.proofs.Walking.{both_gone, change_next, member_next}

-- ---- a member

pub left_member : (order : Order) (table : List Datom) (newest : List Change) (m : Member) (ms : List Member) (later : List Part) (safe : ℕ)
    → AreLeft order table newest (m ∷ ms) later safe → 0 < safe
    → (m.number < length table) × AreLeft order table newest ms later (safe - 1)
    × (changed_by order table newest (named table (members_left (m ∷ ms) later))
    ≡ datom_of table m.number ∷ changed_by order table newest (named table (members_left ms later)))
left_member order table newest m ms later zero left some = absurd (omega arith)
left_member order table newest m ms later (suc k) left some =
    let d = datom_of table m.number in
    let less : suc k - 1 ≡ k = omega arith in
    let before : IsBelowAll order d (held_by changing table newest) =
    before_all order d (held_by changing table newest)
    (λ y inside. left.before d y (here d (named table (take k ms))) inside) in
    let next = member_next order table newest m (ms ++ members_of later) left.single left.members left.changes before in
    let rest : AreLeft order table newest ms later k =
    record {
      single = left.single;
      parts = left.parts;
      members = next.members;
      changes = next.changes;
      within = omega (arith, left.within);
      before = λ x y x_in y_in. left.before x y (there d x (named table (take k ms)) x_in) y_in;
    } in
    ((All-head (IsMember order table) m (ms ++ members_of later) left.members.members).within, rw less rest, next.first)

-- ---- a change

pub none_safe : (order : Order) (table : List Datom) (newest : List Change) (chunk : List Member) (x y : Datom)
    → Contains (named table (take 0 chunk)) x → Contains (held_by changing table newest) y → key_cmp order x y ≡ Less
none_safe order table newest chunk x y x_in y_in = absurd (none_of x x_in)

pub left_change : (order : Order) (table : List Datom) (c : Change) (cs : List Change) (chunk : List Member) (later : List Part) (safe : ℕ)
    → AreLeft order table (c ∷ cs) chunk later safe → safe ≡ 0 → IsAhead order table (c ∷ cs) (members_left chunk later)
    → (c.number < length table) × AreLeft order table cs chunk later safe
    × (changed_by order table (c ∷ cs) (named table (members_left chunk later))
    ≡ datom_of table c.number ∷ changed_by order table cs (named table (members_left chunk later)))
left_change order table c cs chunk later safe left no_safe ahead =
    let next = change_next order table c cs (members_left chunk later) left.single left.members left.changes ahead in
    let rest : AreLeft order table cs chunk later 0 =
    record {
      single = left.single;
      parts = left.parts;
      members = next.members;
      changes = next.changes;
      within = omega arith;
      before = none_safe order table cs chunk;
    } in (
      (All-head (λ x. IsMember order table (changing x)) c cs left.changes.members).within,
      subst (AreLeft order table cs chunk later) (sym no_safe) rest,
      next.first,
    )

-- ---- both

eq_is : (o : Ordering) → is_eq o ≡ true → o ≡ Equal
eq_is Less is = absurd (true≢false (sym is))
eq_is Equal is = refl
eq_is Greater is = absurd (true≢false (sym is))

pub left_both : (order : Order) (table : List Datom) (c : Change) (cs : List Change) (m : Member) (ms : List Member) (later : List Part)
    (safe : ℕ) → AreLeft order table (c ∷ cs) (m ∷ ms) later safe → safe ≡ 0 → meets order table (c ∷ cs) (m ∷ ms) ≡ true
    → AreLeft order table cs ms later safe
    × (changed_by order table cs (named table (members_left ms later))
    ≡ changed_by order table (c ∷ cs) (named table (members_left (m ∷ ms) later)))
left_both order table c cs m ms later safe left no_safe met =
    let c_is : IsMember order table (changing c) = All-head (λ x. IsMember order table (changing x)) c cs left.changes.members in
    let m_is : IsMember order table m = All-head (IsMember order table) m (ms ++ members_of later) left.members.members in
    let same : datom_of table c.number ≡ datom_of table m.number =
    one_key order table (datom_of table c.number) (datom_of table m.number) left.single (datom_within table c.number c_is.within)
    (datom_within table m.number m_is.within) (eq_is (key_cmp order (datom_of table c.number) (datom_of table m.number)) met) in
    let gone = both_gone order table c cs m (ms ++ members_of later) left.single left.members left.changes same in
    let rest : AreLeft order table cs ms later 0 =
    record {
      single = left.single;
      parts = left.parts;
      members = gone.members;
      changes = gone.changes;
      within = omega arith;
      before = none_safe order table cs ms;
    } in
    (subst (AreLeft order table cs ms later) (sym no_safe) rest, sym gone.same)

-- ---- the next part

pub left_part : (order : Order) (table : List Datom) (newest : List Change) (chunk : List Member) (p : Part) (rest : List Part) (safe : ℕ)
    → AreLeft order table newest chunk (p ∷ rest) safe → safe ≡ 0 → chunk ≡ []
    → AreLeft order table newest (members_in p) rest safe
left_part order table newest chunk p rest safe left no_safe none =
    let members : AreMembers order table (members_in p ++ members_of rest) =
    subst (λ (l : List Member). AreMembers order table (l ++ members_of (p ∷ rest))) none left.members in
    let changes : AreChanges order table newest (named table (members_in p ++ members_of rest)) =
    subst (λ (l : List Member). AreChanges order table newest (named table (l ++ members_of (p ∷ rest)))) none left.changes in
    let at : AreLeft order table newest (members_in p) rest 0 =
    record {
      single = left.single;
      parts = All-tail IsPart p rest left.parts;
      members = members;
      changes = changes;
      within = omega arith;
      before = none_safe order table newest (members_in p);
    } in
    subst (AreLeft order table newest (members_in p) rest) (sym no_safe) at

-- ---- the safe ones

pub left_safe : (order : Order) (table : List Datom) (newest : List Change) (chunk : List Member) (later : List Part) (old safe : ℕ)
    → AreLeft order table newest chunk later old → safe ≡ upto_change order table newest chunk → safe ≤ length chunk
    → AreLeft order table newest chunk later safe
left_safe order table [] chunk later old safe left is within =
    record {
      single = left.single;
      parts = left.parts;
      members = left.members;
      changes = left.changes;
      within = within;
      before = λ x y x_in y_in. absurd (none_of y y_in);
    }
left_safe order table (c ∷ cs) chunk later old safe left is within =
    let d = datom_of table c.number in
    let first : (x : Datom) → Contains (named table (take safe chunk)) x → key_cmp order x (datom_of table c.number) ≡ Less =
    λ x x_in. before_own order (datom_of table c.number) (named table chunk) x
    (subst (λ (l : List Datom). Contains l x)
    (ap (λ n. named table (take n chunk)) is
    ∙ sym (take-map (λ (m : Member). datom_of table m.number) (place_of (probe_of order (datom_of table c.number)) (named table chunk)) chunk))
    x_in) in
    record {
      single = left.single;
      parts = left.parts;
      members = left.members;
      changes = left.changes;
      within = within;
      before = λ x y x_in y_in. elim (cases_of (datom_of table c.number) y (held_by changing table cs) y_in) [
        | inl same ↦ subst (λ (z : Datom). key_cmp order x z ≡ Less) same (first x x_in)
        | inr behind ↦
            (key_cmp_total order).trans x (datom_of table c.number) y (first x x_in)
            (before_member order (datom_of table c.number) (held_by changing table cs) y left.changes.rising.0 behind)
      ];
    }

no_first : (table : List Datom) (d x : Datom) (order : Order) (ds : List Datom) → place_of (probe_of order d) (x ∷ ds) ≡ 0
    → is_below (probe_of order d) x ≡ false
no_first table d x order ds none = elim (cases_Bool (is_below (probe_of order d) x)) [
  | inl below ↦
      let more : 1 + place_of (probe_of order d) ds ≡ 0 = rw below at none in
      absurd (omega arith)
  | inr above ↦ above
]

above_less : (order : Order) (d x : Datom) → is_below (probe_of order d) x ≡ false → is_eq (key_cmp order d x) ≡ false
    → key_cmp order d x ≡ Less
above_less order d x above apart = go (key_cmp order d x) (sym (is_below-probe_of order d x) ∙ above) apart
  where
    go : (o : Ordering) → is_gt o ≡ false → is_eq o ≡ false → o ≡ Less
    go Less gt eq = refl
    go Equal gt eq = absurd (true≢false eq)
    go Greater gt eq = absurd (true≢false gt)

pub ahead_of_all : (order : Order) (table : List Datom) (newest : List Change) (chunk : List Member) (later : List Part) (old safe : ℕ)
    → AreLeft order table newest chunk later old → safe ≡ upto_change order table newest chunk → safe ≡ 0
    → meets order table newest chunk ≡ false → (chunk ≡ [] → later ≡ [])
    → IsAhead order table newest (members_left chunk later)
ahead_of_all order table [] chunk later old safe left is none apart filled =
    let empty : length chunk ≡ 0 = sym is ∙ none in
    let no_chunk : chunk ≡ [] = nil_from_length chunk empty in
    ap (λ (l : List Member). l ++ members_of later) no_chunk ∙ ap members_of (filled no_chunk)
ahead_of_all order table (c ∷ cs) [] later old safe left is none apart filled =
    subst (λ (l : List Part). IsBelowAll order (datom_of table c.number) (named table (members_of l))) (sym (filled refl)) tt
ahead_of_all order table (c ∷ cs) (m ∷ ms) later old safe left is none apart filled =
    let d = datom_of table c.number in
    let x = datom_of table m.number in
    let c_is : IsMember order table (changing c) = All-head (λ y. IsMember order table (changing y)) c cs left.changes.members in
    let m_is : IsMember order table m = All-head (IsMember order table) m (ms ++ members_of later) left.members.members in
    let above : is_below (probe_of order (datom_of table c.number)) (datom_of table m.number) ≡ false =
    no_first table (datom_of table c.number) (datom_of table m.number) order (named table ms) (sym is ∙ none) in
    let less : key_cmp order (datom_of table c.number) (datom_of table m.number) ≡ Less =
    above_less order (datom_of table c.number) (datom_of table m.number) above apart in (
      less,
      stands_later order (datom_of table c.number) (datom_of table m.number) (named table (ms ++ members_of later)) less
          left.members.rising.0,
    )
