-- The plan of a tree, one leaf after another.
use Rattle.std.proofs.Common.{◌≡◌, ℕ, zero, suc, get_or, ◌+◌, ◌<◌, ◌≤◌, ◌⊎◌, true, false, List, [], ◌∷◌, ◌++◌, length, take, drop, refl}
use Rattle.std.proofs.Common.{sym, ap, ◌∙◌, subst, inl, inr, arith, append_assoc, append-nil, Option, Some}
use Rattle.std.specs.Prelude.{◌↔◌, Contains, IsTrue}
use Rattle.std.specs.List.{All, slice_get}
use Rattle.std.specs.Ordering.{is_lt}
use Rattle.std.specs.declared.cmp.Ordering.{Ordering}
use Rattle.std.specs.declared.cmp.Ordering.TheVariants.{Less, Equal, Greater}
use Rattle.std.proofs.lemmas.Bool.{cases_lt}
use Rattle.std.proofs.lemmas.List.{take-append-drop, take_all}
use Rattle.std.proofs.lemmas.List.Elements.{All-contains, Contains-get_or, Contains-append_left, Contains-append_right}
use Rattle.std.proofs.lemmas.List.Elements.{Contains-append_cases}
use Rattle.std.proofs.lemmas.Option.{slice_get_within}
use Rattle.fb_values.specs.declared.facts.Datom.{Datom}
use Rattle.fb_values.specs.declared.indexes.Order.{Order}
use Rattle.fb_values.specs.Orders.{key_cmp}
use Rattle.fb_values.specs.OrderLaws.{key_cmp_total}
use Rattle.fb_covers.specs.Coverage.{Coverage}
use Rattle.fb_values.specs.Rising.{IsRising}
use Rattle.fb_search.proofs.Ends.{rising-append_left, rising-append_right}
use Rattle.live_index.specs.Growth.{HasNoTwins, is_held}
use Rattle.live_index.proofs.Members.{contains-cons, contains_head, contains_none}
use Rattle.seg_tree.specs.Nodes.{LeafNode, leaf_datoms}
use Rattle.seg_tree.proofs.Making.{leaf_datoms-append}
use Rattle.seg_merge.specs.Merged.{AreHeld, goes_before_leaf, goes_before, FallsInto, KeepsLeaves}
use Rattle.seg_merge.specs.Plans.{Planned, IsUnion, AddsLeaf, RepeatsNone}
use Rattle.seg_merge.proofs.Before.{stands_at, rising_before}
use Rattle.seg_merge.proofs.Merges.{Merges, IsNext, merges_none, merges_more}
use Rattle.seg_merge.proofs.Distinct.{repeats_none, repeats_more}

abbrev pub held : Coverage → Order → Datom → Type 0
held coverage order d = IsTrue (is_held coverage order d)

-- the leaves before the number k, and what falls into their ranges
pub record IsPlanning (order : Order) (coverage : Coverage) (ls : List LeafNode) (added : List Datom) (k : ℕ) (left : List Datom)
    (plan : Planned) : Type 0 where
  pub taken : List Datom
  pub parts : taken ++ left ≡ added
  pub merges : Merges order (held coverage order) (leaf_datoms (take k ls)) (leaf_datoms (drop k ls)) taken left plan.datoms
  pub older : (leaf : LeafNode) → Contains plan.kept leaf → Contains ls leaf
  pub once : RepeatsNone (take k ls) plan.kept
  pub stays : (n : ℕ) (leaf : LeafNode) → n < k → slice_get ls n ≡ Some leaf
      → ((d : Datom) → Contains added d → FallsInto order ls n d → ⊥) → All (held coverage order) leaf.datoms → Contains plan.kept leaf
  pub from : (m : ℕ) → k ≡ suc m → (d : Datom) → Contains left d → goes_before order ls k d ≡ false

pub planning_none : (order : Order) (coverage : Coverage) (ls : List LeafNode) (added : List Datom)
    → IsPlanning order coverage ls added 0 added (record { datoms = []; kept = [] })
planning_none order coverage ls added = record {
  taken = [];
  parts = refl;
  merges = merges_none order (held coverage order) (leaf_datoms ls) added;
  older = λ leaf there. absurd (contains_none leaf there);
  once = repeats_none;
  stays = λ n leaf before read none all. absurd (omega arith);
  from = λ m is d there. absurd (omega arith);
}

pub drop_at : (ls : List LeafNode) (k : ℕ) (leaf : LeafNode) → slice_get ls k ≡ Some leaf → drop k ls ≡ leaf ∷ drop (suc k) ls
drop_at [] k leaf read = absurd (cc)
drop_at (l ∷ ls) zero leaf read = let same : l ≡ leaf = cc in ap (λ x. x ∷ ls) same
drop_at (l ∷ ls) (suc k) leaf read = drop_at ls k leaf read

take_at : (ls : List LeafNode) (k : ℕ) (leaf : LeafNode) → slice_get ls k ≡ Some leaf → take (suc k) ls ≡ take k ls ++ leaf ∷ []
take_at [] k leaf read = absurd (cc)
take_at (l ∷ ls) zero leaf read = let same : l ≡ leaf = cc in ap (λ x. x ∷ []) same
take_at (l ∷ ls) (suc k) leaf read = ap (λ xs. l ∷ xs) (take_at ls k leaf read)

get-drop : (ls : List LeafNode) (k : ℕ) → slice_get ls k ≡ slice_get (drop k ls) 0
get-drop [] zero = refl
get-drop [] (suc k) = refl
get-drop (l ∷ ls) zero = refl
get-drop (l ∷ ls) (suc k) = get-drop ls k

-- the leaves in three parts
pub parts_at : (ls : List LeafNode) (k : ℕ) (leaf : LeafNode) → slice_get ls k ≡ Some leaf
    → leaf_datoms (take k ls) ++ (leaf.datoms ++ leaf_datoms (drop (suc k) ls)) ≡ leaf_datoms ls
parts_at ls k leaf read =
    ap (λ (more : List LeafNode). leaf_datoms (take k ls) ++ leaf_datoms more) (sym (drop_at ls k leaf read))
    ∙ sym (leaf_datoms-append (take k ls) (drop k ls))
    ∙ ap leaf_datoms (take-append-drop k ls)

pub leaf_within : (ls : List LeafNode) (k : ℕ) (leaf : LeafNode) (d : Datom) → slice_get ls k ≡ Some leaf → Contains leaf.datoms d
    → Contains (leaf_datoms ls) d
leaf_within ls k leaf d read there =
    subst (λ (ds : List Datom). Contains ds d) (parts_at ls k leaf read)
    (Contains-append_right (leaf_datoms (take k ls)) (leaf.datoms ++ leaf_datoms (drop (suc k) ls)) d
    (Contains-append_left leaf.datoms (leaf_datoms (drop (suc k) ls)) d there))

pub leaf_held : (order : Order) (coverage : Coverage) (ls : List LeafNode) (k : ℕ) (leaf : LeafNode) → slice_get ls k ≡ Some leaf
    → AreHeld coverage order (leaf_datoms ls) → AreHeld coverage order leaf.datoms
leaf_held order coverage ls k leaf read all = λ i d within.
    All-contains (held coverage order) (leaf_datoms ls) (get_or leaf.datoms i d) all
    (leaf_within ls k leaf (get_or leaf.datoms i d) read (Contains-get_or leaf.datoms i d within))

pub leaf_and_rest_rise : (order : Order) (ls : List LeafNode) (k : ℕ) (leaf : LeafNode) → slice_get ls k ≡ Some leaf
    → IsRising order (leaf_datoms ls) → IsRising order (leaf.datoms ++ leaf_datoms (drop (suc k) ls))
leaf_and_rest_rise order ls k leaf read rising =
    rising-append_right order (leaf_datoms (take k ls)) (leaf.datoms ++ leaf_datoms (drop (suc k) ls))
    (subst (IsRising order) (sym (parts_at ls k leaf read)) rising)

pub single_part : (all part : List Datom) → HasNoTwins all → ((x : Datom) → Contains part x → Contains all x) → HasNoTwins part
single_part all part single within x y a b e = single x y (within x a) (within y b) e

less_is : (o : Ordering) → is_lt o ≡ true → o ≡ Less
less_is Less h = refl
less_is Equal h = absurd (cc)
less_is Greater h = absurd (cc)

not_less : (order : Order) (x y f : Datom) (o : Ordering) → key_cmp order y f ≡ o → is_lt o ≡ false → key_cmp order x f ≡ Less
    → key_cmp order x y ≡ Less
not_less order x y f Less e h less = absurd (cc)
not_less order x y f Equal e h less =
    let t = key_cmp_total order in
    let back : key_cmp order f y ≡ Equal = t.antisymm f y ∙ cc in
    let up : key_cmp order f x ≡ Greater = t.antisymm f x ∙ cc in
    let there : key_cmp order y x ≡ Greater = sym (t.congr f y x back) ∙ up in
    t.antisymm x y ∙ cc
not_less order x y f Greater e h less =
    let t = key_cmp_total order in
    let back : key_cmp order f y ≡ Less = t.antisymm f y ∙ cc in
    t.trans x f y less back

-- what goes before a leaf stands before it and those behind it
before_head : (order : Order) (ls : List LeafNode) (x : Datom) → IsRising order (leaf_datoms ls)
    → goes_before_leaf order (slice_get ls 0) x ≡ true → (y : Datom) → Contains (leaf_datoms ls) y → key_cmp order x y ≡ Less
before_head order [] x rising goes y there = absurd (contains_none y there)
before_head order (l ∷ ls) x rising goes y there = at_first order l.datoms (leaf_datoms ls) x rising goes y there
  where
    at_first : (order : Order) (ds more : List Datom) (x : Datom) → IsRising order (ds ++ more)
        → goes_before_leaf order (Some (record { id = 0; datoms = ds })) x ≡ true → (y : Datom) → Contains (ds ++ more) y
        → key_cmp order x y ≡ Less
    at_first order [] more x rising goes y there = absurd (cc)
    at_first order (f ∷ ds) more x rising goes y there =
        let less : key_cmp order x f ≡ Less = less_is (key_cmp order x f) goes in
        elim (contains-cons f (ds ++ more) y there) [
          | inl here ↦ subst (λ (z : Datom). key_cmp order x z ≡ Less) here less
          | inr behind ↦ (key_cmp_total order).trans x f y less (stands_at order f (ds ++ more) rising.0 y behind)
        ]

-- what does not go before a leaf stands behind those before it
behind_head : (order : Order) (ds : List Datom) (ls : List LeafNode) (y : Datom) → IsRising order (ds ++ leaf_datoms ls)
    → ((l : LeafNode) → slice_get ls 0 ≡ Some l → 0 < length l.datoms) → goes_before_leaf order (slice_get ls 0) y ≡ false
    → (x : Datom) → Contains ds x → key_cmp order x y ≡ Less
behind_head order ds [] y rising some goes x there = absurd (cc)
behind_head order ds (l ∷ ls) y rising some goes x there = at_first order ds l.datoms (leaf_datoms ls) y rising (some l refl) goes x there
  where
    at_first : (order : Order) (ds es more : List Datom) (y : Datom) → IsRising order (ds ++ (es ++ more)) → 0 < length es
        → goes_before_leaf order (Some (record { id = 0; datoms = es })) y ≡ false → (x : Datom) → Contains ds x → key_cmp order x y ≡ Less
    at_first order ds [] more y rising some goes x there = absurd (omega arith)
    at_first order ds (f ∷ es) more y rising some goes x there =
        not_less order x y f (key_cmp order y f) refl goes
        (rising_before order ds (f ∷ (es ++ more)) rising x f there (contains_head f (es ++ more) f refl))

-- a leaf, and what falls into its range
next_leaf : (order : Order) (coverage : Coverage) (leaf : LeafNode) (rest : List LeafNode) (now behind piece : List Datom)
    → IsRising order (leaf.datoms ++ leaf_datoms rest) → IsRising order (now ++ behind)
    → ((l : LeafNode) → slice_get rest 0 ≡ Some l → 0 < length l.datoms)
    → ((d : Datom) → Contains now d → goes_before_leaf order (slice_get rest 0) d ≡ true)
    → ((d : Datom) → Contains behind d → goes_before_leaf order (slice_get rest 0) d ≡ false)
    → IsUnion order coverage leaf.datoms now piece
    → IsNext order (held coverage order) leaf.datoms (leaf_datoms rest) now behind piece
next_leaf order coverage leaf rest now behind piece rising added_rises some front back union = record {
  rising = union.rising;
  members = union.members;
  before_rest = λ x y there at. elim ((union.members x).0 there) [
    | inl a ↦ rising_before order leaf.datoms (leaf_datoms rest) rising x y a.0 at
    | inr b ↦ before_head order rest x (rising-append_right order leaf.datoms (leaf_datoms rest) rising) (front x b) y at
  ];
  before_left = λ x y there at. elim ((union.members x).0 there) [
    | inl a ↦ behind_head order leaf.datoms rest y rising some (back y at) x a.0
    | inr b ↦ rising_before order now behind added_rises x y b at
  ];
}

-- none of the datoms falls into the leaf's range where none of those left goes before the next leaf
none_now : (order : Order) (ls : List LeafNode) (added : List Datom) (k : ℕ) (now : List Datom)
    → ((d : Datom) → Contains now d → Contains added d)
    → ((m : ℕ) → k ≡ suc m → (d : Datom) → Contains now d → goes_before order ls k d ≡ false)
    → ((d : Datom) → Contains now d → goes_before order ls (suc k) d ≡ true) → ((d : Datom) → Contains added d → FallsInto order ls k d → ⊥)
    → now ≡ []
none_now order ls added k [] within from front none = refl
none_now order ls added zero (d ∷ now) within from front none =
    absurd (none d (within d (contains_head d now d refl)) (front d (contains_head d now d refl)))
none_now order ls added (suc k) (d ∷ now) within from front none =
    let here = contains_head d now d refl in
    let e : k + 2 ≡ suc (suc k) = omega arith in
    absurd (none d (within d here) (from k refl d here, rw e (front d here)))

still_kept : (old new : List LeafNode) (leaf x : LeafNode) → (new ≡ old) ⊎ (new ≡ old ++ leaf ∷ []) → Contains old x → Contains new x
still_kept old new leaf x same there =
    elim same [
      | inl e ↦ subst (λ (ls : List LeafNode). Contains ls x) (sym e) there
      | inr e ↦ subst (λ (ls : List LeafNode). Contains ls x) (sym e) (Contains-append_left old (leaf ∷ []) x there)
    ]

from_kept : (old new : List LeafNode) (leaf x : LeafNode) → (new ≡ old) ⊎ (new ≡ old ++ leaf ∷ []) → Contains new x
    → Contains old x ⊎ (leaf ≡ x)
from_kept old new leaf x same there =
    elim same [
      | inl e ↦ inl (subst (λ (ls : List LeafNode). Contains ls x) e there)
      | inr e ↦ elim (Contains-append_cases old (leaf ∷ []) x (subst (λ (ls : List LeafNode). Contains ls x) e there)) [
        | inl l ↦ inl l
        | inr r ↦ elim (contains-cons leaf [] x r) [
          | inl here ↦ inr here
          | inr behind ↦ absurd (contains_none x behind)
        ]
      ]
    ]

-- one leaf more
module _ (order : Order) (coverage : Coverage) (ls : List LeafNode) (added : List Datom) (k : ℕ) (left : List Datom)
    (plan new : Planned) (n : ℕ) (leaf : LeafNode) (rising : IsRising order (leaf_datoms ls)) (added_rises : IsRising order added)
    (read : slice_get ls k ≡ Some leaf) (some : (l : LeafNode) → slice_get ls (suc k) ≡ Some l → 0 < length l.datoms)
    (front : (d : Datom) → Contains (take n left) d → goes_before order ls (suc k) d ≡ true)
    (back : (d : Datom) → Contains (drop n left) d → goes_before order ls (suc k) d ≡ false)
    (adds : AddsLeaf order coverage leaf (take n left) plan new) (p : IsPlanning order coverage ls added k left plan) where
  cut : take n left ++ drop n left ≡ left
  cut = take-append-drop n left

  of_left : (d : Datom) → Contains (take n left) d → Contains left d
  of_left d there = subst (λ (ds : List Datom). Contains ds d) cut (Contains-append_left (take n left) (drop n left) d there)

  of_added : (d : Datom) → Contains left d → Contains added d
  of_added d there = subst (λ (ds : List Datom). Contains ds d) p.parts (Contains-append_right p.taken left d there)

  left_rises : IsRising order (take n left ++ drop n left)
  left_rises = subst (IsRising order) (sym cut) (rising-append_right order p.taken left (subst (IsRising order) (sym p.parts) added_rises))

  next : IsNext order (held coverage order) leaf.datoms (leaf_datoms (drop (suc k) ls)) (take n left) (drop n left) adds.piece
  next =
      let here = get-drop ls (suc k) in
      next_leaf order coverage leaf (drop (suc k) ls) (take n left) (drop n left) adds.piece
      (leaf_and_rest_rise order ls k leaf read rising) left_rises
      (λ l at. some l (here ∙ at))
      (λ d there. subst (λ (o : Option LeafNode). goes_before_leaf order o d ≡ true) here (front d there))
      (λ d there. subst (λ (o : Option LeafNode). goes_before_leaf order o d ≡ false) here (back d there))
      adds.union

  merges : Merges order (held coverage order) (leaf_datoms (take (suc k) ls)) (leaf_datoms (drop (suc k) ls)) (p.taken ++ take n left)
      (drop n left) new.datoms
  merges =
      let rest : leaf_datoms (drop k ls) ≡ leaf.datoms ++ leaf_datoms (drop (suc k) ls) = ap leaf_datoms (drop_at ls k leaf read) in
      let before =
      subst (λ (ds : List Datom).
      Merges order (held coverage order) (leaf_datoms (take k ls)) ds p.taken (take n left ++ drop n left) plan.datoms) rest
      (subst (λ (ds : List Datom).
      Merges order (held coverage order) (leaf_datoms (take k ls)) (leaf_datoms (drop k ls)) p.taken ds plan.datoms) (sym cut) p.merges) in
      let more =
      merges_more order (held coverage order) (leaf_datoms (take k ls)) leaf.datoms (leaf_datoms (drop (suc k) ls)) p.taken (take n left)
      (drop n left) plan.datoms adds.piece before next in
      let seen : leaf_datoms (take k ls) ++ leaf.datoms ≡ leaf_datoms (take (suc k) ls) =
      ap (λ ds. leaf_datoms (take k ls) ++ ds) (sym (append-nil leaf.datoms))
      ∙ sym (leaf_datoms-append (take k ls) (leaf ∷ []))
      ∙ ap leaf_datoms (sym (take_at ls k leaf read)) in
      subst (λ (ds : List Datom). Merges order (held coverage order) (leaf_datoms (take (suc k) ls)) (leaf_datoms (drop (suc k) ls))
      (p.taken ++ take n left) (drop n left) ds) (sym adds.datoms)
      (subst (λ (ds : List Datom). Merges order (held coverage order) ds (leaf_datoms (drop (suc k) ls)) (p.taken ++ take n left)
      (drop n left) (plan.datoms ++ adds.piece)) seen more)

  stays : (m : ℕ) (l : LeafNode) → m < suc k → slice_get ls m ≡ Some l
      → ((d : Datom) → Contains added d → FallsInto order ls m d → ⊥) → All (held coverage order) l.datoms → Contains new.kept l
  stays m l before at none all =
      elim (cases_lt m k) [
        | inl less ↦ still_kept plan.kept new.kept leaf l adds.kept (p.stays m l less at none all)
        | inr up ↦
            let same : m ≡ k = omega arith in
            let here : l ≡ leaf = some_same l leaf (sym at ∙ ap (slice_get ls) same ∙ read) in
            let empty =
            none_now order ls added k
            (take n left) (λ d there. of_added d (of_left d there)) (λ j is d there. p.from j is d (of_left d there)) front
            (subst (λ (j : ℕ). (d : Datom) → Contains added d → FallsInto order ls j d → ⊥) same none) in
            let is = adds.stays empty (subst (λ (x : LeafNode). All (held coverage order) x.datoms) here all) in
            subst (λ (xs : List LeafNode). Contains xs l) (sym is)
            (Contains-append_right plan.kept (leaf ∷ []) l (contains_head leaf [] l (sym here)))
      ]
    where
      some_same : (a b : LeafNode) → Some a ≡ Some b → a ≡ b
      some_same a b e = cc

  older : (l : LeafNode) → Contains new.kept l → Contains ls l
  older l there =
      elim (from_kept plan.kept new.kept leaf l adds.kept there) [
        | inl before ↦ p.older l before
        | inr here ↦ subst (λ (x : LeafNode). Contains ls x) here (get_contains ls k leaf read)
      ]
    where
      get_contains : (xs : List LeafNode) (j : ℕ) (x : LeafNode) → slice_get xs j ≡ Some x → Contains xs x
      get_contains [] j x at = absurd (cc)
      get_contains (y ∷ xs) zero x at = let same : y ≡ x = cc in contains_head y xs x same
      get_contains (y ∷ xs) (suc j) x at = let c = get_contains xs j x at in (suc c.0, omega (arith, c.1), c.2)

  pub planning_more : IsPlanning order coverage ls added (suc k) (drop n left) new
  planning_more = record {
    taken = p.taken ++ take n left;
    parts = append_assoc p.taken (take n left) (drop n left) ∙ ap (λ ds. p.taken ++ ds) cut ∙ p.parts;
    merges = merges;
    older = older;
    once =
        subst (λ (xs : List LeafNode). RepeatsNone xs new.kept) (sym (take_at ls k leaf read))
        (repeats_more (take k ls) plan.kept new.kept leaf adds.kept p.once);
    stays = stays;
    from = λ m is d there. back d there;
  }

pub planning_next : (order : Order) (coverage : Coverage) (ls : List LeafNode) (added : List Datom) (k : ℕ) (left : List Datom)
    (plan new : Planned) (n : ℕ) (leaf : LeafNode) (now behind : List Datom)
    → now ≡ take n left → behind ≡ drop n left
    → IsRising order (leaf_datoms ls) → IsRising order added → slice_get ls k ≡ Some leaf
    → ((l : LeafNode) → slice_get ls (k + 1) ≡ Some l → 0 < length l.datoms)
    → ((d : Datom) → Contains (take n left) d → goes_before order ls (k + 1) d ≡ true)
    → ((d : Datom) → Contains (drop n left) d → goes_before order ls (k + 1) d ≡ false)
    → AddsLeaf order coverage leaf now plan new → IsPlanning order coverage ls added k left plan
    → IsPlanning order coverage ls added (k + 1) behind new
planning_next order coverage ls added k left plan new n leaf now behind now_is behind_is rising added_rises read some front back adds p =
    let e : k + 1 ≡ suc k = omega arith in
    let next = planning_more order coverage ls added k left plan new n leaf rising added_rises read
    (subst (λ (j : ℕ). (l : LeafNode) → slice_get ls j ≡ Some l → 0 < length l.datoms) e some)
    (subst (λ (j : ℕ). (d : Datom) → Contains (take n left) d → goes_before order ls j d ≡ true) e front)
    (subst (λ (j : ℕ). (d : Datom) → Contains (drop n left) d → goes_before order ls j d ≡ false) e back)
    (subst (λ (ds : List Datom). AddsLeaf order coverage leaf ds plan new) now_is adds)
    p in
    subst (λ (j : ℕ). IsPlanning order coverage ls added j behind new) (sym e)
    (subst (λ (ds : List Datom). IsPlanning order coverage ls added (suc k) ds new) (sym behind_is) next)

-- what an inner leaf may take
pub single_leaf : (order : Order) (coverage : Coverage) (ls : List LeafNode) (added : List Datom) (k : ℕ) (left : List Datom)
    (plan : Planned) (n : ℕ) (leaf : LeafNode)
    → HasNoTwins (leaf_datoms ls ++ added) → slice_get ls k ≡ Some leaf → IsPlanning order coverage ls added k left plan
    → HasNoTwins (leaf.datoms ++ take n left)
single_leaf order coverage ls added k left plan n leaf single read p =
    single_part (leaf_datoms ls ++ added) (leaf.datoms ++ take n left) single
    (λ x there. elim (Contains-append_cases leaf.datoms (take n left) x there) [
      | inl l ↦ Contains-append_left (leaf_datoms ls) added x (leaf_within ls k leaf x read l)
      | inr r ↦ Contains-append_right (leaf_datoms ls) added x (of_taken x r)
    ])
  where
    of_taken : (x : Datom) → Contains (take n left) x → Contains added x
    of_taken x there =
        subst (λ (ds : List Datom). Contains ds x) p.parts (Contains-append_right p.taken left x
        (subst (λ (ds : List Datom). Contains ds x) (take-append-drop n left) (Contains-append_left (take n left) (drop n left) x there)))

pub left_rises_at : (order : Order) (coverage : Coverage) (ls : List LeafNode) (added : List Datom) (k : ℕ) (left : List Datom)
    (plan : Planned)
    → IsRising order added → IsPlanning order coverage ls added k left plan → IsRising order left
left_rises_at order coverage ls added k left plan rises p =
    rising-append_right order p.taken left (subst (IsRising order) (sym p.parts) rises)

pub taken_rises : (order : Order) (n : ℕ) (left : List Datom) → IsRising order left → IsRising order (take n left)
taken_rises order n left rises =
    rising-append_left order (take n left) (drop n left) (subst (IsRising order) (sym (take-append-drop n left)) rises)

-- behind the last leaf
pub union_all : (order : Order) (coverage : Coverage) (ls : List LeafNode) (added : List Datom) (k : ℕ) (left : List Datom) (plan : Planned)
    (piece : List Datom)
    → length ls ≤ k → IsPlanning order coverage ls added k left plan → IsUnion order coverage [] left piece
    → IsUnion order coverage (leaf_datoms ls) added (plan.datoms ++ piece)
union_all order coverage ls added k left plan piece past p union =
    let P = held coverage order in
    let whole : take k ls ≡ ls = take_all k ls past in
    let none : drop k ls ≡ [] = drop_all ls k past in
    let before = subst (λ (ds : List Datom). Merges order P (leaf_datoms ls) [] p.taken ds plan.datoms) (sym (append-nil left))
    (subst (λ (xs : List LeafNode). Merges order P (leaf_datoms xs) [] p.taken left plan.datoms) whole
    (subst (λ (xs : List LeafNode). Merges order P (leaf_datoms (take k ls)) (leaf_datoms xs) p.taken left plan.datoms) none p.merges)) in
    let next : IsNext order P [] [] left [] piece = record {
      rising = union.rising;
      members = union.members;
      before_rest = λ x y there at. absurd (contains_none y at);
      before_left = λ x y there at. absurd (contains_none y at);
    } in
    let more = merges_more order P (leaf_datoms ls) [] [] p.taken left [] plan.datoms piece before next in
    record {
      rising = more.rising;
      members =
          λ d.
          subst (λ (ds : List Datom). Contains (plan.datoms ++ piece) d ↔ ((Contains (leaf_datoms ls) d × P d) ⊎ Contains ds d)) p.parts
          (subst (λ (ds : List Datom). Contains (plan.datoms ++ piece) d ↔ ((Contains ds d × P d) ⊎ Contains (p.taken ++ left) d))
          (append-nil (leaf_datoms ls)) (more.members d));
    }
  where
    drop_all : (xs : List LeafNode) (j : ℕ) → length xs ≤ j → drop j xs ≡ []
    drop_all [] j h = drop_nil j
      where
        drop_nil : (j : ℕ) → drop {A = LeafNode} j [] ≡ []
        drop_nil zero = refl
        drop_nil (suc j) = refl
    drop_all (x ∷ xs) zero h = absurd (omega arith)
    drop_all (x ∷ xs) (suc j) h = drop_all xs j (omega arith)

pub keeps_all : (order : Order) (coverage : Coverage) (ls : List LeafNode) (added : List Datom) (k : ℕ) (left : List Datom) (plan : Planned)
    → length ls ≤ k → IsPlanning order coverage ls added k left plan → KeepsLeaves order coverage ls added plan.kept
keeps_all order coverage ls added k left plan past p n leaf read none all =
    let within = slice_get_within ls n leaf read in
    p.stays n leaf (omega (arith, within)) read none all
