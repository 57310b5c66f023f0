-- Datoms of a table that are brought into an order, one by one.
use Rattle.std.proofs.Common.{◌≡◌, ◌∙◌, ℕ, zero, suc, ◌+◌, ◌-◌, ◌<◌, ◌≤◌, Bool, true, false, cond, List, [], ◌∷◌, ◌++◌, length, map, take, drop, get_or}
use Rattle.std.proofs.Common.{refl, sym, ap, subst, arith, append_assoc, Some}
use Rattle.std.specs.Prelude.{Contains, IsPermutation, filter}
use Rattle.std.specs.List.{All, slice_get}
use Rattle.std.specs.List.Sorted.{IsSortedBy}
use Rattle.std.specs.Ordering.{is_lt}
use Rattle.std.proofs.lemmas.List.{get_or_default, get_or-map, length-map}
use Rattle.std.proofs.lemmas.List.Elements.{All-append, All-cons, All-nil, All-head, All-tail, filter_more}
use Rattle.std.proofs.lemmas.List.Sorted.{IsPermutation-map}
use Rattle.std.proofs.lemmas.Option.{get_or_from_slice_get}
use Rattle.fb_values.specs.declared.facts.Datom.{Datom}
use Rattle.fb_values.specs.declared.indexes.Order.{Order}
use Rattle.fb_values.specs.Orders.{key_cmp}
use Rattle.fb_values.specs.Rising.{IsRising}
use Rattle.fb_model.specs.Rising.{in_order}
use Rattle.live_runs.specs.declared.members.Member.{Member}
use Rattle.live_runs.specs.Changes.{AreMembers}
use Rattle.live_runs.specs.Members.{IsMember, datom_of, named, nothing}
use Rattle.live_index.specs.declared.ranked.Ranked.{Ranked}
use Rattle.live_index.specs.Growth.{HasNoTwins}
use Rattle.live_index.specs.Ranks.{AreRanked, IsRanked, datoms_of}
use Rattle.live_index.specs.Splits.{once}
use Rattle.live_index.proofs.Growing.{single_part}
use Rattle.live_index.proofs.Sorting.{once_is}
use Rattle.live_index.proofs.Spans.{number_at, number_in}

map-append : {X Y : Type 0} (f : X → Y) (xs ys : List X) → map f (xs ++ ys) ≡ map f xs ++ map f ys
map-append f [] ys = refl
map-append f (x ∷ xs) ys = ap (λ l. f x ∷ l) (map-append f xs ys)

-- ---- one more, where it passes

pub all_if : {X : Type 0} (P : X → Type 0) (all new : List X) (r : X) (b : Bool) → new ≡ cond b (all ++ r ∷ []) all → All P all → P r → All P new
all_if P all new r true is each one =
    subst (All P) (sym is) (All-append P all (r ∷ []) each (All-cons P r [] one (All-nil P)))
all_if P all new r false is each one = subst (All P) (sym is) each

pub datoms_if : (p : Datom → Bool) (all new : List Ranked) (r : Ranked) (b : Bool) → new ≡ cond b (all ++ r ∷ []) all → b ≡ p r.datom.now
    → datoms_of new ≡ datoms_of all ++ filter p (r.datom.now ∷ [])
datoms_if p all new r b new_is b_is = go b new_is b_is
  where
    go : (b : Bool) → new ≡ cond b (all ++ r ∷ []) all → b ≡ p r.datom.now → datoms_of new ≡ datoms_of all ++ filter p (r.datom.now ∷ [])
    go true is passes =
        ap datoms_of is ∙ map-append (λ (x : Ranked). x.datom.now) all (r ∷ []) ∙ rw (sym passes) refl
    go false is passes = ap datoms_of is ∙ rw (sym passes) (sym (append_none (datoms_of all)))
      where
        append_none : (l : List Datom) → l ++ [] ≡ l
        append_none [] = refl
        append_none (x ∷ l) = ap (λ k. x ∷ k) (append_none l)

-- one more of those that pass
pub held_more : (p : Datom → Bool) (before list : List Datom) (i : ℕ) (x : Datom) (all new : List Datom)
    → all ≡ before ++ filter p (take i list) → i < length list → get_or list i x ≡ x → new ≡ all ++ filter p (x ∷ [])
    → new ≡ before ++ filter p (take (i + 1) list)
held_more p before list i x all new so_far within read is =
    is ∙ ap (λ (l : List Datom). l ++ filter p (x ∷ [])) so_far
    ∙ append_assoc before (filter p (take i list)) (filter p (x ∷ []))
    ∙ ap (λ (z : Datom). before ++ (filter p (take i list) ++ filter p (z ∷ []))) (sym read)
    ∙ ap (λ (l : List Datom). before ++ l) (sym (filter_more p list i x within))

-- the datom of a number among those from another number on
pub ranked_at : (order : Order) (table : List Datom) (first number : ℕ) (r : Ranked) → IsRanked order table r → r.member.number ≡ number
    → first ≤ number → number < length table → get_or (drop first table) (number - first) r.datom.now ≡ r.datom.now
ranked_at order table first number r is number_is low high =
    number_at table first number r.datom.now low
    ∙ get_or_default table number r.datom.now nothing high
    ∙ ap (λ n. get_or table n nothing) (sym number_is)
    ∙ is.datom_is

-- ---- sorted

datoms_in : (order : Order) (table : List Datom) (rs : List Ranked) → AreRanked order table rs → (d : Datom) → Contains (datoms_of rs) d
    → Contains table d
datoms_in order table [] are d there = absurd (omega (arith, there.1))
datoms_in order table (r ∷ rs) are d (zero, within, is) =
    let one = All-head (IsRanked order table) r rs are in
    subst (Contains table) (one.datom_is ∙ is) (number_in table r.member.number one.member.within)
datoms_in order table (r ∷ rs) are d (suc k, within, is) =
    datoms_in order table rs (All-tail (IsRanked order table) r rs are) d (k, omega (arith, within), is)

sorted_datoms : (order : Order) (rs : List Ranked) → IsSortedBy (λ x y. is_lt (key_cmp order x.datom.now y.datom.now)) rs
    → IsSortedBy (λ x y. is_lt (key_cmp order x y)) (datoms_of rs)
sorted_datoms order [] sorted i e low high = absurd (omega (arith, high))
sorted_datoms order (r ∷ rs) sorted i e low high =
    let all = r ∷ rs in
    let long : length (datoms_of (r ∷ rs)) ≡ length (r ∷ rs) = length-map (r ∷ rs) (λ (x : Ranked). x.datom.now) in
    let first : get_or (datoms_of (r ∷ rs)) i e ≡ (get_or (r ∷ rs) i r).datom.now =
    get_or-map (λ (x : Ranked). x.datom.now) (r ∷ rs) i r e (omega (arith, high, long)) in
    let second : get_or (datoms_of (r ∷ rs)) (i + 1) e ≡ (get_or (r ∷ rs) (i + 1) r).datom.now =
    get_or-map (λ (x : Ranked). x.datom.now) (r ∷ rs) (i + 1) r e (omega (arith, high, long)) in
    rw (first, second) (sorted i r low (omega (arith, high, long)))

pub ranked_in_order : (order : Order) (table : List Datom) (all sorted : List Ranked) → HasNoTwins table → AreRanked order table all
    → IsPermutation all sorted → IsSortedBy (λ x y. is_lt (key_cmp order x.datom.now y.datom.now)) sorted
    → once order (datoms_of sorted) ≡ in_order order (datoms_of all)
ranked_in_order order table all sorted single are same up =
    once_is order (datoms_of all) (datoms_of sorted)
    (single_part (datoms_of all) table (datoms_in order table all are) single)
    (IsPermutation-map (λ (x : Ranked). x.datom.now) all sorted same) (sorted_datoms order sorted up)

-- ---- members

members_named : (order : Order) (table : List Datom) (ms : List Member) → IsRising order (named table ms) → All (IsMember order table) ms
    → AreMembers order table ms
members_named order table ms rising each = record { members = each; rising = rising }

pub are_members : (order : Order) (table : List Datom) (ms : List Member) (ds : List Datom) → IsRising order ds → named table ms ≡ ds
    → All (IsMember order table) ms → AreMembers order table ms
are_members order table ms ds rising is each = members_named order table ms (subst (IsRising order) (sym is) rising) each

pub named-push : (table : List Datom) (ms : List Member) (m : Member) → named table (ms ++ m ∷ []) ≡ named table ms ++ datom_of table m.number ∷ []
named-push table ms m = map-append (λ (x : Member). datom_of table x.number) ms (m ∷ [])

-- ---- by places

pub length_datoms : (rs : List Ranked) → length (datoms_of rs) ≡ length rs
length_datoms rs = length-map rs (λ (x : Ranked). x.datom.now)

pub read_at : (rs : List Ranked) (place : ℕ) (r : Ranked) (e : Datom) → slice_get rs place ≡ Some r → place < length rs
    → get_or (datoms_of rs) place e ≡ r.datom.now
read_at rs place r e read within =
    get_or-map (λ (x : Ranked). x.datom.now) rs place r e within ∙ ap (λ (x : Ranked). x.datom.now) (get_or_from_slice_get rs place r r read)

pub ranked_read : (order : Order) (table : List Datom) (rs : List Ranked) (place : ℕ) (r : Ranked) → AreRanked order table rs
    → slice_get rs place ≡ Some r → place < length rs → IsRanked order table r
ranked_read order table rs place r are read within =
    subst (IsRanked order table) (get_or_from_slice_get rs place r r read) (are place r within)

pub datoms_cond : (all new : List Ranked) (r : Ranked) (b : Bool) → new ≡ cond b (all ++ r ∷ []) all
    → datoms_of new ≡ cond b (datoms_of all ++ r.datom.now ∷ []) (datoms_of all)
datoms_cond all new r true is = ap datoms_of is ∙ map-append (λ (x : Ranked). x.datom.now) all (r ∷ [])
datoms_cond all new r false is = ap datoms_of is

pub named_cond : (table : List Datom) (all new : List Member) (m : Member) (d : Datom) (b : Bool) → new ≡ cond b (all ++ m ∷ []) all
    → datom_of table m.number ≡ d → named table new ≡ cond b (named table all ++ d ∷ []) (named table all)
named_cond table all new m d true is at =
    ap (named table) is ∙ named-push table all m ∙ ap (λ (x : Datom). named table all ++ x ∷ []) at
named_cond table all new m d false is at = ap (named table) is
