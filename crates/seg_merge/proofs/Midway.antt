-- One added datom, and the older ones before it.
use Rattle.std.proofs.Common.{◌≡◌, ℕ, Bool, true, false, cond, List, [], ◌∷◌, ◌++◌, take, drop, refl, sym, ap, ◌∙◌, subst, inl, inr}
use Rattle.std.proofs.Common.{append_assoc, append-nil}
use Rattle.std.specs.Prelude.{Contains, filter, IsTrue}
use Rattle.std.specs.Ordering.{is_gt, is_eq}
use Rattle.std.specs.declared.cmp.Ordering.{Ordering}
use Rattle.std.specs.declared.cmp.Ordering.TheVariants.{Less, Equal, Greater}
use Rattle.std.proofs.lemmas.Bool.{cases_Bool}
use Rattle.std.proofs.lemmas.List.{take-append-drop}
use Rattle.std.proofs.lemmas.List.Elements.{Contains-append_left, Contains-append_right, Contains-append_cases}
use Rattle.fb_values.specs.declared.facts.Datom.{Datom}
use Rattle.fb_values.specs.declared.indexes.Order.{Order}
use Rattle.fb_values.specs.Orders.{key_cmp}
use Rattle.fb_values.specs.OrderLaws.{key_cmp_total, key_cmp-Equal}
use Rattle.fb_values.specs.Rising.{IsRising}
use Rattle.fb_search.specs.Places.{place_of, probe_of}
use Rattle.fb_search.proofs.Ends.{rising-append_left, rising-append_right}
use Rattle.live_index.specs.Growth.{HasNoTwins}
use Rattle.live_index.proofs.Members.{contains-cons, contains_head, contains_none, from_filter, into_filter}
use Rattle.seg_merge.specs.Plans.{without_twin}
use Rattle.seg_merge.proofs.Before.{stands_at, rising_join, rising_before, rising-filter, own_before, own_behind}
use Rattle.seg_merge.proofs.Merges.{Merges, IsNext, merges_more}

-- what goes before the rest is the datom itself
pub record IsApart (order : Order) (d : Datom) (ds rest : List Datom) : Type 0 where
  pub twin : List Datom
  pub parts : twin ++ rest ≡ ds
  pub same : (y : Datom) → Contains twin y → y ≡ d
  pub later : (y : Datom) → Contains rest y → key_cmp order d y ≡ Less

less_after : (order : Order) (d x y : Datom) (o : Ordering) → key_cmp order d x ≡ o → is_gt o ≡ false → key_cmp order x y ≡ Less
    → key_cmp order d y ≡ Less
less_after order d x y Less e h less = (key_cmp_total order).trans d x y e less
less_after order d x y Equal e h less = (key_cmp_total order).congr d x y e ∙ less
less_after order d x y Greater e h less = absurd (cc)

is_less : (order : Order) (d x : Datom) (o : Ordering) → key_cmp order d x ≡ o → is_gt o ≡ false → is_eq (key_cmp order x d) ≡ false
    → key_cmp order d x ≡ Less
is_less order d x Less e h apart = e
is_less order d x Equal e h apart = let t = key_cmp_total order in absurd (cc (t.antisymm x d, t.antisymm d x))
is_less order d x Greater e h apart = absurd (cc)

is_equal : (order : Order) (d x : Datom) (o : Ordering) → key_cmp order x d ≡ o → is_eq o ≡ true → key_cmp order x d ≡ Equal
is_equal order d x Less e h = absurd (cc)
is_equal order d x Equal e h = e
is_equal order d x Greater e h = absurd (cc)

pub is_apart : (order : Order) (d : Datom) (ds : List Datom) → IsRising order ds
    → ((x : Datom) → Contains ds x → is_gt (key_cmp order d x) ≡ false) → ((x : Datom) → Contains ds x → key_cmp order x d ≡ Equal → x ≡ d)
    → IsApart order d ds (without_twin order d ds)
is_apart order d [] rising above single = record {
  twin = [];
  parts = refl;
  same = λ y there. absurd (contains_none y there);
  later = λ y there. absurd (contains_none y there);
}
is_apart order d (x ∷ xs) rising above single =
    elim (cases_Bool (is_eq (key_cmp order x d))) [
      | inl twin ↦ subst (IsApart order d (x ∷ xs)) (sym (ap (λ b. cond b xs (x ∷ xs)) twin)) (with_one twin)
      | inr none ↦ subst (IsApart order d (x ∷ xs)) (sym (ap (λ b. cond b xs (x ∷ xs)) none)) (with_none none)
    ]
  where
    with_one : is_eq (key_cmp order x d) ≡ true → IsApart order d (x ∷ xs) xs
    with_one twin = record {
      twin = x ∷ [];
      parts = refl;
      same = λ y there. elim (contains-cons x [] y there) [
        | inl here ↦ sym here ∙ single x (contains_head x xs x refl) (is_equal order d x (key_cmp order x d) refl twin)
        | inr behind ↦ absurd (contains_none y behind)
      ];
      later =
          λ y there.
          less_after order d x y (key_cmp order d x) refl (above x (contains_head x xs x refl)) (stands_at order x xs rising.0 y there);
    }

    with_none : is_eq (key_cmp order x d) ≡ false → IsApart order d (x ∷ xs) (x ∷ xs)
    with_none none = record {
      twin = [];
      parts = refl;
      same = λ y there. absurd (contains_none y there);
      later = λ y there. elim (contains-cons x xs y there) [
        | inl here ↦
            subst (λ (z : Datom). key_cmp order d z ≡ Less) here
            (is_less order d x (key_cmp order d x) refl (above x (contains_head x xs x refl)) none)
        | inr behind ↦
            less_after order d x y (key_cmp order d x) refl (above x (contains_head x xs x refl)) (stands_at order x xs rising.0 y behind)
      ];
    }

-- the held ones of the older datoms before the datom, and the datom
next_datom : (order : Order) (p : Datom → Bool) (front rest left : List Datom) (d : Datom) (twin : List Datom)
    → IsRising order (front ++ (twin ++ rest)) → ((x : Datom) → Contains front x → key_cmp order x d ≡ Less)
    → ((y : Datom) → Contains twin y → y ≡ d) → ((y : Datom) → Contains rest y → key_cmp order d y ≡ Less) → IsRising order (d ∷ left)
    → IsNext order (λ x. IsTrue (p x)) (front ++ twin) rest (d ∷ []) left (filter p front ++ d ∷ [])
next_datom order p front rest left d twin rising lesser same later rises = record {
  rising =
      rising_join order (filter p front) (d ∷ []) (rising-filter order p front (rising-append_left order front (twin ++ rest) rising))
      (tt, tt) (λ x y there at. elim (contains-cons d [] y at) [
        | inl here ↦ subst (λ (z : Datom). key_cmp order x z ≡ Less) here (lesser x (from_filter p front x there).0)
        | inr behind ↦ absurd (contains_none y behind)
      ]);
  members = λ x. (
    λ there. elim (Contains-append_cases (filter p front) (d ∷ []) x there) [
      | inl l ↦ inl (Contains-append_left front twin x (from_filter p front x l).0, (from_filter p front x l).1)
      | inr r ↦ inr r
    ],
    λ given. elim given [
      | inl a ↦ elim (Contains-append_cases front twin x a.0) [
        | inl f ↦ Contains-append_left (filter p front) (d ∷ []) x (into_filter p front x f a.1)
        | inr t ↦ Contains-append_right (filter p front) (d ∷ []) x (contains_head d [] x (sym (same x t)))
      ]
      | inr b ↦ Contains-append_right (filter p front) (d ∷ []) x b
    ],
  );
  before_rest = λ x y there at. elim (Contains-append_cases (filter p front) (d ∷ []) x there) [
    | inl l ↦ rising_before order front (twin ++ rest) rising x y (from_filter p front x l).0 (Contains-append_right twin rest y at)
    | inr r ↦ elim (contains-cons d [] x r) [
      | inl here ↦ subst (λ (z : Datom). key_cmp order z y ≡ Less) here (later y at)
      | inr behind ↦ absurd (contains_none x behind)
    ]
  ];
  before_left = λ x y there at. elim (Contains-append_cases (filter p front) (d ∷ []) x there) [
    | inl l ↦ (key_cmp_total order).trans x d y (lesser x (from_filter p front x l).0) (stands_at order d left rises.0 y at)
    | inr r ↦ elim (contains-cons d [] x r) [
      | inl here ↦ subst (λ (z : Datom). key_cmp order z y ≡ Less) here (stands_at order d left rises.0 y at)
      | inr behind ↦ absurd (contains_none x behind)
    ]
  ];
}

-- some older datoms were seen, and the rest is left
pub record IsMidway (order : Order) (P : Datom → Type 0) (old rest taken left out : List Datom) : Type 0 where
  pub seen : List Datom
  pub parts : seen ++ rest ≡ old
  pub merges : Merges order P seen rest taken left out

-- two datoms with one key are one
no_twin : (order : Order) (all : List Datom) (x d : Datom) → HasNoTwins all → Contains all x → Contains all d → key_cmp order x d ≡ Equal
    → x ≡ d
no_twin order all x d single there at e = single x d there at (key_cmp-Equal order x d e)

pub midway_more : (order : Order) (p : Datom → Bool) (old rest taken left out : List Datom) (d : Datom) (added : List Datom) (place : ℕ)
    → IsRising order old → IsRising order added → HasNoTwins (old ++ added) → taken ++ d ∷ left ≡ added
    → place ≡ place_of (probe_of order d) rest
    → IsMidway order (λ x. IsTrue (p x)) old rest taken (d ∷ left) out
    → IsMidway order (λ x. IsTrue (p x)) old (without_twin order d (drop place rest)) (taken ++ d ∷ []) left
    ((out ++ filter p (take place rest)) ++ d ∷ [])
midway_more order p old rest taken left out d added place rises added_rises single whole is m =
    let n = place_of (probe_of order d) rest in
    let front = take n rest in
    let behind = drop n rest in
    let cut : front ++ behind ≡ rest = take-append-drop n rest in
    let rest_rises : IsRising order rest = rising-append_right order m.seen rest (subst (IsRising order) (sym m.parts) rises) in
    let behind_rises : IsRising order behind = rising-append_right order front behind (subst (IsRising order) (sym cut) rest_rises) in
    let of_old =
    λ (x : Datom) (there : Contains behind x). Contains-append_left old added x (subst (λ (ds : List Datom). Contains ds x) m.parts
    (Contains-append_right m.seen rest x (subst (λ (ds : List Datom). Contains ds x) cut (Contains-append_right front behind x there)))) in
    let of_added : Contains (old ++ added) d =
    Contains-append_right old added d
    (subst (λ (ds : List Datom). Contains ds d) whole (Contains-append_right taken (d ∷ left) d (contains_head d left d refl))) in
    let apart =
    is_apart order d behind behind_rises (λ x there. own_behind order d rest x rest_rises there)
    (λ x there e. no_twin order (old ++ added) x d single (of_old x there) of_added e) in
    let later = without_twin order d behind in
    let split : (front ++ apart.twin) ++ later ≡ rest = append_assoc front apart.twin later ∙ ap (λ ds. front ++ ds) apart.parts ∙ cut in
    let rises_there : IsRising order (front ++ (apart.twin ++ later)) =
    subst (IsRising order) (sym (ap (λ ds. front ++ ds) apart.parts ∙ cut)) rest_rises in
    let d_rises : IsRising order (d ∷ left) = rising-append_right order taken (d ∷ left) (subst (IsRising order) (sym whole) added_rises) in
    let next =
    next_datom order p front later left d apart.twin rises_there
    (λ x there. own_before order d rest x there) apart.same apart.later d_rises in
    let before = subst (λ (ds : List Datom). Merges order (λ x. IsTrue (p x)) m.seen ds taken (d ∷ left) out) (sym split) m.merges in
    let more =
    merges_more order (λ x. IsTrue (p x)) m.seen (front ++ apart.twin) later taken (d ∷ []) left out
    (filter p front ++ d ∷ []) before next in
    let same_out : out ++ (filter p front ++ d ∷ []) ≡ (out ++ filter p front) ++ d ∷ [] =
    sym (append_assoc out (filter p front) (d ∷ [])) in
    subst (λ (k : ℕ). IsMidway order (λ x. IsTrue (p x)) old (without_twin order d (drop k rest)) (taken ++ d ∷ []) left
    ((out ++ filter p (take k rest)) ++ d ∷ [])) (sym is)
    (record {
      seen = m.seen ++ (front ++ apart.twin);
      parts = append_assoc m.seen (front ++ apart.twin) later ∙ ap (λ ds. m.seen ++ ds) split ∙ m.parts;
      merges =
          subst (λ (ds : List Datom). Merges order (λ x. IsTrue (p x)) (m.seen ++ (front ++ apart.twin)) later (taken ++ d ∷ []) left ds)
          same_out more;
    })

-- the older datoms behind the last one
pub midway_all : (order : Order) (p : Datom → Bool) (old rest taken out : List Datom) → IsRising order old
    → IsMidway order (λ x. IsTrue (p x)) old rest taken [] out → Merges order (λ x. IsTrue (p x)) old [] taken [] (out ++ filter p rest)
midway_all order p old rest taken out rises m =
    let rest_rises : IsRising order rest = rising-append_right order m.seen rest (subst (IsRising order) (sym m.parts) rises) in
    let next : IsNext order (λ x. IsTrue (p x)) rest [] [] [] (filter p rest) = record {
      rising = rising-filter order p rest rest_rises;
      members = λ d. (
        λ there. inl (from_filter p rest d there),
        λ given. elim given [
          | inl a ↦ into_filter p rest d a.0 a.1
          | inr b ↦ absurd (contains_none d b)
        ],
      );
      before_rest = λ x y there at. absurd (contains_none y at);
      before_left = λ x y there at. absurd (contains_none y at);
    } in
    let before = subst (λ (ds : List Datom). Merges order (λ x. IsTrue (p x)) m.seen ds taken [] out) (sym (append-nil rest)) m.merges in
    let more = merges_more order (λ x. IsTrue (p x)) m.seen rest [] taken [] [] out (filter p rest) before next in
    subst (λ (ds : List Datom). Merges order (λ x. IsTrue (p x)) ds [] taken [] (out ++ filter p rest)) m.parts
    (subst (λ (ds : List Datom). Merges order (λ x. IsTrue (p x)) (m.seen ++ rest) [] ds [] (out ++ filter p rest)) (append-nil taken) more)
