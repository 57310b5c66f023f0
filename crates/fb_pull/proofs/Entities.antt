-- What is at hand of an entity, and what of it is under an attribute.
use denote.Ref.{Bor}
use Rattle.std.proofs.Common.{Vec, Global}
use Rattle.std.proofs.Common.{◌≡◌, ◌∙◌, ℕ, suc, ◌+◌, ◌≤◌, ◌<◌, Bool, true, false, cond, ◌&&◌, List, [], ◌∷◌, ◌++◌, length, take, drop}
use Rattle.std.proofs.Common.{◌-◌, ◌≢◌, get_or, min, refl, sym, ap, subst, Option, Some, None, eqb, arith, append_assoc}
use Rattle.std.specs.Prelude.{filter, unwrap_or, map, option_map}
use Rattle.std.specs.Ordering.{is_eq, nat_cmp, ordering_then}
use Rattle.std.specs.declared.cmp.Ordering.{Ordering}
use Rattle.std.specs.declared.cmp.Ordering.TheVariants.{Less, Equal, Greater}
use Rattle.std.proofs.lemmas.Bool.Decides.{nat_tests}
use Rattle.std.specs.List.{slice_get}
use Rattle.std.proofs.lemmas.List.{length-take, take_all, drop_more, drop_all, get_or-map, length-map}
use Rattle.fb_values.specs.declared.facts.Datom.{Datom}
use Rattle.fb_values.specs.declared.facts.Value.{Value}
use Rattle.fb_values.specs.declared.indexes.Order.TheVariants.{Eavt}
use Rattle.fb_values.specs.declared.indexes.Probe.{Probe}
use Rattle.fb_values.specs.Orders.{probe_cmp}
use Rattle.fb_values.proofs.Rising.{rises_from, rising_from}
use Rattle.fb_model.specs.Schema.{is_about}
use Rattle.fb_model.proofs.Members.{kept, keep}
use Rattle.view_model.specs.Scan.{leading, IsScan}
use Rattle.live_index.proofs.Growing.{rising-filter}
use Rattle.fb_db.specs.declared.db.Db.{Db}
use Rattle.fb_db.specs.Seen.{window_of}
use Rattle.pull_model.specs.Found as model
use Rattle.fb_pull.specs.Finding.{upto}
use Rattle.fb_pull.specs.declared.near.Near.{Near}
use Rattle.fb_pull.specs.declared.near.Near.TheVariants.{Few}
use Rattle.fb_pull.specs.Near.{IsNear, lent}
use Rattle.fb_pull.specs.Views.{Sees}
use Rattle.fb_pull.proofs.Scans.{number}

-- ---- all of an entity

abbrev pub of_entity : ℕ → Probe
of_entity e = record { order = Eavt; e = Some e; a = None; v = None; t = None }

one_equal : (x : Ordering) → is_eq (ordering_then x Equal) ≡ is_eq x
one_equal Less = refl
one_equal Equal = refl
one_equal Greater = refl

leads_entity : (e : ℕ) (d : Datom) → is_eq (probe_cmp (of_entity e) d) ≡ eqb d.e e
leads_entity e d = one_equal (nat_cmp e d.e) ∙ number e d.e

module _ {S : Type 0} (db : Db S) (Selects : Datom → Type 0) (facts : model.Db) (sees : Sees db Selects facts) (e : ℕ) where
  pub scan_entity : IsScan db.snapshot.entries (window_of db) Selects Eavt (leading (of_entity e)) (filter (λ d. eqb d.e e) facts.seen)
  scan_entity = record {
    rising =
        rises_from Eavt (filter (λ d. eqb d.e e) facts.seen)
        (rising-filter Eavt (λ d. eqb d.e e) facts.seen (rising_from Eavt facts.seen sees.seen_is.rising));
    members = λ d. (
      λ member. let own = kept (λ x. eqb x.e e) facts.seen d member in
          ((sees.seen_is.members d).0 own.member, leads_entity e d ∙ own.passes),
      λ is. keep (λ x. eqb x.e e) facts.seen d ((sees.seen_is.members d).1 is.0) (sym (leads_entity e d) ∙ is.1),
    );
  }

-- fewer than were asked for are all
pub few_are_all : {X : Type 0} (n : ℕ) (ds all : List X) → ds ≡ take n all → length ds < n → ds ≡ all
few_are_all n ds all is few =
    let count : length ds ≡ min n (length all) = ap length is ∙ length-take n all in
    is ∙ take_all n all (omega (arith, count, few))

-- ---- datoms that are lent

pub lent_length : (ds : List (Bor Datom)) → length (lent ds) ≡ length ds
lent_length ds = length-map ds (λ (d : Bor Datom). d.now)

pub lent_below : (ds : List (Bor Datom)) (i : ℕ) → i < length ds → i < length (lent ds)
lent_below ds i below = subst (λ (n : ℕ). i < n) (sym (lent_length ds)) below

pub lent_past : (ds : List (Bor Datom)) (i : ℕ) → length ds ≤ i → length (lent ds) ≤ i
lent_past ds i past = subst (λ (n : ℕ). n ≤ i) (sym (lent_length ds)) past

pub lent_at : (ds : List (Bor Datom)) (i : ℕ) (d : Bor Datom) → i < length ds → d ≡ get_or ds i d → d.now ≡ get_or (lent ds) i d.now
lent_at ds i d below is = ap (λ (x : Bor Datom). x.now) is ∙ sym (get_or-map (λ (x : Bor Datom). x.now) ds i d d.now below)

pub lent_values : (ds : List (Bor Datom)) → map (λ (d : Bor Datom). d.now.v) ds ≡ map (λ (d : Datom). d.v) (lent ds)
lent_values [] = refl
lent_values (d ∷ ds) = ap (λ (l : List Value). d.now.v ∷ l) (lent_values ds)

pub lent_entities : (ds : List (Bor Datom)) → map (λ (d : Bor Datom). d.now.e) ds ≡ map (λ (d : Datom). d.e) (lent ds)
lent_entities [] = refl
lent_entities (d ∷ ds) = ap (λ (l : List ℕ). d.now.e ∷ l) (lent_entities ds)

-- ---- what is under an attribute

abbrev pub has : ℕ → Datom → Bool
has a d = eqb d.a a

pub under_entity : (e a : ℕ) (ds : List Datom) → filter (is_about e a) ds ≡ filter (has a) (filter (λ d. eqb d.e e) ds)
under_entity e a [] = refl
under_entity e a (d ∷ ds) = go (eqb d.e e) (under_entity e a ds)
  where
    go : (b : Bool) → filter (is_about e a) ds ≡ filter (has a) (filter (λ x. eqb x.e e) ds)
        → cond (b && has a d) (d ∷ filter (is_about e a) ds) (filter (is_about e a) ds) ≡ filter (has a)
        (cond b (d ∷ filter (λ x. eqb x.e e) ds) (filter (λ x. eqb x.e e) ds))
    go true rest = ap (λ (l : List Datom). cond (has a d) (d ∷ l) l) rest
    go false rest = rest

no_more : {X : Type 0} (p : X → Bool) (xs : List X) → length (filter p xs) ≤ length xs
no_more p [] = omega arith
no_more p (x ∷ xs) = go (p x) (no_more p xs)
  where
    go : (b : Bool) → length (filter p xs) ≤ length xs → length (cond b (x ∷ filter p xs) (filter p xs)) ≤ suc (length xs)
    go true rest = omega (arith, rest)
    go false rest = omega (arith, rest)

pub upto_all : {X : Type 0} (most : Option ℕ) (p : X → Bool) (xs : List X) (n : ℕ) → n ≡ length xs
    → take (unwrap_or most n) (filter p xs) ≡ upto most (filter p xs)
upto_all (Some m) p xs n is = refl
upto_all None p xs n is = take_all n (filter p xs) (omega (arith, is, no_more p xs))

module _ {S : Type 0} (db : Db S) (Selects : Datom → Type 0) (e : ℕ) (near : Near) (ds : Vec (Bor Datom) Global) (is : near ≡ Few ds)
    (given : IsNear db Selects e near) (facts : model.Db) (sees : Sees db Selects facts) where
  pub at_hand : lent ds.items ≡ filter (λ d. eqb d.e e) facts.seen
  at_hand = subst (IsNear db Selects e) is given facts sees

  pub under_attribute : (a : ℕ) → filter (has a) (lent ds.items) ≡ filter (is_about e a) facts.seen
  under_attribute a = ap (filter (has a)) at_hand ∙ sym (under_entity e a facts.seen)

-- ---- the first under an attribute, one datom after another

module _ {Y : Type 0} (F : List Datom → List Y) (a : ℕ) (ds : List Datom) (i : ℕ) (d : Datom) (left new_left : ℕ) (was now whole : List Y)
    (below : i < length ds) (is : d ≡ get_or ds i d) where
  ahead : drop i ds ≡ d ∷ drop (i + 1) ds
  ahead = drop_more ds i d below ∙ ap (λ (x : Datom). x ∷ drop (i + 1) ds) (sym is)

  abbrev pub behind : List Datom
  behind = filter (has a) (drop (i + 1) ds)

  first_ahead : was ++ F (take left (filter (has a) (drop i ds))) ≡ whole
      → was ++ F (take left (cond (has a d) (d ∷ behind) behind)) ≡ whole
  first_ahead goes = subst (λ (l : List Datom). was ++ F (take left (filter (has a) l)) ≡ whole) ahead goes

  pub one_taken : (one : List Y) → ((ds : List Datom) → F (d ∷ ds) ≡ one ++ F ds) → d.a ≡ a → 0 < left → new_left ≡ left - 1
      → now ≡ was ++ one → was ++ F (take left (filter (has a) (drop i ds))) ≡ whole → now ++ F (take new_left behind) ≡ whole
  one_taken one parts own some left_is now_is goes =
      ap (λ (l : List Y). l ++ F (take new_left behind)) now_is
      ∙ append_assoc was one (F (take new_left behind))
      ∙ ap (λ (l : List Y). was ++ l) (sym (parts (take new_left behind)))
      ∙ ap (λ (n : ℕ). was ++ F (take n (d ∷ behind))) (sym more)
      ∙ subst (λ b. was ++ F (take left (cond b (d ∷ behind) behind)) ≡ whole) (same own) (first_ahead goes)
    where
      same : d.a ≡ a → has a d ≡ true
      same is = grind (arith, nat_tests, is)

      more : left ≡ suc new_left
      more = omega (arith, some, left_is)

  pub one_passed : d.a ≢ a → new_left ≡ left → now ≡ was → was ++ F (take left (filter (has a) (drop i ds))) ≡ whole
      → now ++ F (take new_left behind) ≡ whole
  one_passed other left_is now_is goes =
      ap (λ (l : List Y). l ++ F (take new_left behind)) now_is ∙ ap (λ (n : ℕ). was ++ F (take n behind)) left_is
      ∙ subst (λ b. was ++ F (take left (cond b (d ∷ behind) behind)) ≡ whole) (differs other) (first_ahead goes)
    where
      differs : d.a ≢ a → has a d ≡ false
      differs not = grind (arith, nat_tests, not)

  pub none_left : left ≡ 0 → new_left ≡ left → now ≡ was → was ++ F (take left (filter (has a) (drop i ds))) ≡ whole
      → now ++ F (take new_left behind) ≡ whole
  none_left none left_is now_is goes =
      ap (λ (l : List Y). l ++ F (take new_left behind)) now_is ∙ ap (λ (n : ℕ). was ++ F (take n behind)) (left_is ∙ none)
      ∙ subst (λ (n : ℕ). was ++ F (take n (filter (has a) (drop i ds))) ≡ whole) none goes

-- ---- the first one under an attribute

pub head_map : {X Y : Type 0} (f : X → Y) (xs : List X) → option_map f (slice_get xs 0) ≡ slice_get (map f xs) 0
head_map f [] = refl
head_map f (x ∷ xs) = refl

module _ (a : ℕ) (ds : List Datom) (i : ℕ) where
  abbrev pub IsAhead : Type 0
  IsAhead = filter (has a) (drop i ds) ≡ filter (has a) ds

  pub first_nowhere : length ds ≤ i → IsAhead → ◌≡◌ {A = Option Datom} None (slice_get (filter (has a) ds) 0)
  first_nowhere past is =
      ap (λ (l : List Datom). slice_get (filter (has a) l) 0) (sym (drop_all i ds past)) ∙ ap (λ (l : List Datom). slice_get l 0) is

  module _ (d : Datom) (below : i < length ds) (at : d ≡ get_or ds i d) (is : IsAhead) where
    stands : filter (has a) (d ∷ drop (i + 1) ds) ≡ filter (has a) ds
    stands = ap (filter (has a)) (sym (drop_more ds i d below ∙ ap (λ (x : Datom). x ∷ drop (i + 1) ds) (sym at))) ∙ is

    pub first_here : d.a ≡ a → Some d ≡ slice_get (filter (has a) ds) 0
    first_here same =
        subst (λ b. slice_get (cond b (d ∷ filter (has a) (drop (i + 1) ds)) (filter (has a) (drop (i + 1) ds))) 0
        ≡ slice_get (filter (has a) ds) 0) (passes same) (ap (λ (l : List Datom). slice_get l 0) stands)
      where
        passes : d.a ≡ a → has a d ≡ true
        passes is = grind (arith, nat_tests, is)

    pub first_later : d.a ≢ a → filter (has a) (drop (i + 1) ds) ≡ filter (has a) ds
    first_later other =
        subst (λ b. cond b (d ∷ filter (has a) (drop (i + 1) ds)) (filter (has a) (drop (i + 1) ds)) ≡ filter (has a) ds) (fails other)
        stands
      where
        fails : d.a ≢ a → has a d ≡ false
        fails not = grind (arith, nat_tests, not)
