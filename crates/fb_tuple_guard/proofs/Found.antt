-- Who shares a tuple is found among those that had one of its members before, and those that are given it.
use Rattle.std.proofs.Common.{◌≡◌, ◌⊎◌, inl, inr, ℕ, Bool, true, false, cond, not, ◌&&◌, List, [], ◌∷◌, refl, ap, sym, ◌∙◌, subst}
use Rattle.std.proofs.Common.{Option, Some, None}
use Rattle.std.specs.Prelude.{Contains, filter, nat_eq, slice_get, option_map}
use Rattle.std.specs.List.{list_any}
use Rattle.std.specs.Option.{option_map_or}
use Rattle.std.specs.Ordering.{is_eq, is_lt}
use Rattle.std.proofs.lemmas.Bool.{true≢false, and_parts, and_from, or_from, eqb-true, eq-eqb}
use Rattle.std.proofs.lemmas.Option.{slice_get-map}
use Rattle.std.proofs.lemmas.List.Elements.{Contains-append_cases}
use Rattle.fb_values.specs.Orders.{value_cmp}
use Rattle.fb_values.specs.declared.facts.Datom.{Datom}
use Rattle.fb_values.specs.declared.facts.Entry.{Entry}
use Rattle.fb_values.specs.declared.facts.Value.{Value}
use Rattle.fb_model.specs.History.{said}
use Rattle.fb_model.specs.Facts.{facts, standing, values_of, value_eq}
use Rattle.fb_model.specs.Schema.{is_about}
use Rattle.fb_model.proofs.Members.{any_member, some_member, kept, standing_member}
use Rattle.fb_model.proofs.Triples.{standing-append, not_followed, value_eq-refl}
use Rattle.tx_after.specs.After.{after}
use Rattle.tuple_model.specs.Tuples.{Tuple, tuple_cmp, tuple_of, least_value}
use Rattle.tuple_model.specs.UniqueTuples.{is_whole, is_shared_by}
use Rattle.tuple_model.proofs.Members.{here, there, map_member}
use Rattle.tuple_model.proofs.Rows.{tuple_cmp-Equal}
use Rattle.fb_tuple_guard.specs.Sharing.{has_value, HasAllWith}
use Rattle.fb_tuple_guard.specs.Sought.{IsMember}
use Rattle.fb_tuple_guard.proofs.Least.{is_equal}

-- ---- members of tuples

least_there : (vs : List Value) (v : Value) → least_value vs ≡ Some v → Contains vs v
least_there [] v is = absurd (cc)
least_there (w ∷ vs) v is = go (least_value vs) (λ x same. least_there vs x same) is
  where
    either : (x : Value) → Contains vs x → (b : Bool) → cond b (Some x) (Some w) ≡ Some v → Contains (w ∷ vs) v
    either x inside true same = there w v vs (subst (λ (z : Value). Contains vs z) (cc) inside)
    either x inside false same = subst (λ (z : Value). Contains (w ∷ vs) z) (cc) (here w vs)

    go : (least : Option Value) → ((x : Value) → least ≡ Some x → Contains vs x)
        → option_map_or (λ x. cond (is_lt (value_cmp x w)) (Some x) (Some w)) least (Some w) ≡ Some v → Contains (w ∷ vs) v
    go None inside same = subst (λ (z : Value). Contains (w ∷ vs) z) (cc) (here w vs)
    go (Some x) inside same = either x (inside x refl) (is_lt (value_cmp x w)) same

-- the entity has the value
record HasFact (held : List Datom) (e a : ℕ) (v : Value) : Type 0 where
  fact : Datom
  is_there : Contains held fact
  e_is : fact.e ≡ e
  a_is : fact.a ≡ a
  v_is : fact.v ≡ v

has_fact : (held : List Datom) (e a : ℕ) (v : Value) → least_value (values_of held e a) ≡ Some v → HasFact held e a v
has_fact held e a v least =
    let from = map_member (λ (d : Datom). d.v) (filter (is_about e a) held) v (least_there (values_of held e a) v least) in
    let is = kept (is_about e a) held from.0 from.1 in
    let parts = and_parts (nat_eq from.0.e e) (nat_eq from.0.a a) is.passes in
    record {
      fact = from.0;
      is_there = is.member;
      e_is = eqb-true from.0.e e parts.0;
      a_is = eqb-true from.0.a a parts.1;
      v_is = from.2;
    }

member_least : (held : List Datom) (attrs : List ℕ) (e a : ℕ) (v : Value) → IsMember attrs (tuple_of held attrs e) a v
    → least_value (values_of held e a) ≡ Some v
member_least held attrs e a v (place, attr, member) =
    let same : Some (least_value (values_of held e a)) ≡ Some (Some v) =
    ap (option_map (λ b. least_value (values_of held e b))) (sym attr)
    ∙ sym (slice_get-map (λ b. least_value (values_of held e b)) attrs place) ∙ member in
    cc

same_tuple : (held : List Datom) (attrs : List ℕ) (e other : ℕ) → is_shared_by held attrs e other ≡ true
    → tuple_of held attrs e ≡ tuple_of held attrs other
same_tuple held attrs e other is =
    let parts = and_parts (not (nat_eq e other)) _ is in
    let both = and_parts (is_whole (tuple_of held attrs e)) _ parts.1 in
    tuple_cmp-Equal (tuple_of held attrs e) (tuple_of held attrs other) (is_equal _ both.1)

-- ---- who shares a tuple

nothing : (b c : Bool) → (b && (false && c)) ≡ false
nothing true c = refl
nothing false c = refl

pub none_shares : (held : List Datom) (attrs : List ℕ) (e : ℕ) → is_whole (tuple_of held attrs e) ≡ false → (ds : List Datom)
    → list_any (λ (fact : Datom). is_shared_by held attrs e fact.e) ds ≡ false
none_shares held attrs e part [] = refl
none_shares held attrs e part (d ∷ ds) =
    or_from (is_shared_by held attrs e d.e) (list_any (λ (fact : Datom). is_shared_by held attrs e fact.e) ds)
    (ap (λ w. not (nat_eq e d.e) && (w && is_eq (tuple_cmp (tuple_of held attrs e) (tuple_of held attrs d.e)))) part
    ∙ nothing (not (nat_eq e d.e)) (is_eq (tuple_cmp (tuple_of held attrs e) (tuple_of held attrs d.e))))
    (none_shares held attrs e part ds)

module _ (h : List Entry) (changes : List Datom) (attrs : List ℕ) (e a : ℕ) (v : Value)
    (member : IsMember attrs (tuple_of (after h changes) attrs e) a v) where
  abbrev held : List Datom
  held = after h changes

  abbrev shares : Datom → Bool
  shares fact = is_shared_by held attrs e fact.e

  abbrev met : Datom → Bool
  met d = has_value a v d && is_shared_by held attrs e d.e

  -- the other has the member
  other_fact : (other : ℕ) → is_shared_by held attrs e other ≡ true → HasFact held other a v
  other_fact other is =
      has_fact held other a v
      (member_least held attrs other a v
      (member.0, member.1, ap (λ (t : Tuple). slice_get t member.0) (sym (same_tuple held attrs e other is)) ∙ member.2))

  came : (d : Datom) → Contains held d → Contains (facts h) d ⊎ Contains changes d
  came d is =
      elim (Contains-append_cases (filter (not_followed changes) (facts h)) (standing changes) d
      (subst (λ l. Contains l d) (standing-append (said h) changes) is)) [
        | inl old ↦ inl (kept (not_followed changes) (facts h) d old).member
        | inr new ↦ inr (standing_member changes d new)
      ]

  pub met_shares : (ds : List Datom) → list_any met ds ≡ true → list_any shares held ≡ true
  met_shares ds some =
      let d = some_member met ds some in
      let is = (and_parts (has_value a v d.0) (is_shared_by held attrs e d.0.e) d.2).1 in
      let has = other_fact d.0.e is in
      any_member shares held has.fact has.is_there (ap (is_shared_by held attrs e) has.e_is ∙ is)

  shares_met : (had : List Datom) → HasAllWith h a v had → list_any shares held ≡ true
      → (list_any met had ≡ true) ⊎ (list_any met changes ≡ true)
  shares_met had all some =
      let f = some_member shares held some in
      let has = other_fact f.0.e f.2 in
      let valued : has_value a v has.fact ≡ true =
      and_from _ _ (eq-eqb has.fact.a a has.a_is) (ap (λ (w : Value). value_eq w v) has.v_is ∙ value_eq-refl v) in
      let passes : met has.fact ≡ true = and_from _ _ valued (ap (is_shared_by held attrs e) has.e_is ∙ f.2) in
      elim (came has.fact has.is_there) [
        | inl old ↦ inl (any_member met had has.fact (all has.fact old valued) passes)
        | inr new ↦ inr (any_member met changes has.fact new passes)
      ]

  -- where none of the former is met, it is met among the latter
  pub met_else : (had : List Datom) → HasAllWith h a v had → list_any met had ≡ false → list_any met changes ≡ list_any shares held
  met_else had all none = go (list_any met changes) refl (list_any shares held) refl
    where
      go : (b : Bool) → list_any met changes ≡ b → (c : Bool) → list_any shares held ≡ c → b ≡ c
      go true is true also = refl
      go false is false also = refl
      go true is false also = absurd (true≢false (sym (met_shares changes is) ∙ also))
      go false is true also =
          elim (shares_met had all also) [
            | inl first ↦ absurd (true≢false (sym first ∙ none))
            | inr second ↦ absurd (true≢false (sym second ∙ is))
          ]
