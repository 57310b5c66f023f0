-- What AVET is refilled with is what an entry's lists demand.
use Rattle.std.proofs.Common.{◌≡◌, ◌∙◌, ℕ, ◌<◌, ◌≤◌, ◌⊎◌, inl, inr, Bool, true, false, not, ◌&&◌, cond, List, [], ◌∷◌, ◌++◌, refl, sym}
use Rattle.std.proofs.Common.{ap, subst, arith, flat_map, get_or}
use Rattle.std.specs.Prelude.{◌↔◌, Contains, IsTrue, IsFalse, filter}
use Rattle.std.specs.Cmp.{tied_itself}
use Rattle.std.specs.Cmp.Lexicographic.{slice_cmp, lists_total}
use Rattle.std.specs.declared.cmp.Ordering.TheVariants.{Equal}
use Rattle.std.proofs.lemmas.Bool.{true≢false, cases_Bool, cases_lt, eqb-true, eq-eqb, and_parts}
use Rattle.std.proofs.lemmas.List.Elements.{Contains-append_left, Contains-append_right, Contains-append_cases}
use Rattle.fb_values.specs.declared.facts.Datom.{Datom}
use Rattle.fb_values.specs.declared.facts.Entry.{Entry}
use Rattle.fb_values.specs.declared.indexes.Order.{Order}
use Rattle.fb_values.specs.declared.indexes.Order.TheVariants.{Eavt, Aevt, Avet}
use Rattle.fb_values.specs.Orders.{key_of, value_cmp}
use Rattle.fb_values.specs.OrderLaws.{value_cmp_total}
use Rattle.fb_covers.specs.Coverage.{Coverage, covers as held}
use Rattle.fb_values.specs.Lists.{list_in}
use Rattle.fb_model.specs.History.{said}
use Rattle.fb_model.specs.Facts.{facts}
use Rattle.fb_model.specs.Schema.{covers}
use Rattle.fb_model.specs.Lawful.{IsLawful}
use Rattle.fb_model.proofs.OneMoreEntry.{said-push}
use Rattle.fb_model.proofs.Times.{same_keys, one_for_each_key}
use Rattle.view_model.specs.Stands.{IsLive}
use Rattle.seg_tree.specs.Nodes.{tree_datoms}
use Rattle.fb_facts.specs.FactLists.{is_under}
use Rattle.std.specs.List.{All, list_any}
use Rattle.std.proofs.lemmas.List.{get_or_default}
use Rattle.fb_schema.specs.Described.{SchemaStands, describes}
use Rattle.fb_schema.proofs.Described.{described-same}
use Rattle.fb_schema.specs.Tables.{HasCoverage}
use Rattle.fb_schema.proofs.Lookups.{covers-described}
use Rattle.live_index.specs.Growth.{HasNoTwins, is_held}
use Rattle.live_index.specs.Standing.{IsCoverageOf, IsDemanded, IsNext}
use Rattle.live_index.proofs.Members.{from_filter, into_filter, contains-cons, contains_head, contains_tail, contains_none}
use Rattle.fb_view.specs.declared.growth.Older.{Older}
use Rattle.fb_view.specs.declared.growth.Recent.{Recent}
use Rattle.fb_view.specs.SnapshotModel.{Follows}
use Rattle.fb_view.specs.Refills.{missed, all_missed, AreGained}
use Rattle.fb_values.specs.Rising.{IsRising}
use Rattle.fb_values.proofs.Rising.{rises_from}
use Rattle.fb_view.proofs.Standing.{said_early, early_said, coverage_of, same_past}

-- ---- members of many lists

pub from_many : (f : ℕ → List Datom) (xs : List ℕ) (d : Datom) → Contains (flat_map f xs) d → (a : ℕ) × (Contains xs a × Contains (f a) d)
from_many f [] d there = absurd (contains_none d there)
from_many f (x ∷ xs) d there =
    elim (Contains-append_cases (f x) (flat_map f xs) d there) [
      | inl here ↦ (x, (contains_head x xs x refl, here))
      | inr behind ↦ let rest = from_many f xs d behind in (rest.0, (contains_tail x xs rest.0 rest.1.0, rest.1.1))
    ]

pub into_many : (f : ℕ → List Datom) (xs : List ℕ) (a : ℕ) (d : Datom) → Contains xs a → Contains (f a) d → Contains (flat_map f xs) d
into_many f [] a d there is = absurd (contains_none a there)
into_many f (x ∷ xs) a d there is =
    elim (contains-cons x xs a there) [
      | inl same ↦ Contains-append_left (f x) (flat_map f xs) d (subst (λ (b : ℕ). Contains (f b) d) (sym same) is)
      | inr behind ↦ Contains-append_right (f x) (flat_map f xs) d (into_many f xs a d behind is)
    ]

and_false : (b : Bool) → not b ≡ true → b ≡ false
and_false false e = refl
and_false true e = absurd (true≢false (sym e))

-- what a history said has no twins
pub no_twins_of : (h : List Entry) → IsLawful h → (ds : List Datom) → ((d : Datom) → Contains ds d → Contains (said h) d) → HasNoTwins ds
no_twins_of h lawful ds each x y in_x in_y at =
    (one_for_each_key h lawful).same x y (each x in_x) (each y in_y)
    (subst (λ key. slice_cmp value_cmp (key_of Eavt x) key ≡ Equal) (same_keys Eavt x y at)
    (tied_itself (lists_total value_cmp_total) (key_of Eavt x)))

-- ---- what the lists in AEVT have

module _ (h : List Entry) (recent : Recent) (older : Older) (entry : Entry) (follows : Follows h recent older entry) where
  live_said : (d : Datom) → Contains recent.live.aevt d → Contains (said h) d × (older.covered < d.t)
  live_said d there =
      let is = ((follows.stands.history.live_stands Aevt).members d).0 there in
      (is.0.is_said, elim is.1 [ inl later ↦ later | inr bare ↦ absurd (true≢false bare) ])

  said_live : (d : Datom) → Contains (said h) d → older.covered < d.t → Contains recent.live.aevt d
  said_live d there later =
      ((follows.stands.history.live_stands Aevt).members d).1 (record { is_said = there; is_covered = refl }, inl later)

  tree_said : (d : Datom) → Contains (tree_datoms older.roots.aevt) d → Contains (said h) d × (d.t ≤ older.covered)
  tree_said d there =
      said_early h older.covered d follows.stands.history.lawful
      (((follows.stands.history.roots_stand.trees Aevt).members d).0 there).is_said

  said_tree : (d : Datom) → Contains (said h) d → d.t ≤ older.covered → Contains (tree_datoms older.roots.aevt) d
  said_tree d there early =
      ((follows.stands.history.roots_stand.trees Aevt).members d).1
      (record { is_said = early_said h older.covered d follows.stands.history.lawful there early; is_covered = refl })

  -- a missed datom is one of the history, of the attribute, and later than the trees or of an attribute that they do not hold
  missed_parts : (a : ℕ) (d : Datom) → Contains (missed recent older a) d
      → Contains (said h) d × (d.a ≡ a) × ((older.covered < d.t) ⊎ (held older.held Avet d.a ≡ false))
  missed_parts a d there =
      elim (Contains-append_cases (filter (is_under a) recent.live.aevt)
      (cond (held older.held Avet a) [] (filter (is_under a) (tree_datoms older.roots.aevt))) d there) [
        | inl live ↦
            let at = from_filter (is_under a) recent.live.aevt d live in
            let is = live_said d at.0 in
            (is.0, eqb-true d.a a at.1, inl is.1)
        | inr tree ↦
            elim (cases_Bool (held older.held Avet a)) [
              | inl has ↦
                  let P : Bool → Type 0 = λ b. Contains (cond b [] (filter (is_under a) (tree_datoms older.roots.aevt))) d in
                  absurd (contains_none d (subst P has tree))
              | inr bare ↦
                  let P : Bool → Type 0 = λ b. Contains (cond b [] (filter (is_under a) (tree_datoms older.roots.aevt))) d in
                  let at = from_filter (is_under a) (tree_datoms older.roots.aevt) d (subst P bare tree) in
                  let same = eqb-true d.a a at.1 in
                  ((tree_said d at.0).0, same, inr (ap (held older.held Avet) same ∙ bare))
            ]
      ]

  is_missed : (d : Datom) → Contains (said h) d → (older.covered < d.t) ⊎ (held older.held Avet d.a ≡ false)
      → Contains (missed recent older d.a) d
  is_missed d there why =
      elim (cases_lt older.covered d.t) [
        | inl later ↦
            Contains-append_left (filter (is_under d.a) recent.live.aevt)
            (cond (held older.held Avet d.a) [] (filter (is_under d.a) (tree_datoms older.roots.aevt))) d
            (into_filter (is_under d.a) recent.live.aevt d (said_live d there later) (eq-eqb d.a d.a refl))
        | inr early ↦
            elim why [
              | inl later ↦ absurd (omega (arith, later, early))
              | inr bare ↦
                  let P : Bool → Type 0 = λ b. Contains (cond b [] (filter (is_under d.a) (tree_datoms older.roots.aevt))) d in
                  Contains-append_right (filter (is_under d.a) recent.live.aevt)
                  (cond (held older.held Avet d.a) [] (filter (is_under d.a) (tree_datoms older.roots.aevt))) d
                  (subst P (sym bare)
                  (into_filter (is_under d.a) (tree_datoms older.roots.aevt) d (said_tree d there early) (eq-eqb d.a d.a refl)))
            ]
      ]

  pub no_twins_missed : (attributes : List ℕ) → HasNoTwins (all_missed recent older attributes)
  no_twins_missed attributes = no_twins_of h follows.stands.history.lawful (all_missed recent older attributes) was_said
    where
      was_said : (d : Datom) → Contains (all_missed recent older attributes) d → Contains (said h) d
      was_said d there = let at = from_many (missed recent older) attributes d there in (missed_parts at.0 d at.1.1).0

  module _ (after_schema : List Datom) (schema_after : SchemaStands after_schema (h ++ entry ∷ [])) (attributes : List ℕ)
      (gained : AreGained recent.schema after_schema attributes) where
    abbrev after : List Entry
    after = h ++ entry ∷ []

    covers_after : (a : ℕ) → covers after_schema Avet a ≡ covers (facts after) Avet a
    covers_after a = ap (λ ds. covers ds Avet a) schema_after ∙ covers-described (facts after) Avet a

    covers_before : (a : ℕ) → covers recent.schema Avet a ≡ covers (facts h) Avet a
    covers_before a = ap (λ ds. covers ds Avet a) follows.stands.schema_is ∙ covers-described (facts h) Avet a

    gained_parts : (a : ℕ) → Contains attributes a → IsTrue (covers (facts after) Avet a) × IsFalse (covers (facts h) Avet a)
    gained_parts a there =
        let both = and_parts (covers after_schema Avet a) (not (covers recent.schema Avet a)) ((gained a).1 there) in
        (sym (covers_after a) ∙ both.0, sym (covers_before a) ∙ and_false _ both.1)

    is_gained_now : (a : ℕ) → IsTrue (covers (facts after) Avet a) → IsFalse (covers (facts h) Avet a) → Contains attributes a
    is_gained_now a now before = (gained a).0 (ap2 (covers_after a ∙ now) (covers_before a ∙ before))
      where
        ap2 : {p q : Bool} → p ≡ true → q ≡ false → (p && not q) ≡ true
        ap2 {p} {q} e f = ap (λ b. b && not q) e ∙ ap not f

    why_after : (d : Datom) → IsLive after older.covered Avet d → (older.covered < d.t) ⊎ (held older.held Avet d.a ≡ false)
    why_after d live =
        elim live [
          | inl later ↦ inl later
          | inr bare ↦
              inr (follows.stands.held_is Avet d.a
              ∙ ap (λ (past : List Entry). covers (facts past) Avet d.a) (sym (same_past h recent older entry follows)) ∙ bare)
        ]

    live_after : (d : Datom) → (older.covered < d.t) ⊎ (held older.held Avet d.a ≡ false) → IsLive after older.covered Avet d
    live_after d why =
        elim why [
          | inl later ↦ inl later
          | inr bare ↦
              inr (ap (λ (past : List Entry). covers (facts past) Avet d.a) (same_past h recent older entry follows)
              ∙ sym (follows.stands.held_is Avet d.a) ∙ bare)
        ]

    live_before : (d : Datom) → (older.covered < d.t) ⊎ (held older.held Avet d.a ≡ false) → IsLive h older.covered Avet d
    live_before d why =
        elim why [
          | inl later ↦ inl later
          | inr bare ↦ inr (sym (follows.stands.held_is Avet d.a) ∙ bare)
        ]

    said_on : (d : Datom) → Contains (said h) d → Contains (said after) d
    said_on d there =
        subst (λ (ds : List Datom). Contains ds d) (sym (said-push h entry)) (Contains-append_left (said h) entry.datoms d there)

    forth : (d : Datom) → Contains (all_missed recent older attributes) d
        → Contains (said h) d × IsDemanded after older.covered Avet d × (IsDemanded h older.covered Avet d → ⊥)
    forth d there =
        let at = from_many (missed recent older) attributes d there in
        let is = missed_parts at.0 d at.1.1 in
        let turned = gained_parts d.a (subst (Contains attributes) (sym is.1) at.1.0) in (
          is.0,
          (record { is_said = said_on d is.0; is_covered = turned.0 }, live_after d is.2),
          λ demanded. true≢false (sym demanded.0.is_covered ∙ turned.1),
        )

    back : (d : Datom) → Contains (said h) d → IsDemanded after older.covered Avet d → (IsDemanded h older.covered Avet d → ⊥)
        → Contains (all_missed recent older attributes) d
    back d there now before =
        let why = why_after d now.1 in
        elim (cases_Bool (covers (facts h) Avet d.a)) [
          | inl was ↦ absurd (before (record { is_said = there; is_covered = was }, live_before d why))
          | inr was_not ↦
              into_many (missed recent older) attributes d.a d (is_gained_now d.a now.0.is_covered was_not) (is_missed d there why)
        ]

    pub refills : (coverage : Coverage) (refill : List Datom) → HasCoverage coverage after_schema → IsRising Avet refill
        → ((d : Datom) → Contains refill d ↔ (Contains (all_missed recent older attributes) d × IsTrue (is_held coverage Avet d)))
        → IsNext h older.covered entry coverage refill
    refills coverage refill has rising members = record {
      lawful = follows.stands.history.lawful;
      bound = follows.stands.history.roots_stand.bound;
      next = follows.next;
      coverage_is = coverage_is;
      refill_is = record {
        rising = rises_from Avet refill rising;
        members = λ d. (
          λ there. forth d ((members d).0 there).0,
          λ is. (members d).1 (back d is.0 is.1 is.2, coverage_is Avet d.a ∙ is.1.0.is_covered),
        );
      };
    }
      where
        coverage_is : (order : Order) (a : ℕ) → held coverage order a ≡ covers (facts after) order a
        coverage_is = coverage_of after_schema after coverage schema_after has

-- ---- an entry that says nothing of the schema

same_schema : (h : List Entry) (entry : Entry) (before now : List Datom) → list_any describes entry.datoms ≡ false → SchemaStands before h
    → SchemaStands now (h ++ entry ∷ []) → now ≡ before
same_schema h entry before now none stands stands_after = stands_after ∙ described-same h entry none ∙ sym stands

module _ (h : List Entry) (recent : Recent) (older : Older) (entry : Entry) (follows : Follows h recent older entry) (after : List Datom)
    (schema_after : SchemaStands after (h ++ entry ∷ [])) (none : list_any describes entry.datoms ≡ false)
    (coverage : Coverage) (has : HasCoverage coverage after) where
  none_gained : AreGained recent.schema after []
  none_gained a = (
    λ is. absurd
        (never (covers recent.schema Avet a) (subst (λ (ds : List Datom). (covers ds Avet a && not (covers recent.schema Avet a)) ≡ true)
        (same_schema h entry recent.schema after none follows.stands.schema_is schema_after) is)),
    λ there. absurd (contains_none a there),
  )
    where
      never : (b : Bool) → (b && not b) ≡ true → ⊥
      never true is = true≢false (sym is)
      never false is = true≢false (sym is)

  -- lets AVET gain nothing
  pub nothing_refills : IsNext h older.covered entry coverage []
  nothing_refills =
      refills h recent older entry follows after schema_after [] none_gained coverage [] has tt
      (λ d. (λ there. absurd (contains_none d there), λ is. is.0))

  -- and the indexes hold what they held
  pub coverage_stays : IsCoverageOf coverage (facts h)
  coverage_stays =
      coverage_of recent.schema h coverage follows.stands.schema_is
      (subst (HasCoverage coverage) (same_schema h entry recent.schema after none follows.stands.schema_is schema_after) has)

-- ---- live lists and what refills them

-- the lists have only what the indexes hold
pub lists_held : (h : List Entry) (recent : Recent) (older : Older) (entry : Entry) → Follows h recent older entry → (coverage : Coverage)
    → IsCoverageOf coverage (facts h) → (order : Order) → All (λ d. IsTrue (is_held coverage order d)) (list_in recent.live order)
lists_held h recent older entry follows coverage covered order k d within =
    let list = list_in recent.live order in
    covered order (get_or list k d).a
    ∙ (((follows.stands.history.live_stands order).members (get_or list k d)).0
    (k, within, get_or_default list k (get_or list k d) d within)).0.is_covered
