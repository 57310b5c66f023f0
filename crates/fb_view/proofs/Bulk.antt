-- What a history says behind the entries of the trees, taken in bulk, is what the live lists demand.
use Rattle.std.proofs.Common.{◌≡◌, ◌∙◌, ℕ, ◌<◌, ◌≤◌, inl, inr, Bool, true, false, not, ◌&&◌, cond, List, [], ◌∷◌, ◌++◌, length, refl, sym}
use Rattle.std.proofs.Common.{ap, subst, arith, leb, length-append, flat_map}
use Rattle.std.specs.Prelude.{Contains, IsTrue, IsFalse, filter}
use Rattle.std.proofs.lemmas.Bool.{true≢false, cases_Bool, cases_lt, and_parts, and_from, eqb-true, eq-eqb, le-leb}
use Rattle.std.proofs.lemmas.List.Elements.{filter-append, Contains-append_left, Contains-append_right, Contains-append_cases}
use Rattle.fb_values.specs.declared.facts.Datom.{Datom}
use Rattle.fb_values.specs.declared.facts.Entry.{Entry}
use Rattle.fb_values.specs.declared.indexes.Order.{Order}
use Rattle.fb_values.specs.declared.indexes.Order.TheVariants.{Eavt, Aevt, Avet, Vaet}
use Rattle.fb_values.specs.Lists.{Lists, list_in}
use Rattle.fb_values.proofs.Rising.{rises_from}
use Rattle.fb_covers.specs.Coverage.{Coverage, covers as held}
use Rattle.fb_facts.specs.FactLists.{is_under}
use Rattle.fb_model.specs.Rising.{IsRisingListOf}
use Rattle.fb_model.specs.History.{basis, said, upto}
use Rattle.fb_model.specs.Facts.{facts}
use Rattle.fb_model.specs.Schema.{covers, schema_in}
use Rattle.fb_model.specs.Lawful.{IsLawful}
use Rattle.fb_model.proofs.LawfulHistories.{IsLawful-length}
use Rattle.fb_model.proofs.Times.{said-upto}
use Rattle.fb_schema.specs.Described.{SchemaStands}
use Rattle.fb_schema.specs.Tables.{HasCoverage}
use Rattle.fb_schema.proofs.Lookups.{schema_in-described, covers-described}
use Rattle.live_index.specs.Growth.{HasNoTwins, IsGrown, IsOffered}
use Rattle.live_index.specs.Standing.{IsCoverageOf}
use Rattle.live_index.proofs.Members.{from_filter, into_filter, contains_none, contains_head, contains_tail}
use Rattle.seg_tree.specs.Indexes.{trees_of}
use Rattle.seg_tree.specs.Nodes.{tree_datoms}
use Rattle.view_model.specs.Stands.{IsIndexed, IsLive}
use Rattle.fb_view.specs.declared.growth.Older.{Older}
use Rattle.fb_view.specs.declared.growth.Recent.{Recent}
use Rattle.fb_view.specs.SnapshotModel.{model_snapshot, Stands}
use Rattle.fb_view.specs.Refills.{HasGained, gained_of}
use Rattle.fb_view.proofs.Beginnings.{upto-upto}
use Rattle.fb_view.proofs.Indexes.{stays_held}
use Rattle.fb_view.proofs.Refilling.{from_many, into_many, no_twins_of}
use Rattle.fb_view.proofs.Standing.{said_early, early_said, coverage_of}

-- what was gained up to a schema, and from it on
pub gained_on : (before mid after : List Datom) (attributes more : List ℕ) → HasGained before mid attributes
    → HasGained mid after more → HasGained before after (attributes ++ more)
gained_on before mid after attributes more first then a is =
    let parts = and_parts (covers after Avet a) (not (covers before Avet a)) is in
    elim (cases_Bool (covers mid Avet a)) [
      | inl has ↦ Contains-append_left attributes more a (first a (and_from (covers mid Avet a) (not (covers before Avet a)) has parts.1))
      | inr bare ↦
          Contains-append_right attributes more a (then a (and_from (covers after Avet a) (not (covers mid Avet a)) parts.0 (ap not bare)))
    ]

module _ (h : List Entry) (recent : Recent) (older : Older) (lawful : IsLawful h) (within : older.covered < length h)
    (was : Stands (model_snapshot (upto h older.covered) recent older)) where
  abbrev c : ℕ
  c = older.covered

  abbrev past : List Entry
  past = upto h older.covered

  same_past : upto past c ≡ past
  same_past = upto-upto h c

  bound : c ≤ basis h
  bound = let counted = IsLawful-length h lawful in omega (arith, counted, within)

  held_at : (order : Order) (a : ℕ) → held older.held order a ≡ covers (facts past) order a
  held_at order a = was.held_is order a ∙ ap (λ (g : List Entry). covers (facts g) order a) same_past

  -- nothing was live
  none_live : (order : Order) (d : Datom) → Contains (list_in recent.live order) d → ⊥
  none_live order d there =
      let is = ((was.history.live_stands order).members d).0 there in
      elim is.1 [
        | inl later ↦ let early = (said_early h c d lawful is.0.is_said).1 in omega (arith, early, later)
        | inr bare ↦ true≢false (sym is.0.is_covered ∙ ap (λ (g : List Entry). covers (facts g) order d.a) (sym same_past) ∙ bare)
      ]

  pub nothing_live : (order : Order) → list_in recent.live order ≡ []
  nothing_live order = empty (list_in recent.live order) (none_live order)
    where
      empty : (ds : List Datom) → ((d : Datom) → Contains ds d → ⊥) → ds ≡ []
      empty [] none = refl
      empty (d ∷ ds) none = absurd (none d (contains_head d ds d refl))

  tree_said : (d : Datom) → Contains (tree_datoms older.roots.aevt) d → Contains (said h) d × (d.t ≤ c)
  tree_said d there =
      let is = ((was.history.roots_stand.trees Aevt).members d).0 there in
      said_early h c d lawful (subst (λ (g : List Entry). Contains (said g) d) same_past is.is_said)

  said_tree : (d : Datom) → Contains (said h) d → d.t ≤ c → Contains (tree_datoms older.roots.aevt) d
  said_tree d there early =
      ((was.history.roots_stand.trees Aevt).members d).1 (record {
        is_said = subst (λ (g : List Entry). Contains (said g) d) (sym same_past) (early_said h c d lawful there early);
        is_covered = refl;
      })

  module _ (found : List Datom) (all : said past ++ found ≡ said h) where
    abbrev early : Datom → Bool
    early d = leb d.t c

    none_early : length (filter early found) ≡ 0
    none_early =
        let passes : filter early (said past) ≡ said past =
        all_pass (said past) (λ d there. le-leb d.t c (said_early h c d lawful there).1) in
        let parts : said past ≡ filter early (said past) ++ filter early found =
        said-upto h lawful c ∙ ap (filter early) (sym all) ∙ filter-append early (said past) found in
        omega (arith, ap length parts ∙ length-append (filter early (said past)) (filter early found), ap length passes)
      where
        all_pass : (ds : List Datom) → ((d : Datom) → Contains ds d → early d ≡ true) → filter early ds ≡ ds
        all_pass [] each = refl
        all_pass (d ∷ ds) each =
            let rest = all_pass ds (λ x there. each x (contains_tail d ds x there)) in
            rw (each d (contains_head d ds d refl)) (ap (λ (l : List Datom). d ∷ l) rest)

    found_later : (d : Datom) → Contains found d → Contains (said h) d × (c < d.t)
    found_later d there = (
      subst (λ (ds : List Datom). Contains ds d) all (Contains-append_right (said past) found d there),
      elim (cases_lt c d.t) [
        | inl later ↦ later
        | inr before ↦ absurd (some_none (filter early found) none_early (into_filter early found d there (le-leb d.t c before)))
      ],
    )
      where
        some_none : (ds : List Datom) → length ds ≡ 0 → Contains ds d → ⊥
        some_none ds none there = let w = there.1 in omega (arith, none, w)

    later_found : (d : Datom) → Contains (said h) d → c < d.t → Contains found d
    later_found d there later =
        elim (Contains-append_cases (said past) found d (subst (λ (ds : List Datom). Contains ds d) (sym all) there)) [
          | inl early ↦ let at = (said_early h c d lawful early).1 in absurd (omega (arith, at, later))
          | inr behind ↦ behind
        ]

    module _ (schema : List Datom) (stands : SchemaStands schema h) (coverage : Coverage) (has : HasCoverage coverage schema)
        (attributes : List ℕ) (gained : HasGained recent.schema schema attributes) where
      covers_now : IsCoverageOf coverage (facts h)
      covers_now = coverage_of schema h coverage stands has

      abbrev refill : List Datom
      refill = flat_map (gained_of coverage older) attributes

      -- said, of an attribute that AVET holds now and did not hold then
      abbrev IsFiller : Datom → Type 0
      IsFiller d = Contains (said h) d × IsTrue (covers (facts h) Avet d.a) × IsFalse (covers (facts past) Avet d.a)

      refilled : (d : Datom) → Contains refill d → IsFiller d
      refilled d there =
          let at = from_many (gained_of coverage older) attributes d there in go at.0 at.1.1
        where
          go : (a : ℕ) → Contains (gained_of coverage older a) d → IsFiller d
          go a is =
              let P : Bool → Type 0 = λ b. Contains (cond b (filter (is_under a) (tree_datoms older.roots.aevt)) []) d in
              elim (cases_Bool (not (held older.held Avet a) && held coverage Avet a)) [
                | inl yes_now ↦
                    let parts = and_parts (not (held older.held Avet a)) (held coverage Avet a) yes_now in
                    let member = from_filter (is_under a) (tree_datoms older.roots.aevt) d (subst P yes_now is) in
                    let same = eqb-true d.a a member.1 in (
                      (tree_said d member.0).0,
                      ap (covers (facts h) Avet) same ∙ sym (covers_now Avet a) ∙ parts.1,
                      ap (covers (facts past) Avet) same ∙ sym (held_at Avet a) ∙ is_not (held older.held Avet a) parts.0,
                    )
                | inr other ↦ absurd (contains_none d (subst P other is))
              ]
            where
              is_not : (b : Bool) → not b ≡ true → b ≡ false
              is_not false e = refl
              is_not true e = absurd (true≢false (sym e))

      refill_has : (d : Datom) → IsFiller d → d.t ≤ c → Contains refill d
      refill_has d is early =
          let P : Bool → Type 0 = λ b. Contains (cond b (filter (is_under d.a) (tree_datoms older.roots.aevt)) []) d in
          let bare = ap not (held_at Avet d.a ∙ is.2) in
          let fills = and_from (not (held older.held Avet d.a)) (held coverage Avet d.a) bare (covers_now Avet d.a ∙ is.1) in
          into_many (gained_of coverage older) attributes d.a d
          (gained d.a (both (schema_now Avet d.a ∙ is.1) (schema_then Avet d.a ∙ is.2)))
          (subst P (sym fills)
          (into_filter (is_under d.a) (tree_datoms older.roots.aevt) d (said_tree d is.0 early) (eq-eqb d.a d.a refl)))
        where
          schema_now : (order : Order) (a : ℕ) → covers schema order a ≡ covers (facts h) order a
          schema_now order a = ap (λ (ds : List Datom). covers ds order a) stands ∙ covers-described (facts h) order a

          schema_then : (order : Order) (a : ℕ) → covers recent.schema order a ≡ covers (facts past) order a
          schema_then order a = ap (λ (ds : List Datom). covers ds order a) was.schema_is ∙ covers-described (facts past) order a

          both : {p q : Bool} → p ≡ true → q ≡ false → (p && not q) ≡ true
          both {p} {q} e f = ap (λ b. b && not q) e ∙ ap not f

      pub replay_single : (order : Order) → HasNoTwins (list_in recent.live order ++ refill ++ found)
      replay_single order = no_twins_of h lawful (list_in recent.live order ++ refill ++ found) was_said
        where
          was_said : (d : Datom) → Contains (list_in recent.live order ++ refill ++ found) d → Contains (said h) d
          was_said d there = elim (Contains-append_cases (list_in recent.live order ++ refill) found d there) [
            | inl first ↦ elim (Contains-append_cases (list_in recent.live order) refill d first) [
              | inl old ↦ absurd (none_live order d old)
              | inr filled ↦ (refilled d filled).0
            ]
            | inr behind ↦ (found_later d behind).0
          ]

      module _ (live : Lists)
          (grown : (order : Order) → IsGrown order coverage (list_in recent.live order) refill found (list_in live order)) where
        forth : (order : Order) (d : Datom) → Contains (list_in live order) d → IsIndexed h order d × IsLive h c order d
        forth order d there =
            let m = ((grown order).members d).0 there in
            let covered : IsTrue (covers (facts h) order d.a) = sym (covers_now order d.a) ∙ m.1 in
            elim m.0 [
              | inl first ↦ elim first [
                | inl old ↦ absurd (none_live order d old)
                | inr filled ↦
                    let is = refilled d filled.1 in
                    let bare = ap (λ (o : Order). covers (facts past) o d.a) filled.0 ∙ is.2 in
                    (record { is_said = is.0; is_covered = covered }, inr bare)
              ]
              | inr behind ↦ let is = found_later d behind in (record { is_said = is.0; is_covered = covered }, inl is.1)
            ]

        back : (order : Order) (d : Datom) → IsIndexed h order d → IsLive h c order d → Contains (list_in live order) d
        back order d is alive = ((grown order).members d).1 (offered order is alive, covers_now order d.a ∙ is.is_covered)
          where
            offered : (o : Order) → IsIndexed h o d → IsLive h c o d → IsOffered o (list_in recent.live o) refill found d
            offered o at (inl later) = inr (later_found d at.is_said later)
            offered o at (inr bare) = elim (cases_lt c d.t) [
              | inl later ↦ inr (later_found d at.is_said later)
              | inr early ↦ inl (inr (in_avet o at early bare))
            ]
              where
                in_avet : (o : Order) → IsIndexed h o d → d.t ≤ c → IsFalse (covers (facts past) o d.a) → (o ≡ Avet) × Contains refill d
                in_avet Eavt at early bare = absurd (true≢false bare)
                in_avet Aevt at early bare = absurd (true≢false bare)
                in_avet Avet at early bare = (refl, refill_has d (at.is_said, at.is_covered, bare) early)
                in_avet Vaet at early bare =
                    let was_held = stays_held h past d lawful was.history.lawful at (early_said h c d lawful at.is_said early) in
                    absurd (true≢false (sym was_held ∙ bare))

        pub replay_stands : Stands (model_snapshot h (record { schema = schema; live = live }) older)
        replay_stands = record {
          history = record {
            entries_are = refl;
            lawful = lawful;
            schema_is = ap schema_in stands ∙ schema_in-described (facts h);
            roots_stand = record {
              bound = bound;
              trees = λ order.
                  let tree = list_in (trees_of older.roots) order in
                  subst (λ (g : List Entry). IsRisingListOf order tree (IsIndexed g order)) same_past (was.history.roots_stand.trees order);
            };
            live_stands = λ order. record {
              rising = rises_from order (list_in live order) (grown order).rising;
              members = λ d. (forth order d, λ is. back order d is.0 is.1);
            };
          };
          schema_is = stands;
          held_is = held_at;
          now_is = was.now_is;
        }
