-- Live lists that stand for a history and grow by its next entry stand for the history with it.
use Rattle.std.proofs.Common.{◌≡◌, ◌∙◌, ℕ, ◌+◌, ◌<◌, ◌⊎◌, inl, inr, Bool, true, false, not, cond, leb, List, [], ◌∷◌, ◌++◌, refl, sym, ap}
use Rattle.std.proofs.Common.{subst, arith, eqb, Option, Some, None}
use Rattle.std.specs.Prelude.{Contains, IsTrue, IsFalse, is_some, option_and_then}
use Rattle.std.specs.Option.{option_map_or}
use Rattle.std.specs.declared.cmp.Ordering.TheVariants.{Equal}
use Rattle.std.specs.Cmp.{tied_itself}
use Rattle.std.specs.Cmp.Lexicographic.{slice_cmp, lists_total}
use Rattle.std.proofs.lemmas.Bool.{true≢false, cases_Bool, cases_lt, eqb-true, leb-true}
use Rattle.std.proofs.lemmas.List.Elements.{Contains-append_left, Contains-append_right, Contains-append_cases}
use Rattle.fb_values.specs.declared.facts.Datom.{Datom}
use Rattle.fb_values.specs.declared.facts.Entry.{Entry}
use Rattle.fb_values.specs.declared.indexes.Order.{Order}
use Rattle.fb_values.specs.declared.indexes.Order.TheVariants.{Eavt, Aevt, Avet, Vaet}
use Rattle.fb_values.specs.Orders.{key_of, value_cmp}
use Rattle.fb_values.specs.OrderLaws.{value_cmp_total}
use Rattle.fb_covers.specs.Coverage.{Coverage}
use Rattle.fb_values.specs.Lists.{Lists, list_in}
use Rattle.fb_numbers.specs.Numbers.{ident, value_type, cardinality, unique, is_component, index, type_ref}
use Rattle.fb_model.specs.History.{basis, said, upto}
use Rattle.fb_model.specs.Facts.{facts, holds, is_of, standing}
use Rattle.fb_model.specs.Schema.{covers, is_held, attribute_from, is_attribute, keyword_of, entity_of, truth_of, entity_in}
use Rattle.fb_model.specs.Laws.{facts_with}
use Rattle.fb_model.specs.Lawful.{IsLawfulAfter}
use Rattle.fb_values.specs.Rising.{IsRising}
use Rattle.fb_values.proofs.Rising.{rises_from, rising_from}
use Rattle.fb_model.proofs.OneMoreEntry.{said-push, upto-append}
use Rattle.fb_model.proofs.LawfulHistories.{IsLawful-length, IsLawful-push}
use Rattle.fb_model.proofs.Invariants.{facts-push}
use Rattle.fb_model.proofs.SchemaHistories.{attribute_stays, none_about, fixed_forbidden}
use Rattle.fb_model.proofs.Untouched.{value_of-untouched}
use Rattle.fb_model.proofs.Members.{member_passes, any_member}
use Rattle.fb_model.proofs.Triples.{is_of-true, holds-facts}
use Rattle.fb_model.proofs.Times.{own_t, said_t, same_keys, one_for_each_key}
use Rattle.fb_model.proofs.KnownFacts.{said_installed}
use Rattle.view_model.specs.Stands.{IsLive, LiveStands}
use Rattle.live_index.specs.Growth.{HasNoTwins, IsGrown, IsOffered, is_held as held_of}
use Rattle.live_index.specs.Halves.{MayFollow}
use Rattle.live_index.proofs.Members.{contains_none}
use Rattle.live_index.proofs.Together.{standing_last, last_stands, rising_by_time, said_by_time}
use Rattle.live_index.specs.Standing.{IsDemanded, IsNext}

-- ---- VAET holds an attribute from its beginning

held_from : (e : ℕ) (name : Option (List ℕ)) (kind count uniqueness : Option ℕ) (component indexed : Bool)
    → is_some (attribute_from e name kind count uniqueness component indexed) ≡ true
    → option_map_or (is_held Vaet) (attribute_from e name kind count uniqueness component indexed) false
    ≡ option_map_or (λ k. eqb k type_ref) kind false
held_from e None kind count uniqueness component indexed there = absurd (true≢false (sym there))
held_from e (Some n) None count uniqueness component indexed there = absurd (true≢false (sym there))
held_from e (Some n) (Some k) None uniqueness component indexed there = absurd (true≢false (sym there))
held_from e (Some n) (Some k) (Some c) uniqueness component indexed there = refl

covers-kind : (facts : List Datom) (a : ℕ) → is_attribute facts a ≡ true
    → covers facts Vaet a ≡ option_map_or (λ k. eqb k type_ref) (entity_of facts a value_type) false
covers-kind facts a there =
    held_from a (keyword_of facts a ident) (entity_of facts a value_type) (entity_of facts a cardinality) (entity_of facts a unique)
    (truth_of facts a is_component) (truth_of facts a index) there

covers-stays : (h : List Entry) (entry : Entry) (a : ℕ) → IsLawfulAfter h entry → is_attribute (facts h) a ≡ true
    → covers (facts_with h entry) Vaet a ≡ covers (facts h) Vaet a
covers-stays h entry a next installed =
    covers-kind (facts_with h entry) a (attribute_stays h entry a next installed)
    ∙ ap (λ (o : Option ℕ). option_map_or (λ k. eqb k type_ref) o false)
    (ap (option_and_then entity_in) (value_of-untouched (said h) entry.datoms a value_type
    (none_about (facts h) a value_type (fixed_forbidden (facts h) a value_type installed refl) entry.datoms next.allowed_changes)))
    ∙ sym (covers-kind (facts h) a installed)

-- ---- the lists

module _ (h : List Entry) (c : ℕ) (entry : Entry) (coverage : Coverage) (refill : List Datom) (is : IsNext h c entry coverage refill) where
  abbrev after : List Entry
  after = h ++ entry ∷ []

  same_past : upto after c ≡ upto h c
  same_past = upto-append h (entry ∷ []) c (let counted = IsLawful-length h is.lawful in let bound = is.bound in omega arith)

  live_on : (order : Order) (d : Datom) → IsLive h c order d → IsLive after c order d
  live_on order d = subst (λ (before : List Entry). (c < d.t) ⊎ IsFalse (covers (facts before) order d.a)) (sym same_past)

  live_back : (order : Order) (d : Datom) → IsLive after c order d → IsLive h c order d
  live_back order d = subst (λ (before : List Entry). (c < d.t) ⊎ IsFalse (covers (facts before) order d.a)) same_past

  said_before : (d : Datom) → Contains (said h) d → Contains (said after) d
  said_before d there =
      subst (λ (ds : List Datom). Contains ds d) (sym (said-push h entry)) (Contains-append_left (said h) entry.datoms d there)

  said_now : (d : Datom) → Contains entry.datoms d → Contains (said after) d
  said_now d there =
      subst (λ (ds : List Datom). Contains ds d) (sym (said-push h entry)) (Contains-append_right (said h) entry.datoms d there)

  later : (d : Datom) → Contains entry.datoms d → c < d.t
  later d there =
      let own = eqb-true d.t (basis h + 1) (member_passes (λ x. eqb x.t (basis h + 1)) entry.datoms d (own_t h entry is.next) there) in
      let bound = is.bound in
      omega arith

  -- an older datom that a list other than AVET demands now was demanded before
  covered_before : (order : Order) (d : Datom) → (order ≡ Avet → ⊥) → Contains (said h) d → IsTrue (covers (facts after) order d.a)
      → IsTrue (covers (facts h) order d.a)
  covered_before Eavt d other there covered = covered
  covered_before Aevt d other there covered = covered
  covered_before Avet d other there covered = absurd (other refl)
  covered_before Vaet d other there covered =
      let installed : is_attribute (facts h) d.a ≡ true =
      member_passes (λ x. is_attribute (facts h) x.a) (said h) d (said_installed h is.lawful) there in
      sym (covers-stays h entry d.a is.next installed) ∙ (ap (λ (ds : List Datom). covers ds Vaet d.a) (sym (facts-push h entry)) ∙ covered)

  -- what the history with the entry said has no twins
  no_twins_said : (ds : List Datom) → ((d : Datom) → Contains ds d → Contains (said after) d) → HasNoTwins ds
  no_twins_said ds each x y in_x in_y at =
      (one_for_each_key after (IsLawful-push h entry is.lawful is.next)).same x y (each x in_x) (each y in_y)
      (subst (λ key. slice_cmp value_cmp (key_of Eavt x) key ≡ Equal) (same_keys Eavt x y at)
      (tied_itself (lists_total value_cmp_total) (key_of Eavt x)))

  -- with a datom the later ones of its triple are demanded
  demanded_later : (g : List Entry) (order : Order) (x y : Datom) → IsDemanded g c order x → Contains (said g) y
      → is_of x.e x.a x.v y ≡ true → x.t < y.t → IsDemanded g c order y
  demanded_later g order x y demanded y_in mate later_one =
      let same_a : x.a ≡ y.a = sym (is_of-true x.e x.a x.v y mate).a_is in (
        record { is_said = y_in; is_covered = subst (λ (a : ℕ). IsTrue (covers (facts g) order a)) same_a demanded.0.is_covered },
        elim demanded.1 [
          | inl late ↦ inl (omega (arith, late, later_one))
          | inr bare ↦ inr (subst (λ (a : ℕ). IsFalse (covers (facts (upto g c)) order a)) same_a bare)
        ],
      )

  -- ---- the entry may follow a list of what was said, which has with a datom the later ones of its triple

  module _ (order : Order) (list : List Datom) (rises : IsRising order list)
      (is_said : (d : Datom) → Contains list d → Contains (said h) d)
      (has_later : (x y : Datom) → Contains list x → Contains (said h) y → is_of x.e x.a x.v y ≡ true → x.t < y.t → Contains list y) where
    -- what stands in the list stands in the history
    stands_in_history : (x : Datom) → Contains (standing list) x → Contains (facts h) x
    stands_in_history x there =
        let last = standing_last list x (rising_by_time order list rises) there in
        last_stands (said h) x (said_by_time h is.lawful) (record {
          there = is_said x last.there;
          added = last.added;
          latest = λ y y_in mate. elim (cases_lt x.t y.t) [
            | inl later_one ↦ last.latest y (has_later x y last.there y_in mate later_one) mate
            | inr within ↦ within
          ];
        })

    follows : MayFollow list entry.datoms
    follows = record {
      single = no_twins_said (list ++ entry.datoms) (λ d there. elim (Contains-append_cases list entry.datoms d there) [
        | inl before ↦ said_before d (is_said d before)
        | inr now ↦ said_now d now
      ]);
      later = λ x d x_in d_in mate.
          let early = leb-true x.t (basis h) (member_passes (λ y. leb y.t (basis h)) (said h) x (said_t h is.lawful) (is_said x x_in)) in
          let own = eqb-true d.t (basis h + 1) (member_passes (λ y. eqb y.t (basis h + 1)) entry.datoms d (own_t h entry is.next) d_in) in
          omega (arith, early, own);
      one = λ x d x_in d_in mate.
          let of = is_of-true d.e d.a d.v x mate in
          let own_x = eqb-true x.t (basis h + 1) (member_passes (λ y. eqb y.t (basis h + 1)) entry.datoms x (own_t h entry is.next) x_in) in
          let own_d = eqb-true d.t (basis h + 1) (member_passes (λ y. eqb y.t (basis h + 1)) entry.datoms d (own_t h entry is.next) d_in) in
          no_twins_said entry.datoms said_now x d x_in d_in (record { e = of.e_is; a = of.a_is; v = of.v_is; t = own_x ∙ sym own_d });
      fresh = λ x d x_in d_in mate. retracts d (cases_Bool d.added) d_in
          (holds-facts h d.e d.a d.v ∙ any_member (is_of d.e d.a d.v) (facts h) x (stands_in_history x x_in) mate);
    }
      where
        retracts : (d : Datom) → (d.added ≡ true) ⊎ (d.added ≡ false) → Contains entry.datoms d → holds h d.e d.a d.v ≡ true
            → d.added ≡ false
        retracts d (inr not_so) there held = not_so
        retracts d (inl adds) there held =
            let allowed : cond d.added (not (holds h d.e d.a d.v)) (holds h d.e d.a d.v) ≡ true =
            member_passes (λ y. cond y.added (not (holds h y.e y.a y.v)) (holds h y.e y.a y.v)) entry.datoms d is.next.changes_alone
            there in
            let none : not (holds h d.e d.a d.v) ≡ true = rw adds at allowed in
            absurd (true≢false (sym none ∙ ap not held))

  module _ (old : Lists) (was : LiveStands old h c) where
    of_old : (order : Order) (d : Datom) → Contains (list_in old order) d → IsDemanded h c order d
    of_old order d there = ((was order).members d).0 there

    in_old : (order : Order) (d : Datom) → IsDemanded h c order d → Contains (list_in old order) d
    in_old order d demanded = ((was order).members d).1 demanded

    -- what is offered was said by the history with the entry
    said_by_now : (order : Order) (d : Datom) → Contains (list_in old order ++ refill ++ entry.datoms) d → Contains (said after) d
    said_by_now order d there =
        elim (Contains-append_cases (list_in old order ++ refill) entry.datoms d there) [
          | inl older ↦ elim (Contains-append_cases (list_in old order) refill d older) [
            | inl before ↦ said_before d (of_old order d before).0.is_said
            | inr filled ↦ said_before d ((is.refill_is.members d).0 filled).0
          ]
          | inr now ↦ said_now d now
        ]

    pub no_twins : (order : Order) → HasNoTwins (list_in old order ++ refill ++ entry.datoms)
    no_twins order = no_twins_said (list_in old order ++ refill ++ entry.datoms) (said_by_now order)

    pub may_follow : (order : Order) → MayFollow (list_in old order) entry.datoms
    may_follow order =
        follows order (list_in old order) (rising_from order (list_in old order) (was order).rising)
        (λ d there. (of_old order d there).0.is_said)
        (λ x y x_in y_in mate later_one. in_old order y (demanded_later h order x y (of_old order x x_in) y_in mate later_one))

    -- what is offered and held is demanded with the entry
    demanded_with : (datoms : List Datom) → ((d : Datom) → Contains datoms d → Contains entry.datoms d) → (order : Order) (d : Datom)
        → IsOffered order (list_in old order) refill datoms d × IsTrue (held_of coverage order d) → IsDemanded after c order d
    demanded_with datoms of_entry order d m =
        let covered : IsTrue (covers (facts after) order d.a) = sym (is.coverage_is order d.a) ∙ m.1 in
        elim m.0 [
          | inl older ↦ elim older [
            | inl before ↦
                let q = of_old order d before in (record { is_said = said_before d q.0.is_said; is_covered = covered }, live_on order d q.1)
            | inr filled ↦ subst (λ (o : Order). IsDemanded after c o d) (sym filled.0) ((is.refill_is.members d).0 filled.1).1
          ]
          | inr now ↦ (record { is_said = said_now d (of_entry d now); is_covered = covered }, inl (later d (of_entry d now)))
        ]

    offered : (order : Order) (d : Datom) → Contains (said h) d → IsDemanded after c order d
        → (Contains (list_in old order) d) ⊎ ((order ≡ Avet) × Contains refill d)
    offered order d there demanded =
        elim (cases_Bool (covers (facts h) order d.a)) [
          | inl covered ↦ inl (in_old order d (record { is_said = there; is_covered = covered }, live_back order d demanded.1))
          | inr bare ↦ refilled order bare demanded
        ]
      where
        refilled : (o : Order) → covers (facts h) o d.a ≡ false → IsDemanded after c o d
            → (Contains (list_in old o) d) ⊎ ((o ≡ Avet) × Contains refill d)
        refilled Eavt bare now = absurd (true≢false bare)
        refilled Aevt bare now = absurd (true≢false bare)
        refilled Avet bare now = inr (refl, (is.refill_is.members d).1 (there, now, λ before. true≢false (sym before.0.is_covered ∙ bare)))
        refilled Vaet bare now = absurd (true≢false (sym (covered_before Vaet d (λ e. cc) there now.0.is_covered) ∙ bare))

    -- ---- the entry may follow what is refilled

    module _ (filled : Lists) (grown : (order : Order) → IsGrown order coverage (list_in old order) refill [] (list_in filled order)) where
      said_of_filled : (order : Order) (d : Datom) → Contains (list_in filled order) d → Contains (said h) d
      said_of_filled order d there =
          elim (((grown order).members d).0 there).0 [
            | inl older ↦ elim older [
              | inl before ↦ (of_old order d before).0.is_said
              | inr refills ↦ ((is.refill_is.members d).0 refills.1).0
            ]
            | inr none ↦ absurd (contains_none d none)
          ]

      later_in_filled : (order : Order) (x y : Datom) → Contains (list_in filled order) x → Contains (said h) y → is_of x.e x.a x.v y ≡ true
          → x.t < y.t → Contains (list_in filled order) y
      later_in_filled order x y x_in y_in mate later_one =
          let demanded_x = demanded_with [] (λ d none. absurd (contains_none d none)) order x (((grown order).members x).0 x_in) in
          let demanded_y = demanded_later after order x y demanded_x (said_before y y_in) mate later_one in
          ((grown order).members y).1 (inl (offered order y y_in demanded_y), is.coverage_is order y.a ∙ demanded_y.0.is_covered)

      pub may_follow_refill : (order : Order) → MayFollow (list_in filled order) entry.datoms
      may_follow_refill order = follows order (list_in filled order) (grown order).rising (said_of_filled order) (later_in_filled order)

    module _ (new : Lists)
        (grown : (order : Order) → IsGrown order coverage (list_in old order) refill entry.datoms (list_in new order)) where
      demanded_now : (order : Order) (d : Datom) → Contains (list_in new order) d → IsDemanded after c order d
      demanded_now order d there = demanded_with entry.datoms (λ x now. now) order d (((grown order).members d).0 there)

      listed : (order : Order) (d : Datom) → IsDemanded after c order d → Contains (list_in new order) d
      listed order d demanded =
          ((grown order).members d).1 (
            elim (Contains-append_cases (said h) entry.datoms d
                (subst (λ (ds : List Datom). Contains ds d) (said-push h entry) demanded.0.is_said)) [
                  | inl before ↦ inl (offered order d before demanded)
                  | inr now ↦ inr now
                ],
            is.coverage_is order d.a ∙ demanded.0.is_covered,
          )

      pub stands : LiveStands new after c
      stands order = record {
        rising = rises_from order (list_in new order) (grown order).rising;
        members = λ d. (demanded_now order d, listed order d);
      }
