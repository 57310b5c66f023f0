-- Each answer of a snapshot is what the definitions say of its history.
use Rattle.std.proofs.Common.{◌≡◌, ◌∙◌, ℕ, Bool, true, ◌&&◌, List, refl, sym, ap, eqb, Option, Some, None, inl, inr, map}
use Rattle.std.specs.Prelude.{Contains, IsTrue, find, is_some}
use Rattle.std.specs.Option.{option_map}
use Rattle.std.proofs.lemmas.Bool.{eqb-true, and_parts, and_from}
use Rattle.fb_values.specs.declared.facts.Datom.{Datom}
use Rattle.fb_values.specs.declared.facts.Value.{Value}
use Rattle.fb_values.specs.declared.facts.Value.TheVariants.{Ref}
use Rattle.fb_values.specs.declared.indexes.Order.TheVariants.{Eavt, Aevt, Avet, Vaet}
use Rattle.fb_values.specs.declared.indexes.Probe.{Probe}
use Rattle.fb_values.specs.Lists.{list_in}
use Rattle.fb_model.specs.History.{said}
use Rattle.fb_model.specs.Facts.{is_of, value_eq, holds, holder, facts}
use Rattle.fb_model.specs.Schema.{covers, is_about}
use Rattle.fb_schema.proofs.Lookups.{covers-described}
use Rattle.fb_facts.specs.FactLists.{is_of_entity, is_ref_to, is_under, values_of, facts_of, refs_to, facts_under, facts_in}
use Rattle.seg_tree.specs.Indexes.{tree_in}
use Rattle.seg_tree.specs.Nodes.{tree_datoms}
use Rattle.live_index.specs.Halves.{merged}
use Rattle.live_index.proofs.Growing.{rising-filter}
use Rattle.live_index.proofs.Halves.{merged_rises, from_merged, into_merged}
use Rattle.live_index.proofs.Members.{from_filter, into_filter}
use Rattle.live_index.proofs.Presence.{standing-filter}
use Rattle.fb_index.specs.Ranges.{is_led, led_to}
use Rattle.fb_view.specs.SnapshotModel.{SnapshotModel, Stands}
use Rattle.fb_view.specs.Facts.{IsTripleProbe, IsValueProbe, facts_led}
use Rattle.fb_view.proofs.Probing.{led_entity, led_about, led_triple, led_under, led_indexed, led_valued, led_ref}
use Rattle.fb_view.proofs.Lasting.{told_is}
use Rattle.fb_view.proofs.Telling.{pair_stands, was_said, in_one, whole_by, refs_covered, found_holds, found_holder}
use Rattle.fb_view.proofs.Present.{present_passing}

-- what a probe leads to, where it leads to what passes and the index holds that
pub told : (k : SnapshotModel) (stands : Stands k) (p : Probe) (passes : Datom → Bool) → ((d : Datom) → is_led p d ≡ passes d)
    → ((d : Datom) → Contains (said k.entries) d → passes d ≡ true → IsTrue (covers (facts k.entries) p.order d.a))
    → ((d x : Datom) → is_of d.e d.a d.v x ≡ true → passes d ≡ true → passes x ≡ true) → facts_led p k ≡ facts_in p.order passes k.entries
told k stands p passes led covered whole =
    present_passing k stands p.order (is_led p) (λ d there at. covered d (was_said k stands p.order d there) (sym (led d) ∙ at))
    ∙ sym (standing-filter p.order (is_led p) (merged p.order older live) (merged_rises p.order older live)
    (λ x y mate at. led y ∙ whole x y mate (sym (led x) ∙ at)))
    ∙ told_is k.entries p.order passes (led_to p (merged p.order older live)) record {
      lawful = stands.history.lawful;
      rising = rising-filter p.order (is_led p) (merged p.order older live) (merged_rises p.order older live);
      members = λ d. (forth d, back d);
      whole = whole;
    }
  where
    older : List Datom
    older = tree_datoms (tree_in k.roots p.order)

    live : List Datom
    live = list_in k.live p.order

    forth : (d : Datom) → Contains (led_to p (merged p.order older live)) d → Contains (said k.entries) d × (passes d ≡ true)
    forth d there =
        let at = from_filter (is_led p) (merged p.order older live) d there in
        (was_said k stands p.order d (from_merged p.order older live d at.0), sym (led d) ∙ at.1)

    back : (d : Datom) → Contains (said k.entries) d × (passes d ≡ true) → Contains (led_to p (merged p.order older live)) d
    back d is =
        into_filter (is_led p) (merged p.order older live) d
        (into_merged p.order older live d (pair_stands k stands p.order).single (in_one k stands p.order d is.0 (covered d is.0 is.1)))
        (led d ∙ is.1)

module _ (k : SnapshotModel) (stands : Stands k) where
  abbrev pub led : Probe → List Datom
  led p = facts_led p k

  abbrev pub first_led : Value → Probe → Option ℕ
  first_led v p = option_map (λ d. d.e) (find (λ d. value_eq d.v v) (led p))

  pub values_told : (e a : ℕ)
      → map (λ d. d.v) (led (record { order = Eavt; e = Some e; a = Some a; v = None; t = None })) ≡ values_of k.entries e a
  values_told e a =
      ap (map (λ d. d.v)) (told k stands (record { order = Eavt; e = Some e; a = Some a; v = None; t = None }) (is_about e a)
      (led_about e a) (λ d there passes. refl) (whole_by (λ x b w. eqb x e && eqb b a)))

  pub entity_told : (e : ℕ) → led (record { order = Eavt; e = Some e; a = None; v = None; t = None }) ≡ facts_of k.entries e
  entity_told e =
      told k stands (record { order = Eavt; e = Some e; a = None; v = None; t = None }) (is_of_entity e) (led_entity e)
      (λ d there passes. refl) (whole_by (λ x b w. eqb x e))

  pub under_told : (a : ℕ) → led (record { order = Aevt; e = None; a = Some a; v = None; t = None }) ≡ facts_under k.entries a
  under_told a =
      told k stands (record { order = Aevt; e = None; a = Some a; v = None; t = None }) (is_under a) (led_under a) (λ d there passes. refl)
      (whole_by (λ x b w. eqb b a))

  pub refs_told : (e : ℕ) → led (record { order = Vaet; e = None; a = None; v = Some (Ref e); t = None }) ≡ refs_to k.entries e
  refs_told e =
      told k stands (record { order = Vaet; e = None; a = None; v = Some (Ref e); t = None }) (is_ref_to e) (led_ref e)
      (refs_covered k.entries e stands.history.lawful) (whole_by (λ x b w. value_eq w (Ref e)))

  -- ---- whether a triple holds

  parts_about : (e a : ℕ) (x b : ℕ) → (eqb x e && eqb b a) ≡ true → (x ≡ e) × (b ≡ a)
  parts_about e a x b is = let both = and_parts (eqb x e) (eqb b a) is in (eqb-true x e both.0, eqb-true b a both.1)

  parts_triple : (e a : ℕ) (v : Value) (d : Datom) → (eqb d.e e && (eqb d.a a && value_eq d.v v)) ≡ true → (d.e ≡ e) × (d.a ≡ a)
  parts_triple e a v d is =
      let both = and_parts (eqb d.e e) (eqb d.a a && value_eq d.v v) is in
      (eqb-true d.e e both.0, eqb-true d.a a (and_parts (eqb d.a a) (value_eq d.v v) both.1).0)

  and_right : (a b c : Bool) → ((a && b) && c) ≡ true → (a && (b && c)) ≡ true
  and_right a b c is =
      let outer = and_parts (a && b) c is in let inner = and_parts a b outer.0 in and_from a (b && c) inner.0 (and_from b c inner.1 outer.1)

  triple_led : (e a : ℕ) (v : Value)
      → is_some (first_led v (record { order = Eavt; e = Some e; a = Some a; v = Some v; t = None })) ≡ holds k.entries e a v
  triple_led e a v =
      let passes : Datom → Bool = λ d. eqb d.e e && (eqb d.a a && value_eq d.v v) in
      ap (λ (l : List Datom). is_some (option_map (λ d. d.e) (find (λ d. value_eq d.v v) l)))
      (told k stands (record { order = Eavt; e = Some e; a = Some a; v = Some v; t = None }) passes (led_triple e a v) (λ d there is. refl)
      (whole_by (λ x b w. eqb x e && (eqb b a && value_eq w v))))
      ∙ found_holds k.entries e a v passes (parts_triple e a v) (λ d is. and_right (eqb d.e e) (eqb d.a a) (value_eq d.v v) is)

  about_led : (e a : ℕ) (v : Value)
      → is_some (first_led v (record { order = Eavt; e = Some e; a = Some a; v = None; t = None })) ≡ holds k.entries e a v
  about_led e a v =
      ap (λ (l : List Datom). is_some (option_map (λ d. d.e) (find (λ d. value_eq d.v v) l)))
      (told k stands (record { order = Eavt; e = Some e; a = Some a; v = None; t = None }) (is_about e a) (led_about e a)
      (λ d there is. refl) (whole_by (λ x b w. eqb x e && eqb b a)))
      ∙ found_holds k.entries e a v (is_about e a) (λ d is. parts_about e a d.e d.a is)
      (λ d is. (and_parts (eqb d.e e && eqb d.a a) (value_eq d.v v) is).0)

  pub holds_told : (e a : ℕ) (v : Value) (p : Probe) → IsTripleProbe e a v p → is_some (first_led v p) ≡ holds k.entries e a v
  holds_told e a v p is =
      elim is [
        | inl given ↦ ap (λ (q : Probe). is_some (first_led v q)) given ∙ triple_led e a v
        | inr without ↦ ap (λ (q : Probe). is_some (first_led v q)) without ∙ about_led e a v
      ]

  -- ---- who has a value

  covered : (a : ℕ) → IsTrue (covers k.schema Avet a) → (d : Datom) → d.a ≡ a → IsTrue (covers (facts k.entries) Avet d.a)
  covered a held d same =
      sym (ap (λ ds. covers ds Avet d.a) stands.schema_is ∙ covers-described (facts k.entries) Avet d.a)
      ∙ ap (covers k.schema Avet) same
      ∙ held

  under_led : (a : ℕ) (v : Value)
      → first_led v (record { order = Aevt; e = None; a = Some a; v = None; t = None }) ≡ holder (facts k.entries) a v
  under_led a v =
      ap (λ (l : List Datom). option_map (λ d. d.e) (find (λ d. value_eq d.v v) l)) (under_told a)
      ∙ found_holder k.entries Aevt a v (is_under a) (λ d is. eqb-true d.a a is) (λ d is. (and_parts (eqb d.a a) (value_eq d.v v) is).0)

  indexed_led : (a : ℕ) (v : Value) → IsTrue (covers k.schema Avet a)
      → first_led v (record { order = Avet; e = None; a = Some a; v = None; t = None }) ≡ holder (facts k.entries) a v
  indexed_led a v held =
      ap (λ (l : List Datom). option_map (λ d. d.e) (find (λ d. value_eq d.v v) l))
      (told k stands (record { order = Avet; e = None; a = Some a; v = None; t = None }) (is_under a) (led_indexed a)
      (λ d there is. covered a held d (eqb-true d.a a is)) (whole_by (λ x b w. eqb b a)))
      ∙ found_holder k.entries Avet a v (is_under a) (λ d is. eqb-true d.a a is) (λ d is. (and_parts (eqb d.a a) (value_eq d.v v) is).0)

  valued_led : (a : ℕ) (v : Value) → IsTrue (covers k.schema Avet a)
      → first_led v (record { order = Avet; e = None; a = Some a; v = Some v; t = None }) ≡ holder (facts k.entries) a v
  valued_led a v held =
      let passes : Datom → Bool = λ d. eqb d.a a && value_eq d.v v in
      ap (λ (l : List Datom). option_map (λ d. d.e) (find (λ d. value_eq d.v v) l))
      (told k stands (record { order = Avet; e = None; a = Some a; v = Some v; t = None }) passes
      (led_valued a v) (λ d there is. covered a held d (eqb-true d.a a (and_parts (eqb d.a a) (value_eq d.v v) is).0))
      (whole_by (λ x b w. eqb b a && value_eq w v)))
      ∙ found_holder k.entries Avet a v passes (λ d is. eqb-true d.a a (and_parts (eqb d.a a) (value_eq d.v v) is).0) (λ d is. is)

  pub holder_told : (a : ℕ) (v : Value) (p : Probe) → IsValueProbe k.schema a v p → first_led v p ≡ holder (facts k.entries) a v
  holder_told a v p is =
      elim is [
        | inl under ↦ ap (first_led v) under ∙ under_led a v
        | inr indexed ↦ elim indexed.1 [
          | inl given ↦ ap (first_led v) given ∙ valued_led a v indexed.0
          | inr without ↦ ap (first_led v) without ∙ indexed_led a v indexed.0
        ]
      ]
