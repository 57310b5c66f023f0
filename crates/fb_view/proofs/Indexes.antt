-- The two lists of an order are the index of the history.
use Rattle.std.proofs.Common.{◌≡◌, ◌∙◌, ℕ, ◌⊎◌, inl, inr, true, false, ◌&&◌, List, Option, Some, None, refl, sym, ap, subst}
use Rattle.std.specs.Prelude.{Contains, IsTrue, filter, nat_eq}
use Rattle.std.specs.Option.{option_map_or}
use Rattle.std.proofs.lemmas.Bool.{true≢false, and_parts, eqb-true}
use Rattle.fb_values.specs.declared.facts.Datom.{Datom}
use Rattle.fb_values.specs.declared.facts.Entry.{Entry}
use Rattle.fb_values.specs.declared.facts.Value.{Value}
use Rattle.fb_values.specs.declared.facts.Value.TheVariants.{Keyword, Str, Bool, Long, Ref, Instant, Uuid, Symbol, Uri}
use Rattle.fb_values.specs.declared.indexes.Order.{Order}
use Rattle.fb_values.specs.declared.indexes.Order.TheVariants.{Eavt, Aevt, Avet, Vaet}
use Rattle.fb_values.specs.Lists.{list_in}
use Rattle.fb_model.specs.History.{said, upto}
use Rattle.fb_numbers.specs.Numbers.{type_ref}
use Rattle.fb_model.specs.Facts.{value_eq, facts}
use Rattle.fb_model.specs.Rising.{IsRisingListOf}
use Rattle.fb_model.specs.Schema.{Attribute, attribute_of, covers, is_held}
use Rattle.fb_model.specs.Lawful.{IsLawful}
use Rattle.fb_model.specs.Types.{type_of, is_well_formed, is_short_enough, is_of_type}
use Rattle.fb_model.proofs.Members.{member_passes}
use Rattle.fb_model.proofs.KnownFacts.{said_typed}
use Rattle.fb_model.proofs.Triples.{value_eq-refl}
use Rattle.live_index.proofs.Members.{from_filter, into_filter}
use Rattle.view_model.specs.Stands.{IsIndexed}
use Rattle.seg_tree.specs.Nodes.{tree_datoms}
use Rattle.seg_tree.specs.Indexes.{tree_in}
use Rattle.fb_view.specs.SnapshotModel.{SnapshotModel, Stands}
use Rattle.live_index.specs.Halves.{merged}
use Rattle.fb_values.proofs.Rising.{rises_from}
use Rattle.fb_view.proofs.Beginnings.{upto_lawful}
use Rattle.fb_view.proofs.Standing.{early_said}
use Rattle.live_index.proofs.Growing.{rising-filter}
use Rattle.live_index.proofs.Halves.{merged_rises, from_merged, into_merged}
use Rattle.fb_view.proofs.Telling.{pair_stands, was_said, in_one, from_older, from_live, refs_covered}

module _ (k : SnapshotModel) (stands : Stands k) (order : Order) where
  abbrev older : List Datom
  older = tree_datoms (tree_in k.roots order)

  abbrev live : List Datom
  live = list_in k.live order

  -- those that the index holds by the latest facts
  pub held_index : IsRisingListOf order (filter (λ d. covers (facts k.entries) order d.a) (merged order older live))
      (IsIndexed k.entries order)
  held_index = record {
    rising =
        rises_from order _
        (rising-filter order (λ d. covers (facts k.entries) order d.a) (merged order older live) (merged_rises order older live));
    members = λ d. (forth d, back d);
  }
    where
      forth : (d : Datom) → Contains (filter (λ d. covers (facts k.entries) order d.a) (merged order older live)) d
          → IsIndexed k.entries order d
      forth d there =
          let at = from_filter (λ d. covers (facts k.entries) order d.a) (merged order older live) d there in
          record { is_said = was_said k stands order d (from_merged order older live d at.0); is_covered = at.1 }

      back : (d : Datom) → IsIndexed k.entries order d
          → Contains (filter (λ d. covers (facts k.entries) order d.a) (merged order older live)) d
      back d is =
          into_filter (λ d. covers (facts k.entries) order d.a) (merged order older live) d
          (into_merged order older live d (pair_stands k stands order).single (in_one k stands order d is.is_said is.is_covered))
          is.is_covered

  -- where both lists have only what the index holds, they are the index
  pub whole_index : ((d : Datom) → Contains older d ⊎ Contains live d → IsTrue (covers (facts k.entries) order d.a))
      → IsRisingListOf order (merged order older live) (IsIndexed k.entries order)
  whole_index covered = record {
    rising = rises_from order (merged order older live) (merged_rises order older live);
    members = λ d. (
      λ there. let at =
          from_merged order older live d there in record { is_said = was_said k stands order d at; is_covered = covered d at },
      λ is. into_merged order older live d (pair_stands k stands order).single (in_one k stands order d is.is_said is.is_covered),
    );
  }

-- ---- a datom that VAET has held stays in it

kind_is : (v : Value) → nat_eq (type_of v) type_ref ≡ true → (e : ℕ) × (v ≡ Ref e)
kind_is (Keyword text) is = absurd (true≢false (sym is))
kind_is (Str text) is = absurd (true≢false (sym is))
kind_is (Bool b) is = absurd (true≢false (sym is))
kind_is (Long n) is = absurd (true≢false (sym is))
kind_is (Ref n) is = (n, refl)
kind_is (Instant n) is = absurd (true≢false (sym is))
kind_is (Uuid n) is = absurd (true≢false (sym is))
kind_is (Symbol text) is = absurd (true≢false (sym is))
kind_is (Uri text) is = absurd (true≢false (sym is))

typed_ref : (found : Option Attribute) (v : Value) → option_map_or (λ attribute. is_of_type attribute.kind v) found false ≡ true
    → option_map_or (is_held Vaet) found false ≡ true → nat_eq (type_of v) type_ref ≡ true
typed_ref None v typed held = absurd (true≢false (sym typed))
typed_ref (Some attribute) v typed held =
    let short = and_parts (nat_eq (type_of v) attribute.kind && is_well_formed v) (is_short_enough v) typed in
    let formed = and_parts (nat_eq (type_of v) attribute.kind) (is_well_formed v) short.0 in
    subst (λ (kind : ℕ). nat_eq (type_of v) kind ≡ true) (eqb-true attribute.kind type_ref held) formed.0

-- what VAET holds now it held before, where that was said before
pub stays_held : (h past : List Entry) (d : Datom) → IsLawful h → IsLawful past → IsIndexed h Vaet d → Contains (said past) d
    → IsTrue (covers (facts past) Vaet d.a)
stays_held h past d lawful past_lawful is there =
    let typed = member_passes _ (said h) d (said_typed h lawful) is.is_said in
    let kind = kind_is d.v (typed_ref (attribute_of (facts h) d.a) d.v typed is.is_covered) in
    refs_covered past kind.0 past_lawful d there (ap (λ (v : Value). value_eq v (Ref kind.0)) kind.1 ∙ value_eq-refl (Ref kind.0))

pub stays_in_vaet : (k : SnapshotModel) → Stands k → (d : Datom) → Contains (tree_datoms (tree_in k.roots Vaet)) d
    → IsTrue (covers (facts k.entries) Vaet d.a)
stays_in_vaet k stands d there =
    let was = from_older k stands Vaet d there in
    let past = upto k.entries k.covered in
    let lawful = stands.history.lawful in
    let typed =
    member_passes _ (said past) d (said_typed past (upto_lawful k.entries k.covered lawful))
    (early_said k.entries k.covered d lawful was.0 was.1) in
    let kind = kind_is d.v (typed_ref (attribute_of (facts past) d.a) d.v typed was.2) in
    refs_covered k.entries kind.0 lawful d was.0 (ap (λ (v : Value). value_eq v (Ref kind.0)) kind.1 ∙ value_eq-refl (Ref kind.0))

-- in each order but AVET both lists have only what the index holds
pub only_held : (k : SnapshotModel) (stands : Stands k) (order : Order) → (order ≡ Avet → ⊥)
    → (d : Datom) → Contains (tree_datoms (tree_in k.roots order)) d ⊎ Contains (list_in k.live order) d
    → IsTrue (covers (facts k.entries) order d.a)
only_held k stands Eavt other d there = refl
only_held k stands Aevt other d there = refl
only_held k stands Avet other d there = absurd (other refl)
only_held k stands Vaet other d there =
    elim there [ inl older ↦ stays_in_vaet k stands d older | inr live ↦ (from_live k stands Vaet d live).0.is_covered ]
