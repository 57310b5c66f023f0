-- Parts that stand for a history: fresh ones, and those with one more entry.
use Rattle.std.proofs.Common.{◌≡◌, ◌∙◌, ℕ, ◌<◌, ◌≤◌, inl, inr, List, [], ◌∷◌, ◌++◌, length, refl, sym, ap, subst, arith, leb}
use Rattle.std.specs.Prelude.{Contains}
use Rattle.std.proofs.lemmas.Bool.{true≢false, leb-true, le-leb, and_parts}
use Rattle.fb_values.specs.declared.facts.Datom.{Datom}
use Rattle.fb_values.specs.declared.facts.Entry.{Entry}
use Rattle.fb_values.specs.declared.indexes.Order.{Order}
use Rattle.fb_values.specs.declared.indexes.Order.TheVariants.{Eavt}
use Rattle.fb_covers.specs.Coverage.{Coverage}
use Rattle.fb_values.specs.Lists.{list_in}
use Rattle.fb_values.specs.Rising.{IsRising}
use Rattle.fb_values.proofs.Rising.{rising_from}
use Rattle.fb_model.specs.Rising.{IsRisingListOf}
use Rattle.fb_model.specs.History.{basis, said, upto}
use Rattle.fb_model.specs.Facts.{facts}
use Rattle.fb_model.specs.Schema.{covers, schema_in}
use Rattle.fb_model.specs.Lawful.{IsLawful, IsLawfulAfter}
use Rattle.fb_model.proofs.OneMoreEntry.{basis-push, upto-append}
use Rattle.fb_model.proofs.LawfulHistories.{IsLawful-length, IsLawful-push}
use Rattle.fb_model.proofs.Members.{member_passes, none_of}
use Rattle.fb_model.proofs.Times.{next_t, said_t, said-upto, upto-basis}
use Rattle.live_index.proofs.Members.{from_filter, into_filter}
use Rattle.view_model.specs.Stands.{IsIndexed, IsLive, LiveStands, RootStands}
use Rattle.fb_schema.specs.Described.{SchemaStands}
use Rattle.fb_schema.specs.Tables.{HasCoverage}
use Rattle.fb_schema.proofs.Lookups.{schema_in-described, covers-described}
use Rattle.live_index.specs.Standing.{IsCoverageOf}
use Rattle.fb_view.specs.declared.growth.Older.{Older}
use Rattle.fb_view.specs.declared.growth.Recent.{Recent}
use Rattle.seg_tree.specs.Indexes.{trees_of}
use Rattle.fb_view.specs.SnapshotModel.{model_snapshot, Stands, AreWhole, Follows}

-- an entry's datoms rise
pub datoms_rise : (h : List Entry) (entry : Entry) → IsLawfulAfter h entry → IsRising Eavt entry.datoms
datoms_rise h entry next = rising_from Eavt entry.datoms (and_parts _ _ (and_parts _ _ next.datoms_in_order).0).1

-- no datom is later than the last entry
pub not_later : (h : List Entry) (d : Datom) → IsLawful h → Contains (said h) d → d.t ≤ basis h
not_later h d lawful there = leb-true d.t (basis h) (member_passes (λ x. leb x.t (basis h)) (said h) d (said_t h lawful) there)

-- what is said up to an entry is what is said with a t up to it
pub said_early : (h : List Entry) (c : ℕ) (d : Datom) → IsLawful h → Contains (said (upto h c)) d → Contains (said h) d × (d.t ≤ c)
said_early h c d lawful there =
    let at = from_filter (λ (x : Datom). leb x.t c) (said h) d (subst (λ (ds : List Datom). Contains ds d) (said-upto h lawful c) there) in
    (at.0, leb-true d.t c at.1)

pub early_said : (h : List Entry) (c : ℕ) (d : Datom) → IsLawful h → Contains (said h) d → d.t ≤ c → Contains (said (upto h c)) d
early_said h c d lawful there early =
    subst (λ (ds : List Datom). Contains ds d) (sym (said-upto h lawful c))
    (into_filter (λ (x : Datom). leb x.t c) (said h) d there (le-leb d.t c early))

-- the schema's coverage is that of the facts
pub coverage_of : (schema : List Datom) (h : List Entry) (coverage : Coverage) → SchemaStands schema h → HasCoverage coverage schema
    → IsCoverageOf coverage (facts h)
coverage_of schema h coverage stands has = λ order a. has order a ∙ ap (λ ds. covers ds order a) stands ∙ covers-described (facts h) order a

-- ---- where the trees hold the whole history

module _ (h : List Entry) (recent : Recent) (older : Older) (schema_is : SchemaStands recent.schema h) (whole : AreWhole h older)
    (none : (order : Order) → list_in recent.live order ≡ []) where
  whole_past : upto h older.covered ≡ h
  whole_past = ap (upto h) whole.covered_is ∙ upto-basis h whole.lawful

  nothing_live : (order : Order) (d : Datom) → IsIndexed h order d → IsLive h older.covered order d → ⊥
  nothing_live order d is live =
      elim live [
        | inl after ↦ let before = not_later h d whole.lawful is.is_said in omega (arith, after, before, whole.covered_is)
        | inr bare ↦ true≢false (sym is.is_covered ∙ ap (λ (past : List Entry). covers (facts past) order d.a) (sym whole_past) ∙ bare)
      ]

  none_stands : LiveStands recent.live h older.covered
  none_stands order =
      subst (λ (ds : List Datom). IsRisingListOf order ds (λ d. IsIndexed h order d × IsLive h older.covered order d))
      (sym (none order)) record {
        rising = refl;
        members = λ d. (λ there. absurd (none_of d there), λ is. absurd (nothing_live order d is.0 is.1));
      }

  pub fresh_stands : Stands (model_snapshot h recent older)
  fresh_stands = record {
    history = record {
      entries_are = refl;
      lawful = whole.lawful;
      schema_is = ap schema_in schema_is ∙ schema_in-described (facts h);
      roots_stand = whole.roots_stand;
      live_stands = none_stands;
    };
    schema_is = schema_is;
    held_is = λ order a. whole.held_is order a ∙ ap (λ (past : List Entry). covers (facts past) order a) (sym whole_past);
    now_is = whole.now_is;
  }

-- ---- one more entry

module _ (h : List Entry) (recent : Recent) (older : Older) (entry : Entry) (follows : Follows h recent older entry) where
  abbrev after : List Entry
  after = h ++ entry ∷ []

  pub lawful_before : IsLawful h
  lawful_before = follows.stands.history.lawful

  pub lawful_after : IsLawful after
  lawful_after = IsLawful-push h entry lawful_before follows.next

  pub same_past : upto after older.covered ≡ upto h older.covered
  same_past =
      upto-append h (entry ∷ []) older.covered (let counted = IsLawful-length h lawful_before in
      let bound = follows.stands.history.roots_stand.bound in omega (arith, counted, bound))

  roots_on : RootStands (trees_of older.roots) after older.covered
  roots_on = record {
    bound = let bound = follows.stands.history.roots_stand.bound in omega (arith, basis-push h entry, next_t h entry follows.next, bound);
    trees =
        λ order. subst (λ (past : List Entry). IsRisingListOf order (list_in (trees_of older.roots) order) (IsIndexed past order))
        (sym same_past) (follows.stands.history.roots_stand.trees order);
  }

  pub grown_stands : (new : Recent) → SchemaStands new.schema after → LiveStands new.live after older.covered
      → Stands (model_snapshot after new older)
  grown_stands new schema_is live_stands = record {
    history = record {
      entries_are = refl;
      lawful = lawful_after;
      schema_is = ap schema_in schema_is ∙ schema_in-described (facts after);
      roots_stand = roots_on;
      live_stands = live_stands;
    };
    schema_is = schema_is;
    held_is = λ order a. follows.stands.held_is order a ∙ ap (λ (past : List Entry). covers (facts past) order a) (sym same_past);
    now_is = follows.stands.now_is;
  }

-- there is room for one more entry
pub room : (h : List Entry) (entry : Entry) → IsLawful h → IsLawfulAfter h entry → length h < 4294967295
room h entry lawful next =
    let counted = IsLawful-length h lawful in
    let own = next_t h entry next in
    let small = leb-true entry.t 2147483647 (and_parts _ _ next.next_t).1 in
    omega (arith, counted, own, small)
