-- The trees of facts and the live lists, read for what holds, are what stands of all that the trees and the live lists tell.
use Rattle.std.proofs.Common.{◌≡◌, ◌∙◌, ◌<◌, ◌⊎◌, inl, inr, Bool, true, false, not, List, [], ◌∷◌, ◌++◌, refl, sym, ap, subst, arith}
use Rattle.std.specs.Prelude.{Contains, IsTrue, filter}
use Rattle.std.specs.List.{list_any}
use Rattle.std.proofs.lemmas.Bool.{true≢false}
use Rattle.std.proofs.lemmas.List.Elements.{Contains-append_left, Contains-append_right, Contains-append_cases}
use Rattle.fb_values.specs.declared.facts.Datom.{Datom}
use Rattle.fb_values.specs.declared.facts.Entry.{Entry}
use Rattle.fb_values.specs.declared.indexes.Order.{Order}
use Rattle.fb_values.specs.declared.indexes.Order.TheVariants.{Eavt, Avet}
use Rattle.fb_values.specs.Lists.{list_in}
use Rattle.fb_values.specs.Rising.{IsRising}
use Rattle.fb_model.specs.History.{said, upto}
use Rattle.fb_model.specs.Facts.{facts, standing}
use Rattle.fb_model.specs.Schema.{covers}
use Rattle.fb_model.proofs.Members.{any_member, some_member, standing_member}
use Rattle.fb_model.proofs.Triples.{is_of-true}
use Rattle.seg_tree.specs.Nodes.{tree_datoms}
use Rattle.seg_tree.specs.Indexes.{tree_in}
use Rattle.seg_tree.proofs.Indexes.{list_in-trees_of}
use Rattle.live_index.specs.Ending.{is_mate}
use Rattle.live_index.specs.Growth.{HasNoTwins}
use Rattle.live_index.specs.Halves.{IsPair, IsLater, merged, outlives, withdrawn}
use Rattle.live_index.proofs.Growing.{single_part, rising-filter}
use Rattle.live_index.proofs.Halves.{from_merged, into_merged, merged_rises, same_list}
use Rattle.live_index.proofs.Members.{from_filter, into_filter}
use Rattle.live_index.proofs.Presence as presence
use Rattle.live_index.proofs.Together.{last_stands, rising-standing, rising_by_time, said_by_time, standing_last}
use Rattle.fb_index.specs.Sides.{AreBeside, whole}
use Rattle.fb_index.specs.declared.sides.Extent.TheVariants.{Said, Held}
use Rattle.fb_view.specs.SnapshotModel.{SnapshotModel, Stands}
use Rattle.fb_view.proofs.Beginnings.{upto_lawful}
use Rattle.fb_view.proofs.Ended.{ended}
use Rattle.fb_view.proofs.Indexes.{only_held}
use Rattle.fb_view.proofs.Standing.{early_said}
use Rattle.fb_view.proofs.Telling.{from_live, from_older, pair_stands}

same_any : (a b : Bool) → (a ≡ true → b ≡ true) → (b ≡ true → a ≡ true) → a ≡ b
same_any true b forth back = sym (forth refl)
same_any false true forth back = absurd (true≢false (sym (back refl)))
same_any false false forth back = refl

filter_true : (ds : List Datom) → filter (λ d. true) ds ≡ ds
filter_true [] = refl
filter_true (d ∷ ds) = ap (λ rest. d ∷ rest) (filter_true ds)

module _ (k : SnapshotModel) (stands : Stands k) (order : Order) where
  abbrev older : List Datom
  older = tree_datoms (tree_in k.roots order)

  abbrev now : List Datom
  now = tree_datoms (tree_in k.now order)

  abbrev live : List Datom
  live = list_in k.live order

  abbrev past : List Entry
  past = upto k.entries k.covered

  -- the datoms of EAVT's live list that do not stand, which tell what has ended
  abbrev gone : List Datom
  gone = withdrawn k.live.eavt

  pair : IsPair order older live
  pair = pair_stands k stands order

  -- the order holds with a datom what is of its triple
  same_covered : (h : List Entry) (x y : Datom) → is_mate x y ≡ true → covers (facts h) order y.a ≡ covers (facts h) order x.a
  same_covered h x y mate = ap (covers (facts h) order) (is_of-true x.e x.a x.v y mate).a_is

  -- ---- what is later than the trees

  later_than : (d : Datom) → Contains k.live.eavt d → Contains (said k.entries) d × (k.covered < d.t)
  later_than d there =
      let is = from_live k stands Eavt d there in
      (is.0.is_said, elim is.1 [ inl after ↦ after | inr bare ↦ absurd (true≢false bare) ])

  later_mate : (x y : Datom) → Contains older x → Contains live y → is_mate x y ≡ true → k.covered < y.t
  later_mate x y x_in y_in mate =
      elim (from_live k stands order y y_in).1 [
        | inl after ↦ after
        | inr bare ↦ absurd (true≢false (sym (from_older k stands order x x_in).2 ∙ sym (same_covered past x y mate) ∙ bare))
      ]

  later_live : IsLater older live
  later_live x y x_in y_in mate =
      let was = from_older k stands order x x_in in
      let is = later_mate x y x_in y_in mate in
      omega (arith, was.1, is)

  in_live : (o : Order) (d : Datom) → Contains (said k.entries) d → IsTrue (covers (facts k.entries) o d.a) → k.covered < d.t
      → Contains (list_in k.live o) d
  in_live o d there covered after =
      ((stands.history.live_stands o).members d).1 (record { is_said = there; is_covered = covered }, inl after)

  -- ---- what has ended

  -- the trees have with a datom what their history said of its triple
  in_older : (x y : Datom) → Contains older x → Contains (said past) y → is_mate x y ≡ true → Contains older y
  in_older x y x_in y_in mate =
      subst (λ (l : List Datom). Contains l y) (list_in-trees_of k.roots order)
      (((stands.history.roots_stand.trees order).members y).1 (record {
        is_said = y_in;
        is_covered = same_covered past x y mate ∙ (from_older k stands order x x_in).2;
      }))

  -- so what stands of the trees are facts of that history
  facts_then : (x : Datom) → Contains (standing older) x → Contains (facts past) x
  facts_then x there =
      let last = standing_last older x (rising_by_time order older pair.older_rises) there in
      let was = from_older k stands order x last.there in
      last_stands (said past) x (said_by_time past (upto_lawful k.entries k.covered stands.history.lawful)) (record {
        there = early_said k.entries k.covered x stands.history.lawful was.0 was.1;
        added = last.added;
        latest = λ y y_in mate. last.latest y (in_older x y last.there y_in mate) mate;
      })

  -- where EAVT's live list has anything of the triple of such a fact, it has a retraction
  retracted : (x : Datom) → Contains (standing older) x → (y : Datom) → Contains k.live.eavt y → is_mate x y ≡ true
      → (z : Datom) × Contains k.live.eavt z × (is_mate x z ≡ true) × (z.added ≡ false)
  retracted x there y y_in mate =
      let is = later_than y y_in in
      let has = ended k.entries k.covered x y stands.history.lawful (facts_then x there) is.0 mate is.1 in
      (has.datom, in_live Eavt has.datom has.is_said refl has.later, has.mate, has.gone)

  -- and the order's live list has the same of the triple, where the order still holds the attribute
  same_mates : (x : Datom) → Contains older x → IsTrue (covers (facts k.entries) order x.a)
      → list_any (is_mate x) k.live.eavt ≡ list_any (is_mate x) live
  same_mates x there covered = same_any (list_any (is_mate x) k.live.eavt) (list_any (is_mate x) live) forth back
    where
      forth : list_any (is_mate x) k.live.eavt ≡ true → list_any (is_mate x) live ≡ true
      forth some =
          let y = some_member (is_mate x) k.live.eavt some in
          let is = later_than y.0 y.1 in
          any_member (is_mate x) live y.0 (in_live order y.0 is.0 (same_covered k.entries x y.0 y.2 ∙ covered) is.1) y.2

      back : list_any (is_mate x) live ≡ true → list_any (is_mate x) k.live.eavt ≡ true
      back some =
          let y = some_member (is_mate x) live some in
          let is = from_live k stands order y.0 y.1 in
          any_member (is_mate x) k.live.eavt y.0 (in_live Eavt y.0 is.0.is_said refl (later_mate x y.0 there y.1 y.2)) y.2

  same_test : (x : Datom) → Contains (standing older) x → IsTrue (covers (facts k.entries) order x.a) → outlives gone x ≡ outlives live x
  same_test x there covered =
      presence.outlives-withdrawn Eavt k.live.eavt x (pair_stands k stands Eavt).live_rises (retracted x there)
      ∙ ap not (same_mates x (standing_member older x there) covered)

  -- ---- the trees' facts by a test, beside what stands of the live list

  abbrev read_by : (Datom → Bool) → List Datom
  read_by p = merged order (filter p (standing older)) (standing live)

  in_older_by : (p : Datom → Bool) (x : Datom) → Contains (filter p (standing older)) x → Contains older x
  in_older_by p x there = standing_member older x (from_filter p (standing older) x there).0

  single_by : (p : Datom → Bool) → HasNoTwins (filter p (standing older) ++ standing live)
  single_by p =
      single_part (filter p (standing older) ++ standing live) (older ++ live)
      (λ x there. elim (Contains-append_cases (filter p (standing older)) (standing live) x there) [
        | inl first ↦ Contains-append_left older live x (in_older_by p x first)
        | inr second ↦ Contains-append_right older live x (standing_member live x second)
      ]) pair.single

  pair_by : (p : Datom → Bool) → IsPair order (filter p (standing older)) (standing live)
  pair_by p = record {
    older_rises = rising-filter order p (standing older) (rising-standing order older pair.older_rises);
    live_rises = rising-standing order live pair.live_rises;
    apart = λ d first second. pair.apart d (in_older_by p d first) (standing_member live d second);
    single = single_by p;
  }

  module _ (passes p q : Datom → Bool) (on : (x : Datom) → Contains (standing older) x → passes x ≡ true → p x ≡ q x) where
    also : (x : Datom) → Contains (filter passes (read_by p)) x → Contains (filter passes (read_by q)) x
    also x there =
        let at = from_filter passes (read_by p) x there in
        into_filter passes (read_by q) x
        (into_merged order (filter q (standing older)) (standing live) x (single_by q)
        (elim (from_merged order (filter p (standing older)) (standing live) x at.0) [
          | inl first ↦
              let is = from_filter p (standing older) x first in
              inl (into_filter q (standing older) x is.0 (sym (on x is.0 at.1) ∙ is.1))
          | inr second ↦ inr second
        ])) at.1

  rises_by : (passes p : Datom → Bool) → IsRising order (filter passes (read_by p))
  rises_by passes p = rising-filter order passes (read_by p) (merged_rises order (filter p (standing older)) (standing live))

  -- tests that agree on what passes
  same_read : (passes p q : Datom → Bool) → ((x : Datom) → Contains (standing older) x → passes x ≡ true → p x ≡ q x)
      → filter passes (read_by p) ≡ filter passes (read_by q)
  same_read passes p q on =
      same_list order (filter passes (read_by p)) (filter passes (read_by q)) (rises_by passes p) (rises_by passes q)
      (also passes p q on) (also passes q p (λ x there pass. sym (on x there pass)))

  -- ---- the present

  -- what is read for what holds tells all that stands of what passes, where the order still holds that
  pub present_passing : (passes : Datom → Bool)
      → ((d : Datom) → Contains older d ⊎ Contains live d → passes d ≡ true → IsTrue (covers (facts k.entries) order d.a))
      → filter passes (whole Held order now k.live) ≡ filter passes (standing (merged order older live))
  present_passing passes held =
      ap (λ (l : List Datom). filter passes (whole Held order l k.live)) (stands.now_is order)
      ∙ same_read passes (outlives gone) (outlives live)
      (λ x there pass. same_test x there (held x (inl (standing_member older x there)) pass))
      ∙ sym (ap (filter passes) (presence.present_is order older live pair later_live))

  pub present_held : filter (λ d. covers (facts k.entries) order d.a) (whole Held order now k.live)
      ≡ filter (λ d. covers (facts k.entries) order d.a) (standing (merged order older live))
  present_held = present_passing (λ d. covers (facts k.entries) order d.a) (λ d there is. is)

  held_beside_order : AreBeside Held order now k.live
  held_beside_order = subst (λ (l : List Datom). AreBeside Held order l k.live) (sym (stands.now_is order)) (record {
    rises = rising-standing order older pair.older_rises;
    pair = pair_by (outlives gone);
  })

  said_beside_order : AreBeside Said order older k.live
  said_beside_order = record { rises = pair.older_rises; pair = pair }

-- in each order but AVET that is all that stands
pub present_is : (k : SnapshotModel) (order : Order) → Stands k → (order ≡ Avet → ⊥)
    → whole Held order (tree_datoms (tree_in k.now order)) k.live
    ≡ standing (merged order (tree_datoms (tree_in k.roots order)) (list_in k.live order))
present_is k order stands other =
    sym (filter_true (whole Held order (tree_datoms (tree_in k.now order)) k.live))
    ∙ present_passing k stands order (λ d. true) (λ d there is. only_held k stands order other d there)
    ∙ filter_true (standing (merged order (tree_datoms (tree_in k.roots order)) (list_in k.live order)))

-- ---- what it takes to read the two lists as one

pub held_beside : (k : SnapshotModel) → Stands k → (order : Order) → AreBeside Held order (tree_datoms (tree_in k.now order)) k.live
held_beside k stands order = held_beside_order k stands order

pub said_beside : (k : SnapshotModel) → Stands k → (order : Order) → AreBeside Said order (tree_datoms (tree_in k.roots order)) k.live
said_beside k stands order = said_beside_order k stands order
