-- A scan of the lists of an order, step by step, and what it gives.
use denote.Ref.{Bor}
use Rattle.std.proofs.Common.{◌≡◌, ◌∙◌, ◌≢◌, ℕ, ◌<◌, ◌≤◌, Bool, true, false, not, ◌&&◌, List, [], ◌∷◌, ◌++◌, length, take, refl, sym}
use Rattle.std.proofs.Common.{ap, subst, Option, Some, None, arith, eqb}
use Rattle.std.specs.Prelude.{Contains, MatchOption, IsTrue}
use Rattle.std.specs.List.{slice_get}
use Rattle.std.specs.Option.{option_eq}
use Rattle.std.specs.Ordering.{is_lt, is_gt}
use Rattle.std.specs.declared.cmp.Ordering.{Ordering}
use Rattle.std.proofs.lemmas.Bool.{true≢false, and_parts, and_from}
use Rattle.std.proofs.lemmas.Bool.Decides.{nat_tests}
use Rattle.std.proofs.lemmas.List.{take_all, length_push}
use Rattle.fb_values.specs.declared.facts.Datom.{Datom}
use Rattle.fb_values.specs.declared.facts.Entry.{Entry}
use Rattle.fb_values.specs.declared.facts.Value.{Value}
use Rattle.fb_values.specs.declared.indexes.Order.{Order}
use Rattle.fb_values.specs.declared.indexes.Order.TheVariants.{Avet}
use Rattle.fb_values.specs.declared.indexes.Probe.{Probe}
use Rattle.std.specs.declared.cmp.Ordering.TheVariants.{Less, Equal, Greater}
use Rattle.fb_values.specs.Orders.{probe_cmp}
use Rattle.fb_values.specs.Lists.{Lists, list_in}
use Rattle.fb_values.specs.Rising.{IsRising}
use Rattle.fb_covers.specs.Coverage.{Coverage, covers as held_by}
use Rattle.fb_search.specs.Places.{is_below}
use Rattle.fb_model.specs.Facts.{facts}
use Rattle.fb_model.specs.Schema.{covers}
use Rattle.live_index.proofs.Members.{from_filter, into_filter}
use Rattle.view_model.specs.Window.{Window, is_within}
use Rattle.view_model.specs.View.{InView}
use Rattle.view_model.specs.Scan.{Range, between, is_in, IsScan}
use Rattle.view_model.proofs.Scans.{IsRisingListOf-one}
use Rattle.live_index.proofs.Growing.{rising-filter}
use Rattle.live_index.proofs.Halves.{merged_rises}
use Rattle.seg_tree.specs.Nodes.{DirectoryNode, tree_datoms}
use Rattle.seg_tree.specs.Indexes.{tree_in}
use Rattle.fb_schema.specs.Tables.{HasCoverage}
use Rattle.fb_index.specs.declared.sides.Extent.{Extent}
use Rattle.fb_index.specs.declared.sides.Extent.TheVariants.{Said, Held}
use Rattle.fb_index.specs.declared.sides.Sides.{Sides}
use Rattle.fb_index.specs.Ranges.{from_probe, is_above, upto_probe, within as upto_last}
use Rattle.fb_index.specs.Sides.{older_read, live_read, whole, AreBeside}
use Rattle.fb_db.specs.declared.db.Db.{Db}
use Rattle.fb_db.specs.Seen.{window_of}
use Rattle.fb_view.specs.SnapshotModel.{SnapshotModel, Stands, roots_read}
use Rattle.fb_view.proofs.Standing.{coverage_of}
use Rattle.fb_scan.specs.declared.ends.End.{End}
use Rattle.fb_scan.specs.declared.walk.Scan.{Scan}
use Rattle.fb_scan.specs.declared.ends.End.TheVariants.{Never, Behind, Before}
use Rattle.fb_scan.specs.Ends.{is_past, is_met, IsIn, IsWalk, valued}
use Rattle.fb_scan.specs.Steps.{AreRead, last_read, path, HasGiven, IsGiven, IsGoing, IsWalkUpto, showing}
use Rattle.fb_scan.specs.Walks.{extent_of, is_shown, shown}
use Rattle.fb_scan.proofs.Seeing.{shown_within}
use Rattle.fb_scan.proofs.Meeting.{path_of as read_of_kept, met, meets}
use Rattle.fb_scan.proofs.Ending.{between_open, between_closed}
use Rattle.fb_scan.proofs.Going.{begins, passes_by, gives, ends_at, ends_with, front}

-- what is read of an order and is not below the probe
abbrev path_of : Sides → Probe → List Datom
path_of sides p = from_probe p (whole sides.extent sides.order (tree_datoms sides.tree.now) sides.live.now)

-- ---- the lists of an order

pub read_of : (k : SnapshotModel) (w : Window) (order : Order) (extent : Extent) (sides : Sides) → extent ≡ extent_of k.entries w
    → sides.extent ≡ extent → sides.order ≡ order → sides.tree.now ≡ tree_in (roots_read extent k) order → sides.live.now ≡ k.live
    → AreBeside extent order (tree_datoms (tree_in (roots_read extent k) order)) k.live → Stands k → AreRead k w order sides
read_of k w order extent sides reads extent_is order_is tree_is live_is beside stands = record {
  extent_is = extent_is ∙ reads;
  order_is = order_is;
  tree_is = subst (λ (x : Extent). sides.tree.now ≡ tree_in (roots_read x k) order) (sym extent_is) tree_is;
  live_is = live_is;
  beside =
      subst (λ (x : Extent). AreBeside x sides.order (tree_datoms sides.tree.now) sides.live.now) (sym extent_is)
      (subst (λ (o : Order). AreBeside extent o (tree_datoms sides.tree.now) sides.live.now) (sym order_is)
      (subst (λ (t : List DirectoryNode). AreBeside extent order (tree_datoms t) sides.live.now) (sym tree_is)
      (subst (λ (l : Lists). AreBeside extent order (tree_datoms (tree_in (roots_read extent k) order)) l) (sym live_is) beside)));
  stands = stands;
}

within_rises : (order : Order) (last : Option Probe) (ds : List Datom) → IsRising order ds → IsRising order (upto_last last ds)
within_rises order None ds rising = rising
within_rises order (Some probe) ds rising = rising-filter order (λ d. not (is_above probe d)) ds rising

pub path_rises : (sides : Sides) (end : End) (p : Probe) → IsRising sides.order (path sides end p)
path_rises sides end p =
    within_rises sides.order (last_read sides.extent end) (path_of sides p)
    (rising-filter sides.order (λ d. not (is_below p d)) (whole sides.extent sides.order (tree_datoms sides.tree.now) sides.live.now)
    (merged_rises sides.order (older_read sides.extent sides.live.now (tree_datoms sides.tree.now))
    (live_read sides.extent (list_in sides.live.now sides.order))))

-- ---- a step

pub held_in : (k : SnapshotModel) (stands : Stands k) (coverage : Coverage) (schema : List Datom) (order : Order) (a : ℕ) (held : Bool)
    → HasCoverage coverage schema → schema ≡ k.schema → held ≡ held_by coverage order a → held ≡ covers (facts k.entries) order a
held_in k stands coverage schema order a held has schema_is is =
    is ∙ coverage_of k.schema k.entries coverage stands.schema_is (subst (λ (l : List Datom). HasCoverage coverage l) schema_is has) order
    a

pub shorter : (old new : List Datom) (x : Datom) → old ≡ x ∷ new → length new < length old
shorter old new x is = subst (λ (l : List Datom). length new < length l) (sym is) (omega arith)

module _ {S : Type 0} (db : Db S) (SelectsIn : Db S → Datom → Type 0) (from : Probe) (end : End) (old : Scan S) (found : List Datom)
    (has : HasGiven db (SelectsIn db) from end old found) where
  abbrev Selects : Datom → Type 0
  Selects = SelectsIn db

  abbrev w : Window
  w = window_of db

  -- what the scan sees
  abbrev pub seen : Db S
  seen = showing old.history old.db.now

  abbrev h : List Entry
  h = db.snapshot.entries

  -- nothing is left to read
  pub none_left : old.walk ≡ [] → IsWalk h w Selects from end found
  none_left none =
      ends_with h w Selects from end old.extent found
      (subst (λ (l : List Datom). IsGoing h w Selects from end old.extent found l) none has.going)

  module _ (x : Datom) (rest : List Datom) (parts : old.walk ≡ x ∷ rest) where
    going : IsGoing h w Selects from end old.extent found (x ∷ rest)
    going = subst (λ (l : List Datom). IsGoing h w Selects from end old.extent found l) parts has.going

    pub all_beyond : is_past old.end x ≡ true → IsWalk h w Selects from end found
    all_beyond past =
        ends_at h w Selects from end old.extent found x rest going has.inside
        (subst (λ (e : End). is_past e x ≡ true) has.end_is past)

    module _ (held : Bool) (beside : Option Datom) (held_is : held ≡ covers (facts old.db.now.snapshot.entries) old.order x.a)
        (beside_is : (v : Window) (d : Datom) → is_shown old.extent v d beside ≡ is_shown old.extent v d (slice_get rest 0)) where
      -- as the scan tests the datom
      abbrev pub Tested : Type 0
      Tested = IsTrue (held && is_shown old.extent (window_of seen) x beside) × SelectsIn seen x

      abbrev Passes : Type 0
      Passes = IsTrue (covers (facts h) from.order x.a && is_shown old.extent w x (slice_get rest 0)) × Selects x

      test_is : (held && is_shown old.extent (window_of seen) x beside)
          ≡ (covers (facts h) from.order x.a && is_shown old.extent w x (slice_get rest 0))
      test_is =
          ap (λ b. b && is_shown old.extent (window_of seen) x beside)
          (held_is ∙ ap (λ (v : Db S). covers (facts v.snapshot.entries) old.order x.a) has.db_is
          ∙ ap (λ (o : Order). covers (facts h) o x.a) has.order_is)
          ∙ ap (λ b. covers (facts h) from.order x.a && b)
          (beside_is (window_of seen) x ∙ ap (λ (v : Db S). is_shown old.extent (window_of v) x (slice_get rest 0)) has.db_is)

      -- what is left behind the datom
      abbrev behind : Scan S
      behind = record old { walk = rest }

      pub found_one : is_past old.end x ≡ false → Tested → HasGiven db Selects from end behind (found ++ x ∷ [])
      found_one before tested = record {
        db_is = has.db_is;
        order_is = has.order_is;
        end_is = has.end_is;
        inside = has.inside;
        knows = has.knows;
        going =
            gives h w Selects from end old.extent found x rest going (subst (λ (e : End). is_past e x ≡ false) has.end_is before)
            (subst (λ (b : Bool). b ≡ true) test_is tested.0, subst (λ (v : Db S). SelectsIn v x) has.db_is tested.1);
      }

      pub passed_one : (Tested → ⊥) → HasGiven db Selects from end behind found
      passed_one fails = record {
        db_is = has.db_is;
        order_is = has.order_is;
        end_is = has.end_is;
        inside = has.inside;
        knows = has.knows;
        going =
            passes_by h w Selects from end old.extent found x rest going
            (λ passes. fails (
              subst (λ (b : Bool). b ≡ true) (sym test_is) passes.0,
              subst (λ (v : Db S). SelectsIn v x) (sym has.db_is) passes.1,
            ));
      }

-- ---- a number of them

-- not more than so many are found, where a number is given
abbrev pub IsUpto : Option ℕ → List Datom → Type 0
IsUpto most found = MatchOption most (Unit {0}) (λ n. length found ≤ n)

ne_lt : (a b : ℕ) → a ≤ b → a ≢ b → a < b
ne_lt a b le ne = grind arith

pub upto_more : (most : Option ℕ) (found new : List Datom) (x : Datom) → IsUpto most found → (most ≡ Some (length found) → ⊥)
    → new ≡ found ++ x ∷ [] → IsUpto most new
upto_more None found new x upto not_full is = tt
upto_more (Some n) found new x upto not_full is =
    let more : length found ≢ n = λ full. not_full (ap Some (sym full)) in
    subst (λ (l : List Datom). length l ≤ n) (sym is) (omega (arith, length_push found x, upto, ne_lt (length found) n upto more))

pub none_upto : (most : Option ℕ) (found : List Datom) → found ≡ [] → IsUpto most found
none_upto None found is = tt
none_upto (Some n) found is = subst (λ (l : List Datom). length l ≤ n) (sym is) (omega arith)

-- whether so many are found is tested by an equality
pub full_is : (most : Option ℕ) (n : ℕ) (not_full : Bool) → not_full ≡ not (option_eq eqb most (Some n)) → not_full ≡ false
    → most ≡ Some n
full_is None n not_full test fails = absurd (true≢false (sym test ∙ fails))
full_is (Some m) n not_full test fails = ap Some (same m n (sym test ∙ fails))
  where
    same : (m n : ℕ) → not (eqb m n) ≡ false → m ≡ n
    same m n is = grind (arith, nat_tests, is)

pub not_full_is : (most : Option ℕ) (n : ℕ) (not_full : Bool) → not_full ≡ not (option_eq eqb most (Some n)) → not_full ≡ true
    → most ≡ Some n → ⊥
not_full_is most n not_full test holds full = go (sym (ap (λ (m : Option ℕ). not (option_eq eqb m (Some n))) full) ∙ sym test ∙ holds)
  where
    go : not (eqb n n) ≡ true → ⊥
    go is = grind (arith, nat_tests, is)

-- ---- what is given of an index is what the view has

pub is_not : (b : Bool) → not b ≡ true → b ≡ false
is_not false is = refl
is_not true is = absurd (true≢false (sym is))

-- what a walk does not read lies beyond the end
shown_upto : (w : Window) (probe : Probe) (ds : List Datom) (d : Datom) → Contains (shown Held w (upto_probe probe ds)) d
    → Contains (shown Held w ds) d
shown_upto w probe ds d there =
    let in_window = from_filter (is_within w) (upto_probe probe ds) d
    (subst (λ (l : List Datom). Contains l d) (shown_within w (upto_probe probe ds)) there) in
    subst (λ (l : List Datom). Contains l d) (sym (shown_within w ds))
    (into_filter (is_within w) ds d (from_filter (λ x. not (is_above probe x)) ds d in_window.0).0 in_window.1)

upto_shown : (w : Window) (probe : Probe) (ds : List Datom) (d : Datom) → is_above probe d ≡ false → Contains (shown Held w ds) d
    → Contains (shown Held w (upto_probe probe ds)) d
upto_shown w probe ds d upto there =
    let in_window = from_filter (is_within w) ds d (subst (λ (l : List Datom). Contains l d) (shown_within w ds) there) in
    subst (λ (l : List Datom). Contains l d) (sym (shown_within w (upto_probe probe ds)))
    (into_filter (is_within w) (upto_probe probe ds) d
    (into_filter (λ x. not (is_above probe x)) ds d in_window.0 (ap not upto)) in_window.1)

shown_before : (w : Window) (extent : Extent) (end : End) (ds : List Datom) (d : Datom)
    → Contains (shown extent w (upto_last (last_read extent end) ds)) d → Contains (shown extent w ds) d
shown_before w Said end ds d there = there
shown_before w Held Never ds d there = there
shown_before w Held (Behind probe) ds d there = shown_upto w probe.now ds d there
shown_before w Held (Before probe) ds d there = shown_upto w probe.now ds d there

below_not_above : (o : Ordering) → not (is_gt o) ≡ false → is_lt o ≡ false
below_not_above Less is = absurd (true≢false is)
below_not_above Equal is = refl
below_not_above Greater is = refl

before_shown : (w : Window) (extent : Extent) (end : End) (ds : List Datom) (d : Datom) → is_past end d ≡ false
    → Contains (shown extent w ds) d → Contains (shown extent w (upto_last (last_read extent end) ds)) d
before_shown w Said end ds d before there = there
before_shown w Held Never ds d before there = there
before_shown w Held (Behind probe) ds d before there = upto_shown w probe.now ds d before there
before_shown w Held (Before probe) ds d before there =
    upto_shown w probe.now ds d (below_not_above (probe_cmp probe.now d) before) there

module _ (k : SnapshotModel) (p : Probe) (w : Window) (end : End) (Selects : Datom → Type 0) (sides : Sides)
    (read : AreRead k w p.order sides) where
  abbrev pub IsMet : Datom → Type 0
  IsMet d = InView k.entries w Selects d × IsTrue (is_met (facts k.entries) p end d)

  abbrev pub Given : List Datom → Datom → Type 0
  Given = IsGiven k.entries w Selects sides.extent sides.order end

  path_is : path_of sides p ≡ read_of_kept k sides.extent p
  path_is =
      ap (λ (o : Order). from_probe p (whole sides.extent o (tree_datoms sides.tree.now) sides.live.now)) read.order_is
      ∙ ap (λ (t : List DirectoryNode). from_probe p (whole sides.extent p.order (tree_datoms t) sides.live.now)) read.tree_is
      ∙ ap (λ (l : Lists). from_probe p (whole sides.extent p.order (tree_datoms (tree_in (roots_read sides.extent k) p.order)) l))
      read.live_is

  pub met_of_given : (d : Datom) → Given (path sides end p) d → IsMet d
  met_of_given d given =
      let held = subst (λ (o : Order). covers (facts k.entries) o d.a ≡ true) read.order_is given.is_held in
      let own = met k read.stands p w sides.extent read.extent_is d
      (subst (λ (l : List Datom). Contains (shown sides.extent w l) d) path_is
      (shown_before w sides.extent end (path_of sides p) d given.is_seen)) held in (
        record { is_seen = own.0; is_selected = given.is_selected },
        and_from (covers (facts k.entries) p.order d.a) (not (is_below p d) && not (is_past end d)) held
            (and_from (not (is_below p d)) (not (is_past end d)) (ap not own.1) (ap not given.is_before)),
      )

  pub given_of_met : (d : Datom) → IsMet d → Given (path sides end p) d
  given_of_met d is =
      let outer = and_parts (covers (facts k.entries) p.order d.a) (not (is_below p d) && not (is_past end d)) is.1 in
      let inner = and_parts (not (is_below p d)) (not (is_past end d)) outer.1 in
      record {
        is_seen =
            before_shown w sides.extent end (path_of sides p) d (is_not (is_past end d) inner.1)
            (subst (λ (l : List Datom). Contains (shown sides.extent w l) d) (sym path_is)
            (meets k read.stands p w sides.extent read.extent_is d is.0.is_seen outer.0 (is_not (is_below p d) inner.0)));
        is_held = subst (λ (o : Order). covers (facts k.entries) o d.a ≡ true) (sym read.order_is) outer.0;
        is_before = is_not (is_past end d) inner.1;
        is_selected = is.0.is_selected;
      }

  pub going_first : (last : Option Probe) (rest : List Datom) → last ≡ last_read sides.extent end → rest ≡ upto_last last (path_of sides p)
      → IsGoing k.entries w Selects p end sides.extent [] rest
  going_first last rest last_is rest_is =
      subst (IsGoing k.entries w Selects p end sides.extent [])
      (sym (rest_is ∙ ap (λ (l : Option Probe). upto_last l (path_of sides p)) last_is))
      (begins k.entries w Selects p end sides.extent (path sides end p)
      (subst (λ (o : Order). IsRising o (path sides end p)) read.order_is (path_rises sides end p))
      (λ d given. met_of_given d (subst (λ (o : Order). IsGiven k.entries w Selects sides.extent o end (path sides end p) d)
      (sym read.order_is) given))
      (λ d met. subst (λ (o : Order). IsGiven k.entries w Selects sides.extent o end (path sides end p) d) read.order_is
      (given_of_met d met)))

-- ---- so many of a walk

module _ (h : List Entry) (w : Window) (Selects : Datom → Type 0) (p : Probe) (end : End) (found : List Datom) where
  pub walk_ends : (most : Option ℕ) (answer : List Datom) → IsUpto most found → IsWalk h w Selects p end found → answer ≡ found
      → IsWalkUpto most h w Selects p end answer
  walk_ends most answer upto walk is = subst (IsWalkUpto most h w Selects p end) (sym is) (go most upto)
    where
      go : (most : Option ℕ) → IsUpto most found → IsWalkUpto most h w Selects p end found
      go None upto = walk
      go (Some n) upto = λ all other.
          sym (take_all n found upto)
          ∙ ap (take n) (IsRisingListOf-one p.order (λ d. InView h w Selects d × IsTrue (is_met (facts h) p end d)) found all walk other)

  pub walk_is_full : (extent : Extent) (rest : List Datom) → IsGoing h w Selects p end extent found rest → (most : Option ℕ)
      → (answer : List Datom) → most ≡ Some (length found) → answer ≡ found → IsWalkUpto most h w Selects p end answer
  walk_is_full extent rest going most answer full is =
      subst (IsWalkUpto most h w Selects p end) (sym is)
      (subst (λ (m : Option ℕ). IsWalkUpto m h w Selects p end found) (sym full)
      (λ all walk. front h w Selects p end extent found rest all going walk))

-- ---- walks are scans

pub walk_is_scan : (h : List Entry) (w : Window) (Selects : Datom → Type 0) (p : Probe) (end : End) (range : Range) (ds : List Datom)
    → ((d : Datom) → is_in range d ≡ (not (is_below p d) && not (is_past end d))) → IsWalk h w Selects p end ds
    → IsScan h w Selects p.order range ds
walk_is_scan h w Selects p end range ds same is = record {
  rising = is.rising;
  members = λ d. (
    λ there. let own = (is.members d).0 there in (own.0, ap (λ b. covers (facts h) p.order d.a && b) (same d) ∙ own.1),
    λ given. (is.members d).1 (given.0, sym (ap (λ b. covers (facts h) p.order d.a && b) (same d)) ∙ given.1),
  );
}

-- so many of a walk are so many of a scan
pub first_of_scan : (h : List Entry) (w : Window) (Selects : Datom → Type 0) (p : Probe) (end : End) (range : Range) (ds all : List Datom)
    → ((d : Datom) → is_in range d ≡ (not (is_below p d) && not (is_past end d)))
    → (most : ℕ) → IsWalkUpto (Some most) h w Selects p end ds → IsScan h w Selects p.order range all → ds ≡ take most all
first_of_scan h w Selects p end range ds all same most is scan = is all record {
  rising = scan.rising;
  members = λ d. (
    λ there. let own = (scan.members d).0 there in (own.0, sym (ap (λ b. covers (facts h) p.order d.a && b) (same d)) ∙ own.1),
    λ given. (scan.members d).1 (given.0, ap (λ b. covers (facts h) p.order d.a && b) (same d) ∙ given.1),
  );
}

-- where a range of values ends
abbrev pub EndsAt : Bor Probe → End → Type 0
EndsAt b end = MatchOption b.now.v (end ≡ Behind b) (λ _. end ≡ Before b)

pub end_is_in : (b : Bor Probe) (end : End) (a : ℕ) (v : Option Value) → b.now ≡ valued a v → EndsAt b end → IsIn Avet end
end_is_in b end a None is ends_at =
    let last : end ≡ Behind b = subst (λ (q : Probe). MatchOption q.v (end ≡ Behind b) (λ _. end ≡ Before b)) is ends_at in
    subst (IsIn Avet) (sym last) (ap (λ (q : Probe). q.order) is)
end_is_in b end a (Some v) is ends_at =
    let last : end ≡ Before b = subst (λ (q : Probe). MatchOption q.v (end ≡ Behind b) (λ _. end ≡ Before b)) is ends_at in
    subst (IsIn Avet) (sym last) (ap (λ (q : Probe). q.order) is)

pub between_ends : (b : Bor Probe) (end : End) (a : ℕ) (start to : Option Value) → b.now ≡ valued a to → EndsAt b end → (d : Datom)
    → is_in (between a start to) d ≡ (not (is_below (valued a start) d) && not (is_past end d))
between_ends b end a start None is ends_at d =
    let last : end ≡ Behind b = subst (λ (q : Probe). MatchOption q.v (end ≡ Behind b) (λ _. end ≡ Before b)) is ends_at in
    between_open a d start
    ∙ ap (λ (q : Probe). not (is_below (valued a start) d) && not (is_lt (probe_cmp q d))) (sym is)
    ∙ ap (λ (e : End). not (is_below (valued a start) d) && not (is_past e d)) (sym last)
between_ends b end a start (Some v) is ends_at d =
    let last : end ≡ Before b = subst (λ (q : Probe). MatchOption q.v (end ≡ Behind b) (λ _. end ≡ Before b)) is ends_at in
    between_closed a d start v
    ∙ ap (λ (q : Probe). not (is_below (valued a start) d) && not (not (is_below q d))) (sym is)
    ∙ ap (λ (e : End). not (is_below (valued a start) d) && not (is_past e d)) (sym last)

pub range_is_scan : (h : List Entry) (w : Window) (Selects : Datom → Type 0) (p : Probe) (b : Bor Probe) (end : End) (a : ℕ)
    (start to : Option Value) (ds : List Datom)
    → EndsAt b end → p ≡ valued a start → b.now ≡ valued a to → IsWalk h w Selects p end ds
    → IsScan h w Selects Avet (between a start to) ds
range_is_scan h w Selects p b end a start to ds ends_at from_is to_is is =
    walk_is_scan h w Selects (valued a start) end (between a start to) ds (between_ends b end a start to to_is ends_at)
    (subst (λ (q : Probe). IsWalk h w Selects q end ds) from_is is)
