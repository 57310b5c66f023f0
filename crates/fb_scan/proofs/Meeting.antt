-- What a walk from a probe on meets of an index is what the window sees of the history.
use Rattle.std.proofs.Common.{◌≡◌, ◌∙◌, ℕ, ◌<◌, ◌≤◌, inl, inr, Bool, true, false, not, cond, leb, List, [], ◌∷◌, refl, sym, ap, subst}
use Rattle.std.proofs.Common.{arith}
use Rattle.std.specs.Prelude.{Contains, filter}
use Rattle.std.specs.declared.cmp.Ordering.{Ordering}
use Rattle.std.specs.declared.cmp.Ordering.TheVariants.{Less, Equal, Greater}
use Rattle.std.proofs.lemmas.Bool.{true≢false, cases_Bool, leb-true}
use Rattle.fb_values.specs.declared.facts.Datom.{Datom}
use Rattle.fb_values.specs.declared.indexes.Probe.{Probe}
use Rattle.fb_values.specs.Orders.{key_cmp}
use Rattle.fb_values.specs.OrderLaws.{key_cmp_total}
use Rattle.fb_values.specs.Lists.{list_in}
use Rattle.fb_search.specs.Places.{is_below}
use Rattle.fb_values.specs.Rising.{IsRising}
use Rattle.fb_search.proofs.Below.{below_earlier}
use Rattle.fb_model.specs.History.{basis, said}
use Rattle.fb_model.specs.Facts.{is_of, facts, standing}
use Rattle.fb_model.specs.Schema.{covers}
use Rattle.fb_model.proofs.Members.{member_passes}
use Rattle.fb_model.proofs.Triples.{is_of-true}
use Rattle.fb_model.proofs.Times.{one_for_each_key_in, said_t}
use Rattle.live_index.specs.Halves.{merged}
use Rattle.live_index.proofs.Members.{from_filter, into_filter, contains_head}
use Rattle.live_index.proofs.Growing.{rising-filter}
use Rattle.live_index.proofs.Halves.{merged_rises, from_merged, into_merged}
use Rattle.live_index.proofs.Together.{rising_by_time, said_by_time, of_back}
use Rattle.view_model.specs.Window.{Window, is_within, within}
use Rattle.view_model.specs.View.{seen}
use Rattle.seg_tree.specs.Nodes.{tree_datoms}
use Rattle.seg_tree.specs.Indexes.{tree_in}
use Rattle.fb_index.specs.Ranges.{from_probe}
use Rattle.fb_index.specs.Sides.{whole}
use Rattle.fb_index.specs.declared.sides.Extent.{Extent}
use Rattle.fb_index.specs.declared.sides.Extent.TheVariants.{Said, Held}
use Rattle.fb_view.specs.SnapshotModel.{SnapshotModel, Stands, roots_read}
use Rattle.fb_view.proofs.Telling.{pair_stands, was_said, in_one}
use Rattle.fb_view.proofs.Present.{present_held}
use Rattle.fb_scan.specs.Walks.{extent_of, shown}
use Rattle.fb_scan.proofs.Seeing.{shown-seen_in, seen_in_member, seen_moves, standing-passing, later_within, later_above, shown_within}
use Rattle.fb_scan.proofs.Seeing.{held_window}

-- what is read of an index and is not below the probe
abbrev pub path_of : SnapshotModel → Extent → Probe → List Datom
path_of k extent p = from_probe p (whole extent p.order (tree_datoms (tree_in (roots_read extent k) p.order)) k.live)

module _ (k : SnapshotModel) (stands : Stands k) (p : Probe) where
  -- the index as both lists have it, and what of it is not below the probe
  abbrev index : List Datom
  index = merged p.order (tree_datoms (tree_in k.roots p.order)) (list_in k.live p.order)

  abbrev ahead_of : List Datom
  ahead_of = from_probe p index

  index_rises : IsRising p.order index
  index_rises = merged_rises p.order (tree_datoms (tree_in k.roots p.order)) (list_in k.live p.order)

  ahead_rises : IsRising p.order ahead_of
  ahead_rises = rising-filter p.order (λ d. not (is_below p d)) index index_rises

  is_said : (d : Datom) → Contains index d → Contains (said k.entries) d
  is_said d there =
      was_said k stands p.order d (from_merged p.order (tree_datoms (tree_in k.roots p.order)) (list_in k.live p.order) d there)

  is_indexed : (d : Datom) → Contains (said k.entries) d → covers (facts k.entries) p.order d.a ≡ true → Contains index d
  is_indexed d there held =
      into_merged p.order (tree_datoms (tree_in k.roots p.order)) (list_in k.live p.order) d (pair_stands k stands p.order).single
      (in_one k stands p.order d there held)

  not_true : (b : Bool) → not b ≡ true → b ≡ false
  not_true false is = refl
  not_true true is = absurd (true≢false (sym is))

  -- what is below the probe is not later than a datom of its triple that is not below it
  below_is_early : (d x : Datom) → Contains index d → Contains index x → is_below p d ≡ false → is_below p x ≡ true
      → is_of d.e d.a d.v x ≡ true → x.t ≤ d.t
  below_is_early d x d_in x_in above below same = go (key_cmp p.order d x) refl
    where
      go : (o : Ordering) → key_cmp p.order d x ≡ o → x.t ≤ d.t
      go Less is = absurd (true≢false (sym (below_earlier p d x is below) ∙ above))
      go Equal is =
          let one = (one_for_each_key_in k.entries stands.history.lawful p.order).same d x (is_said d d_in) (is_said x x_in) is in
          subst (λ (z : Datom). z.t ≤ d.t) one (omega arith)
      go Greater is =
          let less : key_cmp p.order x d ≡ Less = cc ((key_cmp_total p.order).antisymm x d) in
          let early = (rising_by_time p.order (x ∷ d ∷ []) ((less, tt), (tt, tt))).0 d (contains_head d [] d refl) (of_back d x same) in
          omega (arith, early)

  met_said : (w : Window) (d : Datom) → Contains (shown Said w ahead_of) d → covers (facts k.entries) p.order d.a ≡ true
      → Contains (seen k.entries w) d × (is_below p d ≡ false)
  met_said w d member held =
      let seen_there = subst (λ (l : List Datom). Contains l d) (shown-seen_in p.order w ahead_of ahead_rises) member in
      let own = from_filter (λ x. not (is_below p x)) index d (seen_in_member w ahead_of d seen_there) in
      let above = not_true (is_below p d) own.1 in (
        seen_moves w ahead_of (said k.entries) d (rising_by_time p.order ahead_of ahead_rises)
            (said_by_time k.entries stands.history.lawful) (is_said d own.0)
            (λ x x_in same.
            let covered = subst (λ (a : ℕ). covers (facts k.entries) p.order a ≡ true) (sym (is_of-true d.e d.a d.v x same).a_is) held in
            let x_there = is_indexed x x_in covered in
            elim (cases_Bool (is_below p x)) [
              | inl below ↦ inr (below_is_early d x own.0 x_there above below same)
              | inr x_above ↦ inl (into_filter (λ z. not (is_below p z)) index x x_there (ap not x_above))
            ])
            seen_there,
        above,
      )

  meets_said : (w : Window) (d : Datom) → Contains (seen k.entries w) d → covers (facts k.entries) p.order d.a ≡ true
      → is_below p d ≡ false → Contains (shown Said w ahead_of) d
  meets_said w d member held above =
      let there = seen_in_member w (said k.entries) d member in
      subst (λ (l : List Datom). Contains l d) (sym (shown-seen_in p.order w ahead_of ahead_rises))
      (seen_moves w (said k.entries) ahead_of d (said_by_time k.entries stands.history.lawful) (rising_by_time p.order ahead_of ahead_rises)
      (into_filter (λ x. not (is_below p x)) index d (is_indexed d there held) (ap not above))
      (λ x x_in same. inl (is_said x (from_filter (λ z. not (is_below p z)) index x x_in).0))
      member)

  -- ---- the same of what holds

  abbrev is_covered : Datom → Bool
  is_covered d = covers (facts k.entries) p.order d.a

  abbrev is_above : Datom → Bool
  is_above d = not (is_below p d)

  abbrev read_held : List Datom
  read_held = whole Held p.order (tree_datoms (tree_in k.now p.order)) k.live

  held_is : filter is_covered read_held ≡ filter is_covered (standing index)
  held_is = present_held k stands p.order

  abbrev held_path : List Datom
  held_path = from_probe p read_held

  moves : (ds es : List Datom) (d : Datom) → ds ≡ es → Contains ds d → Contains es d
  moves ds es d same there = subst (λ (l : List Datom). Contains l d) same there

  module _ (w : Window) (plain : w.history ≡ false) (behind : basis k.entries < w.to) where
    early : (d : Datom) → Contains ahead_of d → d.t < w.to
    early d there =
        let d_said = is_said d (from_filter is_above index d there).0 in
        let all_old = said_t k.entries stands.history.lawful in
        let old = leb-true d.t (basis k.entries) (member_passes (λ x. leb x.t (basis k.entries)) (said k.entries) d all_old d_said) in
        omega (arith, old, behind)

    shown_said : shown Said w ahead_of ≡ within w (filter is_above (standing index))
    shown_said =
        shown-seen_in p.order w ahead_of ahead_rises
        ∙ ap (λ b. cond b (within w ahead_of) (standing (within w ahead_of))) plain
        ∙ standing-passing (is_within w) ahead_of (later_within w ahead_of (rising_by_time p.order ahead_of ahead_rises) early)
        ∙ ap (within w) (standing-passing is_above index (later_above p index index_rises))

    said_of_held : (d : Datom) → is_covered d ≡ true → Contains (shown Held w held_path) d → Contains (shown Said w ahead_of) d
    said_of_held d covered there =
        let inside = from_filter (is_within w) held_path d (moves (shown Held w held_path) _ d (shown_within w held_path) there) in
        let above = from_filter is_above read_held d inside.0 in
        let holds = from_filter is_covered (standing index) d (moves _ _ d held_is (into_filter is_covered read_held d above.0 covered)) in
        moves _ (shown Said w ahead_of) d (sym shown_said)
        (into_filter (is_within w) (filter is_above (standing index)) d (into_filter is_above (standing index) d holds.0 above.1) inside.1)

    held_of_said : (d : Datom) → is_covered d ≡ true → Contains (shown Said w ahead_of) d → Contains (shown Held w held_path) d
    held_of_said d covered there =
        let inside = from_filter (is_within w) (filter is_above (standing index)) d (moves (shown Said w ahead_of) _ d shown_said there) in
        let above = from_filter is_above (standing index) d inside.0 in
        let read =
        from_filter is_covered read_held d (moves _ _ d (sym held_is) (into_filter is_covered (standing index) d above.0 covered)) in
        moves _ (shown Held w held_path) d (sym (shown_within w held_path))
        (into_filter (is_within w) held_path d (into_filter is_above read_held d read.0 above.1) inside.1)

  -- ---- whatever the walk reads

  pub met : (w : Window) (extent : Extent) → extent ≡ extent_of k.entries w → (d : Datom)
      → Contains (shown extent w (path_of k extent p)) d → covers (facts k.entries) p.order d.a ≡ true
      → Contains (seen k.entries w) d × (is_below p d ≡ false)
  met w Said reads d member held = met_said w d member held
  met w Held reads d member held =
      let own = held_window k.entries w reads in
      met_said w d (said_of_held w own.0 own.1 d held member) held

  pub meets : (w : Window) (extent : Extent) → extent ≡ extent_of k.entries w → (d : Datom) → Contains (seen k.entries w) d
      → covers (facts k.entries) p.order d.a ≡ true → is_below p d ≡ false → Contains (shown extent w (path_of k extent p)) d
  meets w Said reads d member held above = meets_said w d member held above
  meets w Held reads d member held above =
      let own = held_window k.entries w reads in
      held_of_said w own.0 own.1 d held (meets_said w d member held above)
