-- The guard on composites bars exactly the changes that are barred.
use Rattle.std.proofs.Common.{◌≡◌, ◌≢◌, ℕ, Bool, true, false, cond, not, ◌&&◌, List, [], ◌∷◌, ◌++◌, refl, sym, ◌∙◌, ap}
use Rattle.std.proofs.Common.{Option, Some, None}
use Rattle.std.specs.Prelude.{Contains, nat_eq, is_some}
use Rattle.std.specs.List.{list_any}
use Rattle.std.specs.Option.{option_map_or}
use Rattle.std.specs.Ordering.{is_eq}
use Rattle.std.specs.declared.cmp.Ordering.{Ordering}
use Rattle.std.specs.declared.cmp.Ordering.TheVariants.{Less, Equal, Greater}
use Rattle.std.proofs.lemmas.Bool.{true≢false, and_parts, and_from, or_left, eqb-true, eq-eqb}
use Rattle.fb_values.specs.declared.facts.Datom.{Datom}
use Rattle.fb_values.specs.declared.facts.Entry.{Entry}
use Rattle.fb_model.specs.History.{said}
use Rattle.fb_model.specs.Facts.{facts, standing, values_of}
use Rattle.tx_refusals.specs.declared.reasons.Bar.TheVariants.{UniqueTuple}
use Rattle.tuple_model.specs.Composite.{is_composite, attributes_named}
use Rattle.tuple_model.specs.Tuples.{tuple_cmp, least_value, tuple_of}
use Rattle.tuple_model.specs.UniqueTuples.{is_whole, AreShared, IsBarred, is_shared_by, are_shared, bars_list, bars_unique}
use Rattle.tuple_model.proofs.Members.{any_has, any_member}
use Rattle.tuple_model.proofs.Rows.{tuple_cmp-Equal, tuple_cmp-itself}
use Rattle.tuple_model.proofs.SeenRows.{has_from_some}

is_equal : (r : Ordering) → is_eq r ≡ true → r ≡ Equal
is_equal Less is = absurd (true≢false (sym is))
is_equal Equal is = refl
is_equal Greater is = absurd (true≢false (sym is))

not_same : (e other : ℕ) → not (nat_eq e other) ≡ true → e ≢ other
not_same e other is same = true≢false (sym (ap not (sym (eq-eqb e other same)) ∙ is))

are_not_same : (e other : ℕ) → e ≢ other → not (nat_eq e other) ≡ true
are_not_same e other apart = go (nat_eq e other) refl
  where
    go : (b : Bool) → nat_eq e other ≡ b → not b ≡ true
    go true is = absurd (apart (eqb-true e other is))
    go false is = refl

-- a whole tuple of some attributes has a value
whole_has : (attrs : List ℕ) (facts : List Datom) (e : ℕ) → is_composite facts attrs ≡ true → (held : List Datom)
    → is_whole (tuple_of held attrs e) ≡ true → list_any is_some (tuple_of held attrs e) ≡ true
whole_has [] facts e composite held whole = absurd (true≢false (sym composite))
whole_has (a ∷ attrs) facts e composite held whole =
    let first = is_some (least_value (values_of held e a)) in
    or_left first (list_any is_some (tuple_of held attrs e)) (and_parts first (is_whole (tuple_of held attrs e)) whole).0

module _ (h : List Entry) (changes : List Datom) where
  abbrev held : List Datom
  held = standing (said h ++ changes)

  shared : (attrs : List ℕ) → are_shared held changes attrs ≡ true → AreShared h changes attrs
  shared attrs are =
      let change = any_member (λ (d : Datom). list_any (λ (f : Datom). is_shared_by held attrs d.e f.e) held) changes are in
      let fact = any_member (λ (f : Datom). is_shared_by held attrs change.0.e f.e) held change.2 in
      let parts = and_parts (not (nat_eq change.0.e fact.0.e)) _ fact.2 in
      let both = and_parts (is_whole (tuple_of held attrs change.0.e)) _ parts.1 in
      record {
        changed = change.0;
        is_change = change.1;
        other = fact.0.e;
        apart = not_same change.0.e fact.0.e parts.0;
        whole = both.0;
        same = tuple_cmp-Equal (tuple_of held attrs change.0.e) (tuple_of held attrs fact.0.e) (is_equal _ both.1);
      }

  are : (attrs : List ℕ) → is_composite (facts h) attrs ≡ true → AreShared h changes attrs → are_shared held changes attrs ≡ true
  are attrs composite is =
      let whole = ap is_whole (sym is.same) ∙ is.whole in
      let fact = has_from_some held attrs is.other (whole_has attrs (facts h) is.other composite held whole) in
      let same : fact.0.e ≡ is.other = eqb-true fact.0.e is.other fact.2 in
      let tied = ap is_eq (ap (tuple_cmp (tuple_of held attrs is.changed.e)) (sym is.same) ∙ tuple_cmp-itself (tuple_of held attrs is.changed.e)) in
      let with_other : is_shared_by held attrs is.changed.e is.other ≡ true =
      and_from _ _ (are_not_same is.changed.e is.other is.apart) (and_from _ _ is.whole tied) in
      any_has (λ (d : Datom). list_any (λ (f : Datom). is_shared_by held attrs d.e f.e) held) changes is.changed is.is_change
      (any_has (λ (f : Datom). is_shared_by held attrs is.changed.e f.e) held fact.0 fact.1
      (ap (is_shared_by held attrs is.changed.e) same ∙ with_other))

  listed_is_barred : (lists : List (List (List ℕ))) → list_any (bars_list h changes) lists ≡ true → IsBarred lists h changes
  listed_is_barred lists some =
      let found = any_member (bars_list h changes) lists some in
      go found.0 found.1 (attributes_named (facts h) found.0) refl found.2
    where
      go : (names : List (List ℕ)) → Contains lists names → (named : Option (List ℕ)) → attributes_named (facts h) names ≡ named
          → option_map_or (λ attrs. is_composite (facts h) attrs && are_shared held changes attrs) named false ≡ true → IsBarred lists h changes
      go names listed None is none = absurd (true≢false (sym none))
      go names listed (Some attrs) is pass =
          let parts = and_parts (is_composite (facts h) attrs) (are_shared held changes attrs) pass in
          record { names = names; listed = listed; attrs = attrs; named = is; composite = parts.0; shared = shared attrs parts.1 }

  barred_is_listed : (lists : List (List (List ℕ))) → IsBarred lists h changes → list_any (bars_list h changes) lists ≡ true
  barred_is_listed lists is =
      any_has (bars_list h changes) lists is.names is.listed
      (ap (λ named. option_map_or (λ attrs. is_composite (facts h) attrs && are_shared held changes attrs) named false) is.named
      ∙ and_from _ _ is.composite (are is.attrs is.composite is.shared))

  pub bars-IsBarred : (lists : List (List (List ℕ))) → bars_unique lists h changes ≡ Some UniqueTuple → IsBarred lists h changes
  bars-IsBarred lists bars = go (list_any (bars_list h changes) lists) refl bars
    where
      go : (b : Bool) → list_any (bars_list h changes) lists ≡ b → cond b (Some UniqueTuple) None ≡ Some UniqueTuple → IsBarred lists h changes
      go true is says = listed_is_barred lists is
      go false is says = absurd (cc)

  pub IsBarred-bars : (lists : List (List (List ℕ))) → IsBarred lists h changes → bars_unique lists h changes ≡ Some UniqueTuple
  IsBarred-bars lists is = ap (λ b. cond b (Some UniqueTuple) None) (barred_is_listed lists is)
