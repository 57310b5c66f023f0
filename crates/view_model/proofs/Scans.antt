-- A scan, computed, is the one list that a scan is to be.
use Rattle.std.proofs.Common.{◌≡◌, Bool, List}
use Rattle.std.specs.Prelude.{filter, Contains, IsTrue}
use Rattle.fb_values.specs.declared.facts.Datom.{Datom}
use Rattle.fb_values.specs.declared.facts.Entry.{Entry}
use Rattle.fb_values.specs.declared.indexes.Order.{Order}
use Rattle.fb_values.specs.Rising.{rises}
use Rattle.fb_model.specs.Rising.{in_order, IsRisingListOf}
use Rattle.fb_model.specs.History.{said}
use Rattle.fb_model.specs.Facts.{facts}
use Rattle.fb_model.specs.Lawful.{IsLawful}
use Rattle.fb_model.proofs.Members.{kept, keep, in_order-rises, in_order_member}
use Rattle.fb_model.proofs.InOrder.{OneForEachKey, in_order_has, one_rising_list}
use Rattle.fb_model.proofs.Times.{one_for_each_key_in}
use Rattle.view_model.specs.Window.{Window}
use Rattle.view_model.specs.View.{seen, InView, is_selected_by, view}
use Rattle.view_model.specs.Scan.{Range, is_scanned, IsScan, scan}
use Rattle.view_model.proofs.Views.{seen_is_said}

one_in_view : (h : List Entry) (w : Window) (filters : List (Datom → Bool)) (order : Order) (range : Range) → IsLawful h
    → OneForEachKey order (filter (is_scanned (facts h) order range) (view h w filters))
one_in_view h w filters order range lawful =
    record { same = λ x y x_in y_in equal. (one_for_each_key_in h lawful order).same x y (was_said x x_in) (was_said y y_in) equal }
  where
    was_said : (x : Datom) → Contains (filter (is_scanned (facts h) order range) (view h w filters)) x → Contains (said h) x
    was_said x member =
        (seen_is_said h w x (kept (is_selected_by filters) (seen h w) x
        (kept (is_scanned (facts h) order range) (view h w filters) x member).member).member).member

pub scan-IsScan : (h : List Entry) (w : Window) (filters : List (Datom → Bool)) (order : Order) (range : Range) → IsLawful h
    → IsScan h w (λ d. IsTrue (is_selected_by filters d)) order range (scan h w filters order range)
scan-IsScan h w filters order range lawful =
    record {
      rising = in_order-rises order (filter (is_scanned (facts h) order range) (view h w filters));
      members = λ d. (forth d, back d);
    }
  where
    forth : (d : Datom) → Contains (scan h w filters order range) d
        → InView h w (λ d. IsTrue (is_selected_by filters d)) d × IsTrue (is_scanned (facts h) order range d)
    forth d member =
        let scanned =
        kept (is_scanned (facts h) order range) (view h w filters) d
        (in_order_member order (filter (is_scanned (facts h) order range) (view h w filters)) d member) in
        let selected = kept (is_selected_by filters) (seen h w) d scanned.member in
        (record { is_seen = selected.member; is_selected = selected.passes }, scanned.passes)

    back : (d : Datom) → InView h w (λ d. IsTrue (is_selected_by filters d)) d × IsTrue (is_scanned (facts h) order range d)
        → Contains (scan h w filters order range) d
    back d is =
        in_order_has order (filter (is_scanned (facts h) order range) (view h w filters)) (one_in_view h w filters order range lawful) d
        (keep (is_scanned (facts h) order range) (view h w filters) d
        (keep (is_selected_by filters) (seen h w) d is.0.is_seen is.0.is_selected) is.1)

-- there is one such list
pub IsRisingListOf-one : (order : Order) (P : Datom → Type 0) (ds es : List Datom) → IsRisingListOf order ds P → IsRisingListOf order es P
    → ds ≡ es
IsRisingListOf-one order P ds es first second =
    one_rising_list order ds es first.rising second.rising (λ d member. (second.members d).1 ((first.members d).0 member))
    (λ d member. (first.members d).1 ((second.members d).0 member))
