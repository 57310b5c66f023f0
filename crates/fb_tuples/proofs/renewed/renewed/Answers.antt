-- The rows of other entities and the new ones, sorted.
use Rattle.std.proofs.Common.{◌≡◌, ◌∙◌, ◌++◌, ◌∷◌, [], ℕ, List, map, sym, ap, subst, rules}
use Rattle.std.specs.Prelude.{◌↔◌, Contains}
use Rattle.std.specs.Ordering.{is_lt}
use Rattle.std.specs.List.Sorted.{IsPermutation}
use Rattle.std.proofs.lemmas.List.MinMax.{ranks_by}
use Rattle.std.proofs.lemmas.Fn.{always_returns_same}
use Rattle.fb_values.specs.declared.facts.Datom.{Datom}
use Rattle.fb_model.specs.Facts.{facts, standing}
use Rattle.fb_model.proofs.OneMoreEntry.{said-push}
use Rattle.tx_after.specs.After.{AreChanges, after}
use Rattle.tuple_model.specs.Tuples.{Row, row_cmp}
use Rattle.fb_tuples.specs.Indexed.{rows_of_others, rows_anew}
use Rattle.fb_tuples.proofs.RowOrders.{row_cmp_total}
use Rattle.fb_tuples.proofs.Renewing.{renewed_tuples}
use Rattle.fb_tuples.proofs.renewed.renewed.Goals as goal

pub push_anew-requires : goal.push_anew-requires
push_anew-requires c =
    subst AreChanges (sym c.as_slice-changes.ensures)
    (c.datoms_in_order_are_changes.ensures c.args.before.now.entries c.args.entry.now c.requires.lawful.datoms_in_order)

pub returns : goal.returns
returns c =
    let h = c.args.before.now.entries in
    let entry = c.args.entry.now in
    let attrs = c.args.attrs.now in
    let rows = c.args.rows.now in
    let es = c.in_ok-entities.entities.items in
    let later : after h entry.datoms ≡ facts (h ++ entry ∷ []) = ap standing (sym (said-push h entry)) in
    let changes : c.as_slice-changes.result.now ≡ entry.datoms = c.as_slice-changes.ensures in
    let exact = subst (λ (ds : List Datom). (e : ℕ) → Contains (map (λ d. d.e) ds) e ↔ Contains es e) changes c.in_ok-entities.ensures.members in
    let old : c.in_ok-new.new.items ≡ rows_of_others es rows =
    c.in_ok-new.ensures ∙ ap (λ (l : List ℕ). rows_of_others l rows) c.deref.ensures.value in
    let all : c.push_anew.new.rows.items ≡ rows_of_others es rows ++ rows_anew (facts (h ++ entry ∷ [])) attrs es =
    c.in_ok-push_anew.ensures ∙ ap (λ (l : List Row). l ++ rows_anew (after h c.as_slice-changes.result.now) attrs c.deref-2.result.now) old
    ∙ ap (λ (l : List Datom). rows_of_others es rows ++ rows_anew (after h l) attrs c.deref-2.result.now) changes
    ∙ ap (λ (l : List ℕ). rows_of_others es rows ++ rows_anew (after h entry.datoms) attrs l) c.deref-2.ensures.value
    ∙ ap (λ (fs : List Datom). rows_of_others es rows ++ rows_anew fs attrs es) later in
    renewed_tuples h entry attrs rows c.requires.stands es exact c.in_ok-entities.ensures.rising c.sort_by.new.self.items
    (subst (λ l. IsPermutation l c.sort_by.new.self.items) all c.in_ok-sort_by.ensures.permutation)
    (c.in_ok-sort_by.ensures.sorted (λ x y. is_lt (row_cmp x y)) (ranks_by row_cmp_total (λ (row : Row). row))
    (always_returns_same _ _ _ (λ a r f' called. search rules)))
