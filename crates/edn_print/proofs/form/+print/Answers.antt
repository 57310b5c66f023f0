use Rattle.std.proofs.Common.{◌≡◌, ◌+◌, [], ◌∷◌, drop, ap, ◌∙◌, sym, subst, arith}
use Rattle.std.proofs.lemmas.List.{drop_more, drop_all}
use Rattle.std.proofs.lemmas.Result.{on_ok_weaker}
use Rattle.edn_model.specs.Form as form
use Rattle.edn_model.specs.Canon.{CanonAll, CanonPairs}
use Rattle.edn_form.specs.View.{form_of, forms_of, pairs_of}
use Rattle.edn_print.specs.Printed.{Appends}
use Rattle.edn_print.specs.Printable.{printable, printables, printable_pairs}
use Rattle.edn_print.proofs.Arms.{of_map}
use Rattle.edn_print.proofs.Writing.{enclosed, CanonFrom, none_left, rest_from, member_first, CanonPairsFrom, no_pairs_left, later_from}
use Rattle.edn_print.proofs.Writing.{pair_first}
use Rattle.edn_print.proofs.form.+print.Goals as goal

pub print_form-returns-in-Map-clause-ok : goal.print_form-returns-in-Map-clause-ok
print_form-returns-in-Map-clause-ok t c =
    on_ok_weaker c.print_pairs.result
    (λ a. of_map c.args.form.now c.in-Map.pairs c.as_slice-in-Map.result.now _ _ c.in-Map.is c.as_slice-in-Map.ensures a)
    c.print_pairs.ensures.ok

pub print_items-loop-index-preserved : goal.print_items-loop-index-preserved
print_items-loop-index-preserved t c =
    let l = c.loop-index in
    let xs = c.args.items.now in
    let x = c.index-items-index.result in
    let others = printables (form.forms (forms_of (drop (l.index + 1) xs))) in
    let here : drop l.index xs ≡ x ∷ drop (l.index + 1) xs =
    drop_more xs l.index x (omega arith) ∙ ap (λ y. y ∷ drop (l.index + 1) xs) (sym c.index-items-index.is) in
    record {
      text =
          λ end rest.
          l.invariant.text end (subst (λ ys. Appends (CanonFrom l.index (printables (form.forms (forms_of ys)))) l.out.items end) (sym here)
          (member_first l.index (printable (form_of x)) others _ _ _ _ c.in_ok-separate.ensures.ok c.in_ok-print_form.ensures.ok
          (rest_from l.index others _ _ rest)));
      kept = λ front h. c.print_form.ensures.kept front (c.separate.ensures.kept front (l.invariant.kept front h));
    }

pub print_items-returns-clause-ok : goal.print_items-returns-clause-ok
print_items-returns-clause-ok t c =
    let l = c.loop-index in
    let xs = c.args.items.now in
    let none : drop l.index xs ≡ [] = drop_all l.index xs (omega arith) in
    let all : Appends (CanonAll (printables (form.forms (forms_of xs)))) c.append.new.out.items l.out.items =
    l.invariant.text l.out.items (subst (λ ys. Appends (CanonFrom l.index (printables (form.forms (forms_of ys)))) l.out.items l.out.items)
    (sym none) (none_left l.index l.out.items)) in
    on_ok_weaker c.append-2.result
    (λ e. enclosed c.args.opening.now c.args.closing _ _ _ _ c.in_ok-append.ensures.ok all e) c.append-2.ensures.ok

pub print_pairs-loop-index-preserved : goal.print_pairs-loop-index-preserved
print_pairs-loop-index-preserved t c =
    let l = c.loop-index in
    let xs = c.args.pairs.now in
    let x = c.index-pairs-index.result in
    let others = printable_pairs (form.pairs (pairs_of (drop (l.index + 1) xs))) in
    let here : drop l.index xs ≡ x ∷ drop (l.index + 1) xs =
    drop_more xs l.index x (omega arith) ∙ ap (λ y. y ∷ drop (l.index + 1) xs) (sym c.index-pairs-index.is) in
    record {
      text =
          λ end rest. l.invariant.text end
          (subst (λ ys. Appends (CanonPairsFrom l.index (printable_pairs (form.pairs (pairs_of ys)))) l.out.items end) (sym here)
          (pair_first l.index (printable (form_of x.0)) (printable (form_of x.1)) others _ _ _ _ _ _ c.in_ok-separate.ensures.ok
          c.in_ok-print_form.ensures.ok c.in_ok-append-2.ensures.ok c.in_ok-print_form-2.ensures.ok (later_from l.index others _ _ rest)));
      kept =
          λ front h. c.print_form-in-loop-index.ensures.kept front (c.append-in-loop-index.ensures.kept front
          (c.print_form.ensures.kept front (c.separate.ensures.kept front (l.invariant.kept front h))));
    }

pub print_pairs-returns-clause-ok : goal.print_pairs-returns-clause-ok
print_pairs-returns-clause-ok t c =
    let l = c.loop-index in
    let xs = c.args.pairs.now in
    let none : drop l.index xs ≡ [] = drop_all l.index xs (omega arith) in
    let all : Appends (CanonPairs (printable_pairs (form.pairs (pairs_of xs)))) c.append.new.out.items l.out.items =
    l.invariant.text l.out.items
    (subst (λ ys. Appends (CanonPairsFrom l.index (printable_pairs (form.pairs (pairs_of ys)))) l.out.items l.out.items) (sym none)
    (no_pairs_left l.index l.out.items)) in
    on_ok_weaker c.append-2.result (λ e. enclosed (123 ∷ []) 125 _ _ _ _ c.in_ok-append.ensures.ok all e) c.append-2.ensures.ok
