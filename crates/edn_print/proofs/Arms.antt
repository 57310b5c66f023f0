-- The text of a map's pairs is that of the value that holds them.
use Rattle.std.proofs.Common.{◌≡◌, ℕ, List, [], ◌∷◌, ap, ◌∙◌, sym, subst}
use Rattle.edn_model.specs.Form as form
use Rattle.edn_model.specs.Canon.{Canon, CanonPairs}
use Rattle.edn_form.specs.declared.form.Edn.{Edn, Map}
use Rattle.edn_form.specs.declared.form.Pairs.{Pairs}
use Rattle.edn_form.specs.View.{form_of, pairs_of, entries}
use Rattle.edn_form.proofs.Views.{form_of-Map}
use Rattle.edn_print.specs.Printed.{Appends, Encloses}
use Rattle.edn_print.specs.Printable.{printable, printable_pairs}

pub of_map : (e : Edn) (p : Pairs) (xs : List (Edn × Edn)) (old new : List ℕ)
    → e ≡ Map p → xs ≡ entries p → Appends (Encloses (123 ∷ []) 125 (CanonPairs (printable_pairs (form.pairs (pairs_of xs))))) old new
    → Appends (Canon (printable (form_of e))) old new
of_map e p xs old new is at a =
    let seen : form_of e ≡ form.map (form.pairs (pairs_of xs)) =
    ap form_of is ∙ form_of-Map p ∙ ap (λ z. form.map (form.pairs (pairs_of z))) (sym at) in
    subst (λ f. Appends (Canon (printable f)) old new) (sym seen)
    (record { text = a.text; is = (a.is.inside, a.is.is, a.is.text); behind = a.behind })
