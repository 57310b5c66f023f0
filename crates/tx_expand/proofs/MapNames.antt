-- The entity of a map that names it by `:db/id`.
use Rattle.std.proofs.Common.{◌≡◌, ℕ, ◌+◌, ◌<◌, true, List, ◌∷◌, length, drop, get_or, refl, ap, sym, ◌∙◌}
use Rattle.std.specs.Prelude.{unwrap_or}
use Rattle.std.proofs.lemmas.Bool.{false≢true}
use Rattle.std.proofs.lemmas.List.{drop_more}
use Rattle.edn_model.specs.Form.{Form, pairs}
use Rattle.edn_form.specs.declared.form.Edn.{Edn}
use Rattle.edn_form.specs.View.{form_of, pairs_of}
use Rattle.tx_model.specs.Asks.{Name, name_in, Key, own, forward, backward, key_in}
use Rattle.tx_model.specs.Walk.{named_by, name_of_map}
use Rattle.tx_forms.specs.Words.{is_own}

pub named_here : (path : List ℕ) (es : List (Edn × Edn)) (i : ℕ) (p : Edn × Edn) (name : Name)
    → name_of_map path (pairs (pairs_of (drop i es))) ≡ name_of_map path (pairs (pairs_of es)) → i < length es → p ≡ get_or es i p
    → name ≡ named_by (key_in (form_of p.0)) (form_of p.1) (name_of_map path (pairs (pairs_of (drop (i + 1) es))))
    → name ≡ name_of_map path (pairs (pairs_of es))
named_here path es i p name rest below is here =
    here
    ∙ ap (λ (q : Edn × Edn). name_of_map path (pairs (pairs_of (q ∷ drop (i + 1) es)))) is
    ∙ sym (ap (λ xs. name_of_map path (pairs (pairs_of xs))) (drop_more es i p below))
    ∙ rest

pub named_by_own : (key : Key) (f : Form) (other : Name) → is_own key ≡ true → named_by key f other ≡ unwrap_or (name_in f) other
named_by_own own f other is = refl
named_by_own (forward k) f other is = absurd (false≢true is)
named_by_own (backward k) f other is = absurd (false≢true is)
