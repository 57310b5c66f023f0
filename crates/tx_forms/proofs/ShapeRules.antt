-- The shape of a map by its pairs.
use Rattle.std.proofs.Common.{◌≡◌, ℕ, ◌<◌, ◌≤◌, Bool, true, false, List, [], ◌∷◌, ◌+◌, length, drop, get_or, refl, ap, ◌∙◌, sym, arith}
use Rattle.std.specs.Prelude.{◌&&◌}
use Rattle.std.proofs.lemmas.List.{drop_more, drop_all}
use Rattle.edn_model.specs.Form.{Form, pairs}
use Rattle.tx_model.specs.Shapes.{has_map_shape, has_pair_shape, has_value_shape}
use Rattle.edn_form.specs.declared.form.Edn.{Edn}
use Rattle.edn_form.specs.View.{form_of, pairs_of}
use Rattle.tx_forms.specs.Shaped.{have_pair_shapes}

at_end : (a b : Bool) → (a && b) ≡ ((a && b) && true)
at_end true true = refl
at_end true false = refl
at_end false b = refl

in_pairs : (a b c : Bool) → (a && b && c) ≡ ((a && b) && c)
in_pairs true b c = refl
in_pairs false b c = refl

map_shape : (ps : List (Form × Form)) → 0 < length ps → has_map_shape (pairs ps) ≡ have_pair_shapes ps
map_shape [] some = absurd (omega arith)
map_shape (p ∷ []) some = at_end (has_pair_shape p.0 p.1) (has_value_shape p.1)
map_shape (p ∷ q ∷ ps) some =
    ap (λ r. has_pair_shape p.0 p.1 && has_value_shape p.1 && r) (map_shape (q ∷ ps) (omega arith))
    ∙ in_pairs (has_pair_shape p.0 p.1) (has_value_shape p.1) (have_pair_shapes (q ∷ ps))

pub map_shape_of : (es : List (Edn × Edn)) → 0 < length es → has_map_shape (pairs (pairs_of es)) ≡ have_pair_shapes (pairs_of es)
map_shape_of [] some = absurd (omega arith)
map_shape_of (e ∷ es) some = map_shape (pairs_of (e ∷ es)) (omega arith)

pub empty_map_shape : (es : List (Edn × Edn)) → length es ≡ 0 → has_map_shape (pairs (pairs_of es)) ≡ false
empty_map_shape [] none = refl
empty_map_shape (e ∷ es) none = absurd (omega arith)

-- ---- a map whose pairs are looked at one by one

and_false : (a : Bool) → (a && false) ≡ false
and_false true = refl
and_false false = refl

module _ (es : List (Edn × Edn)) (i : ℕ) (p : Edn × Edn) (rest : have_pair_shapes (pairs_of (drop i es)) ≡ have_pair_shapes (pairs_of es))
    (below : i < length es) (is : p ≡ get_or es i p) where
  from_here : have_pair_shapes (pairs_of es)
      ≡ ((has_pair_shape (form_of p.0) (form_of p.1) && has_value_shape (form_of p.1)) && have_pair_shapes (pairs_of (drop (i + 1) es)))
  from_here =
      sym rest
      ∙ ap (λ xs. have_pair_shapes (pairs_of xs)) (drop_more es i p below)
      ∙ ap (λ (q : Edn × Edn). have_pair_shapes (pairs_of (q ∷ drop (i + 1) es))) (sym is)

  pub no_pair_shape : has_pair_shape (form_of p.0) (form_of p.1) ≡ false → false ≡ has_map_shape (pairs (pairs_of es))
  no_pair_shape bad =
      sym (map_shape_of es (omega (arith, below)) ∙ from_here
      ∙ ap (λ b. (b && has_value_shape (form_of p.1)) && have_pair_shapes (pairs_of (drop (i + 1) es))) bad)

  pub no_value_shape : has_value_shape (form_of p.1) ≡ false → false ≡ has_map_shape (pairs (pairs_of es))
  no_value_shape bad =
      sym (map_shape_of es (omega (arith, below)) ∙ from_here
      ∙ ap (λ b. (has_pair_shape (form_of p.0) (form_of p.1) && b) && have_pair_shapes (pairs_of (drop (i + 1) es))) bad
      ∙ ap (λ b. b && have_pair_shapes (pairs_of (drop (i + 1) es))) (and_false (has_pair_shape (form_of p.0) (form_of p.1))))

pub all_whole : (es : List (Edn × Edn)) (i : ℕ) → have_pair_shapes (pairs_of (drop i es)) ≡ have_pair_shapes (pairs_of es) → length es ≤ i
    → 0 < length es
    → true ≡ has_map_shape (pairs (pairs_of es))
all_whole es i rest past some =
    sym (map_shape_of es some ∙ sym rest ∙ ap (λ xs. have_pair_shapes (pairs_of xs)) (drop_all i es past))
