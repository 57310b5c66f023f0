use Rattle.std.proofs.Common.{◌≡◌, ◌∙◌, ◌≤◌, ℕ, List, ◌∷◌, ◌++◌, [], map, refl, ap, arith, Vec, Global}
use Rattle.std.proofs.lemmas.List.{map-append}
use Rattle.edn_form.specs.View.{form_of, forms_of}
use Rattle.edn_form.specs.declared.form.Edn.{Edn}
use Rattle.edn_model.specs.Form.{Form}
use Rattle.edn_values.specs.Values.{form_of_value}
use Rattle.fb_values.specs.declared.facts.Datom.{Datom}
use Rattle.fb_pull.specs.Near.{lent}
use Rattle.fb_pull.proofs.Entities.{one_taken, one_passed, none_left, lent_at, lent_below}
use Rattle.fb_pull.proofs.facts.forms_among.Goals.{then-d-a+then-left-gt0+in_ok-as_edn+in_ok-push, else-d-a}
use Rattle.fb_pull.proofs.facts.forms_among.Goals.{else-d-a-via-then-d-a+else-left-gt0, else-d-a-via-else-d-a}
use Rattle.fb_pull.proofs.facts.forms_among.Goals as goal

abbrev told : List Datom → List Form
told ds = map form_of_value (map (λ (d : Datom). d.v) ds)

pub loop-d-preserved : goal.loop-d-preserved
loop-d-preserved c =
    let below = lent_below c.args.datoms.now c.loop-d.d-index c.loop-d-test.true in
    let at = lent_at c.args.datoms.now c.loop-d.d-index c.d-item.result c.loop-d-test.true c.d-item.is in
    elim c.if-d-a.branch [
      | then-d-a+then-left-gt0+in_ok-as_edn+in_ok-push w ↦
          one_taken told c.args.a (lent c.args.datoms.now) c.loop-d.d-index c.d-item.result.now c.loop-d.left c.if-d-a.left _ _ _ below at (form_of_value c.d-item.result.now.v ∷ []) (λ ds. refl) w.if-d-a.true w.if-left-gt0.true w.left-is
          (ap (λ (v : Vec Edn Global). forms_of v.items) w.list-is ∙ ap forms_of w.in_ok-push.ensures.items
          ∙ map-append form_of c.loop-d.list.items (w.in_ok-as_edn.field-0 ∷ [])
          ∙ ap (λ (f : Form). forms_of c.loop-d.list.items ++ f ∷ []) w.in_ok-as_edn.ensures)
          c.loop-d.invariant
      | else-d-a w ↦ elim w.else-d-a.branch [
        | else-d-a-via-then-d-a+else-left-gt0 v ↦
            none_left told c.args.a (lent c.args.datoms.now) c.loop-d.d-index c.d-item.result.now c.loop-d.left c.if-d-a.left _ _ _ below at (zero_of v.if-left-gt0.false) w.left-is (ap (λ (v : Vec Edn Global). forms_of v.items) w.list-is)
            c.loop-d.invariant
        | else-d-a-via-else-d-a v ↦
            one_passed told c.args.a (lent c.args.datoms.now) c.loop-d.d-index c.d-item.result.now c.loop-d.left c.if-d-a.left _ _ _
            below at v.if-d-a.false w.left-is (ap (λ (v : Vec Edn Global). forms_of v.items) w.list-is) c.loop-d.invariant
      ]
    ]
  where
    zero_of : {n : ℕ} → n ≤ 0 → n ≡ 0
    zero_of le = omega (arith, le)
