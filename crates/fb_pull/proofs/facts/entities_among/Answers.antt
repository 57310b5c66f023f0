use Rattle.std.proofs.Common.{◌≡◌, ◌∙◌, ◌≤◌, ℕ, List, ◌∷◌, ◌++◌, [], map, refl, ap, arith, Option, Some, None, Vec, Global}
use Rattle.std.specs.Prelude.{filter_map}
use Rattle.std.specs.List.{cons_option}
use Rattle.fb_values.specs.declared.facts.Datom.{Datom}
use Rattle.fb_model.specs.Schema.{entity_in}
use Rattle.fb_pull.specs.Near.{lent}
use Rattle.fb_pull.proofs.Entities.{one_taken, one_passed, none_left, lent_at, lent_below}
use Rattle.fb_pull.proofs.facts.entities_among.Goals.{then-d-a+then-left-gt0+in_ok-push_entity, else-d-a}
use Rattle.fb_pull.proofs.facts.entities_among.Goals.{else-d-a-via-then-d-a+else-left-gt0, else-d-a-via-else-d-a}
use Rattle.fb_pull.proofs.facts.entities_among.Goals as goal

abbrev meant : List Datom → List ℕ
meant ds = filter_map entity_in (map (λ (d : Datom). d.v) ds)

one_more : (o : Option ℕ) (ns : List ℕ) → cons_option o ns ≡ cons_option o [] ++ ns
one_more None ns = refl
one_more (Some n) ns = refl

pub loop-d-preserved : goal.loop-d-preserved
loop-d-preserved c =
    let below = lent_below c.args.datoms.now c.loop-d.d-index c.loop-d-test.true in
    let at = lent_at c.args.datoms.now c.loop-d.d-index c.d-item.result c.loop-d-test.true c.d-item.is in
    elim c.if-d-a.branch [
      | then-d-a+then-left-gt0+in_ok-push_entity w ↦
          one_taken meant c.args.a (lent c.args.datoms.now) c.loop-d.d-index c.d-item.result.now c.loop-d.left c.if-d-a.left _ _ _
          below at (filter_map entity_in (c.d-item.result.now.v ∷ [])) (λ ds. one_more (entity_in c.d-item.result.now.v) (meant ds))
          w.if-d-a.true w.if-left-gt0.true w.left-is
          (ap (λ (v : Vec ℕ Global). v.items) w.list-is ∙ w.in_ok-push_entity.ensures)
          c.loop-d.invariant
      | else-d-a w ↦ elim w.else-d-a.branch [
        | else-d-a-via-then-d-a+else-left-gt0 v ↦
            none_left meant c.args.a (lent c.args.datoms.now) c.loop-d.d-index c.d-item.result.now c.loop-d.left c.if-d-a.left _ _ _
            below at (zero_of v.if-left-gt0.false) w.left-is (ap (λ (v : Vec ℕ Global). v.items) w.list-is) c.loop-d.invariant
        | else-d-a-via-else-d-a v ↦
            one_passed meant c.args.a (lent c.args.datoms.now) c.loop-d.d-index c.d-item.result.now c.loop-d.left c.if-d-a.left _ _ _
            below at v.if-d-a.false w.left-is (ap (λ (v : Vec ℕ Global). v.items) w.list-is) c.loop-d.invariant
      ]
    ]
  where
    zero_of : {n : ℕ} → n ≤ 0 → n ≡ 0
    zero_of le = omega (arith, le)
