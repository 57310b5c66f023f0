use Rattle.std.proofs.Common.{◌≡◌, ◌<◌, ◌+◌, ◌++◌, ◌∷◌, [], ℕ, List, length, ap, sym, ◌∙◌, subst, arith}
use Rattle.fb_model.specs.Facts.{facts as facts_in}
use Rattle.tx_sweep.specs.Sweep.{has_visited}
use Rattle.tx_sweep.proofs.Visiting.{IsVisiting, open_parts, tells_parts, visiting_first, visiting_next, visiting_last, visit_smaller}
use Rattle.tx_sweep.proofs.Visiting.{none_left}
use Rattle.tx_sweep.proofs.entity.sweep_entity.Goals as goal

pub loop-next-init : goal.loop-next-init
loop-next-init g c = λ swept.
    let h = g.F.Facts.history c.args.facts.now in
    let stack : c.push.new.self.items ≡ c.args.e ∷ [] =
    c.in_ok-push.ensures.items ∙ ap (λ (xs : List ℕ). xs ++ c.args.e ∷ []) c.new-stack.ensures.items in
    subst (λ (s : List ℕ). IsVisiting h c.args.place c.args.e s c.args.found.now c.args.found.now) (sym stack)
    (visiting_first h c.args.place c.args.e c.args.found.now swept)

pub loop-next-smaller : goal.loop-next-smaller
loop-next-smaller g c =
    let h = g.F.Facts.history c.args.facts.now in
    subst (λ (s : List ℕ). length c.visit.new.stack.items + open_parts c.args.schema.now (has_visited c.visit.new.found) (facts_in h)
    < length s + open_parts c.args.schema.now (has_visited c.loop-next.found) (facts_in h))
    (sym c.in-Some.ensures.items)
    (visit_smaller h c.args.schema.now c.args.place c.in-Some.next c.pop.new.self.items c.visit.new.stack.items c.loop-next.found
    c.visit.new.found c.in_ok-visit.ensures)

pub loop-next-preserved : goal.loop-next-preserved
loop-next-preserved g c = λ swept.
    let h = g.F.Facts.history c.args.facts.now in
    let tells = tells_parts c.args.schema.now h (λ e. c.schemas_tell_of_attributes.ensures.attribute c.args.schema.now h e c.requires) in
    visiting_next c.the_lists_are_the_rising_ones.ensures h c.args.schema.now tells c.args.place c.args.e c.in-Some.next
    c.pop.new.self.items c.visit.new.stack.items
    c.args.found.now c.loop-next.found c.visit.new.found
    (subst (λ (s : List ℕ). IsVisiting h c.args.place c.args.e s c.args.found.now c.loop-next.found) c.in-Some.ensures.items
    (c.loop-next.invariant swept))
    c.in_ok-visit.ensures

pub returns : goal.returns
returns g c = λ swept.
    let h = g.F.Facts.history c.args.facts.now in
    let empty : c.loop-next.stack.items ≡ [] =
    none_left c.loop-next.stack.items (omega (arith, c.loop-next.stack.ok, c.in_default.ensures.cases.0)) in
    visiting_last h c.args.place c.args.e c.args.found.now c.loop-next.found
    (subst (λ (s : List ℕ). IsVisiting h c.args.place c.args.e s c.args.found.now c.loop-next.found) empty (c.loop-next.invariant swept))
