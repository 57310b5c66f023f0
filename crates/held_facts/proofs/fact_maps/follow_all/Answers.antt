use Rattle.std.proofs.Common.{◌≡◌, ◌+◌, ◌++◌, ◌∷◌, [], take, sym, ap, ◌∙◌, subst}
use Rattle.std.proofs.lemmas.List.{append_assoc, take_more, take_all}
use Rattle.held_facts.specs.FactMaps.{HasFacts}
use Rattle.held_facts.proofs.fact_maps.follow_all.Goals as goal

pub loop-d-preserved : goal.loop-d-preserved
loop-d-preserved c = λ before has.
    let ds = c.args.datoms.now in
    let i = c.loop-d.d-index in
    let d = c.d-item.result in
    let more : (before ++ take i ds) ++ d ∷ [] ≡ before ++ take (i + 1) ds =
    append_assoc before (take i ds) (d ∷ [])
    ∙ ap (λ l. before ++ l) (ap (λ x. take i ds ++ x ∷ []) (cc) ∙ sym (take_more ds i d c.loop-d-test.true))
    in
    subst (λ l. HasFacts l c.follow.new.kept) more (c.in_ok-follow.ensures (before ++ take i ds) (c.loop-d.invariant before has))

pub returns : goal.returns
returns c =
    λ before has. subst (λ l. HasFacts (before ++ l) c.loop-d.kept) (take_all c.loop-d.d-index c.args.datoms.now c.loop-d-test.false)
    (c.loop-d.invariant before has)
