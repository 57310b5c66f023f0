use Rattle.std.proofs.Common.{◌++◌, ◌∷◌, [], ◌∙◌, List, append_assoc, append-nil, ap, sym}
use Rattle.std.specs.Prelude.{filter}
use Rattle.std.proofs.lemmas.List.Elements.{filter-append}
use Rattle.fb_values.specs.declared.facts.Datom.{Datom}
use Rattle.live_index.specs.Growth.{is_held}
use Rattle.live_index.proofs.gathering.held_of.Goals as goal

pub loop-datom-init : goal.loop-datom-init
loop-datom-init c =
    let p = is_held c.args.covers.now c.args.order in
    ap (λ (ds : List Datom). ds ++ filter p c.said-walk.result) c.new-held.ensures.items ∙ ap (filter p) c.said-walk.ensures

pub loop-datom-preserved : goal.loop-datom-preserved
loop-datom-preserved c =
    let p = is_held c.args.covers.now c.args.order in
    let d = c.in-Some.datom.now in
    let rest = c.next.new.self in
    ap (λ (ds : List Datom). ds ++ filter p rest) c.in_ok-held.ensures
    ∙ append_assoc c.loop-datom.held.items (filter p (d ∷ [])) (filter p rest)
    ∙ ap (λ (ds : List Datom). c.loop-datom.held.items ++ ds) (sym (filter-append p (d ∷ []) rest) ∙ ap (filter p) (sym c.in-Some.ensures))
    ∙ c.loop-datom.invariant

pub returns : goal.returns
returns c =
    let p = is_held c.args.covers.now c.args.order in
    sym (append-nil c.loop-datom.held.items)
    ∙ ap (λ (ds : List Datom). c.loop-datom.held.items ++ filter p ds) (sym c.in_default.ensures.0)
    ∙ c.loop-datom.invariant
