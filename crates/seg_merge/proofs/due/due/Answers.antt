use Rattle.std.proofs.Common.{◌++◌, ◌∷◌, [], ◌∙◌, List, append_assoc, append-nil, ap, sym}
use Rattle.std.proofs.lemmas.List.Elements.{filter-append}
use Rattle.fb_values.specs.declared.facts.Datom.{Datom}
use Rattle.seg_merge.specs.Merged.{is_due, due_of}
use Rattle.seg_merge.proofs.due.due.Goals as goal

pub loop-datom-init : goal.loop-datom-init
loop-datom-init c =
    let due : List Datom → List Datom = due_of c.args.covers.now c.args.c c.args.order in
    ap (λ (ds : List Datom). ds ++ due c.said-walk.result) c.in_ok-due.ensures.items ∙ ap due c.said-walk.ensures

pub loop-datom-preserved : goal.loop-datom-preserved
loop-datom-preserved c =
    let p = is_due c.args.covers.now c.args.c c.args.order in
    let due : List Datom → List Datom = due_of c.args.covers.now c.args.c c.args.order in
    let d = c.in-Some.datom.now in
    let rest = c.next.new.self in
    ap (λ (ds : List Datom). ds ++ due rest) c.in_ok-due-2.ensures
    ∙ append_assoc c.loop-datom.due.items (due (d ∷ [])) (due rest)
    ∙ ap (λ (ds : List Datom). c.loop-datom.due.items ++ ds) (sym (filter-append p (d ∷ []) rest) ∙ ap due (sym c.in-Some.ensures))
    ∙ c.loop-datom.invariant

pub returns : goal.returns
returns c =
    let due : List Datom → List Datom = due_of c.args.covers.now c.args.c c.args.order in
    sym (append-nil c.loop-datom.due.items)
    ∙ ap (λ (ds : List Datom). c.loop-datom.due.items ++ due ds) (sym c.in_default.ensures.0)
    ∙ c.loop-datom.invariant
