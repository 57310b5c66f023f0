use Rattle.std.proofs.Common.{sym, subst}
use Rattle.edn_form.specs.View.{form_of}
use Rattle.edn_form.specs.declared.form.Edn.{Map as AMap}
use Rattle.edn_duplicates.specs.Inside.{IsDistinctInside}
use Rattle.edn_core.specs.Frames.{IsSoundOpen, ClosesAs}
use Rattle.edn_core.specs.declared.construct.Construct.TheVariants.{Map}
use Rattle.edn_core.proofs.Landings.{map_closes}
use Rattle.edn_core.proofs.construct.closed.Goals as goal

pub returns-then-bracket-eq125 : goal.returns-then-bracket-eq125
returns-then-bracket-eq125 c =
    let m = c.in-Map-default-None-default in
    let p = c.of-then-bracket-eq125.result in
    subst (λ o. IsSoundOpen o → ClosesAs o c.args.bracket (form_of (AMap p)) × IsDistinctInside (form_of (AMap p))) (sym m.is)
    (subst (λ k. IsSoundOpen (Map m.pairs k m.field-2)
    → ClosesAs (Map m.pairs k m.field-2) c.args.bracket (form_of (AMap p)) × IsDistinctInside (form_of (AMap p))) (sym m.field-1-is)
    (map_closes m.pairs m.field-2 p c.args.bracket c.of-then-bracket-eq125.ensures c.if-bracket-eq125.true))
