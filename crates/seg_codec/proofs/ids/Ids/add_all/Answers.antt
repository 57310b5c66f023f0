use Rattle.std.proofs.Common.{◌∷◌, ◌++◌, [], get_or, take, ap, sym, ◌∙◌, append_assoc}
use Rattle.std.proofs.lemmas.List.{get_or_default, take_more}
use Rattle.log_model.specs.Nodes.{is_among}
use Rattle.seg_codec.proofs.Reaching.{next_apart}
use Rattle.seg_codec.proofs.ids.Ids.add_all.Goals as goal

pub add-requires-clause-new : goal.add-requires-clause-new
add-requires-clause-new c =
    let ids = c.args.ids.now in
    let i = c.loop-id.id-index in
    ap (λ l. is_among l (get_or ids i 0)) c.loop-id.invariant
    ∙ next_apart c.args.self.now ids i (get_or ids i 0) c.requires.distinct c.loop-id-test.true
    (get_or_default ids i 0 (get_or ids i 0) c.loop-id-test.true)

pub loop-id-preserved : goal.loop-id-preserved
loop-id-preserved c =
    let old = c.args.self.now in
    let ids = c.args.ids.now in
    let i = c.loop-id.id-index in
    c.in-Ok.ensures.added
    ∙ ap (λ l. l ++ get_or ids i 0 ∷ []) c.loop-id.invariant
    ∙ append_assoc old (take i ids) (get_or ids i 0 ∷ [])
    ∙ ap (λ l. old ++ l) (sym (take_more ids i 0 c.loop-id-test.true))
