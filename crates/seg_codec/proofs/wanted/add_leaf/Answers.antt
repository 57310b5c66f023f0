use Rattle.std.proofs.Common.{◌||◌, ◌∷◌, [], sym, ap, ◌∙◌}
use Rattle.log_model.specs.Nodes.{is_among}
use Rattle.seg_codec.proofs.Among.{among-append}
use Rattle.seg_codec.proofs.Wholes.{among_known}
use Rattle.seg_codec.proofs.wanted.add_leaf.Goals as goal

pub returns-then-contains : goal.returns-then-contains
returns-then-contains c = λ id.
    among_known c.args.ids.now c.args.leaf.now.id id
    (ap (is_among c.args.ids.now) (sym c.id.ensures.id) ∙ sym c.contains.ensures ∙ c.if-contains.true)

pub returns : goal.returns
returns c = λ id.
    ap (λ l. is_among l id) c.in_ok-add.ensures.added
    ∙ among-append c.args.ids.now (c.id-2.result ∷ []) id
    ∙ ap (λ n. is_among c.args.ids.now id || is_among (n ∷ []) id) c.id-2.ensures.id
