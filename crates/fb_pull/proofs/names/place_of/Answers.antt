use Rattle.std.proofs.Common.{◌∙◌, sym, length}
use Rattle.fb_pull.specs.Attributes.{names_of}
use Rattle.fb_pull.proofs.Named.{before_other, as_other, after_other, behind_all, names_at, names_below, names_past, names_length}
use Rattle.fb_pull.proofs.names.place_of.Goals as goal

pub returns-in-Less : goal.returns-in-Less
returns-in-Less c =
    let list = c.args.list.now in
    let other = c.index-list-at.result in
    before_other c.args.name.now (names_of list) c.loop-at.at other.now.ident (names_below list c.loop-at.at c.loop-at-test.true)
    (names_at list c.loop-at.at other c.loop-at-test.true c.index-list-at.is) c.loop-at.invariant (sym c.cmp_names.ensures ∙ c.in-Less.is)

pub returns-in-Equal : goal.returns-in-Equal
returns-in-Equal c =
    let list = c.args.list.now in
    let other = c.index-list-at.result in
    as_other c.args.name.now (names_of list) c.loop-at.at other.now.ident (names_below list c.loop-at.at c.loop-at-test.true)
    (names_at list c.loop-at.at other c.loop-at-test.true c.index-list-at.is) c.loop-at.invariant (sym c.cmp_names.ensures ∙ c.in-Equal.is)

pub loop-at-preserved : goal.loop-at-preserved
loop-at-preserved c =
    let list = c.args.list.now in
    let other = c.index-list-at.result in
    after_other c.args.name.now (names_of list) c.loop-at.at other.now.ident (names_below list c.loop-at.at c.loop-at-test.true)
    (names_at list c.loop-at.at other c.loop-at-test.true c.index-list-at.is) c.loop-at.invariant
    (sym c.cmp_names.ensures ∙ c.in-Greater.is)

pub returns : goal.returns
returns c =
    let list = c.args.list.now in
    behind_all c.args.name.now (names_of list) c.loop-at.at (length list) (sym (names_length list))
    (names_past list c.loop-at.at c.loop-at-test.false) c.loop-at.invariant
