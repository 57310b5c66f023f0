use Rattle.std.proofs.Common.{◌∙◌, ◌∷◌, sym, ap, arith}
use Rattle.std.specs.Option.{option_copied}
use Rattle.seg_tree.specs.Nodes.{tree_datoms}
use Rattle.seg_tree.specs.Ranks.{rank}
use Rattle.fb_index.specs.Ranges.{within}
use Rattle.fb_index.proofs.Ranging.{read_at}
use Rattle.fb_index.proofs.Reading.{older_here, older_skipped, older_past, older_end, within_none, within_step}
use Rattle.fb_index.proofs.Walking.{behind_is}
use Rattle.fb_index.proofs.sides.Sides.next_older.Goals as goal

pub returns-then-is_past : goal.returns-then-is_past
returns-then-is_past c =
    let self = c.args.self.now in
    let none = older_end self.extent self.live.now (option_copied c.args.end) self.order (tree_datoms self.tree.now)
    (rank self.tree.now c.loop-d.place) c.in-Some.d.now c.requires.order c.requires.beside.rises
    (sym c.at.ensures ∙ ap option_copied c.in-Some.is) (sym c.is_past.ensures ∙ c.if-is_past.true) in
    (sym c.loop-d.invariant ∙ none, none)

pub returns-then-reads : goal.returns-then-reads
returns-then-reads c =
    let self = c.args.self.now in
    let ds = tree_datoms self.tree.now in
    let at = rank self.tree.now c.loop-d.place in
    sym c.loop-d.invariant
    ∙ ap (within (option_copied c.args.end)) (older_here self.extent self.live.now ds at c.in-Some.d.now
    (sym c.at.ensures ∙ ap option_copied c.in-Some.is) (sym c.reads.ensures ∙ c.if-reads.true)
    ∙ ap (λ l. c.in-Some.d.now ∷ l)
    (sym (behind_is self.extent self.tree.now self.live.now c.loop-d.place c.next-behind.result c.next-behind.ensures)))
    ∙ within_step (option_copied c.args.end) c.in-Some.d.now _ (sym c.is_past.ensures ∙ c.if-is_past.false)

pub loop-d-smaller : goal.loop-d-smaller
loop-d-smaller c =
    let within = (read_at (tree_datoms c.args.self.now.tree.now) (rank c.args.self.now.tree.now c.loop-d.place) c.in-Some.d.now
    (sym c.at.ensures ∙ ap option_copied c.in-Some.is)).0 in
    omega (arith, within, c.next-behind.ensures)

pub loop-d-preserved : goal.loop-d-preserved
loop-d-preserved c =
    let self = c.args.self.now in
    ap (within (option_copied c.args.end))
    (behind_is self.extent self.tree.now self.live.now c.loop-d.place c.next-behind.result c.next-behind.ensures
    ∙ sym (older_skipped self.extent self.live.now (tree_datoms self.tree.now) (rank self.tree.now c.loop-d.place) c.in-Some.d.now
    (sym c.at.ensures ∙ ap option_copied c.in-Some.is) (sym c.reads.ensures ∙ c.if-reads.false)))
    ∙ c.loop-d.invariant

pub returns : goal.returns
returns c =
    let self = c.args.self.now in
    let none = ap (within (option_copied c.args.end)) (older_past self.extent self.live.now (tree_datoms self.tree.now)
    (rank self.tree.now c.loop-d.place) (sym c.at.ensures ∙ ap option_copied c.in_default.is))
    ∙ within_none (option_copied c.args.end) in
    (sym c.loop-d.invariant ∙ none, none)
