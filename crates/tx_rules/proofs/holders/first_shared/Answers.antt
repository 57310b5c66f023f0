use Rattle.std.proofs.Common.{◌+◌, ◌∙◌, not, ap, sym}
use Rattle.std.specs.List.{position}
use Rattle.std.proofs.lemmas.List.{take_rest}
use Rattle.tx_rules.specs.Holders.{is_taker, held_at}
use Rattle.tx_rules.proofs.Takers.{is_some-false, shared-none, shared-one}
use Rattle.tx_rules.proofs.holders.first_shared.Goals as goal

pub returns-in_default : goal.returns-in_default
returns-in_default g c =
    shared-none c.args.schema.now (g.F.Facts.history c.args.facts.now) c.args.changes.now c.args.triples.now c.requires.rising
    (sym c.first_taker.ensures ∙ c.in_default.is)

pub returns-then-is_none : goal.returns-then-is_none
returns-then-is_none g c =
    let h = g.F.Facts.history c.args.facts.now in
    let schema = c.args.schema.now in
    let changes = c.args.changes.now in
    let first = sym c.first_taker.ensures ∙ c.in-Some.is in
    let triples = c.args.triples.now in
    let rest = ap (position (is_taker schema)) (take_rest triples (c.in-Some.at + 1)) in
    let none = sym rest ∙ sym c.first_taker-2.ensures ∙ is_some-false c.first_taker-2.result (c.is_none.ensures ∙ ap not c.if-is_none.true) in
    c.held_at.ensures ∙ ap (held_at h schema changes) c.index-triples-at.is
    ∙ shared-one schema h changes triples c.requires.rising c.in-Some.at c.index-triples-at.result first none
