use Rattle.std.proofs.Common.{ap, sym, subst, ◌∙◌, ◌≡◌, true, ◌++◌, ◌∷◌, []}
use Rattle.log_model.specs.Nodes.{ids_in, is_among}
use Rattle.log_model.specs.Kept.{KeptRoot, kept_roots, nodes_of}
use Rattle.seg_codec.specs.declared.wanted.Wanted.{Wanted}
use Rattle.seg_codec.specs.Wanted.{are_wanted}
use Rattle.seg_store.specs.Finding.{AreHeld}
use Rattle.seg_store.proofs.Holding.{held_ids_in, newest_held}
use Rattle.seg_store.proofs.newest.rooted_in.Goals as goal

pub returns-clause-opened : goal.returns-clause-opened
returns-clause-opened g c = λ disk read. (c.in_ok-wanted.ensures.found disk read).1.opened

pub returns-then-not-good-clause-opened : goal.returns-then-not-good-clause-opened
returns-then-not-good-clause-opened g c = λ disk read. (c.in_ok-wanted.ensures.found disk read).1.opened

pub returns-in_default-clause-opened : goal.returns-in_default-clause-opened
returns-in_default-clause-opened g c = λ disk read. (c.in_ok-wanted.ensures.found disk read).1.opened

pub returns-then-not-branch-clause-opened : goal.returns-then-not-branch-clause-opened
returns-then-not-branch-clause-opened g c = λ disk read. (c.in_ok-wanted.ensures.found disk read).1.opened

pub returns-clause-rooted : goal.returns-clause-rooted
returns-clause-rooted g c = λ disk read.
    let wanted = c.args.wanted in
    let found = c.in_ok-wanted.ensures.found disk read in
    let records = found.0 in
    let all = found.1 in
    let good = all.good c.if-not-good.false in
    let trees = c.in-Some.trees in
    let held = subst (AreHeld wanted (nodes_of records) (kept_roots records)) c.in-Some.ensures.items all.kept in
    let newest = newest_held wanted (nodes_of records) (kept_roots records) c.pop.new.self.items trees held in
    let whole = subst (λ (w : Wanted). are_wanted w trees.roots ≡ true) all.wanted_is
    (sym c.in_ok-has_all.ensures ∙ c.if-not-branch.false) in
    let root = newest.3 whole in (
      records,
      record {
        records_are = all.records_are;
        good = good.0;
        read = good.1;
        ids = λ id. ap (λ ids. is_among ids id) (c.in_ok-ids.ensures ∙ ap ids_in all.nodes ∙ held_ids_in wanted (nodes_of records));
        older = newest.0;
        roots = newest.2 ∙ ap (λ (r : KeptRoot). newest.0 ++ r ∷ []) (sym root.0);
        tree_ids = root.1.0;
        there = root.1.1;
      },
    )
