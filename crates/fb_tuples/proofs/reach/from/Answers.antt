-- The range has each datom from the value on.
use Rattle.std.proofs.Common.{subst, None}
use Rattle.std.proofs.lemmas.Result.{IfOk-weaker}
use Rattle.fb_values.specs.declared.facts.Value.{Value}
use Rattle.fb_db.specs.Seen.{window_of}
use Rattle.fb_tuples.specs.Lent.{datoms_lent}
use Rattle.fb_tuples.specs.Reached.{HasReached}
use Rattle.fb_tuples.proofs.MemberScans.{reached_from}
use Rattle.fb_tuples.proofs.reach.from.Goals as goal

pub returns : goal.returns
returns g c =
    let db = c.args.db.now in
    let selects = g.S.Selector.selects db.filter in
    IfOk-weaker c.index_range.result _ _ (λ ds scan.
    subst (λ (v : Value). HasReached db.snapshot.entries (window_of db) selects c.args.a v None (datoms_lent ds.items)) c.in_ok-start.ensures
    (reached_from db.snapshot.entries (window_of db) selects c.args.a c.in_ok-start.start (datoms_lent ds.items) c.requires scan))
    c.index_range.ensures
