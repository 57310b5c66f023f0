use Rattle.std.proofs.Common.{◌≡◌, ◌∙◌, ◌++◌, List, [], ap, sym, append_assoc, append-nil}
use Rattle.fb_values.specs.declared.facts.Entry.{Entry}
use Rattle.fb_view.specs.SnapshotModel.{SnapshotModel}
use Rattle.fb_conn.proofs.Histories.{begins_there}
use Rattle.merge_worker.proofs.catching_up.catches_up.Goals as goal

pub caught_up-requires : goal.caught_up-requires
caught_up-requires g c =
    let h = c.in_ok-latest.latest.entries in let first = c.args.ahead.now.entries in
    let past = c.requires.ahead in let more = c.in_ok-latest.ensures.latest.1 in
    let begins : h ≡ first ++ (past.0 ++ more.0) =
    more.1 ∙ (ap (λ (l : List Entry). l ++ more.0) past.1 ∙ append_assoc first past.0 more.0) in
    record { begins = begins_there h first (past.0 ++ more.0) c.basis-basis.ensures.stands.history.lawful begins }

pub returns-clause-ahead : goal.returns-clause-ahead
returns-clause-ahead g c =
    let caught = c.in_ok-ahead.ensures in let latest = ap (λ (k : SnapshotModel). k.entries) c.in_ok-latest.ensures.latest.0 in
    (([], sym latest ∙ (sym caught.entries ∙ sym (append-nil c.in_ok-ahead.field-0.entries))), caught.covered)
