use Rattle.std.proofs.Common.{◌≡◌, ◌∙◌, ap}
use Rattle.board_rule.specs.Calls.{view_of, board_of}
use Rattle.fb_view.specs.SnapshotModel.{SnapshotModel}
use Rattle.fb_conn.specs.Homes.{marks_of}
use Rattle.fb_conn.proofs.Answering.{by_result, on_err, goes_on_shown, goes_on_left, same_teller_seen, is_out_of_memory}
use Rattle.fb_conn.proofs.conn.Conn.sync.Goals as goal

pub returns-clause-goes_on : goal.returns-clause-goes_on
returns-clause-goes_on g c =
    let old = c.args.seat.now in
    let new = c.show_latest.new.seat in
    let home = c.enter-held.result.home in
    let h = home.core.snapshot.entries in
    let turn = c.enter-held.ensures in let ended = c.show_latest.ensures in
    let t = board_of old.board in
    let u = board_of new.board in
    let v = view_of old.board in
    let w = view_of c.enter-held.new.seat in
    let x = view_of new.board in
    let same : u ≡ t = ended.seat ∙ turn.seat in let learns = turn.learns old.last.entries c.requires.seat.0.seen in
    by_result c.show_latest.result ended.shown ended.kept
    (λ s is. goes_on_shown t u v w x turn.entered.0 old.last.entries h home.core.authors
    (marks_of home) same turn.entered.1 learns is.2 new.last.entries (ap (λ (k : SnapshotModel). k.entries) is.1)
    ended.stands.snapshot.history.lawful)
    (λ is. goes_on_left t u v w x turn.entered.0 old.last.entries h home.core.authors
    (marks_of home) same turn.entered.1 learns is.1 new.last.entries (ap (λ (k : SnapshotModel). k.entries) is.0))

pub returns-clause-teller : goal.returns-clause-teller
returns-clause-teller g c =
    let old = c.args.seat.now in
    let new = c.show_latest.new.seat in
    let home = c.enter-held.result.home in
    let h = home.core.snapshot.entries in
    let turn = c.enter-held.ensures in let ended = c.show_latest.ensures in
    let t = board_of old.board in
    let u = board_of new.board in
    let v = view_of old.board in
    let w = view_of c.enter-held.new.seat in
    let x = view_of new.board in
    let same : u ≡ t = ended.seat ∙ turn.seat in let learns = turn.learns old.last.entries c.requires.seat.0.seen in
    by_result c.show_latest.result ended.shown ended.kept
    (λ s is. same_teller_seen t u v w x turn.entered.0 old.last.entries h home.core.authors (marks_of home) same turn.entered.1 learns is.2)
    (λ is. (is_out_of_memory t u v w x turn.entered.0 old.last.entries h home.core.authors
    (marks_of home) same turn.entered.1 learns is.1 new.last.entries (ap (λ (k : SnapshotModel). k.entries) is.0)).teller)

pub returns-clause-fault : goal.returns-clause-fault
returns-clause-fault g c =
    let old = c.args.seat.now in
    let new = c.show_latest.new.seat in
    let home = c.enter-held.result.home in
    let h = home.core.snapshot.entries in
    let turn = c.enter-held.ensures in let ended = c.show_latest.ensures in
    on_err c.show_latest.result ended.kept
    (λ is. is_out_of_memory (board_of old.board) (board_of new.board) (view_of old.board) (view_of c.enter-held.new.seat)
    (view_of new.board) turn.entered.0 old.last.entries h home.core.authors (marks_of home) (ended.seat ∙ turn.seat) turn.entered.1
    (turn.learns old.last.entries c.requires.seat.0.seen) is.1 new.last.entries (ap (λ (k : SnapshotModel). k.entries) is.0))
