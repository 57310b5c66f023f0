use Rattle.std.proofs.Common.{rules, ◌≡◌, ◌∙◌, ℤ, Option, Some, None, ap, sym, subst, w64, to_z, of_z, FitsSigned}
use Rattle.std.specs.Prelude.{option_map, Result, Ok, Err, IfErr, IsErrAnd}
use Rattle.std.proofs.lemmas.Int.{to_z-of_z}
use Rattle.edn_form.specs.View.{form_of}
use Rattle.fb_model.specs.History.{basis}
use Rattle.fb_model.proofs.LawfulHistories.{IsLawful-length}
use Rattle.edn_model.specs.Form.{Form}
use Rattle.tx_refusals.specs.declared.reasons.Refusal.{Refusal}
use Rattle.tx_model.specs.Step.{Guard}
use Rattle.fb_view.specs.SnapshotModel.{SnapshotModel}
use Rattle.fb_core.specs.Cores.{entry_of}
use Rattle.fb_core.proofs.Histories.{next_basis}
use Rattle.fb_desk.specs.declared.answers.Receipt.{Receipt}
use Rattle.fb_desk.specs.declared.answers.TxFault.{TxFault}
use Rattle.fb_desk.specs.declared.answers.TxFault.TheVariants.{Memory}
use Rattle.fb_desk.specs.Desks.{State, IsFault, IsRefusal, IsOutOfMemory}
use Rattle.board_rule.specs.declared.view.View.{View}
use Rattle.board_rule.specs.declared.view.Code.{Code}
use Rattle.board_rule.specs.Views.{codes}
use Rattle.board_rule.specs.Calls.{view_of, board_of}
use Rattle.board_seats.specs.Turning.{left_seen}
use Rattle.fb_conn.specs.declared.home.Stop.{Stop}
use Rattle.fb_conn.specs.Homes.{code_of, marks_of, named_stop, GoesWithLog}
use Rattle.fb_conn.specs.Seats.{state_of}
use Rattle.fb_conn.specs.Turns.{committed, stopped_at}
use Rattle.fb_conn.proofs.States.{stays_seat}
use Rattle.fb_conn.proofs.Answering.{by_outcome, if_ok, if_err, goes_on_shown, goes_on_left, is_stopped, is_out_of_memory, refusal_is}
use Rattle.fb_conn.proofs.Answering.{goes_on_committed, goes_on_stopped, receipt_is, log_fault_is}
use Rattle.fb_conn.proofs.conn.Conn.decide_in_turn.Goals as goal

-- what `?` answers where memory ran out
out_of_memory : (may : ℤ → Type 0) (guard : Guard) (asked : Form) (old new : State) (r : Result Receipt TxFault)
    → IsErrAnd r (λ fault. fault ≡ Memory) → IsOutOfMemory old new → IfErr r (IsFault may guard asked old new)
out_of_memory may guard asked old new (Ok receipt) is out = tt
out_of_memory may guard asked old new (Err fault) is out = subst (IsFault may guard asked old new) (sym is) out

-- ---- the log had stopped

pub returns-in_err-snapshot-clause-goes_on : goal.returns-in_err-snapshot-clause-goes_on
returns-in_err-snapshot-clause-goes_on g c =
    let old = c.args.seat.now in
    let new = c.show_latest.new.seat in
    let home = c.enter_after-held.result.home in
    let turn = c.enter_after-held.ensures in
    let kept = c.in_err-snapshot.ensures.kept in
    goes_on_left (board_of old.board) (board_of new.board) (view_of old.board) (view_of c.enter_after-held.new.seat)
    (view_of new.board) turn.entered.0 old.last.entries home.core.snapshot.entries
    home.core.authors (marks_of home) (c.show_latest.ensures.seat ∙ turn.seat) turn.entered.1
    (turn.learns old.last.entries c.requires.seat.0.seen) kept.1 new.last.entries (ap (λ (k : SnapshotModel). k.entries) kept.0)

pub returns-in_err-snapshot-clause-fault : goal.returns-in_err-snapshot-clause-fault
returns-in_err-snapshot-clause-fault g c =
    let old = c.args.seat.now in
    let new = c.show_latest.new.seat in
    let home = c.enter_after-held.result.home in
    let turn = c.enter_after-held.ensures in
    let kept = c.in_err-snapshot.ensures.kept in
    out_of_memory (g.K.Clock.may_answer c.args.clock.now) (g.G.Guard.bars c.args.guard.now) (form_of c.args.asked.now)
    (state_of old) (state_of new) c.from_residual.result c.from_residual.ensures.1
    (is_out_of_memory (board_of old.board) (board_of new.board) (view_of old.board) (view_of c.enter_after-held.new.seat)
    (view_of new.board) turn.entered.0 old.last.entries home.core.snapshot.entries
    home.core.authors (marks_of home) (c.show_latest.ensures.seat ∙ turn.seat) turn.entered.1
    (turn.learns old.last.entries c.requires.seat.0.seen) kept.1 new.last.entries (ap (λ (k : SnapshotModel). k.entries) kept.0))

pub returns-in-Some-clause-goes_on : goal.returns-in-Some-clause-goes_on
returns-in-Some-clause-goes_on g c =
    let old = c.args.seat.now in
    let new = c.show_latest.new.seat in
    let home = c.enter_after-held.result.home in
    let turn = c.enter_after-held.ensures in
    let shown = c.in_ok-snapshot.ensures.shown in
    goes_on_shown (board_of old.board) (board_of new.board) (view_of old.board) (view_of c.enter_after-held.new.seat)
    (view_of new.board) turn.entered.0 old.last.entries home.core.snapshot.entries
    home.core.authors (marks_of home) (c.show_latest.ensures.seat ∙ turn.seat) turn.entered.1
    (turn.learns old.last.entries c.requires.seat.0.seen) shown.2 new.last.entries (ap (λ (k : SnapshotModel). k.entries) shown.1)
    c.snapshot-latest.ensures.stands.snapshot.history.lawful

pub returns-in-Some-clause-fault : goal.returns-in-Some-clause-fault
returns-in-Some-clause-fault g c =
    let old = c.args.seat.now in
    let new = c.show_latest.new.seat in
    let home = c.enter_after-held.result.home in
    let turn = c.enter_after-held.ensures in
    let shown = c.in_ok-snapshot.ensures.shown in
    let h = home.core.snapshot.entries in let stop = c.in-Some.stop in let is : home.stop ≡ Some stop = sym c.stop.ensures ∙ c.in-Some.is in
    let sound = subst (λ (o : Option Stop). GoesWithLog g.L.Log.keeps g.L.Log.broke home.begun.value h home.log o home.torn) is turn.sound.0 in
    let last = ap (λ (k : SnapshotModel). k.entries) shown.1 in
    is_stopped (board_of old.board) (board_of new.board) (view_of old.board) (view_of c.enter_after-held.new.seat)
    (view_of new.board) turn.entered.0 old.last.entries h
    home.core.authors (marks_of home) (c.show_latest.ensures.seat ∙ turn.seat) turn.entered.1
    (turn.learns old.last.entries c.requires.seat.0.seen) shown.2 (named_stop stop) (ap (option_map named_stop) is)
    (sound.0 ∙ IsLawful-length h c.snapshot-latest.ensures.stands.snapshot.history.lawful) new.last.entries last c.in_ok-snapshot.snapshot
    (ap (λ (k : SnapshotModel). k.entries) shown.0 ∙ sym last)

-- ---- it is refused

pub returns-in_err-snapshot-in-Err-Refused-clause-goes_on : goal.returns-in_err-snapshot-in-Err-Refused-clause-goes_on
returns-in_err-snapshot-in-Err-Refused-clause-goes_on g c =
    let old = c.args.seat.now in
    let new = c.show_latest-in-Err-Refused.new.seat in
    let home = c.enter_after-held.result.home in
    let turn = c.enter_after-held.ensures in
    let kept = c.in_err-snapshot-in-Err-Refused.ensures.kept in
    goes_on_left (board_of old.board) (board_of new.board) (view_of old.board) (view_of c.enter_after-held.new.seat)
    (view_of new.board) turn.entered.0 old.last.entries home.core.snapshot.entries
    home.core.authors (marks_of home) (c.show_latest-in-Err-Refused.ensures.seat ∙ turn.seat) turn.entered.1
    (turn.learns old.last.entries c.requires.seat.0.seen) kept.1 new.last.entries
    (ap (λ (k : SnapshotModel). k.entries) kept.0)

pub returns-in_err-snapshot-in-Err-Refused-clause-fault : goal.returns-in_err-snapshot-in-Err-Refused-clause-fault
returns-in_err-snapshot-in-Err-Refused-clause-fault g c =
    let old = c.args.seat.now in
    let new = c.show_latest-in-Err-Refused.new.seat in
    let home = c.enter_after-held.result.home in
    let turn = c.enter_after-held.ensures in
    let kept = c.in_err-snapshot-in-Err-Refused.ensures.kept in
    out_of_memory (g.K.Clock.may_answer c.args.clock.now) (g.G.Guard.bars c.args.guard.now) (form_of c.args.asked.now)
    (state_of old) (state_of new) c.from_residual-in_err-snapshot-in-Err-Refused.result
    c.from_residual-in_err-snapshot-in-Err-Refused.ensures.1
    (is_out_of_memory (board_of old.board) (board_of new.board) (view_of old.board) (view_of c.enter_after-held.new.seat)
    (view_of new.board) turn.entered.0 old.last.entries home.core.snapshot.entries
    home.core.authors (marks_of home) (c.show_latest-in-Err-Refused.ensures.seat ∙ turn.seat) turn.entered.1
    (turn.learns old.last.entries c.requires.seat.0.seen) kept.1 new.last.entries
    (ap (λ (k : SnapshotModel). k.entries) kept.0))

pub returns-in_ok-snapshot-in-Err-Refused-clause-goes_on : goal.returns-in_ok-snapshot-in-Err-Refused-clause-goes_on
returns-in_ok-snapshot-in-Err-Refused-clause-goes_on g c =
    let old = c.args.seat.now in
    let new = c.show_latest-in-Err-Refused.new.seat in
    let home = c.enter_after-held.result.home in
    let turn = c.enter_after-held.ensures in
    let shown = c.in_ok-snapshot-in-Err-Refused.ensures.shown in
    goes_on_shown (board_of old.board) (board_of new.board) (view_of old.board) (view_of c.enter_after-held.new.seat)
    (view_of new.board) turn.entered.0 old.last.entries home.core.snapshot.entries
    home.core.authors (marks_of home) (c.show_latest-in-Err-Refused.ensures.seat ∙ turn.seat) turn.entered.1
    (turn.learns old.last.entries c.requires.seat.0.seen) shown.2 new.last.entries
    (ap (λ (k : SnapshotModel). k.entries) shown.1) c.snapshot-latest.ensures.stands.snapshot.history.lawful

pub returns-in_ok-snapshot-in-Err-Refused-clause-fault : goal.returns-in_ok-snapshot-in-Err-Refused-clause-fault
returns-in_ok-snapshot-in-Err-Refused-clause-fault g c =
    let old = c.args.seat.now in
    let new = c.show_latest-in-Err-Refused.new.seat in
    let home = c.enter_after-held.result.home in
    let turn = c.enter_after-held.ensures in
    let shown = c.in_ok-snapshot-in-Err-Refused.ensures.shown in
    let h = home.core.snapshot.entries in
    let learns = turn.learns old.last.entries c.requires.seat.0.seen in
    let last : new.last.entries ≡ h = ap (λ (k : SnapshotModel). k.entries) shown.1 in
    let same = c.show_latest-in-Err-Refused.ensures.seat ∙ turn.seat in
    let none : home.stop ≡ None = sym c.stop.ensures ∙ c.in_default.is in
    let asked = form_of c.args.asked.now in let guard = g.G.Guard.bars c.args.guard.now in
    let told = rw c.in-Err-Refused.field-0-is at c.in-Err-Refused.ensures in
    let shows = c.in_ok-snapshot-in-Err-Refused.snapshot in
    subst (λ (r : Refusal). IsRefusal guard asked (state_of old) (state_of new) r shows) (sym c.in-Err-Refused.refusal-is)
    (refusal_is (board_of old.board) (board_of new.board) (view_of old.board) (view_of c.enter_after-held.new.seat)
    (view_of new.board) turn.entered.0 old.last.entries h
    home.core.authors (marks_of home) same turn.entered.1 learns (ap (option_map named_stop) none) shown.2 guard asked c.in-Err-Refused.refusal
    (λ reading. c.refusals_do_not_depend_on_the_clock.ensures h asked guard c.in-Err-Refused.refusal (to_z w64 (of_z w64 c.now.result)) reading
    told.refused)
    new.last.entries last shows (ap (λ (k : SnapshotModel). k.entries) shown.0))

-- ---- memory was short

pub returns-in-Err-clause-goes_on : goal.returns-in-Err-clause-goes_on
returns-in-Err-clause-goes_on g c =
    let old = c.args.seat.now in let home = c.enter_after-held.result.home in let turn = c.enter_after-held.ensures in
    goes_on_left (board_of old.board) (board_of c.end.new.seat) (view_of old.board) (view_of c.enter_after-held.new.seat)
    (view_of c.end.new.seat) turn.entered.0 old.last.entries home.core.snapshot.entries
    home.core.authors (marks_of home) (c.end.ensures.seat ∙ turn.seat) turn.entered.1
    (turn.learns old.last.entries c.requires.seat.0.seen) c.end.ensures.left old.last.entries (λ i. old.last.entries)

pub returns-in-Err-Memory-clause-goes_on : goal.returns-in-Err-Memory-clause-goes_on
returns-in-Err-Memory-clause-goes_on g c =
    let old = c.args.seat.now in
    let home = c.enter_after-held.result.home in
    let turn = c.enter_after-held.ensures in
    let ended = c.end-in-Err-Memory in
    goes_on_left (board_of old.board) (board_of ended.new.seat) (view_of old.board) (view_of c.enter_after-held.new.seat)
    (view_of ended.new.seat) turn.entered.0 old.last.entries home.core.snapshot.entries
    home.core.authors (marks_of home) (ended.ensures.seat ∙ turn.seat) turn.entered.1
    (turn.learns old.last.entries c.requires.seat.0.seen) ended.ensures.left old.last.entries (λ i. old.last.entries)

pub returns-in-Err-clause-fault : goal.returns-in-Err-clause-fault
returns-in-Err-clause-fault g c =
    let old = c.args.seat.now in let home = c.enter_after-held.result.home in let turn = c.enter_after-held.ensures in
    is_out_of_memory (board_of old.board) (board_of c.end.new.seat) (view_of old.board) (view_of c.enter_after-held.new.seat)
    (view_of c.end.new.seat) turn.entered.0 old.last.entries home.core.snapshot.entries
    home.core.authors (marks_of home) (c.end.ensures.seat ∙ turn.seat) turn.entered.1
    (turn.learns old.last.entries c.requires.seat.0.seen) c.end.ensures.left old.last.entries (λ i. old.last.entries)

pub returns-in-Err-Memory-clause-fault : goal.returns-in-Err-Memory-clause-fault
returns-in-Err-Memory-clause-fault g c =
    let old = c.args.seat.now in
    let home = c.enter_after-held.result.home in
    let turn = c.enter_after-held.ensures in
    let ended = c.end-in-Err-Memory in
    is_out_of_memory (board_of old.board) (board_of ended.new.seat) (view_of old.board) (view_of c.enter_after-held.new.seat)
    (view_of ended.new.seat) turn.entered.0 old.last.entries home.core.snapshot.entries
    home.core.authors (marks_of home) (ended.ensures.seat ∙ turn.seat) turn.entered.1
    (turn.learns old.last.entries c.requires.seat.0.seen) ended.ensures.left old.last.entries (λ i. old.last.entries)

-- ---- it is accepted, or the log fails

pub returns-in-Ok-prepare-clause-seat : goal.returns-in-Ok-prepare-clause-seat
returns-in-Ok-prepare-clause-seat g c =
    let old = c.args.seat.now in
    let new = c.append.new.seat in
    let home = c.enter_after-held.result.home in
    let turn = c.enter_after-held.ensures in
    let ended = c.append.ensures in
    let draft = c.in-Ok.draft in
    let w = view_of c.enter_after-held.new.seat in
    let h = home.core.snapshot.entries in
    let enters = turn.entered.1 in
    by_outcome c.append.result ended.accepted ended.stopped
    (λ receipt is.
    let e = is.2 ∙ ap (λ (z : View Code). committed z draft.after.entries receipt.t (marks_of home) (view_of new.board).met) enters in
    stays_seat c.args.self.now old new c.requires.seat (ended.seat ∙ turn.seat)
    (ap (λ (z : View Code). z.ticket) e) (ap (λ (z : View Code). z.turn) e) (ap (λ (z : View Code). z.grab) e)
    (ap (λ (z : View Code). z.seats) e) (ap (λ (z : View Code). z.number) e)
    (ap (λ (z : View Code). z.seen) e ∙ ap (λ (k : SnapshotModel). codes code_of k.entries) (sym is.0)))
    (λ fault is.
    let e = is.2 ∙ ap (λ (z : View Code). left_seen code_of z h (stopped_at w.number draft)) enters in
    stays_seat c.args.self.now old new c.requires.seat (ended.seat ∙ turn.seat)
    (ap (λ (z : View Code). z.ticket) e) (ap (λ (z : View Code). z.turn) e) (ap (λ (z : View Code). z.grab) e ∙ c.requires.seat.0.idle.2)
    (ap (λ (z : View Code). z.seats) e)
    (ap (λ (z : View Code). z.number) e)
    (ap (λ (z : View Code). z.seen) e ∙ ap (λ (k : SnapshotModel). codes code_of k.entries) (sym is.0)))

pub returns-in-Ok-prepare-clause-goes_on : goal.returns-in-Ok-prepare-clause-goes_on
returns-in-Ok-prepare-clause-goes_on g c =
    let old = c.args.seat.now in
    let new = c.append.new.seat in
    let home = c.enter_after-held.result.home in
    let turn = c.enter_after-held.ensures in
    let ended = c.append.ensures in
    let draft = c.in-Ok.draft in
    let h = home.core.snapshot.entries in
    let own = c.in-Ok.ensures.draft in
    let none : home.stop ≡ None = sym c.stop.ensures ∙ c.in_default.is in
    let learns = turn.learns old.last.entries c.requires.seat.0.seen in
    by_outcome c.append.result ended.accepted ended.stopped
    (λ receipt is. goes_on_committed (board_of old.board) (board_of new.board) (view_of old.board) (view_of c.enter_after-held.new.seat)
    (view_of new.board) turn.entered.0 old.last.entries h
    home.core.authors (marks_of home) (ended.seat ∙ turn.seat) turn.entered.1 learns (ap (option_map named_stop) none) draft receipt.t
    (view_of new.board).met is.2 own.entries
    own.stands.history.lawful new.last.entries (ap (λ (k : SnapshotModel). k.entries) is.0))
    (λ fault is. goes_on_stopped (board_of old.board) (board_of new.board) (view_of old.board) (view_of c.enter_after-held.new.seat)
    (view_of new.board) turn.entered.0 old.last.entries h
    home.core.authors (marks_of home) (ended.seat ∙ turn.seat) turn.entered.1 learns
    (ap (option_map named_stop) none) draft is.2 new.last.entries (ap (λ (k : SnapshotModel). k.entries) is.0)
    c.snapshot-latest.ensures.stands.snapshot.history.lawful)

pub returns-in-Ok-prepare-clause-receipt : goal.returns-in-Ok-prepare-clause-receipt
returns-in-Ok-prepare-clause-receipt g c =
    let old = c.args.seat.now in
    let new = c.append.new.seat in
    let home = c.enter_after-held.result.home in
    let turn = c.enter_after-held.ensures in
    let ended = c.append.ensures in
    let draft = c.in-Ok.draft in
    let h = home.core.snapshot.entries in
    let own = c.in-Ok.ensures.draft in
    let none : home.stop ≡ None = sym c.stop.ensures ∙ c.in_default.is in
    let learns = turn.learns old.last.entries c.requires.seat.0.seen in
    let reading = to_z w64 (of_z w64 c.now.result) in let fits : FitsSigned w64 c.now.result = search rules in
    let may = subst (g.K.Clock.may_answer c.args.clock.now) (sym (to_z-of_z w64 c.now.result fits)) c.now.ensures in
    if_ok c.append.result ended.accepted
    (λ receipt is. receipt_is (board_of old.board) (board_of new.board) (view_of old.board) (view_of c.enter_after-held.new.seat)
    (view_of new.board) turn.entered.0 old.last.entries h
    home.core.authors (marks_of home) (ended.seat ∙ turn.seat) turn.entered.1 learns (ap (option_map named_stop) none) draft
    (g.K.Clock.may_answer c.args.clock.now)
    (g.G.Guard.bars c.args.guard.now) (form_of c.args.asked.now) reading may c.in-Ok.ensures.accepted receipt
    (view_of new.board).met is.2 own.entries is.1 new.last.entries
    (ap (λ (k : SnapshotModel). k.entries) is.0))

pub returns-in-Ok-prepare-clause-fault : goal.returns-in-Ok-prepare-clause-fault
returns-in-Ok-prepare-clause-fault g c =
    let old = c.args.seat.now in
    let new = c.append.new.seat in
    let home = c.enter_after-held.result.home in
    let turn = c.enter_after-held.ensures in
    let ended = c.append.ensures in
    let draft = c.in-Ok.draft in
    let h = home.core.snapshot.entries in
    let own = c.in-Ok.ensures.draft in
    let none : home.stop ≡ None = sym c.stop.ensures ∙ c.in_default.is in
    let learns = turn.learns old.last.entries c.requires.seat.0.seen in
    let reading = to_z w64 (of_z w64 c.now.result) in let fits : FitsSigned w64 c.now.result = search rules in
    let may = subst (g.K.Clock.may_answer c.args.clock.now) (sym (to_z-of_z w64 c.now.result fits)) c.now.ensures in
    let may_answer = g.K.Clock.may_answer c.args.clock.now in
    let guard = g.G.Guard.bars c.args.guard.now in
    let asked = form_of c.args.asked.now in
    let next = ap basis own.entries ∙ next_basis h (entry_of draft) own.next in
    if_err c.append.result ended.stopped
    (λ fault is. subst (λ (f : TxFault). IsFault may_answer guard asked (state_of old) (state_of new) f) (sym is.1.1)
    (log_fault_is (board_of old.board) (board_of new.board) (view_of old.board) (view_of c.enter_after-held.new.seat)
    (view_of new.board) turn.entered.0 old.last.entries h
    home.core.authors (marks_of home) (ended.seat ∙ turn.seat) turn.entered.1 learns
    (ap (option_map named_stop) none) draft may_answer guard asked reading may c.in-Ok.ensures.accepted
    is.2 next new.last.entries (ap (λ (k : SnapshotModel). k.entries) is.0) is.1.0 is.1.2))
