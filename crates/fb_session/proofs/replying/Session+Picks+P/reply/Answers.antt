use Rattle.std.proofs.Common.{Some, None, refl, sym, ap, subst}
use Rattle.std.proofs.lemmas.Result.{on_ok_weaker, on_err_weaker}
use Rattle.edn_form.specs.View.{form_of}
use Rattle.fb_commands.specs.View.{model_read}
use Rattle.fb_desk.specs.Desks.{GoesOn}
use Rattle.fb_session.proofs.Seeing.{goes_on-nowhere}
use Rattle.fb_session.proofs.Results.{at_err, on_ok_both, on_err_both}
use Rattle.fb_session.proofs.Counting.{unanswered_transaction, unanswered_db, unanswered_sync}
use Rattle.fb_session.proofs.Deciding.{answered_transaction}
use Rattle.fb_session.proofs.Looking.{answered_db, answered_sync, answered_read}
use Rattle.fb_session.proofs.replying.Session+Picks+P.reply.Goals as goal

pub returns-in-Some-Transact-clause-ok : goal.returns-in-Some-Transact-clause-ok
returns-in-Some-Transact-clause-ok g c =
    let state = g.T.Desk.state in
    on_ok_weaker c.transact.result
    (λ told before stands.
    answered_transaction _ _ (state c.args.desk.now) (state c.transact.new.desk) before c.args.self.now c.transact.ensures.goes_on stands
    (form_of c.args.form.now) _ (sym (rw c.in-Some-Transact.field-0-is at c.in-Some-Transact.ensures)) c.transact.new.self told)
    c.transact.ensures.ok

pub returns-in-Some-Transact-clause-err : goal.returns-in-Some-Transact-clause-err
returns-in-Some-Transact-clause-err g c =
    let state = g.T.Desk.state in
    on_err_both c.transact.result
    (λ keeps loads. unanswered_transaction (form_of c.args.form.now) c.args.self.now c.transact.new.self (state c.args.desk.now)
    (state c.transact.new.desk) keeps _ (sym (rw c.in-Some-Transact.field-0-is at c.in-Some-Transact.ensures)) loads)
    c.transact.ensures.err c.transact.ensures.loads

pub returns-in-Some-Transact-clause-table : goal.returns-in-Some-Transact-clause-table
returns-in-Some-Transact-clause-table g c = ap (λ p. p.table) c.transact.ensures.filter

pub returns-in-Some-Db-clause-ok : goal.returns-in-Some-Db-clause-ok
returns-in-Some-Db-clause-ok g c =
    let state = g.T.Desk.state in
    on_ok_weaker c.look.result
    (λ shows before stands.
    answered_db _ _ (state c.args.desk.now) (state c.look.new.desk) before c.args.self.now c.look.new.self c.look.ensures.goes_on stands
    shows c.look.ensures.keeps (form_of c.args.form.now) (sym (rw c.in-Some-Db.field-0-is at c.in-Some-Db.ensures)) c.look.ensures.tally)
    c.look.ensures.shows

pub returns-in-Some-Db-clause-err : goal.returns-in-Some-Db-clause-err
returns-in-Some-Db-clause-err g c =
    let state = g.T.Desk.state in
    at_err c.look.result _ (unanswered_db (form_of c.args.form.now) c.args.self.now c.look.new.self (state c.args.desk.now)
    (state c.look.new.desk) c.look.ensures.keeps (sym (rw c.in-Some-Db.field-0-is at c.in-Some-Db.ensures)) c.look.ensures.tally)

pub returns-in-Some-Db-clause-table : goal.returns-in-Some-Db-clause-table
returns-in-Some-Db-clause-table g c = ap (λ p. p.table) c.look.ensures.filter

pub returns-in-Some-Sync-clause-ok : goal.returns-in-Some-Sync-clause-ok
returns-in-Some-Sync-clause-ok g c =
    let state = g.T.Desk.state in
    on_ok_both c.catch_up.result
    (λ shows tally before stands. answered_sync _ _ (state c.args.desk.now)
    (state c.catch_up.new.desk) before c.args.self.now c.catch_up.new.self c.catch_up.ensures.goes_on stands shows c.catch_up.ensures.keeps
    (form_of c.args.form.now) (sym (rw c.in-Some-Sync.field-0-is at c.in-Some-Sync.ensures)) tally)
    c.catch_up.ensures.shows c.catch_up.ensures.tally

pub returns-in-Some-Sync-clause-err : goal.returns-in-Some-Sync-clause-err
returns-in-Some-Sync-clause-err g c =
    let state = g.T.Desk.state in
    on_err_weaker c.catch_up.result
    (λ loads. unanswered_sync (form_of c.args.form.now) c.args.self.now c.catch_up.new.self (state c.args.desk.now)
    (state c.catch_up.new.desk) c.catch_up.ensures.keeps (sym (rw c.in-Some-Sync.field-0-is at c.in-Some-Sync.ensures)) loads)
    c.catch_up.ensures.loads

pub returns-in-Some-Sync-clause-table : goal.returns-in-Some-Sync-clause-table
returns-in-Some-Sync-clause-table g c = ap (λ p. p.table) c.catch_up.ensures.filter

pub returns-in_err-ring_for-in-Some-Read-clause-goes_on : goal.returns-in_err-ring_for-in-Some-Read-clause-goes_on
returns-in_err-ring_for-in-Some-Read-clause-goes_on g c =
    let state = g.T.Desk.state in
    subst (GoesOn (state c.args.desk.now)) (sym c.ring_for.ensures) (goes_on-nowhere (state c.args.desk.now))

pub returns-in_ok-ring_for-in-Some-Read-clause-goes_on : goal.returns-in_ok-ring_for-in-Some-Read-clause-goes_on
returns-in_ok-ring_for-in-Some-Read-clause-goes_on g c =
    let state = g.T.Desk.state in
    subst (GoesOn (state c.args.desk.now)) (sym c.ring_for.ensures) (goes_on-nowhere (state c.args.desk.now))

pub returns-in_ok-ring_for-in-Some-Read-clause-ok : goal.returns-in_ok-ring_for-in-Some-Read-clause-ok
returns-in_ok-ring_for-in-Some-Read-clause-ok g c =
    let state = g.T.Desk.state in
    on_ok_weaker c.read.result
    (λ reads before stands. answered_read _ _ (state c.args.desk.now) before c.args.self.now c.read.new.self stands
    (Some (model_read c.in-Some-Read.asked)) reads (form_of c.args.form.now)
    (sym (rw c.in-Some-Read.field-0-is at c.in-Some-Read.ensures)) (state c.ring_for.new.desk) c.ring_for.ensures
    (ap (λ s. s.commits.items) c.read.ensures.rest))
    c.read.ensures.ok

pub returns-in-None-clause-goes_on : goal.returns-in-None-clause-goes_on
returns-in-None-clause-goes_on g c = goes_on-nowhere (g.T.Desk.state c.args.desk.now)

pub returns-in-None-clause-ok : goal.returns-in-None-clause-ok
returns-in-None-clause-ok g c =
    let state = g.T.Desk.state in
    on_ok_weaker c.read-in-None.result
    (λ reads before stands.
    answered_read _ _ (state c.args.desk.now) before c.args.self.now c.read-in-None.new.self stands None reads (form_of c.args.form.now)
    (sym c.in-None.ensures) (state c.args.desk.now) refl (ap (λ s. s.commits.items) c.read-in-None.ensures.rest))
    c.read-in-None.ensures.ok
