use Rattle.std.proofs.Common.{ℕ, List, sym, subst}
use Rattle.fb_session.specs.Taken.{TakesAll}
use Rattle.fb_session.specs.Terms.{terms_at}
use Rattle.fb_session.proofs.Serving.{replies-whole, replies-unread, prefixes-talk, asks-nothing}
use Rattle.fb_session.proofs.Seeing.{went_on-nothing}
use Rattle.fb_session.proofs.serve.serve_desk.Goals as goal

pub returns-in-Ok-clause-replies : goal.returns-in-Ok-clause-replies
returns-in-Ok-clause-replies g c =
    let left = g.I.Source.left in
    let Taken : List ℕ → Type 0 = λ bytes. TakesAll bytes (left c.args.source.now) (left c.read_script.new.source) in
    replies-whole _ c.as_slice.result.now _ _ _ _ _ _ _
    (subst Taken (sym c.as_slice.ensures.value) c.in-Ok.ensures.whole) c.serve_script.ensures.answers

pub returns-in-Ok-clause-prefixes : goal.returns-in-Ok-clause-prefixes
returns-in-Ok-clause-prefixes g c = prefixes-talk _ _ _ _ _ _ _ c.serve_script.ensures.answers

pub returns-in-Err-TooLong-clause-went_on : goal.returns-in-Err-TooLong-clause-went_on
returns-in-Err-TooLong-clause-went_on g c = went_on-nothing (g.T.Desk.state c.args.desk.now)

pub returns-in-Err-Fault-clause-went_on : goal.returns-in-Err-Fault-clause-went_on
returns-in-Err-Fault-clause-went_on g c = went_on-nothing (g.T.Desk.state c.args.desk.now)

pub returns-in-Err-Memory-clause-replies : goal.returns-in-Err-Memory-clause-replies
returns-in-Err-Memory-clause-replies g c =
    let table = c.args.preds.now in
    let nothing = c.nothing-in-Err-Memory in
    replies-unread
    (terms_at g.K.Clock.may_answer g.G.Guard.bars g.P.FilterTable.place_of g.P.FilterTable.selects_at c.args.clock.now
    c.args.guard.now table)
    (g.T.Desk.state c.args.desk.now) nothing.result _ _ _ nothing.ensures.end nothing.ensures.places nothing.ensures.commits
    (rw c.in-Err-Memory.field-0-is at c.in-Err-Memory.ensures).stopped

pub returns-in-Err-Memory-clause-went_on : goal.returns-in-Err-Memory-clause-went_on
returns-in-Err-Memory-clause-went_on g c = went_on-nothing (g.T.Desk.state c.args.desk.now)

pub returns-in-Ok-clause-asked : goal.returns-in-Ok-clause-asked
returns-in-Ok-clause-asked g c =
    let left = g.I.Source.left in
    let Taken : List ℕ → Type 0 = λ bytes. TakesAll bytes (left c.args.source.now) (left c.read_script.new.source) in
    let taken = subst Taken (sym c.as_slice.ensures.value) c.in-Ok.ensures.whole in
    c.serve_script.ensures.answers.asks (left c.args.source.now) (left c.read_script.new.source) taken.taken

pub returns-in-Ok-clause-seen : goal.returns-in-Ok-clause-seen
returns-in-Ok-clause-seen g c = c.serve_script.ensures.answers.seen

pub returns-in-Err-TooLong-clause-asked : goal.returns-in-Err-TooLong-clause-asked
returns-in-Err-TooLong-clause-asked g c =
    let some = rw c.in-Err-TooLong.field-0-is at c.in-Err-TooLong.ensures in
    asks-nothing _ _ some.stopped.bytes _ c.nothing.result c.nothing.ensures.places c.nothing.ensures.commits some.stopped.taken

pub returns-in-Err-Fault-clause-asked : goal.returns-in-Err-Fault-clause-asked
returns-in-Err-Fault-clause-asked g c =
    let some = rw c.in-Err-Fault.field-0-is at c.in-Err-Fault.ensures in
    asks-nothing _ _ some.stopped.bytes _ c.nothing-in-Err-Fault.result c.nothing-in-Err-Fault.ensures.places
    c.nothing-in-Err-Fault.ensures.commits some.stopped.taken

pub returns-in-Err-Memory-clause-asked : goal.returns-in-Err-Memory-clause-asked
returns-in-Err-Memory-clause-asked g c =
    let some = rw c.in-Err-Memory.field-0-is at c.in-Err-Memory.ensures in
    asks-nothing _ _ some.stopped.bytes _ c.nothing-in-Err-Memory.result c.nothing-in-Err-Memory.ensures.places
    c.nothing-in-Err-Memory.ensures.commits some.stopped.taken
