use Rattle.std.proofs.Common.{◌≡◌, ◌+◌, ◌-◌, length, take, set, subst, sym, arith, rules}
use Rattle.std.proofs.lemmas.List.{length-take, length-set}
use Rattle.fb_conn.specs.Seats.{state_of}
use Rattle.fb_session.specs.Terms.{terms_at}
use Rattle.fb_run.specs.Outside.{streams_of}
use Rattle.fb_run.specs.Jobs.{HasTalked}
use Rattle.fb_run.proofs.Ahead.{each_served}
use Rattle.fb_run.proofs.jobs.serve_last_ahead.Goals as goal

pub returns-clause-talked : goal.returns-clause-talked
returns-clause-talked g c =
    let terms = terms_at g.K.Clock.may_answer g.G.Guard.bars g.P.FilterTable.place_of g.P.FilterTable.selects_at
    c.args.clock.now c.args.guard.now c.args.preds.now in
    let io = streams_of g.I.Source.left g.I.Source.faults g.O.Sink.contents g.O.Sink.faults in
    let jobs = c.args.jobs.now in
    let n = length jobs - 1 in
    let count : n + 1 ≡ length jobs = first_of (grind (arith, c.is_empty.ensures, c.if-is_empty.false), search (rules, arith)) in
    let before : length (take n (set jobs n c.serve.new.self)) ≡ n =
    omega (arith, length-take n (set jobs n c.serve.new.self), length-set jobs n c.serve.new.self, count) in
    let same : length c.serve_each-2.new.jobs ≡ n =
    first_of (grind (arith, c.serve_each-2.auto.jobs), omega (arith, c.serve_each-2.auto.jobs, before)) in
    each_served (λ was now. HasTalked terms io (state_of was.desk.seat) (state_of now.desk.seat) was.out now.out) jobs n
    c.index-jobs-ahead.result c.serve.new.self c.serve_each-2.new.jobs count c.index-jobs-ahead.is same
    (subst (λ was. HasTalked terms io (state_of was.desk.seat) (state_of c.serve.new.self.desk.seat) was.out c.serve.new.self.out)
    (sym c.index-jobs-ahead.is) c.serve.ensures)
    (λ k d within. c.serve_each-2.ensures.talked k d (first_of (omega (arith, within, before), grind arith)))
