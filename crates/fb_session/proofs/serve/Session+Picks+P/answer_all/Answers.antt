use Rattle.std.proofs.Common.{ℕ, [], ◌∷◌, length, length-append, refl, ap, ◌∙◌, subst, map, arith, Bor}
use Rattle.edn_form.specs.View.{form_of}
use Rattle.talk_model.specs.Talk.{lines_of}
use Rattle.fb_session.specs.Replies.{SinkCount}
use Rattle.fb_session.specs.Sessions.{Replied, StopsAt}
use Rattle.fb_session.specs.Terms.{terms_at}
use Rattle.fb_session.proofs.TalkingOn.{talk-opened, talk-replied, talk-finished, talk-stops, finish-count}
use Rattle.fb_session.proofs.serve.Session+Picks+P.answer_all.Goals as goal

pub forms-init : goal.forms-init
forms-init g c =
    record {
      table = refl;
      left = omega (arith, c.requires.left);
      talk = talk-opened _ _ c.args.script.now c.args.self.now _ _ c.requires.opened;
      count = refl;
    }

pub returns-in-Err-clause-answers : goal.returns-in-Err-clause-answers
returns-in-Err-clause-answers g c =
    let so_far = c.forms.invariant.talk in
    let finish = c.finish in
    talk-finished _ _ c.args.script.now _ _ c.forms.self _ _ c.forms.at so_far c.in-Err.end finish.result finish.new.self _
    c.in-Err.ensures.err (ap (λ s. s.commits.items) finish.ensures.rest) (finish.ensures.ends _ so_far.waits)

pub returns-in-Err-clause-count : goal.returns-in-Err-clause-count
returns-in-Err-clause-count g c =
    let Counts : ℕ → Type 0 = λ n. SinkCount c.finish.result n (g.O.Sink.faults c.finish.new.sink) in
    subst Counts c.forms.invariant.count
    (finish-count c.args.script.now c.forms.at _ c.in-Err.end c.finish.result _ _ c.in-Err.ensures.err c.finish.ensures.count)

pub returns-in-Err-answered-clause-answers : goal.returns-in-Err-answered-clause-answers
returns-in-Err-answered-clause-answers g c =
    let state = g.T.Desk.state in
    let contents = g.O.Sink.contents in
    let so_far = c.forms.invariant.talk in
    let read = c.in-Ok.ensures.ok in
    let form = form_of c.in-Ok.form in
    let new = c.answer-answered.new.self in
    let stopped = subst
    (λ (table : Bor g.row.P.Denot). StopsAt
    (terms_at g.K.Clock.may_answer g.G.Guard.bars g.P.FilterTable.place_of g.P.FilterTable.selects_at c.args.clock.now
    c.args.guard.now table.now) form c.forms.self new
    (λ p. map (g.P.FilterTable.name_at p.table.now) p.places.items) (state c.forms.desk) (state c.answer-answered.new.desk) so_far.standing
    (lines_of so_far.held) (contents c.forms.sink) (contents c.answer-answered.new.sink) c.in-Err-answered.stop)
    c.forms.invariant.table (c.in-Err-answered.ensures.became so_far.standing so_far.stands (lines_of so_far.held) so_far.waits) in
    rw c.end.ensures
    (talk-stops _ _ c.args.script.now _ (state c.forms.desk) c.forms.self _ _ c.forms.at so_far
    (state c.answer-answered.new.desk) new c.answer-answered.ensures.goes_on c.in-Ok.next form
    read.ahead read.within read.room read.stands _ c.in-Err-answered.stop stopped)

pub forms-preserved : goal.forms-preserved
forms-preserved g c =
    let state = g.T.Desk.state in
    let contents = g.O.Sink.contents in
    let so_far = c.forms.invariant.talk in
    let read = c.in-Ok.ensures.ok in
    let form = form_of c.in-Ok.form in
    let new = c.answer-answered.new.self in
    let replied = subst
    (λ (table : Bor g.row.P.Denot). Replied
    (terms_at g.K.Clock.may_answer g.G.Guard.bars g.P.FilterTable.place_of g.P.FilterTable.selects_at c.args.clock.now
    c.args.guard.now table.now) form c.forms.self new
    (λ p. map (g.P.FilterTable.name_at p.table.now) p.places.items) (state c.forms.desk) (state c.answer-answered.new.desk) so_far.standing
    (lines_of so_far.held) (contents c.forms.sink) (contents c.answer-answered.new.sink))
    c.forms.invariant.table (c.in_default.ensures.became so_far.standing so_far.stands (lines_of so_far.held) so_far.waits) in
    record {
      table = c.answer-answered.ensures.table ∙ c.forms.invariant.table;
      left =
          omega (
            arith,
            c.forms.invariant.left,
            c.answer-answered.ensures.goes_on.left,
            ap length replied.places,
            length-append c.forms.self.places.items (replied.answered.after.place ∷ []),
          );
      talk =
          talk-replied _ _ c.args.script.now _ (state c.forms.desk) c.forms.self _ _ c.forms.at so_far
          (state c.answer-answered.new.desk) new c.answer-answered.ensures.goes_on c.in-Ok.next form
          read.ahead read.within read.room read.stands _ replied;
      count = c.in_default.ensures.count ∙ c.forms.invariant.count;
    }

pub answer-answered-requires-clause-left : goal.answer-answered-requires-clause-left
answer-answered-requires-clause-left g c = omega (arith, c.forms.invariant.left, c.in-Ok.ensures.ok.room)
