use Rattle.std.proofs.Common.{◌≡◌, ◌+◌, ◌-◌, ◌≤◌, length, map}
use Rattle.talk_model.specs.Script.{most_commands}
use Rattle.fb_session.specs.Sessions.{TalkSoFar}
use Rattle.fb_session.specs.Terms.{terms_at}
use Rattle.fb_session.proofs.serve.Session+Picks+P.answer_all.Given as goal

-- the talk over the forms so far
abbrev pub invariant-forms : goal.invariant-forms
invariant-forms g l =
    let state = g.T.Desk.state in
    let contents = g.O.Sink.contents in
    let preds = l.fn.self.view.filter.table.now in
    record {
      table : l.self.view.filter.table ≡ l.fn.self.view.filter.table;
      left : most_commands ≤ length l.self.places.items + (state l.desk).left;
      talk : TalkSoFar
          (terms_at g.K.Clock.may_answer g.G.Guard.bars g.P.FilterTable.place_of g.P.FilterTable.selects_at l.clock l.guard preds)
          l.script l.at l.self
          (λ p. map (g.P.FilterTable.name_at p.table.now) p.places.items) (state l.fn.desk) (state l.desk) (contents l.fn.sink)
          (contents l.sink);
      count : g.O.Sink.faults l.sink ≡ g.O.Sink.faults l.fn.sink;
    }

abbrev pub decreases-forms : goal.decreases-forms
decreases-forms g l = length l.script - l.at
