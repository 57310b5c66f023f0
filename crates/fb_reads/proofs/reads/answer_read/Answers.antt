use Rattle.std.proofs.Common.{ℕ, Some, None, map, subst, ap, ◌∙◌}
use Rattle.std.specs.Prelude.{OnOk}
use Rattle.std.specs.Option.{option_map}
use Rattle.std.proofs.lemmas.Result.{on_ok_weaker}
use Rattle.fb_model.specs.History.{basis}
use Rattle.fb_db.specs.Seen.{window_of}
use Rattle.read_model.specs.Components.{no_command}
use Rattle.talk_model.specs.Commands as model
use Rattle.talk_model.specs.Replies.{done_reply, IsLineOf}
use Rattle.talk_model.specs.Looks.{refused}
use Rattle.talk_model.specs.Reads.{turn_reply}
use Rattle.edn_form.specs.View.{form_of, forms_of}
use Rattle.fb_commands.specs.View.{model_read, model_look, model_turn}
use Rattle.fb_reads.specs.Answers.{sight_in}
use Rattle.fb_reads.proofs.Answered.{said, line_of, stands_of}
use Rattle.fb_reads.proofs.reads.answer_read.Goals as goal

pub returns-in-Look-clause-line : goal.returns-in-Look-clause-line
returns-in-Look-clause-line g c =
    let view = c.args.view.now in
    let table = view.filter.table.now in
    let guard = g.G.Guard.bars c.args.guard.now in
    line_of c.answer_look.result (sight_in (g.T.FilterTable.place_of table) (g.T.FilterTable.name_at table)
    (g.T.FilterTable.selects_at table) guard view.snapshot.entries (window_of view) view.filter.places.items)
    (option_map model_read c.args.asked) (Some (model.look (model_look c.in-Look.look))) c.answer_look.new.line.items
    (ap (option_map model_read) (c.in-Some.is ∙ ap Some c.in-Look.is)) (c.answer_look.ensures guard)

pub returns-in-Tried-clause-line : goal.returns-in-Tried-clause-line
returns-in-Tried-clause-line g c =
    let view = c.args.view.now in
    let table = view.filter.table.now in
    line_of c.answer_tried.result (sight_in (g.T.FilterTable.place_of table) (g.T.FilterTable.name_at table)
    (g.T.FilterTable.selects_at table) (g.G.Guard.bars c.args.guard.now) view.snapshot.entries (window_of view)
    view.filter.places.items)
    (option_map model_read c.args.asked) (Some (model.tried (forms_of c.in-Tried.datas.now) (model_look c.in-Tried.look)))
    c.answer_tried.new.line.items
    (ap (option_map model_read) (c.in-Some.is ∙ ap Some c.in-Tried.is)) c.answer_tried.ensures

pub returns-in-Tuples-clause-line : goal.returns-in-Tuples-clause-line
returns-in-Tuples-clause-line g c =
    let view = c.args.view.now in
    let table = view.filter.table.now in
    let guard = g.G.Guard.bars c.args.guard.now in
    let asked = c.in-Tuples in
    line_of c.answer_tuples.result (sight_in (g.T.FilterTable.place_of table) (g.T.FilterTable.name_at table)
    (g.T.FilterTable.selects_at table) guard view.snapshot.entries (window_of view) view.filter.places.items)
    (option_map model_read c.args.asked) (Some (model.tuples (form_of asked.names.now) (form_of asked.start.now) (form_of asked.end.now)))
    c.answer_tuples.new.line.items
    (ap (option_map model_read) (c.in-Some.is ∙ ap Some asked.is)) (c.answer_tuples.ensures guard)

pub returns-in-Turn-clause-line : goal.returns-in-Turn-clause-line
returns-in-Turn-clause-line g c =
    let view = c.args.view.now in
    let table = view.filter.table.now in
    let guard = g.G.Guard.bars c.args.guard.now in
    let sight =
    sight_in (g.T.FilterTable.place_of table) (g.T.FilterTable.name_at table) (g.T.FilterTable.selects_at table) guard
    view.snapshot.entries (window_of view) view.filter.places.items in
    let line = c.turn_view.new.line.items in
    line_of c.turn_view.result sight (option_map model_read c.args.asked) (Some (model.turn (model_turn c.in-Turn.turn))) line
    (ap (option_map model_read) (c.in-Some.is ∙ ap Some c.in-Turn.is))
    (on_ok_weaker c.turn_view.result (said (turn_reply sight (model_turn c.in-Turn.turn)) line) (c.turn_view.ensures.line guard))

pub returns-in-Turn-clause-stands : goal.returns-in-Turn-clause-stands
returns-in-Turn-clause-stands g c =
    let view = c.args.view.now in
    let table = view.filter.table.now in
    let name_at = g.T.FilterTable.name_at table in
    stands_of c.turn_view.result (sight_in (g.T.FilterTable.place_of table) name_at (g.T.FilterTable.selects_at table)
    (g.G.Guard.bars c.args.guard.now) view.snapshot.entries (window_of view) view.filter.places.items)
    (window_of view) (map name_at view.filter.places.items) (window_of c.turn_view.new.view)
    (map name_at c.turn_view.new.view.filter.places.items)
    (option_map model_read c.args.asked) (Some (model.turn (model_turn c.in-Turn.turn)))
    (ap (option_map model_read) (c.in-Some.is ∙ ap Some c.in-Turn.is)) (c.turn_view.ensures.stands (g.G.Guard.bars c.args.guard.now))

pub returns-in-RequestIndex-clause-line : goal.returns-in-RequestIndex-clause-line
returns-in-RequestIndex-clause-line g c =
    let view = c.args.view.now in
    let h = view.snapshot.entries in
    let table = view.filter.table.now in
    let line = c.write_done.new.line.items in
    line_of c.write_done.result (sight_in (g.T.FilterTable.place_of table) (g.T.FilterTable.name_at table)
    (g.T.FilterTable.selects_at table) (g.G.Guard.bars c.args.guard.now) h (window_of view) view.filter.places.items)
    (option_map model_read c.args.asked) (Some model.request_index) line
    (ap (option_map model_read) (c.in-Some.is ∙ ap Some c.in-RequestIndex.is))
    (on_ok_weaker c.write_done.result (said (done_reply (basis h)) line)
    (subst (λ (n : ℕ). OnOk c.write_done.result (IsLineOf (done_reply n) line)) c.basis-basis.ensures.basis c.write_done.ensures))

pub returns-in_default-clause-line : goal.returns-in_default-clause-line
returns-in_default-clause-line g c =
    let view = c.args.view.now in
    let h = view.snapshot.entries in
    let table = view.filter.table.now in
    let line = c.not_a_command.new.line.items in
    line_of c.not_a_command.result (sight_in (g.T.FilterTable.place_of table) (g.T.FilterTable.name_at table)
    (g.T.FilterTable.selects_at table) (g.G.Guard.bars c.args.guard.now) h (window_of view) view.filter.places.items)
    (option_map model_read c.args.asked) None line (ap (option_map model_read) c.in_default.is)
    (on_ok_weaker c.not_a_command.result (said (refused (basis h) no_command) line) (subst
    (λ (n : ℕ). OnOk c.not_a_command.result (IsLineOf (refused n no_command) line)) c.basis-basis.ensures.basis c.not_a_command.ensures))
