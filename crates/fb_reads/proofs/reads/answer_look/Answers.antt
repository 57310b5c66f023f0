use Rattle.std.proofs.Common.{sym, subst}
use Rattle.std.specs.Prelude.{OnOk}
use Rattle.fb_db.specs.Seen.{window_of}
use Rattle.talk_model.specs.Looks.{IsLook}
use Rattle.fb_commands.specs.View.{model_look}
use Rattle.fb_commands.specs.declared.commands.Look.{Look}
use Rattle.fb_reads.specs.Answers.{IsLineFor, sight_in}
use Rattle.fb_reads.proofs.reads.answer_look.Goals as goal

pub returns-in-IndexRange : goal.returns-in-IndexRange
returns-in-IndexRange g c = λ guard.
    let view = c.args.view.now in
    let table = view.filter.table.now in
    let sight =
    sight_in (g.T.FilterTable.place_of table) (g.T.FilterTable.name_at table) (g.T.FilterTable.selects_at table) guard
    view.snapshot.entries (window_of view) view.filter.places.items in
    subst
    (λ (look : Look). OnOk c.answer_index_range.result (IsLineFor (IsLook sight (model_look look)) c.answer_index_range.new.line.items))
    (sym c.in-IndexRange.is) c.answer_index_range.ensures
