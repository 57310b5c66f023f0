use Rattle.std.proofs.Common.{false, true, map}
use Rattle.std.proofs.lemmas.Result.{on_ok_weaker}
use Rattle.edn_form.specs.View.{forms_of}
use Rattle.fb_db.specs.Seen.{window_of}
use Rattle.with_model.specs.Chain.{reaches, refused_at}
use Rattle.fb_with.specs.Outcomes.{report_of}
use Rattle.fb_commands.specs.View.{model_look}
use Rattle.fb_reads.proofs.Trying.{seen, counted, filtered, chained, refused_line, as_bound}
use Rattle.fb_reads.proofs.tries.answer_tried.Goals as goal

pub returns-then-not-is_whole : goal.returns-then-not-is_whole
returns-then-not-is_whole g c =
    let table = g.T.FilterTable in
    let view = c.args.view.now in
    let guard = g.G.Guard.bars c.args.guard.now in
    let sight =
    seen table.place_of table.name_at table.selects_at guard view.filter.table.now view.snapshot.entries (window_of view)
    view.filter.places.items in
    let isnt =
    counted table.place_of table.name_at table.selects_at guard view.filter.table.now view.snapshot.entries (window_of view)
    view.filter.places.items false c.is_whole.result c.is_whole.ensures c.if-not-is_whole.true in
    on_ok_weaker c.refuse_filtered.result
    (filtered sight (model_look c.args.look) c.refuse_filtered.new.line.items (forms_of c.args.datas.now) isnt) c.refuse_filtered.ensures

pub returns-in-Ok : goal.returns-in-Ok
returns-in-Ok g c =
    let table = g.T.FilterTable in
    let view = c.args.view.now in
    let guard = g.G.Guard.bars c.args.guard.now in
    let done = c.in-Ok.done in
    let sight =
    seen table.place_of table.name_at table.selects_at guard view.filter.table.now view.snapshot.entries (window_of view)
    view.filter.places.items in
    let is =
    counted table.place_of table.name_at table.selects_at guard view.filter.table.now view.snapshot.entries (window_of view)
    view.filter.places.items true c.is_whole.result c.is_whole.ensures c.if-not-is_whole.false in
    on_ok_weaker c.answer_behind.result
    (chained sight (model_look c.args.look) c.answer_behind.new.line.items (forms_of c.args.datas.now)
    (reaches done.after.entries (map report_of done.reports.items)) is c.in-Ok.ensures.reached)
    (c.answer_behind.ensures guard)

pub returns-in-Err-Refused : goal.returns-in-Err-Refused
returns-in-Err-Refused g c =
    let table = g.T.FilterTable in
    let view = c.args.view.now in
    let guard = g.G.Guard.bars c.args.guard.now in
    let refusal = c.in-Err-Refused.refusal in
    let line = c.refuse_transaction.new.line.items in
    let sight =
    seen table.place_of table.name_at table.selects_at guard view.filter.table.now view.snapshot.entries (window_of view)
    view.filter.places.items in
    let is =
    counted table.place_of table.name_at table.selects_at guard view.filter.table.now view.snapshot.entries (window_of view)
    view.filter.places.items true c.is_whole.result c.is_whole.ensures c.if-not-is_whole.false in
    let stopped = rw c.in-Err-Refused.field-0-is at c.in-Err-Refused.ensures.stop in
    on_ok_weaker c.refuse_transaction.result
    (λ says. chained sight (model_look c.args.look) line (forms_of c.args.datas.now) (refused_at refusal c.in-Err-Refused.at) is stopped
    (refused_line sight (model_look c.args.look) line refusal c.in-Err-Refused.at says))
    (as_bound c.refuse_transaction.result line c.in-Err-Refused.refusal-is c.in-Err-Refused.at-is c.refuse_transaction.ensures)
