use Rattle.std.proofs.Common.{◌∙◌, List, ℕ, map, ap, sym, subst}
use Rattle.std.specs.Prelude.{OnOk}
use Rattle.std.proofs.lemmas.Result.{on_ok_weaker}
use Rattle.fb_db.specs.Seen.{window_of}
use Rattle.fb_with.specs.declared.chains.Tried.{Tried}
use Rattle.fb_with.specs.Outcomes.{report_of}
use Rattle.talk_model.specs.Session.{Sight}
use Rattle.talk_model.specs.Looks.{IsLook}
use Rattle.talk_model.specs.Replies.{with_reply, IsLineOf}
use Rattle.fb_commands.specs.View.{model_look}
use Rattle.fb_reads.proofs.Trying.{seen, seen_at_end, behind_line}
use Rattle.fb_reads.proofs.tries.answer_behind.Goals as goal

pub returns : goal.returns
returns g c = λ guard.
    let table = g.T.FilterTable in
    let view = c.args.view.now in
    let h = view.snapshot.entries in
    let end = c.of-end.result in
    let line = c.write_with.new.line.items in
    let sight =
    seen table.place_of table.name_at table.selects_at guard view.filter.table.now h (window_of view) view.filter.places.items in
    let looked = c.in_ok-answer_look.ensures guard in
    let at =
    seen_at_end table.place_of table.name_at table.selects_at guard view.filter.table.now h (window_of view) view.filter.places.items
    c.args.done.after.entries end.filter.table.now end.snapshot.entries (window_of end) end.filter.places.items
    (ap (λ p. p.table.now) c.of-end.ensures.filter ∙ c.none.ensures.table) (ap (λ s. s.entries) c.of-end.ensures.snapshot)
    c.of-end.ensures.window (ap (λ p. p.places.items) c.of-end.ensures.filter ∙ c.none.ensures.places) in
    let looks = subst (λ (s : Sight). IsLook s (model_look c.args.look) looked.0) at looked.1 in
    let says = subst (IsLineOf looked.0) (sym c.deref-2.ensures.value) looked.2 in
    let written =
    subst (λ (reports : List Tried). OnOk c.write_with.result (IsLineOf (with_reply c.basis.result (map report_of reports) looked.0) line))
    c.deref.ensures.value (c.write_with.ensures looked.0 says) in
    on_ok_weaker c.write_with.result
    (behind_line sight (model_look c.args.look) line c.args.done.after.entries (map report_of c.args.done.reports.items) looked.0 looks)
    (subst (λ (n : ℕ). OnOk c.write_with.result (IsLineOf (with_reply n (map report_of c.args.done.reports.items) looked.0) line))
    c.basis.ensures.basis written)
