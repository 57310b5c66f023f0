use Rattle.std.proofs.Common.{ℕ, Bor, List, map, subst}
use Rattle.std.specs.Prelude.{OnOk}
use Rattle.std.proofs.lemmas.Result.{on_ok_weaker}
use Rattle.edn_form.specs.View.{form_of}
use Rattle.fb_values.specs.declared.facts.Datom.{Datom}
use Rattle.fb_model.specs.History.{basis}
use Rattle.fb_model.specs.Facts.{facts}
use Rattle.fb_db.specs.Seen.{window_of}
use Rattle.talk_model.specs.Replies.{datoms_reply, IsLineOf}
use Rattle.fb_reads.specs.Answers.{IsRefused}
use Rattle.fb_reads.proofs.Scanned.{found_between, stopped_between}
use Rattle.fb_reads.proofs.scans.answer_index_range.Goals as goal

pub returns-in_ok-found-in-Ok : goal.returns-in_ok-found-in-Ok
returns-in_ok-found-in-Ok g c =
    let view = c.args.view.now in
    let h = view.snapshot.entries in
    on_ok_weaker c.write_found.result
    (found_between h (window_of view) (g.S.Selector.selects view.filter) (form_of c.args.a.now) (form_of c.args.start.now)
    (form_of c.args.end.now) c.in-Ok.range _ c.write_found.new.line.items
    c.in-Ok.ensures c.in_ok-found-in-Ok.ensures)
    (subst (λ (ds : List (Bor Datom)). OnOk c.write_found.result
    (IsLineOf (datoms_reply (basis h) (facts h) (map (λ (d : Bor Datom). d.now) ds)) c.write_found.new.line.items))
    c.deref.ensures.value c.write_found.ensures)

pub returns-in-Err : goal.returns-in-Err
returns-in-Err g c =
    let view = c.args.view.now in
    let h = view.snapshot.entries in
    let line = c.refuse_stop.new.line.items in
    on_ok_weaker c.refuse_stop.result
    (stopped_between h (window_of view) (g.S.Selector.selects view.filter) (form_of c.args.a.now) (form_of c.args.start.now)
    (form_of c.args.end.now) c.in-Err.stop line c.in-Err.ensures)
    (subst (λ (n : ℕ). OnOk c.refuse_stop.result (IsRefused n c.in-Err.stop line)) c.basis.ensures.basis c.refuse_stop.ensures)
