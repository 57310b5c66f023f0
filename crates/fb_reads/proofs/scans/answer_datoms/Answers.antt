use Rattle.std.proofs.Common.{ℕ, Bor, List, map, subst}
use Rattle.std.specs.Prelude.{OnOk}
use Rattle.std.proofs.lemmas.Result.{on_ok_weaker}
use Rattle.edn_form.specs.View.{forms_of}
use Rattle.view_model.specs.Scan.{leading}
use Rattle.fb_values.specs.declared.facts.Datom.{Datom}
use Rattle.fb_model.specs.History.{basis}
use Rattle.fb_model.specs.Facts.{facts}
use Rattle.fb_db.specs.Seen.{window_of}
use Rattle.talk_model.specs.Replies.{datoms_reply, IsLineOf}
use Rattle.fb_reads.specs.Answers.{IsRefused}
use Rattle.fb_reads.proofs.Scanned.{found_at, stopped_at}
use Rattle.fb_reads.proofs.scans.answer_datoms.Goals as goal

pub returns-in_ok-found-in-Ok : goal.returns-in_ok-found-in-Ok
returns-in_ok-found-in-Ok g c =
    let view = c.args.view.now in
    let h = view.snapshot.entries in
    on_ok_weaker c.write_found.result
    (found_at h (window_of view) (g.S.Selector.selects view.filter) c.args.order leading
    (forms_of c.args.given.now) c.in-Ok.probe _ c.write_found.new.line.items c.in-Ok.ensures c.in_ok-found-in-Ok.ensures)
    (subst (λ (ds : List (Bor Datom)). OnOk c.write_found.result
    (IsLineOf (datoms_reply (basis h) (facts h) (map (λ (d : Bor Datom). d.now) ds)) c.write_found.new.line.items))
    c.deref.ensures.value c.write_found.ensures)

pub returns-in-Err : goal.returns-in-Err
returns-in-Err g c =
    let view = c.args.view.now in
    let h = view.snapshot.entries in
    let line = c.refuse_stop.new.line.items in
    on_ok_weaker c.refuse_stop.result
    (stopped_at h (window_of view) (g.S.Selector.selects view.filter) c.args.order leading
    (forms_of c.args.given.now) c.in-Err.stop line c.in-Err.ensures)
    (subst (λ (n : ℕ). OnOk c.refuse_stop.result (IsRefused n c.in-Err.stop line)) c.basis.ensures.basis c.refuse_stop.ensures)
