use Rattle.std.proofs.Common.{ℕ, map, subst}
use Rattle.std.specs.Prelude.{OnOk}
use Rattle.view_model.specs.Window.{without_history}
use Rattle.fb_db.specs.Seen.{window_of}
use Rattle.fb_tuples.specs.Lent.{model_row}
use Rattle.talk_model.specs.Replies.{tuples_reply, IsLineOf}
use Rattle.fb_reads.proofs.Tupled.{said_text, rows_text}
use Rattle.fb_reads.proofs.tuples.write_rows.Goals as goal

pub write_tuples-requires : goal.write_tuples-requires
write_tuples-requires g c =
    let view = c.args.view.now in
    let h = view.snapshot.entries in
    let w = window_of view in
    let texts = c.what_is_said_has_a_text.ensures.all h c.basis.ensures.stands.history.lawful in
    let asked = c.requires in
    rows_text h w (g.S.Selector.selects view.filter)
    (λ d seen. said_text h d texts (c.what_is_seen_was_said.ensures.said h (without_history w) d seen.is_seen))
    asked.0 asked.1 asked.2 (map model_row c.args.rows.now) asked.3

pub returns : goal.returns
returns g c =
    subst (λ (n : ℕ). OnOk c.write_tuples.result (IsLineOf (tuples_reply n (map model_row c.args.rows.now)) c.write_tuples.new.line.items))
    c.basis.ensures.basis c.write_tuples.ensures
