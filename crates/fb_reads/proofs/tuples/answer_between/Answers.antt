use Rattle.std.proofs.Common.{Bool, List, Some, map, refl, sym, ap, subst}
use Rattle.std.specs.Prelude.{OnOk}
use Rattle.std.specs.Option.{option_map}
use Rattle.std.proofs.lemmas.Result.{on_ok_weaker}
use Rattle.fb_model.specs.History.{basis}
use Rattle.fb_db.specs.Seen.{window_of}
use Rattle.read_refusals.specs.declared.reasons.Reason.TheVariants.{History}
use Rattle.read_model.specs.Given.{refusal}
use Rattle.fb_tuples.specs.declared.rows.LentRow.{LentRow}
use Rattle.fb_tuples.specs.Lent.{model_row}
use Rattle.talk_model.specs.Replies.{tuples_reply, IsLineOf}
use Rattle.talk_model.specs.Looks.{refused}
use Rattle.talk_model.specs.TupleRanges.{between}
use Rattle.fb_reads.specs.Answers.{IsLineFor, ShowsRange}
use Rattle.fb_reads.proofs.Tupled.{range_shown}
use Rattle.fb_reads.proofs.tuples.answer_between.Goals as goal

pub returns-then-view : goal.returns-then-view
returns-then-view g c =
    let view = c.args.view.now in
    let h = view.snapshot.entries in
    let start = option_map (λ b. b.now) c.args.start in
    let end = option_map (λ b. b.now) c.args.end in
    subst (λ (history : Bool). OnOk c.refuse_at.result (IsLineFor (ShowsRange h (window_of view) (g.S.Selector.selects view.filter)
    (between history c.args.attrs.now (Some start) (Some end))) c.refuse_at.new.line.items))
    (sym c.if-view.true)
    (on_ok_weaker c.refuse_at.result (λ says. (refused (basis h) (refusal History 0), refl, says)) c.refuse_at.ensures)

pub returns : goal.returns
returns g c =
    let view = c.args.view.now in
    let h = view.snapshot.entries in
    let attrs = c.args.attrs.now in
    let start = option_map (λ b. b.now) c.args.start in
    let end = option_map (λ b. b.now) c.args.end in
    let rows = c.in_ok-rows.rows.items in
    let line = c.write_rows.new.line.items in
    on_ok_weaker c.write_rows.result
    (range_shown h (window_of view) (g.S.Selector.selects view.filter) (between view.history attrs (Some start) (Some end))
    (record { attrs = attrs; start = start; end = end }) (map model_row rows) line
    (ap (λ (history : Bool). between history attrs (Some start) (Some end)) c.if-view.false) c.in_ok-rows.ensures)
    (subst (λ (rows : List LentRow). OnOk c.write_rows.result (IsLineOf (tuples_reply (basis h) (map model_row rows)) line))
    c.deref.ensures.value c.write_rows.ensures)
