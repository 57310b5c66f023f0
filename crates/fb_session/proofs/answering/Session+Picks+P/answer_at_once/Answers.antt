use Rattle.std.proofs.Common.{[], ◌∷◌, ◌++◌, refl, sym, ap, ◌∙◌, inl, inr, subst, map}
use Rattle.std.proofs.lemmas.Result.{err_from_is_err_and}
use Rattle.edn_form.specs.View.{form_of}
use Rattle.fb_model.specs.History.{basis}
use Rattle.fb_session.specs.declared.waiting.Waiting.{Waiting}
use Rattle.fb_session.specs.Terms.{terms_at}
use Rattle.fb_session.specs.WaitingLines.{Waits}
use Rattle.fb_session.proofs.Seeing.{goes_on-nowhere}
use Rattle.fb_session.proofs.FormsAnswered.{answered_between, out_behind, part_behind, all_behind, replied, cut_at_once, refused}
use Rattle.fb_session.proofs.answering.Session+Picks+P.answer_at_once.Goals as goal

pub returns-in_err-write_waiting-clause-goes_on : goal.returns-in_err-write_waiting-clause-goes_on
returns-in_err-write_waiting-clause-goes_on g c = goes_on-nowhere (g.T.Desk.state c.args.desk.now)

pub returns-in_err-write_waiting-clause-became : goal.returns-in_err-write_waiting-clause-became
returns-in_err-write_waiting-clause-became g c =
    let state = g.T.Desk.state in
    let p = err_from_is_err_and c.from_residual.result c.from_residual.ensures.1 in
    rw (p.1, p.2)
    (λ before stands lines waits. inl (cut_at_once (form_of c.args.form.now) c.args.self.now c.write_waiting.new.self (state c.args.desk.now)
    (state c.args.desk.now) lines _ _ refl (ap (λ s. s.commits.items) c.write_waiting.ensures.rest)
    (c.in_err-write_waiting.ensures.part lines waits)))

pub returns-in_err-reply_in_room-clause-became : goal.returns-in_err-reply_in_room-clause-became
returns-in_err-reply_in_room-clause-became g c =
    let state = g.T.Desk.state in
    let first = c.in_ok-write_waiting.ensures in
    let reply = c.reply_in_room in
    let p = err_from_is_err_and c.from_residual-in_err-reply_in_room.result c.from_residual-in_err-reply_in_room.ensures.1 in
    rw (p.1, p.2)
    (λ before stands lines waits. refused (form_of c.args.form.now) c.args.self.now c.write_waiting.new.self reply.new.self reply.new.self
    (state c.args.desk.now) (state reply.new.desk) lines _ _ (ap (λ s. s.commits.items) c.write_waiting.ensures.rest)
    (ap (λ v. v.items) first.places) refl reply.ensures.places
    (all_behind c.args.self.now.waiting lines _ _ first.whole waits)
    c.in_err-reply_in_room.ensures.err)

pub returns-in_err-write_own-clause-became : goal.returns-in_err-write_own-clause-became
returns-in_err-write_own-clause-became g c =
    let state = g.T.Desk.state in
    let first = c.in_ok-write_waiting.ensures in
    let rest = c.write_waiting.ensures.rest in
    let reply = c.reply_in_room in
    let own = c.write_own in
    let failed = c.in_err-write_own.ensures in
    let p = err_from_is_err_and c.from_residual-in_err-write_own.result c.from_residual-in_err-write_own.ensures.1 in
    rw (p.1, p.2)
    (λ before stands lines waits. inr (record {
      line = reply.new.self.line.bytes.items;
      answered =
          answered_between
          (λ p. terms_at g.K.Clock.may_answer g.G.Guard.bars g.P.FilterTable.place_of g.P.FilterTable.selects_at c.args.clock.now
          c.args.guard.now p.table.now)
          (λ p. map (g.P.FilterTable.name_at p.table.now) p.places.items) (form_of c.args.form.now) c.args.self.now
          c.write_waiting.new.self reply.new.self own.new.self (state c.args.desk.now) (state reply.new.desk) _
          (ap (λ s. s.view) rest) (ap (λ s. s.commits.items) rest) (ap (λ s. s.view) own.ensures.rest)
          (ap (λ s. s.commits.items) own.ensures.rest) c.in_ok-reply_in_room.ensures.ok before stands;
      places = ap (λ v. v.items) failed.places ∙ reply.ensures.places ∙ ap (λ v. v.items) first.places;
      written = part_behind c.args.self.now.waiting lines _ _ _ _ first.whole failed.part waits;
    }))

pub returns-clause-became : goal.returns-clause-became
returns-clause-became g c = λ before stands lines waits.
    let state = g.T.Desk.state in
    let first = c.in_ok-write_waiting.ensures in
    let rest = c.write_waiting.ensures.rest in
    let reply = c.reply_in_room in
    let own = c.write_own in
    let out = c.in_ok-write_own.ensures in
    let IsEmpty : Waiting → Type 0 = λ waiting. Waits waiting [] in
    let answered =
    answered_between
    (λ p. terms_at g.K.Clock.may_answer g.G.Guard.bars g.P.FilterTable.place_of g.P.FilterTable.selects_at c.args.clock.now
    c.args.guard.now p.table.now)
    (λ p. map (g.P.FilterTable.name_at p.table.now) p.places.items) (form_of c.args.form.now) c.args.self.now
    c.write_waiting.new.self reply.new.self own.new.self (state c.args.desk.now) (state reply.new.desk) _
    (ap (λ s. s.view) rest) (ap (λ s. s.commits.items) rest) (ap (λ s. s.view) own.ensures.rest)
    (ap (λ s. s.commits.items) own.ensures.rest) c.in_ok-reply_in_room.ensures.ok before stands in
    replied (form_of c.args.form.now) c.args.self.now own.new.self (state c.args.desk.now) (state reply.new.desk) lines _ _ _ _ before _ answered
    (out.place
    ∙ ap (λ ps. ps ++ basis reply.new.self.view.snapshot.entries ∷ []) (reply.ensures.places ∙ ap (λ v. v.items) first.places)
    ∙ ap (λ v. c.args.self.now.places.items ++ basis v.snapshot.entries ∷ []) (sym (ap (λ s. s.view) own.ensures.rest)))
    (inr (out_behind c.args.self.now.waiting own.new.self.waiting lines _ _ _ _
    (subst IsEmpty (sym (ap (λ s. s.waiting) own.ensures.rest ∙ reply.ensures.waiting)) first.none) first.whole out.whole waits))
