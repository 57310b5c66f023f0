use Rattle.std.proofs.Common.{◌≡◌, ◌∙◌, ◌++◌, ◌∷◌, [], refl, sym, ap, subst, arith, w64, to_z, of_z, FitsSigned, rules}
use Rattle.std.proofs.lemmas.Int.{to_z-of_z}
use Rattle.edn_form.specs.View.{form_of}
use Rattle.fb_view.specs.SnapshotModel.{SnapshotModel}
use Rattle.core_desk.specs.States.{state_of}
use Rattle.core_desk.proofs.Answering.{goes_on-still, receipt_is}
use Rattle.core_desk.proofs.serving.CoreDeskDesk.transact.Goals as goal

pub returns-in_ok-receipt-in-Ok-clause-receipt : goal.returns-in_ok-receipt-in-Ok-clause-receipt
returns-in_ok-receipt-in-Ok-clause-receipt g c =
    let done = c.accept.ensures in
    let reading = to_z w64 (of_z w64 c.now.result) in
    let fits : FitsSigned w64 c.now.result = search rules in
    let same : reading ≡ c.now.result = to_z-of_z w64 c.now.result fits in
    receipt_is (g.K.Clock.may_answer c.args.clock.now) (g.G.Guard.bars c.args.guard.now) (form_of c.args.asked.now)
    (state_of c.args.self.now) (state_of c.accept.new.self) c.accept.result c.in-Ok.draft reading
    (subst (g.K.Clock.may_answer c.args.clock.now) (sym same) c.now.ensures) c.in-Ok.ensures.accepted done.entries
    (done.commits ∙ ap (λ ts. ts ++ c.accept.result.t ∷ []) c.make_room.ensures.same) done.tally refl done.t done.instant done.tempids
    done.snapshot

pub returns-in_ok-snapshot-in-Err-Refused-clause-fault : goal.returns-in_ok-snapshot-in-Err-Refused-clause-fault
returns-in_ok-snapshot-in-Err-Refused-clause-fault g c =
    let h = c.args.self.now.core.snapshot.entries in
    let asked = form_of c.args.asked.now in
    let guard = g.G.Guard.bars c.args.guard.now in
    let told = rw c.in-Err-Refused.field-0-is at c.in-Err-Refused.ensures in
    record {
      going = refl;
      step_is =
          λ other. c.refusals_do_not_depend_on_the_clock.ensures h asked guard c.in-Err-Refused.refusal
          (to_z w64 (of_z w64 c.now.result)) other told.refused;
      rest = record {
        commits = c.make_room.ensures.same;
        tally = refl;
        snapshot_is =
            ap (λ (k : SnapshotModel). k.entries) (c.in_ok-snapshot-in-Err-Refused.ensures ∙ c.snapshot-in-Err-Refused.ensures.snapshot);
      };
    }

pub returns-in_err-make_room-clause-goes_on : goal.returns-in_err-make_room-clause-goes_on
returns-in_err-make_room-clause-goes_on g c = goes_on-still _ _ refl refl refl refl (omega arith)

pub returns-in_err-snapshot-in-Ok-clause-goes_on : goal.returns-in_err-snapshot-in-Ok-clause-goes_on
returns-in_err-snapshot-in-Ok-clause-goes_on g c = goes_on-still _ _ refl refl refl refl (omega arith)

pub returns-in_err-receipt-in-Ok-clause-goes_on : goal.returns-in_err-receipt-in-Ok-clause-goes_on
returns-in_err-receipt-in-Ok-clause-goes_on g c = goes_on-still _ _ refl refl refl refl (omega arith)

pub returns-in_err-snapshot-in-Err-Refused-clause-goes_on : goal.returns-in_err-snapshot-in-Err-Refused-clause-goes_on
returns-in_err-snapshot-in-Err-Refused-clause-goes_on g c = goes_on-still _ _ refl refl refl refl (omega arith)
