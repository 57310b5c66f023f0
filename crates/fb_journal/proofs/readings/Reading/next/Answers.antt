use Rattle.std.proofs.Common.{◌∙◌, ℕ, refl, sym, subst, arith}
use Rattle.std.proofs.lemmas.Result.{err_from_is_err_and}
use Rattle.fb_journal.specs.Gates.{IsAheadAt}
use Rattle.fb_journal.specs.Readings.{IsFirstFault}
use Rattle.fb_journal.proofs.GoingOn.{reads-then, still-read, read-more, read-all, first-fault, other-fault}
use Rattle.fb_journal.proofs.readings.Reading.next.Goals as goal

pub returns-in_err-look_ahead-clause-why_not : goal.returns-in_err-look_ahead-clause-why_not
returns-in_err-look_ahead-clause-why_not g c =
    let d = g.D.Disk in
    let exit = err_from_is_err_and c.from_residual.result c.from_residual.ensures.1 in
    rw (exit.1)
    (λ mark disk records has. (
      subst (IsFirstFault mark (d.bytes disk) records) (sym exit.2) tt,
      still-read d.bytes d.images d.moment d.images_since g.met.D.Disk.counts_now mark disk records c.args.self.now _
          c.look_ahead.ensures.leaves refl has refl refl,
    ))

pub returns-in_err-take-in-Record-clause-why_not : goal.returns-in_err-take-in-Record-clause-why_not
returns-in_err-take-in-Record-clause-why_not g c =
    let d = g.D.Disk in
    let first = c.look_ahead.ensures.leaves in
    let stays = c.in_err-take-in-Record.ensures.stays in
    let exit = err_from_is_err_and c.from_residual-in_err-take-in-Record.result c.from_residual-in_err-take-in-Record.ensures.1 in
    rw (exit.1)
    (λ mark disk records has. (
      subst (IsFirstFault mark (d.bytes disk) records) (sym exit.2)
          (other-fault d.bytes d.images d.moment d.images_since mark disk records c.args.self.now has c.in_err-take-in-Record.field-0.0
          (λ file told shows. c.in_err-take-in-Record.ensures.why_not file (first.same ∙ told) (first.shows file told shows))),
      still-read d.bytes d.images d.moment d.images_since g.met.D.Disk.counts_now mark disk records c.args.self.now c.take.new.self
          (reads-then d.bytes d.images d.moment d.images_since _ _ _ _ _ _ first c.take.ensures.leaves) c.take.ensures.mark has stays.0
          stays.1,
    ))

pub returns-in-Closed-clause-end : goal.returns-in-Closed-clause-end
returns-in-Closed-clause-end g c = λ mark disk records has.
    let d = g.D.Disk in
    let leaves = c.look_ahead.ensures.leaves in
    let now = still-read d.bytes d.images d.moment d.images_since g.met.D.Disk.counts_now mark disk records c.args.self.now _ leaves refl
    has refl refl in
    read-all d.bytes d.images d.moment d.images_since mark disk records _ now
    (λ file told shows.
    let before = sym leaves.same ∙ told in
    subst (IsAheadAt file c.args.self.now.gate) c.in-Closed.is (c.in_ok-look_ahead.ensures.stands file before (has.file file before).1))

pub returns-in-CutShort-clause-why_not : goal.returns-in-CutShort-clause-why_not
returns-in-CutShort-clause-why_not g c = λ mark disk records has.
    let d = g.D.Disk in
    let leaves = c.look_ahead.ensures.leaves in
    let now = still-read d.bytes d.images d.moment d.images_since g.met.D.Disk.counts_now mark disk records c.args.self.now _ leaves refl
    has refl refl in (
      first-fault d.bytes d.images d.moment d.images_since mark disk records _ now c.broken.result c.broken.ensures
          (λ file told shows.
          let before = sym leaves.same ∙ told in
          subst (IsAheadAt file c.args.self.now.gate) c.in-CutShort.is
          (c.in_ok-look_ahead.ensures.stands file before (has.file file before).1)),
      now,
    )

pub returns-in_ok-take-in-Record-clause-record : goal.returns-in_ok-take-in-Record-clause-record
returns-in_ok-take-in-Record-clause-record g c = λ mark disk records has.
    let d = g.D.Disk in
    let old = c.args.self.now in
    let n : ℕ = c.in-Record.len in
    let first = c.look_ahead.ensures.leaves in
    let taken = c.in_ok-take-in-Record.ensures in (
      read-more d.bytes d.images d.moment d.images_since g.met.D.Disk.counts_now mark disk records old c.take.new.self
          (reads-then d.bytes d.images d.moment d.images_since _ _ _ _ _ _ first c.take.ensures.leaves) c.take.ensures.mark has
          c.take.new.payload.items n taken.len taken.gone_on.0 taken.gone_on.1
          (λ file told shows. (
            subst (IsAheadAt file old.gate) c.in-Record.is (c.in_ok-look_ahead.ensures.stands file told shows),
            taken.read file (first.same ∙ told) (first.shows file told shows),
          )),
      taken.place.0 ∙ has.count,
      omega (arith, taken.place.1, has.gate),
    )

pub returns-in_ok-take-in-Record-clause-within : goal.returns-in_ok-take-in-Record-clause-within
returns-in_ok-take-in-Record-clause-within g c =
    let taken = c.in_ok-take-in-Record.ensures in
    omega (arith, taken.place.1, taken.len, taken.gone_on.1, c.take.new.self.room, c.take.new.self.fits)
