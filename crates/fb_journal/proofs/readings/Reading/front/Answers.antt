use Rattle.std.proofs.Common.{◌≡◌, ◌∙◌, refl, sym, ap, subst, arith, ◌-◌, ◌+◌, take, drop}
use Rattle.std.proofs.lemmas.Result.{err_from_is_err_and}
use Rattle.fb_journal.specs.Gates.{IsAheadAt, HasRoom}
use Rattle.fb_journal.specs.Readings.{IsFirstFault}
use Rattle.fb_journal.specs.declared.gates.Ahead.TheVariants.{Record}
use Rattle.fb_journal.proofs.GoingOn.{reads-then, still-read, other-fault}
use Rattle.fb_journal.proofs.GoingOver.{one-ahead}
use Rattle.fb_journal.proofs.readings.Reading.front.Goals as goal

pub returns-in_err-ahead-clause-stays : goal.returns-in_err-ahead-clause-stays
returns-in_err-ahead-clause-stays g c = λ mark disk records has.
    let d = g.D.Disk in
    still-read d.bytes d.images d.moment d.images_since g.met.D.Disk.counts_now mark disk records c.args.self.now _
    c.look_ahead.ensures.leaves refl has refl refl

pub returns-in_default : goal.returns-in_default
returns-in_default g c =
    let d = g.D.Disk in
    let leaves = c.look_ahead.ensures.leaves in record {
      has_place = tt;
      front = tt;
      len = tt;
      within = tt;
      none = λ mark disk records has. λ file told len next.
          let old = c.args.self.now in
          let shows = (has.file file told).1 in
          absurd (c.in_default.not-Record len
          (one-ahead file old.gate c.in_ok-ahead.ahead (omega (arith, shows.len, old.fits)) (c.in_ok-ahead.ensures.stands file told shows)
          len next));
      stays = λ mark disk records has.
          still-read d.bytes d.images d.moment d.images_since g.met.D.Disk.counts_now mark disk records c.args.self.now _ leaves refl
          has refl refl;
      left = ap (λ n. n - c.args.self.now.gate) leaves.len;
      why_not = tt;
      counted = c.in_ok-ahead.ensures.counted;
    }

pub returns-then-len-n-clause-none : goal.returns-then-len-n-clause-none
returns-then-len-n-clause-none g c = λ mark disk records has. λ file told len next.
    let old = c.args.self.now in
    let shows = (has.file file told).1 in
    let one =
    one-ahead file old.gate c.in_ok-ahead.ahead (omega (arith, shows.len, old.fits)) (c.in_ok-ahead.ensures.stands file told shows) len next in
    let same : c.in-Record.len ≡ len = cc in
    omega (arith, same, c.if-len-n.true)

pub returns-then-len-n-clause-stays : goal.returns-then-len-n-clause-stays
returns-then-len-n-clause-stays g c = λ mark disk records has.
    let d = g.D.Disk in
    still-read d.bytes d.images d.moment d.images_since g.met.D.Disk.counts_now mark disk records c.args.self.now _
    c.look_ahead.ensures.leaves refl has refl refl

pub returns-in_err-place-clause-stays : goal.returns-in_err-place-clause-stays
returns-in_err-place-clause-stays g c = λ mark disk records has.
    let d = g.D.Disk in
    let stays = c.read_ahead.ensures.stays in
    still-read d.bytes d.images d.moment d.images_since g.met.D.Disk.counts_now mark disk records c.args.self.now c.read_ahead.new.self
    (reads-then d.bytes d.images d.moment d.images_since _ _ _ _ _ _ c.look_ahead.ensures.leaves c.read_ahead.ensures.leaves)
    stays.2 has stays.0 stays.1

pub returns-in_err-place-clause-why_not : goal.returns-in_err-place-clause-why_not
returns-in_err-place-clause-why_not g c =
    let d = g.D.Disk in
    let first = c.look_ahead.ensures.leaves in
    let exit = err_from_is_err_and c.from_residual-in_err-place.result c.from_residual-in_err-place.ensures.1 in
    rw (exit.1)
    (λ mark disk records has.
    subst (IsFirstFault mark (d.bytes disk) records) (sym exit.2)
    (other-fault d.bytes d.images d.moment d.images_since mark disk records c.args.self.now has c.in_err-place.field-0.0
    (λ file told shows. c.in_err-place.ensures.why_not file (first.same ∙ told) (first.shows file told shows))))

pub returns-clause-has_place : goal.returns-clause-has_place
returns-clause-has_place g c =
    let old = c.args.self.now in
    let read = c.in_ok-place.ensures in
    let room = subst (HasRoom old.window.len (old.gate + 1)) c.in-Record.is c.in_ok-ahead.ensures.room in record {
      place = omega (arith, read.place.1, c.read_ahead.ensures.stays.1);
      room = omega (arith, room, read.place.1, c.look_ahead.ensures.leaves.len, c.read_ahead.ensures.leaves.len);
      within = omega (arith, read.len, c.if-len-n.false);
    }

pub returns-clause-front : goal.returns-clause-front
returns-clause-front g c =
    let old = c.args.self.now in
    let first = c.look_ahead.ensures.leaves in
    let stays = c.read_ahead.ensures.stays in
    let read = c.in_ok-place.ensures in
    λ mark disk records has. (
      λ file told.
          let before = sym (c.read_ahead.ensures.leaves.same ∙ first.same) ∙ told in
          let shows = (has.file file before).1 in (
            subst (λ n. IsAheadAt file n (Record c.in-Record.len)) (sym stays.1)
                (subst (IsAheadAt file old.gate) c.in-Record.is (c.in_ok-ahead.ensures.stands file before shows)),
            read.read file (sym c.read_ahead.ensures.leaves.same ∙ told) (first.shows file before shows)
                ∙ (λ i. take (sym read.len i) (drop (sym read.place.1 i) file)),
          ),
      read.place.0 ∙ has.count,
      omega (arith, read.place.1, has.gate),
    )

pub returns-clause-stays : goal.returns-clause-stays
returns-clause-stays g c = λ mark disk records has.
    let d = g.D.Disk in
    let stays = c.read_ahead.ensures.stays in
    still-read d.bytes d.images d.moment d.images_since g.met.D.Disk.counts_now mark disk records c.args.self.now c.read_ahead.new.self
    (reads-then d.bytes d.images d.moment d.images_since _ _ _ _ _ _ c.look_ahead.ensures.leaves c.read_ahead.ensures.leaves)
    stays.2 has stays.0 stays.1
