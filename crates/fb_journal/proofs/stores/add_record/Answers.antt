use Rattle.std.proofs.Common.{◌+◌, List, ℕ, Option, length, option_map, refl, ◌∙◌, ap}
use Rattle.disk_model.specs.Disk.{written, Torn}
use Rattle.fb_journal.specs.Laying.{TornOpening, zeros_between, with_zeros}
use Rattle.fb_journal.proofs.Laying.{told-staged, run-both, run-three}
use Rattle.fb_journal.proofs.Zeroing.{told-zeros}
use Rattle.fb_journal.proofs.stores.add_record.Goals as goal

pub lay_zeros-requires : goal.lay_zeros-requires
lay_zeros-requires g c =
    told-staged (g.D.Disk.bytes c.args.disk.now) (g.D.Disk.bytes c.write_record.new.disk) (c.args.gate + 1) c.args.piece.now
    c.in_ok-write_record.ensures.bytes

pub open_gate-requires : goal.open_gate-requires
open_gate-requires g c =
    let at : ℕ = c.args.gate + 1 in
    let behind : ℕ = at + length c.args.piece.now in
    told-zeros (g.D.Disk.bytes c.args.disk.now) (g.D.Disk.bytes c.write_record.new.disk) (g.D.Disk.bytes c.lay_zeros.new.disk) at behind
    c.args.piece.now
    (zeros_between behind c.args.upto)
    c.in_ok-write_record.ensures.bytes
    c.in_ok-lay_zeros.ensures.bytes
    refl

pub returns-in_err-lay_zeros-clause-any_moment : goal.returns-in_err-lay_zeros-clause-any_moment
returns-in_err-lay_zeros-clause-any_moment g c = λ file told only.
    let at : ℕ = c.args.gate + 1 in
    let behind : ℕ = at + length c.args.piece.now in
    let zeros : List ℕ = zeros_between behind c.args.upto in
    let staged : List ℕ = written at c.args.piece.now file in
    run-both g.D.Disk.moment g.D.Disk.images_since c.args.disk.now c.write_record.new.disk c.lay_zeros.new.disk
    (Torn at (length c.args.piece.now) file)
    (Torn behind (length zeros) staged)
    (TornOpening c.args.gate behind (length c.args.next.now) (with_zeros c.args.gate c.args.piece.now zeros file))
    (c.write_record.ensures.any_moment file only)
    (c.lay_zeros.ensures.any_moment staged (c.in_ok-write_record.ensures.durable file told only))

pub returns-clause-any_moment : goal.returns-clause-any_moment
returns-clause-any_moment g c = λ file told only.
    let at : ℕ = c.args.gate + 1 in
    let behind : ℕ = at + length c.args.piece.now in
    let zeros : List ℕ = zeros_between behind c.args.upto in
    let staged : List ℕ = written at c.args.piece.now file in
    let zeroed : List ℕ = with_zeros c.args.gate c.args.piece.now zeros file in
    let wrote = c.in_ok-write_record.ensures.bytes ∙ ap (λ (o : Option (List ℕ)). option_map (written at c.args.piece.now) o) told in
    let durable = c.in_ok-write_record.ensures.durable file told only in
    run-three g.D.Disk.moment g.D.Disk.images_since c.args.disk.now c.write_record.new.disk c.lay_zeros.new.disk c.open_gate.new.disk
    (Torn at (length c.args.piece.now) file)
    (Torn behind (length zeros) staged)
    (TornOpening c.args.gate behind (length c.args.next.now) zeroed)
    (c.write_record.ensures.any_moment file only)
    (c.lay_zeros.ensures.any_moment staged durable)
    (c.open_gate.ensures.any_moment zeroed (c.in_ok-lay_zeros.ensures.durable staged wrote durable))
