use Rattle.std.proofs.Common.{◌<◌, ◌+◌, refl, subst, arith}
use Rattle.std.proofs.lemmas.List.{get_or_default}
use Rattle.fb_backup.proofs.Records.{misfit-found}
use Rattle.fb_backup.proofs.comparing.compared_in.Goals as goal

pub returns-in-Ok : goal.returns-in-Ok
returns-in-Ok c = λ records are number here.
    let payload = c.args.payload.now in
    c.with.ensures records payload are
    (c.a_payload_is_its_entrys_bytes.ensures.bytes c.in-Ok.entry payload
    (λ k d below. subst (λ b. b < 256) (get_or_default payload k 0 d below) (omega (arith, c.type_inv.payload k))) c.in-Ok.ensures)

pub overflow_add-result : goal.overflow_add-result
overflow_add-result c =
    let says = rw c.in-Err-At.field-0-is at c.in-Err-At.ensures in
    omega (arith, c.requires.within, c.a_fault_lies_in_its_payload.ensures c.args.payload.now c.in-Err-At.byte says)

pub returns-in-Err-At : goal.returns-in-Err-At
returns-in-Err-At c =
    rw c.in-Err-At.field-0-is
    (λ records are number here.
    let says = rw c.in-Err-At.field-0-is at c.in-Err-At.ensures in
    misfit-found c.args.entries.now records c.args.beside c.args.place c.args.payload.now c.in-Err-At.byte
    (c.args.place.at + c.in-Err-At.byte) are number here says refl)
