use Rattle.std.proofs.Common.{◌<◌, subst, arith}
use Rattle.std.proofs.lemmas.List.{get_or_default}
use Rattle.fb_recover.proofs.records.found_in.Goals as goal

pub returns-in-Ok : goal.returns-in-Ok
returns-in-Ok c =
    let payload = c.args.payload.now in (
      c.in-Ok.entry,
      c.a_payload_is_its_entrys_bytes.ensures.bytes c.in-Ok.entry payload
          (λ k d below. subst (λ b. b < 256) (get_or_default payload k 0 d below) (omega (arith, c.type_inv.payload k))) c.in-Ok.ensures,
      c.in_ok-push-in-Ok.ensures.items,
    )

pub overflow_add-result : goal.overflow_add-result
overflow_add-result c =
    let says = rw c.in-Err-At.field-0-is at c.in-Err-At.ensures in
    omega (arith, c.requires, c.a_fault_lies_in_its_payload.ensures c.args.payload.now c.in-Err-At.byte says)
