use Rattle.std.proofs.Common.{drop, arith}
use Rattle.log_model.specs.Values.{read_value}
use Rattle.log_model.proofs.Fields.{found-IsFound}
use Rattle.log_model.proofs.Values.{Wrote-value}
use Rattle.log_model.proofs.Logs.{AreBytes-All}
use Rattle.test_codec.proofs.Bytes.{are_bytes}
use Rattle.test_codec.proofs.fb_codec_tests.value_again.Goals as goal

-- what is read may be written
pub put_value-requires : goal.put_value-requires
put_value-requires c =
    let bytes = c.args.bytes.now in
    let all = are_bytes bytes (λ i. omega (arith, c.type_inv.bytes i)) in
    let rest = drop c.in_ok-value.end bytes in
    let value = c.in_ok-value.value in
    let is = found-IsFound (read_value 2 bytes) value rest c.in_ok-value.ensures.found.1 in
    (Wrote-value 2 bytes value rest (AreBytes-All bytes all) is).1
