use Rattle.std.proofs.Common.{arith}
use Rattle.log_model.proofs.Entries.{says-IsPayloadOf, written-storable}
use Rattle.log_model.proofs.Logs.{AreBytes-All}
use Rattle.test_codec.proofs.Bytes.{are_bytes}
use Rattle.test_codec.proofs.fb_codec_tests.entry_again.Goals as goal

-- what is read may be written
pub entry_bytes-requires : goal.entry_bytes-requires
entry_bytes-requires c =
    let payload = c.args.payload.now in
    let entry = c.in_ok-entry.entry in
    let all = are_bytes payload (λ i. omega (arith, c.type_inv.payload i)) in
    let is = says-IsPayloadOf payload entry (AreBytes-All payload all) c.in_ok-entry.ensures in
    written-storable is.format entry is.storable
