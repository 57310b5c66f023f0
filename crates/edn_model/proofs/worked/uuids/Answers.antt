use Rattle.std.proofs.Common.{[], ◌∷◌, codes, refl}
use Rattle.uuid.proofs.OnLiterals.{uuid_on_literals}
use Rattle.edn_model.specs.Tokens.{StringAt}
use Rattle.edn_model.specs.Uuids.{IsUuid}
use Rattle.edn_model.specs.Grammar.{TagAt, Gap, no_gap, blank, uuid}
use Rattle.edn_model.proofs.Pieces.{ascii_utf8, spelled_plain}
use Rattle.edn_model.proofs.worked.uuids.Goals as goal

number_of : IsUuid 329800735698586629295641978511506172918 (codes "F81D4FAE-7DEC-11D0-A765-00A0C91E6BF6")
unfolding uuid_on_literals
number_of = record {
  bytes = 0xF8 ∷ 0x1D ∷ 0x4F ∷ 0xAE ∷ 0x7D ∷ 0xEC ∷ 0x11 ∷ 0xD0 ∷ 0xA7 ∷ 0x65 ∷ 0x00 ∷ 0xA0 ∷ 0xC9 ∷ 0x1E ∷ 0x6B ∷ 0xF6 ∷ [];
  size = refl;
  reads = refl;
  is = refl;
}

pub returns : goal.returns
returns c =
    let tag : TagAt (codes "uuid") (codes "#uuid \"F81D4FAE-7DEC-11D0-A765-00A0C91E6BF6\"")
    (codes " \"F81D4FAE-7DEC-11D0-A765-00A0C91E6BF6\"") =
    record { is = refl; ends = refl } in
    let gap : Gap 64 (codes " \"F81D4FAE-7DEC-11D0-A765-00A0C91E6BF6\"") (codes "\"F81D4FAE-7DEC-11D0-A765-00A0C91E6BF6\"") =
    blank refl no_gap in
    let stands : StringAt (codes "F81D4FAE-7DEC-11D0-A765-00A0C91E6BF6") (codes "\"F81D4FAE-7DEC-11D0-A765-00A0C91E6BF6\"") [] = record {
      inside = codes "F81D4FAE-7DEC-11D0-A765-00A0C91E6BF6\"";
      opens = refl;
      spells = spelled_plain (codes "F81D4FAE-7DEC-11D0-A765-00A0C91E6BF6") (codes "\"") refl;
      utf8 = ascii_utf8 (codes "F81D4FAE-7DEC-11D0-A765-00A0C91E6BF6") refl;
    } in
    uuid tag gap stands number_of
