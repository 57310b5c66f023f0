use Rattle.std.proofs.Common.{◌≡◌, false, true, [], codes, pos, refl, inr, lit<, arith}
use Rattle.edn_model.specs.Tokens.{IsDecimal, unsigned, IsLong}
use Rattle.edn_model.specs.Grammar.{no_gap}
use Rattle.edn_model.specs.Faults.{stuck, outside, TokenAt, IsUnsupported, unsupported_token, wide, namespaced_map}
use Rattle.edn_model.proofs.Pieces.{ascii_utf8}
use Rattle.edn_model.proofs.Runs.{heads, tails}
use Rattle.edn_model.proofs.worked.unsupported_tokens.Goals as goal

too_long : IsLong (pos 9223372036854775808) → ⊥
too_long h = let wrong : false ≡ true = h in cc

pub returns-clause-wide : goal.returns-clause-wide
returns-clause-wide c =
    let stands : TokenAt (codes "9223372036854775808") (codes "9223372036854775808") [] = record {
      is = refl;
      each = refl;
      utf8 = ascii_utf8 (codes "9223372036854775808") refl;
      no_discard = λ more e. let h = heads e in omega arith;
      no_set = λ more e. let h = heads e in omega arith;
    } in
    let numeral : IsDecimal 9223372036854775808 (codes "9223372036854775808") =
    record { some = lit< tt; each = refl; leading = inr refl; is = refl } in
    let what : IsUnsupported wide (codes "9223372036854775808") = (pos 9223372036854775808, unsigned numeral refl, too_long) in
    record {
      opens = [];
      here = codes "9223372036854775808";
      place = codes "9223372036854775808";
      stands = outside no_gap;
      is = stuck (unsupported_token refl stands refl what);
      byte_is = refl;
    }

pub returns-clause-namespaced : goal.returns-clause-namespaced
returns-clause-namespaced c =
    let stands : TokenAt (codes "#:a{}") (codes "#:a") (codes "{}") = record {
      is = refl;
      each = refl;
      utf8 = ascii_utf8 (codes "#:a") refl;
      no_discard = λ more e. let h = heads (tails e) in omega arith;
      no_set = λ more e. let h = heads (tails e) in omega arith;
    } in
    let what : IsUnsupported namespaced_map (codes "#:a") = (codes "a", refl) in
    record {
      opens = [];
      here = codes "#:a{}";
      place = codes "#:a{}";
      stands = outside no_gap;
      is = stuck (unsupported_token refl stands refl what);
      byte_is = refl;
    }
