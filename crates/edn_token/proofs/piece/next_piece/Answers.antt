use Rattle.std.proofs.Common.{◌≡◌, true, ◌∷◌, ap, ◌∙◌, sym, subst, arith}
use Rattle.std.proofs.lemmas.Bool.Decides.{nat_tests}
use Rattle.edn_model.specs.Bytes.{is_plain}
use Rattle.edn_token.specs.Strings.{PieceIs}
use Rattle.edn_token.proofs.Strings.{at_end, quote_there, plain_begins}
use Rattle.edn_token.proofs.piece.next_piece.Goals as goal

pub returns-in_default : goal.returns-in_default
returns-in_default c = at_end c.args.here.now c.in_default.ensures.cases

pub returns-in-34 : goal.returns-in-34
returns-in-34 c = quote_there c.args.here.now _ _ c.in-Some.ensures.cases.0 c.in-34.is

pub returns-in-92 : goal.returns-in-92
returns-in-92 c =
    let is = c.in-Some.ensures.cases.0 ∙ ap (λ b. b ∷ c.in-Some.behind.now) c.in-92.is in
    subst (λ z. PieceIs z c.read_escape.result) (sym is) c.read_escape.ensures

pub plain_piece-requires : goal.plain_piece-requires
plain_piece-requires c =
    let passes : is_plain c.in-Some.first.now ≡ true = grind (arith, nat_tests) in
    plain_begins c.args.here.now _ _ c.in-Some.ensures.cases.0 passes
