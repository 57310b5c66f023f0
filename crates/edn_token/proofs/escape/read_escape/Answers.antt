use Rattle.std.proofs.Common.{◌∷◌, ap, ◌∙◌, sym, subst, arith}
use Rattle.edn_model.specs.Bytes.{backslash}
use Rattle.edn_token.specs.Strings.{PieceIs}
use Rattle.edn_token.proofs.Escapes.{no_letter_there, bad_letter, letter_is}
use Rattle.edn_token.proofs.escape.read_escape.Goals as goal

pub returns-in_default : goal.returns-in_default
returns-in_default c = no_letter_there c.args.behind.now c.in_default.ensures.cases

pub returns-then-letter-eq117 : goal.returns-then-letter-eq117
returns-then-letter-eq117 c =
    let is = c.in-Some.ensures.cases.0 ∙ ap (λ b. b ∷ c.in-Some.digits.now) c.if-letter-eq117.true in
    subst (λ z. PieceIs (backslash ∷ z) c.read_code.result) (sym is) c.read_code.ensures

pub returns-in-None : goal.returns-in-None
returns-in-None c =
    bad_letter c.args.behind.now _ c.in-Some.letter.now c.in-Some.ensures.cases.0
    (λ e. let unlike = c.if-letter-eq117.false in omega arith) c.in-None.ensures

pub returns-in-Some-escape_of : goal.returns-in-Some-escape_of
returns-in-Some-escape_of c =
    letter_is c.args.behind.now _ c.in-Some.letter.now c.in-Some-escape_of.c c.from.result c.in-Some.ensures.cases.0
    c.in-Some-escape_of.ensures c.from.ensures
