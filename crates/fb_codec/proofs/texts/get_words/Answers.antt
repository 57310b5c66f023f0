use Rattle.std.proofs.Common.{◌≡◌, ◌≤◌, ℕ, Bool, true, List, length, take, drop, sym, ap, subst, ◌∙◌, arith, length-drop}
use Rattle.std.specs.Str.{IsUtf8}
use Rattle.std.proofs.lemmas.List.{take_rest, drop-drop}
use Rattle.log_model.specs.Fields.{found}
use Rattle.fb_codec.specs.Texts.{test_of}
use Rattle.fb_codec.proofs.Utf8Pieces.{front-is_piece, text-fits, no-text}
use Rattle.fb_codec.proofs.texts.get_words.Goals as goal

pub returns-in_default-from_utf8 : goal.returns-in_default-from_utf8
returns-in_default-from_utf8 c =
    let bytes : List ℕ = c.args.bytes.now in
    let rest : List ℕ = drop c.args.at bytes in
    let front-is : c.in-Some.front.now ≡ take c.args.len rest =
    front-is_piece bytes c.in-Some.front.now c.args.at c.args.len c.in-Some.ensures.lookup.0.2 in
    rw c.misfit-in_default-from_utf8.ensures (
      c.requires,
      no-text (test_of c.args.words) c.args.len rest (λ utf8. c.in_default-from_utf8.ensures.cases.0 (subst IsUtf8 (sym front-is) utf8)),
    )

pub returns : goal.returns
returns c =
    let bytes : List ℕ = c.args.bytes.now in
    let rest : List ℕ = drop c.args.at bytes in
    let test : List ℕ → Bool = test_of c.args.words in
    let room : c.args.len ≤ length rest = subst (λ l. c.args.len ≤ length l) (take_rest bytes c.args.at) c.in-Some.ensures.lookup.0.1 in
    let front-is : c.in-Some.front.now ≡ take c.args.len rest =
    front-is_piece bytes c.in-Some.front.now c.args.at c.args.len c.in-Some.ensures.lookup.0.2 in
    let text-is : c.in-Ok.text.now ≡ take c.args.len rest = c.in-Ok.ensures.cases.0 ∙ front-is in
    let passes : test (take c.args.len rest) ≡ true = ap test (sym text-is) ∙ sym c.fit.ensures ∙ c.if-not-fit.false in (
      omega (arith, room, length-drop c.args.at bytes),
      text-fits test c.args.len rest room (subst IsUtf8 front-is c.in-Ok.ensures.cases.1) passes
          ∙ (λ i. found (sym text-is i) (drop-drop c.args.len c.args.at bytes i)),
    )
