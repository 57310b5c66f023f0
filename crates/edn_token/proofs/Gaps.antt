-- White space and comments, one behind another.
use Rattle.std.proofs.Common.{◌≡◌, ◌≢◌, ℕ, ◌+◌, ◌-◌, ◌<◌, ◌≤◌, true, false, Ok, Err, List, [], ◌∷◌, ◌++◌, drop, length, length-append}
use Rattle.std.proofs.Common.{append_assoc, refl, ap, ◌∙◌, sym, subst, arith}
use Rattle.std.proofs.lemmas.Bool.Decides.{nat_tests}
use Rattle.std.proofs.lemmas.List.{append-nil, drop_at, drop_all, length_push}
use Rattle.std.specs.Prelude.{IsUtf8}
use Rattle.std.specs.Str.{IsValidUpTo}
use Rattle.edn_model.specs.Runs.{Each, Stops, IsRun}
use Rattle.edn_model.specs.Bytes.{semicolon, line_feed, is_blank, is_line_byte}
use Rattle.edn_model.specs.Grammar.{CommentAt, Gap}
use Rattle.edn_model.specs.Grammar as grammar
use Rattle.edn_model.proofs.Runs.{Each-tail}
use Rattle.edn_token.specs.Gaps.{Blanks, no_blanks, blank, comment, last_comment, GoesNoFurther, BrokenComment, SkippedTo, LineIs}
use Rattle.edn_token.proofs.WholeCharacters.{broken}
use Rattle.edn_token.proofs.Places.{Behind, behind_then, behind_short, behind_drop, behind_drop_more}

-- they are a gap, whatever may still open
pub blanks_gap : {here rest : List ℕ} (depth : ℕ) → Blanks here rest → Gap depth here rest
blanks_gap depth no_blanks = grammar.no_gap
blanks_gap depth (blank p h) = grammar.blank p (blanks_gap depth h)
blanks_gap depth (comment s h) = grammar.comment s (blanks_gap depth h)
blanks_gap depth (last_comment s) = grammar.last_comment s

pub blanks_run : (run rest : List ℕ) → Each is_blank run → Blanks (run ++ rest) rest
blanks_run [] rest each = no_blanks
blanks_run (b ∷ run) rest each = let parts = Each-tail is_blank b run each in blank parts.0 (blanks_run run rest parts.1)

nothing_follows : {here rest : List ℕ} → Blanks here rest → here ≡ [] → rest ≡ []
nothing_follows no_blanks e = e
nothing_follows (blank p h) e = absurd cc
nothing_follows (comment s h) e = absurd (let begins = sym e ∙ s.is in cc)
nothing_follows (last_comment s) e = refl

pub blanks_then : {here between rest : List ℕ} → Blanks here between → Blanks between rest → Blanks here rest
blanks_then no_blanks k = k
blanks_then (blank p h) k = blank p (blanks_then h k)
blanks_then (comment s h) k = comment s (blanks_then h k)
blanks_then (last_comment {here = here} s) k = subst (Blanks here) (sym (nothing_follows k refl)) (last_comment s)

pub blanks_behind : {here rest : List ℕ} → Blanks here rest → Behind here rest
blanks_behind no_blanks = ([], refl)
blanks_behind (blank {b = b} p h) = let more = blanks_behind h in (b ∷ more.0, ap (λ z. b ∷ z) more.1)
blanks_behind {rest = rest} (comment s h) =
    let more = blanks_behind h in (
      semicolon ∷ (s.text ++ line_feed ∷ more.0),
      s.is
          ∙ ap (λ z. semicolon ∷ (s.text ++ line_feed ∷ z)) more.1
          ∙ ap (λ z. semicolon ∷ z) (sym (append_assoc s.text (line_feed ∷ more.0) rest)),
    )
blanks_behind (last_comment {here = here} s) = (here, sym (append-nil here))

pub no_further : (here : List ℕ) → Stops is_blank here → ((line : List ℕ) → here ≢ semicolon ∷ line) → GoesNoFurther here
no_further [] stops none = tt
no_further (b ∷ here) stops none = (stops, λ e. none here (ap (λ z. z ∷ here) e))

-- ---- the line of a comment

high_in_line : (b : ℕ) → 128 ≤ b → is_line_byte b ≡ true
high_in_line b h = grind (arith, nat_tests)

-- the comment ends with the input
pub line_last : (line text rest : List ℕ) → IsRun is_line_byte line text rest → IsUtf8 text → length rest ≡ 0
    → (length text ≤ length line) × Blanks (semicolon ∷ line) (drop (length text) line)
line_last line text (b ∷ rest) run utf8 none = absurd (omega arith)
line_last line text [] run utf8 none =
    let all : line ≡ text = run.is ∙ append-nil text in
    let size : length line ≡ length text = ap length all in
    let last : Blanks (semicolon ∷ line) [] =
    last_comment (record { text = text; is = ap (λ z. semicolon ∷ z) all; one_line = run.each; utf8 = utf8 }) in
    (omega arith, subst (Blanks (semicolon ∷ line)) (sym (drop_all (length text) line (omega arith))) last)

feed_stops : (b : ℕ) → is_line_byte b ≡ false → b ≡ line_feed
feed_stops b h = grind (arith, nat_tests)

-- the comment ends with a line feed
pub line_ends : (line text rest more : List ℕ) (b : ℕ) → IsRun is_line_byte line text rest → IsUtf8 text → rest ≡ b ∷ more
    → (length text + 1 ≤ length line) × Blanks (semicolon ∷ line) (drop (length text + 1) line)
line_ends line text [] more b run utf8 next = absurd cc
line_ends line text (c ∷ rest) more b run utf8 next =
    let is : line ≡ text ++ line_feed ∷ rest = run.is ∙ ap (λ z. text ++ z ∷ rest) (feed_stops c run.stops) in
    let size : length line ≡ length text + length (line_feed ∷ rest) = ap length is ∙ length-append text (line_feed ∷ rest) in
    let parts : line ≡ (text ++ line_feed ∷ []) ++ rest = is ∙ sym (append_assoc text (line_feed ∷ []) rest) in
    let back : drop (length text + 1) line ≡ rest =
    ap (drop (length text + 1)) parts ∙ drop_at (text ++ line_feed ∷ []) rest (length text + 1) (length_push text line_feed) in
    let stands : CommentAt (semicolon ∷ line) rest =
    record { text = text; is = ap (λ z. semicolon ∷ z) is; one_line = run.each; utf8 = utf8 } in
    (omega arith, subst (Blanks (semicolon ∷ line)) (sym back) (comment stands no_blanks))

pub line_broken : (line text rest : List ℕ) (n : ℕ) → IsRun is_line_byte line text rest → IsValidUpTo text n
    → (n < length line) × BrokenComment (semicolon ∷ line) (drop n line)
line_broken line text rest n run valid =
    let stops = broken is_line_byte high_in_line line text rest n run valid in (
      stops.inside,
      record { text = _; is = ap (λ z. semicolon ∷ z) stops.run.is; one_line = stops.run.each; utf8 = stops.run.utf8; none = stops.none },
    )

-- ---- one step more

pub skip_more : (here rest run after : List ℕ) → Blanks here rest → IsRun is_blank rest run after → Blanks here after
skip_more here rest run after h is = blanks_then h (subst (λ z. Blanks z after) (sym is.is) (blanks_run run after is.each))

pub skip_line : (here after line rest : List ℕ) → Blanks here after → after ≡ semicolon ∷ line → Blanks (semicolon ∷ line) rest
    → Blanks here rest
skip_line here after line rest h is k = blanks_then (subst (Blanks here) is h) k

pub skip_ends : (here after : List ℕ) → Blanks here after → Stops is_blank after
    → ((line : List ℕ) → after ≢ semicolon ∷ line) → SkippedTo here (Ok (length here - length after))
skip_ends here after h stops none =
    let behind = blanks_behind h in
    let back = behind_drop here after behind in
    (omega arith, subst (Blanks here) (sym back) h, subst GoesNoFurther (sym back) (no_further after stops none))

pub skip_broken : (here after line : List ℕ) (n : ℕ) → Blanks here after → after ≡ semicolon ∷ line → LineIs line (Err n)
    → SkippedTo here (Err (length here - length line + n))
skip_broken here after line n h is broken =
    let to_comment : Blanks here (semicolon ∷ line) = subst (Blanks here) is h in
    let behind = behind_then here (semicolon ∷ line) line (blanks_behind to_comment) (semicolon ∷ [], refl) in
    let short = behind_short here line behind in
    let place = behind_drop_more here line n behind in
    let inside = broken.0 in
    (omega arith, (semicolon ∷ line, to_comment, subst (BrokenComment (semicolon ∷ line)) (sym place) broken.1))

-- what is left never grows
pub skip_short : (here after : List ℕ) → Blanks here after → length after ≤ length here
skip_short here after h = behind_short here after (blanks_behind h)

pub run_short : (rest run after : List ℕ) → IsRun is_blank rest run after → length after ≤ length rest
run_short rest run after is = omega (arith, ap length is.is, length-append run after)
