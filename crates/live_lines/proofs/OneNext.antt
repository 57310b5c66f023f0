-- One thing stands in front.
use Rattle.std.proofs.Common.{◌≡◌, ℕ, ◌<◌, Bool, true, List, [], ◌∷◌, ◌++◌, length, refl, sym, ap, ◌∙◌, subst, inl, inr}
use Rattle.std.proofs.Common.{arith, length-append}
use Rattle.std.proofs.lemmas.Bool.{true≢false}
use Rattle.edn_model.specs.Runs.{Stops}
use Rattle.edn_model.specs.Bytes.{is_line_byte, line_feed}
use Rattle.edn_model.proofs.Runs.{Each-tail, stop_differs, one_run, tails}
use Rattle.live_model.specs.Lines.{HasNoLineFeed, longest_line}
use Rattle.live_lines.specs.declared.heard.Next.{Next}
use Rattle.live_lines.specs.declared.heard.Next.TheVariants.{Line, TooLong, More, Over}
use Rattle.live_lines.specs.Hearing.{Hearing, Ends, IsInFront, RunsOn, IsBegun, IsNext}

stops : (over : Bool) (line rest : List ℕ) → Ends over line rest → Stops is_line_byte rest
stops over line rest (inl fed) = subst (Stops is_line_byte) (sym fed.1) refl
stops over line rest (inr last) = subst (Stops is_line_byte) (sym last.1) tt

-- a run that stops is not shorter than another one
not_shorter : (a b x y : List ℕ) → a ++ x ≡ b ++ y → HasNoLineFeed b → Stops is_line_byte x → length a < length b → ⊥
not_shorter a [] x y same plain stop less = omega (arith, less)
not_shorter [] (c ∷ b) x y same plain stop less =
    stop_differs is_line_byte c x (b ++ y) stop same (Each-tail is_line_byte c b plain).0
not_shorter (d ∷ a) (c ∷ b) x y same plain stop less =
    not_shorter a b x y (tails same) (Each-tail is_line_byte c b plain).1 stop (omega (arith, less))

line_line : (h : Hearing) (m n : ℕ) → IsInFront h m → IsInFront h n → m ≡ n
line_line h m n one two =
    let same =
    one_run is_line_byte one.line two.line one.rest two.rest one.plain two.plain (stops h.over one.line one.rest one.ends)
    (stops h.over two.line two.rest two.ends) (sym one.is ∙ two.is) in
    sym one.has ∙ ap length same.0 ∙ two.has

line_long : (h : Hearing) (m : ℕ) → IsInFront h m → RunsOn h → ⊥
line_long h m one on =
    not_shorter one.line on.line one.rest on.rest (sym one.is ∙ on.is) on.plain (stops h.over one.line one.rest one.ends)
    (omega (arith, one.has, one.short, on.long))

fed_inside : (line more : List ℕ) → HasNoLineFeed (line ++ line_feed ∷ more) → ⊥
fed_inside [] more plain = true≢false (sym (Each-tail is_line_byte line_feed more plain).0)
fed_inside (b ∷ line) more plain = fed_inside line more (Each-tail is_line_byte b (line ++ line_feed ∷ more) plain).1

line_begun : (h : Hearing) (m : ℕ) → IsInFront h m → IsBegun h → ⊥
line_begun h m one begun = go one.ends
  where
    go : Ends h.over one.line one.rest → ⊥
    go (inl fed) =
        fed_inside one.line fed.0 (subst HasNoLineFeed (one.is ∙ ap (λ rest. one.line ++ rest) fed.1) begun.plain)
    go (inr last) = true≢false (sym last.0 ∙ begun.goes_on)

none_in : (line rest : List ℕ) → line ++ rest ≡ [] → line ≡ []
none_in [] rest none = refl
none_in (b ∷ line) rest none = absurd (let e = none in cc)

line_over : (h : Hearing) (m : ℕ) → IsInFront h m → h ≡ record { pending = []; over = true } → ⊥
line_over h m one silent = go one.ends
  where
    all : one.line ++ one.rest ≡ []
    all = sym one.is ∙ ap (λ (x : Hearing). x.pending) silent

    go : Ends h.over one.line one.rest → ⊥
    go (inl fed) = let n = ap length (sym (ap (λ rest. one.line ++ rest) fed.1) ∙ all) in omega (arith, n, length-append one.line (line_feed ∷ fed.0))
    go (inr last) = last.2 (none_in one.line one.rest all)

long_length : (h : Hearing) → RunsOn h → longest_line < length h.pending
long_length h on = omega (arith, ap length on.is, length-append on.line on.rest, on.long)

pub one_next : (h : Hearing) (a b : Next) → IsNext h a → IsNext h b → a ≡ b
one_next h (Line m) (Line n) one two = ap Line (line_line h m n one two)
one_next h (Line m) TooLong one two = absurd (line_long h m one two)
one_next h (Line m) More one two = absurd (line_begun h m one two)
one_next h (Line m) Over one two = absurd (line_over h m one two)
one_next h TooLong (Line n) one two = absurd (line_long h n two one)
one_next h TooLong TooLong one two = refl
one_next h TooLong More one two = absurd (omega (arith, long_length h one, two.short))
one_next h TooLong Over one two = absurd (omega (arith, long_length h one, ap (λ (x : Hearing). length x.pending) two))
one_next h More (Line n) one two = absurd (line_begun h n two one)
one_next h More TooLong one two = absurd (omega (arith, long_length h two, one.short))
one_next h More More one two = refl
one_next h More Over one two = absurd (true≢false (sym (ap (λ (x : Hearing). x.over) two) ∙ one.goes_on))
one_next h Over (Line n) one two = absurd (line_over h n two one)
one_next h Over TooLong one two = absurd (omega (arith, long_length h two, ap (λ (x : Hearing). length x.pending) one))
one_next h Over More one two = absurd (true≢false (sym (ap (λ (x : Hearing). x.over) one) ∙ two.goes_on))
one_next h Over Over one two = refl
