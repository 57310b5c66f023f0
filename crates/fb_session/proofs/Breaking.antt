-- Lines that go out together, where their sink fails.
use Rattle.std.proofs.Common.{◌≡◌, ℕ, ◌+◌, ◌-◌, ◌<◌, ◌≤◌, Bool, true, false, cond, List, [], ◌∷◌, ◌++◌, Option, length, take, drop}
use Rattle.std.proofs.Common.{refl, sym, ap, ◌∙◌, subst, arith, append-nil, length-append, length-drop, take-append-drop}
use Rattle.std.specs.Prelude.{nat_le, Result, Ok, Err, is_err, IfErr}
use Rattle.std.specs.List.{concat, prefix_len}
use Rattle.std.specs.Io.KnownBytes.{append_known}
use Rattle.std.proofs.lemmas.Bool.{leb-true, leb-false, true≢false}
use Rattle.std.proofs.lemmas.List.{take-append-le}
use Rattle.std.proofs.lemmas.List.Folds.{concat-append}
use Rattle.std.proofs.Math.Seq.{take-append-add}
use Rattle.fb_session.specs.declared.waiting.Waiting.{Waiting}
use Rattle.fb_session.specs.declared.writing.Broken.{Broken}
use Rattle.fb_session.specs.Written.{TakesPart}
use Rattle.fb_session.specs.WaitingLines.{ends_from, Waits, BreaksAt}
use Rattle.fb_session.proofs.KnownBytes.{append_known-none, append_known-append}

-- ---- one line more

ends-push : (at : ℕ) (lines : List (List ℕ)) (line : List ℕ) (end : ℕ) → end ≡ at + length (concat (lines ++ line ∷ []))
    → ends_from at (lines ++ line ∷ []) ≡ ends_from at lines ++ end ∷ []
ends-push at [] line end is =
    ap (λ n. n ∷ []) (sym (is ∙ ap (λ bytes. at + length bytes) (append-nil line)))
ends-push at (first ∷ lines) line end is =
    ap (λ ends. (at + length first) ∷ ends)
    (ends-push (at + length first) lines line end
    (is ∙ omega (arith, length-append first (concat (lines ++ line ∷ [])))))

pub waits-push : (old new : Waiting) (lines : List (List ℕ)) (line : List ℕ) → new.bytes.items ≡ old.bytes.items ++ line
    → new.ends.items ≡ old.ends.items ++ length new.bytes.items ∷ [] → Waits old lines → Waits new (lines ++ line ∷ [])
waits-push old new lines line bytes ends waits =
    let all : new.bytes.items ≡ concat (lines ++ line ∷ []) =
    bytes
    ∙ ap (λ bs. bs ++ line) waits.bytes
    ∙ ap (λ bs. concat lines ++ bs) (sym (append-nil line))
    ∙ sym (concat-append lines (line ∷ [])) in
    record {
      bytes = all;
      ends =
          ends
          ∙ ap (λ es. es ++ length new.bytes.items ∷ []) waits.ends
          ∙ sym (ends-push 0 lines line (length new.bytes.items) (ap length all ∙ omega arith));
    }

pub waits-same : (old new : Waiting) (lines : List (List ℕ)) → new.bytes.items ≡ old.bytes.items → new.ends.items ≡ old.ends.items
    → Waits old lines → Waits new lines
waits-same old new lines bytes ends waits = record { bytes = bytes ∙ waits.bytes; ends = ends ∙ waits.ends }

-- ---- the sink fails

pub takes-part : (line : List ℕ) (out : ℕ) (had has : Option (List ℕ)) → out < length line → has ≡ append_known had (take out line)
    → TakesPart line had has
takes-part line out had has short taken =
    record {
      out = take out line;
      kept = drop out line;
      parts = sym (take-append-drop out line);
      short = omega (arith, length-drop out line, short);
      taken = taken;
    }

module _ (out : ℕ) where
  breaks_from : (at : ℕ) (lines : List (List ℕ)) (had has : Option (List ℕ)) → at ≤ out → out - at < length (concat lines)
      → has ≡ append_known had (take (out - at) (concat lines))
      → BreaksAt lines (length lines - prefix_len (λ end. nat_le end out) (ends_from at lines)) had has
  breaks_from at [] had has from within taken = absurd (omega (arith, within))
  breaks_from at (line ∷ lines) had has from within taken =
      by_end (breaks_from (at + length line) lines (append_known had line) has) (nat_le (at + length line) out) refl
    where
      by_end : (at + length line ≤ out → out - (at + length line) < length (concat lines)
          → has ≡ append_known (append_known had line) (take (out - (at + length line)) (concat lines))
          → BreaksAt lines (length lines - prefix_len (λ end. nat_le end out) (ends_from (at + length line) lines)) (append_known had line) has)
          → (b : Bool) → nat_le (at + length line) out ≡ b
          → BreaksAt (line ∷ lines)
          (length (line ∷ lines) - cond b (1 + prefix_len (λ end. nat_le end out) (ends_from (at + length line) lines)) 0) had has
      by_end breaks_later true is =
          let ends : at + length line ≤ out = leb-true (at + length line) out is in
          let rest = out - (at + length line) in
          let split : out - at ≡ length line + rest = omega (arith, ends) in
          let later =
          breaks_later ends
          (omega (arith, ends, within, length-append line (concat lines)))
          (taken
          ∙ ap (λ n. append_known had (take n (line ++ concat lines))) split
          ∙ ap (append_known had) (take-append-add line (concat lines) rest)
          ∙ sym (append_known-append had line (take rest (concat lines)))) in
          record {
            out = line ∷ later.out;
            broken = later.broken;
            behind = later.behind;
            parts = ap (λ ls. line ∷ ls) later.parts;
            count = omega (arith, later.count);
            taken =
                (let P : Option (List ℕ) → Type 0 = λ o. TakesPart later.broken o has in
                subst P (append_known-append had line (concat later.out)) later.taken);
          }
      by_end breaks_later false is =
          let ends : out < at + length line = leb-false (at + length line) out is in
          record {
            out = [];
            broken = line;
            behind = lines;
            parts = refl;
            count = omega arith;
            taken =
                takes-part line (out - at) (append_known had []) has (omega (arith, ends, from))
                (taken
                ∙ ap (append_known had) (take-append-le (out - at) line (concat lines) (omega (arith, ends, from)))
                ∙ ap (λ o. append_known o (take (out - at) line)) (sym (append_known-none had)));
          }

length-ends : (at : ℕ) (lines : List (List ℕ)) → length (ends_from at lines) ≡ length lines
length-ends at [] = refl
length-ends at (line ∷ lines) = omega (arith, length-ends (at + length line) lines)

minus-zero : (n : ℕ) → n ≡ n - 0
minus-zero n = omega arith

pub breaks : (waiting : Waiting) (lines : List (List ℕ)) (out : ℕ) (had has : Option (List ℕ)) → Waits waiting lines
    → out < length waiting.bytes.items → has ≡ append_known had (take out waiting.bytes.items)
    → BreaksAt lines (length waiting.ends.items - prefix_len (λ end. nat_le end out) waiting.ends.items) had has
breaks waiting lines out had has waits short taken =
    let Breaks : List ℕ → Type 0 = λ ends. BreaksAt lines (length ends - prefix_len (λ end. nat_le end out) ends) had has in
    let Counts : ℕ → Type 0 = λ n. BreaksAt lines (n - prefix_len (λ end. nat_le end out) (ends_from 0 lines)) had has in
    subst Breaks (sym waits.ends)
    (subst Counts (sym (length-ends 0 lines))
    (breaks_from out 0 lines had has (omega arith) (omega (arith, short, ap length waits.bytes))
    (taken ∙ ap (λ bytes. append_known had (take out bytes)) waits.bytes
    ∙ ap (λ n. append_known had (take n (concat lines))) (minus-zero out))))

pub part_at_err : (r : Result (Unit {0}) Broken) (line : List ℕ) (had has : Option (List ℕ)) → true ≡ is_err r
    → IfErr r (λ broken. broken.out < length line) → IfErr r (λ broken. has ≡ append_known had (take broken.out line))
    → TakesPart line had has
part_at_err (Ok x) line had has is short part = absurd (true≢false is)
part_at_err (Err broken) line had has is short part = takes-part line broken.out had has short part
