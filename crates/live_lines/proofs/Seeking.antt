-- Line feeds that were sought, and what stands in front of them.
use Rattle.std.proofs.Common.{◌≡◌, ℕ, zero, suc, ◌+◌, ◌-◌, ◌<◌, ◌≤◌, Bool, true, false, List, [], ◌∷◌, ◌++◌, length, take, drop}
use Rattle.std.proofs.Common.{refl, sym, ap, ◌∙◌, subst, inl, inr, arith, length-drop}
use Rattle.std.specs.Prelude.{◌==◌, not, slice_index}
use Rattle.std.proofs.Math.Seq.{take-append-add, take-append_seam, drop-append-add, drop-cons}
use Rattle.std.proofs.lemmas.List.{length-take-le, take-append-drop, take_all, drop-drop, drop_all, get_or-drop}
use Rattle.edn_model.specs.Bytes.{is_line_byte, line_feed}
use Rattle.edn_model.proofs.Runs.{Each-append, both_true}
use Rattle.live_model.specs.Lines.{HasNoLineFeed, longest_line}
use Rattle.live_lines.specs.Hearing.{Hearing, IsInFront, RunsOn, IsBegun, RunsUpTo}

-- ---- bytes in which none was found

no_feed : (c : Bool) → (c ≡ true → ⊥) → not c ≡ true
no_feed true none = absurd (none refl)
no_feed false none = refl

pub plain_front : (hay : List ℕ) (n : ℕ) → ((k : ℕ) → k < n → (slice_index hay k == line_feed) ≡ true → ⊥) → HasNoLineFeed (take n hay)
plain_front hay zero none = refl
plain_front [] (suc n) none = refl
plain_front (b ∷ hay) (suc n) none =
    both_true (is_line_byte b) _ (no_feed (b == line_feed) (none 0 (omega arith)))
    (plain_front hay n (λ k lt. none (suc k) (omega (arith, lt))))

-- ---- a line's front, sought in two goes

take_more : (a b : ℕ) (xs : List ℕ) → a ≤ length xs → take (a + b) xs ≡ take a xs ++ take b (drop a xs)
take_more a b xs within =
    let same : length (take a xs) ≡ a = length-take-le a xs within in
    ap (take (a + b)) (sym (take-append-drop a xs))
    ∙ ap (λ n. take (n + b) (take a xs ++ drop a xs)) (sym same)
    ∙ take-append-add (take a xs) (drop a xs) b

pub plain_joined : (bytes : List ℕ) (begin seen end : ℕ) → begin ≤ seen → seen ≤ end → end ≤ length bytes
    → HasNoLineFeed (take (seen - begin) (drop begin bytes))
    → HasNoLineFeed (take (end - seen) (drop seen bytes))
    → HasNoLineFeed (take (end - begin) (drop begin bytes))
plain_joined bytes begin seen end low high within first second =
    let there : length (drop begin bytes) ≡ length bytes - begin = length-drop begin bytes in
    let sum : end - begin ≡ (seen - begin) + (end - seen) = omega arith in
    let at : begin + (seen - begin) ≡ seen = omega arith in
    let behind : drop (seen - begin) (drop begin bytes) ≡ drop seen bytes =
    drop-drop (seen - begin) begin bytes ∙ ap (λ n. drop n bytes) at in
    let halves : take (end - begin) (drop begin bytes)
    ≡ take (seen - begin) (drop begin bytes) ++ take (end - seen) (drop seen bytes) =
    ap (λ n. take n (drop begin bytes)) sum
    ∙ take_more (seen - begin) (end - seen) (drop begin bytes) (omega (arith, there))
    ∙ ap (λ rest. take (seen - begin) (drop begin bytes) ++ take (end - seen) rest) behind in
    subst HasNoLineFeed (sym halves) (Each-append is_line_byte (take (seen - begin) (drop begin bytes)) (take (end - seen) (drop seen bytes)) first second)

-- the end of a run, sought on from a place to which it goes
pub runs_on : (bytes : List ℕ) (begin seen end : ℕ) → begin ≤ seen → (seen ≤ end) × (end ≤ length bytes)
    → HasNoLineFeed (take (seen - begin) (drop begin bytes))
    → HasNoLineFeed (take (end - seen) (drop seen bytes))
    → (end < length bytes → slice_index bytes end ≡ line_feed)
    → RunsUpTo (drop begin bytes) (end - begin)
runs_on bytes begin seen end low within first second fed = record {
  within = omega (arith, low, within.0, within.1, length-drop begin bytes);
  plain = plain_joined bytes begin seen end low within.0 within.1 first second;
  fed = λ more.
      let at : begin + (end - begin) ≡ end = omega (arith, low, within.0) in
      get_or-drop begin bytes (end - begin) 0
      ∙ ap (λ n. slice_index bytes n) at
      ∙ fed (omega (arith, more, low, within.0, length-drop begin bytes));
}

-- ---- what stands in front

module _ (h : Hearing) (len : ℕ) (run : RunsUpTo h.pending len) where
  line_length : length (take len h.pending) ≡ len
  line_length = length-take-le len h.pending run.within

  pub before_feed : len < length h.pending → len ≤ longest_line → IsInFront h len
  before_feed more short = record {
    line = take len h.pending;
    rest = drop len h.pending;
    is = sym (take-append-drop len h.pending);
    has = line_length;
    plain = run.plain;
    short = short;
    ends = inl (drop (suc len) h.pending, drop-cons h.pending len 0 more ∙ ap (λ b. b ∷ drop (suc len) h.pending) (run.fed more));
  }

  pub last_one : h.over ≡ true → length h.pending ≤ len → 0 < len → len ≤ longest_line → IsInFront h len
  last_one ended all some short = record {
    line = take len h.pending;
    rest = drop len h.pending;
    is = sym (take-append-drop len h.pending);
    has = line_length;
    plain = run.plain;
    short = short;
    ends = inr (ended, drop_all len h.pending all, λ e. let none = ap length e in omega (arith, line_length, none, some));
  }

  pub too_long : longest_line < len → RunsOn h
  too_long long = record {
    line = take len h.pending;
    rest = drop len h.pending;
    is = sym (take-append-drop len h.pending);
    plain = run.plain;
    long = omega (arith, line_length, long);
  }

  pub begun : h.over ≡ false → length h.pending ≤ len → len ≤ longest_line → IsBegun h
  begun goes_on all short = record {
    plain = subst HasNoLineFeed (take_all len h.pending all) run.plain;
    short = omega (arith, all, short);
    goes_on = goes_on;
  }

  pub none_left : h.over ≡ true → length h.pending ≤ len → len ≡ 0 → h ≡ record { pending = []; over = true }
  none_left ended all none =
      let empty : h.pending ≡ [] = sym (take_all len h.pending all) ∙ ap (λ n. take n h.pending) none in
      ap (λ (bytes : List ℕ). record h { pending = bytes }) empty ∙ ap (λ (over : Bool). record { pending = []; over = over }) ended

-- ---- what is behind a line that is passed

pub front_is : (h : Hearing) (len : ℕ) (front : IsInFront h len) → take len h.pending ≡ front.line
front_is h len front =
    ap (take len) front.is
    ∙ ap (λ n. take n (front.line ++ front.rest)) (sym front.has)
    ∙ take-append_seam front.line front.rest

pub behind_is : (h : Hearing) (len : ℕ) (front : IsInFront h len) → drop (len + 1) h.pending ≡ drop 1 front.rest
behind_is h len front =
    ap (drop (len + 1)) front.is
    ∙ ap (λ n. drop (n + 1) (front.line ++ front.rest)) (sym front.has)
    ∙ drop-append-add front.line front.rest 1
