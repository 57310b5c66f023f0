-- What is open, as a list whose last is the innermost.
use Rattle.std.proofs.Common.{◌≡◌, ℕ, suc, ◌+◌, ◌-◌, ◌<◌, ◌≤◌, Bool, true, false, List, [], ◌∷◌, ◌++◌, length, take, get_or, fold, refl, ap}
use Rattle.std.proofs.Common.{◌∙◌, sym, arith, drop, slice_index_or, slice_set}
use Rattle.std.proofs.Math.Seq.{take-length}
use Rattle.std.proofs.lemmas.List.{take-append-drop, drop_all, drop_more, take_more_set, length-set}
use Rattle.std.proofs.lemmas.List.Sums.{fold-append}
use Rattle.std.proofs.lemmas.List.{take_more, take_all}
use Rattle.std.proofs.lemmas.Bool.Decides.{nat_tests}
use Rattle.std.specs.Prelude.{MatchBool, nat_lt}
use Rattle.edn_model.specs.Faults as faults
use Rattle.edn_model.specs.Grammar.{max_depth}
use Rattle.edn_model.specs.Steps.{Frames, outermost, opens_of, HasRoom}
use Rattle.edn_core.specs.Frames.{open_of, inside, frames_of, IsSoundFrame, AreSound}
use Rattle.edn_core.specs.declared.construct.Construct.{Construct}
use Rattle.edn_core.specs.declared.construct.Frame.{Frame}

pub none_there : {X : Type 0} (xs : List X) → length xs ≡ 0 → xs ≡ []
none_there [] h = refl
none_there (x ∷ xs) h = absurd (omega arith)

pub frames-last : (bytes : List ℕ) (fs : List Frame) (f : Frame) → frames_of bytes (fs ++ f ∷ []) ≡ inside bytes (frames_of bytes fs) f
frames-last bytes fs f = fold-append (inside bytes) outermost fs (f ∷ [])

pub kept_last : {start last : ℕ} (fs : List Frame) (f : Frame) → AreSound start last fs → IsSoundFrame start last f
    → AreSound start last (fs ++ f ∷ [])
kept_last [] f h k = (k, tt)
kept_last (g ∷ gs) f h k = (h.0, kept_last gs f h.1 k)

pub record KeptBefore (start last : ℕ) (fs : List Frame) (f : Frame) : Type 0 where
  pub before : AreSound start last fs
  pub innermost : IsSoundFrame start last f

pub kept-split : {start last : ℕ} (fs : List Frame) (f : Frame) → AreSound start last (fs ++ f ∷ []) → KeptBefore start last fs f
kept-split [] f h = record { before = tt; innermost = h.0 }
kept-split (g ∷ gs) f h = let more = kept-split gs f h.1 in record { before = (h.0, more.before); innermost = more.innermost }

abbrev pub framed : Construct → ℕ → Frame
framed o n = record { construct = o; at = n }

-- ---- the innermost

pub wants-last : (bytes : List ℕ) (all fs : List Frame) (f : Frame) → all ≡ fs ++ f ∷ []
    → faults.wants_string (opens_of (frames_of bytes all)) ≡ faults.is_tag (open_of f.construct)
wants-last bytes all fs f is =
    ap (λ xs. faults.wants_string (opens_of (frames_of bytes xs))) is ∙ ap (λ z. faults.wants_string (opens_of z)) (frames-last bytes fs f)

pub wants-none : (bytes : List ℕ) (all : List Frame) → length all ≡ 0 → faults.wants_string (opens_of (frames_of bytes all)) ≡ false
wants-none bytes all h = ap (λ xs. faults.wants_string (opens_of (frames_of bytes xs))) (none_there all h)

-- ---- how deep it is

abbrev pub depth : List Frame → ℕ
depth frames = faults.depth_of (opens_of (frames_of [] frames))

one_tag : (o : faults.Open) (outer : List faults.Open) → faults.is_tag o ≡ true → faults.depth_of (o ∷ outer) ≡ faults.depth_of outer
one_tag (faults.in_list fs) outer h = absurd (let wrong = h in cc)
one_tag (faults.in_vector fs) outer h = absurd (let wrong = h in cc)
one_tag (faults.in_map ps) outer h = absurd (let wrong = h in cc)
one_tag (faults.behind_key ps k) outer h = absurd (let wrong = h in cc)
one_tag (faults.in_set fs) outer h = absurd (let wrong = h in cc)
one_tag faults.behind_discard outer h = absurd (let wrong = h in cc)
one_tag faults.behind_inst outer h = refl
one_tag faults.behind_uuid outer h = refl

one_deeper : (o : faults.Open) (outer : List faults.Open) → faults.is_tag o ≡ false
    → faults.depth_of (o ∷ outer) ≡ suc (faults.depth_of outer)
one_deeper (faults.in_list fs) outer h = refl
one_deeper (faults.in_vector fs) outer h = refl
one_deeper (faults.in_map ps) outer h = refl
one_deeper (faults.behind_key ps k) outer h = refl
one_deeper (faults.in_set fs) outer h = refl
one_deeper faults.behind_discard outer h = refl
one_deeper faults.behind_inst outer h = absurd (let wrong = h in cc)
one_deeper faults.behind_uuid outer h = absurd (let wrong = h in cc)

-- the bytes are nothing to the depth
depth_same : (a b : List ℕ) (x y : Frames) (fs : List Frame) → opens_of x ≡ opens_of y
    → opens_of (fold (inside a) x fs) ≡ opens_of (fold (inside b) y fs)
depth_same a b x y [] h = h
depth_same a b x y (f ∷ fs) h = depth_same a b (inside a x f) (inside b y f) fs (ap (λ z. open_of f.construct ∷ z) h)

pub depth-anywhere : (bytes : List ℕ) (fs : List Frame) → faults.depth_of (opens_of (frames_of bytes fs)) ≡ depth fs
depth-anywhere bytes fs = ap faults.depth_of (depth_same bytes [] outermost outermost fs refl)

depth-last : (fs : List Frame) (f : Frame) → depth (fs ++ f ∷ []) ≡ faults.depth_of (open_of f.construct ∷ opens_of (frames_of [] fs))
depth-last fs f = ap (λ z. faults.depth_of (opens_of z)) (frames-last [] fs f)

pub depth-tag : (fs : List Frame) (i : ℕ) (f : Frame) → i < length fs → f ≡ get_or fs i f → faults.is_tag (open_of f.construct) ≡ true
    → depth (take (i + 1) fs) ≡ depth (take i fs)
depth-tag fs i f within is h =
    ap depth (take_more fs i f within ∙ ap (λ g. take i fs ++ g ∷ []) (sym is))
    ∙ (depth-last (take i fs) f ∙ one_tag (open_of f.construct) (opens_of (frames_of [] (take i fs))) h)

pub depth-deeper : (fs : List Frame) (i : ℕ) (f : Frame) → i < length fs → f ≡ get_or fs i f → faults.is_tag (open_of f.construct) ≡ false
    → depth (take (i + 1) fs) ≡ suc (depth (take i fs))
depth-deeper fs i f within is h =
    ap depth (take_more fs i f within ∙ ap (λ g. take i fs ++ g ∷ []) (sym is))
    ∙ (depth-last (take i fs) f ∙ one_deeper (open_of f.construct) (opens_of (frames_of [] (take i fs))) h)

room_case : (b : Bool) (n d : ℕ) → n ≡ d → nat_lt d 64 ≡ b → MatchBool b (0 < max_depth - n) (max_depth - n ≡ 0)
room_case true n d e h = grind (arith, nat_tests)
room_case false n d e h = grind (arith, nat_tests)

room_test : (n d : ℕ) → n ≡ d → MatchBool (nat_lt d 64) (0 < max_depth - n) (max_depth - n ≡ 0)
room_test n d e = room_case (nat_lt d 64) n d e refl

-- the test of the depth
pub room-is : (bytes : List ℕ) (fs : List Frame) (d i : ℕ) → length fs ≤ i → d ≡ depth (take i fs)
    → MatchBool (nat_lt d 64) (HasRoom (frames_of bytes fs)) (faults.room (opens_of (frames_of bytes fs)) ≡ 0)
room-is bytes fs d i all is =
    let whole : faults.depth_of (opens_of (frames_of bytes fs)) ≡ d = depth-anywhere bytes fs ∙ sym (is ∙ ap depth (take_all i fs all)) in
    room_test (faults.depth_of (opens_of (frames_of bytes fs))) d whole

-- ---- the innermost

-- a list and its last item
pub last_is : (xs : List Frame) (n : ℕ) (x : Frame) → n ≡ length xs → 0 < n → x ≡ slice_index_or xs (n - 1) x
    → xs ≡ take (n - 1) xs ++ x ∷ []
last_is xs n x size some is =
    let i = n - 1 in
    let inside : i < length xs = omega arith in
    let rest : drop (i + 1) xs ≡ [] = drop_all (i + 1) xs (omega arith) in
    sym (take-append-drop i xs)
    ∙ ap (λ z. take i xs ++ z) (drop_more xs i x inside ∙ ap (λ z. slice_index_or xs i x ∷ z) rest ∙ ap (λ y. y ∷ []) (sym is))

pub last_set : (xs : List Frame) (n : ℕ) (y : Frame) → n ≡ length xs → 0 < n → slice_set xs (n - 1) y ≡ take (n - 1) xs ++ y ∷ []
last_set xs n y size some =
    let i = n - 1 in
    let inside : i < length xs = omega arith in
    let whole : i + 1 ≡ length (slice_set xs i y) = omega (arith, length-set xs i y) in
    sym (take-length (slice_set xs i y)) ∙ (ap (λ k. take k (slice_set xs i y)) (sym whole) ∙ take_more_set xs i y inside)
