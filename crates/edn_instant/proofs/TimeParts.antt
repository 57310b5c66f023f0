-- A clock, its seconds, and a fraction and an offset behind them, part by part.
use Rattle.std.proofs.Common.{◌≡◌, ◌≢◌, ℕ, ℤ, pos, neg_ℤ, ◌+◌, ◌*◌, ◌/◌, ◌^◌, ◌≤◌, ◌<◌, List, [], ◌∷◌, ◌++◌, length, refl, ap, ◌∙◌, sym}
use Rattle.std.proofs.Common.{subst, arith}
use Rattle.std.proofs.lemmas.List.{append_assoc, append-nil}
use Rattle.edn_model.specs.Bytes.{colon, point, plus, minus, is_digit}
use Rattle.edn_model.specs.Runs.{Each, IsRun}
use Rattle.edn_model.specs.Tokens.{number}
use Rattle.edn_model.specs.Instants.{digits, minute_text, second_text, IsFraction, whole, part, IsTime, IsOffset, unsaid, utc, east, west}
use Rattle.edn_model.proofs.Runs.{heads, tails, one_run}
use Rattle.edn_model.proofs.OneInstant.{Cut, offset_marked}
use Rattle.edn_instant.specs.Fronts.{Front, NoFront, IsTwo, IsClock, IsSeconds, IsEnding, IsTimeOf}
use Rattle.edn_instant.proofs.FrontDigits.{after_two}

-- ---- hh:mm

clock_spread : (hour minute : ℕ) (rest : List ℕ) → minute_text hour minute ++ rest ≡ digits 2 hour ++ colon ∷ (digits 2 minute ++ rest)
clock_spread hour minute rest = append_assoc (digits 2 hour) (colon ∷ digits 2 minute) rest

clock_is : (minutes : ℕ) (here text rest : List ℕ) (c : IsClock minutes text) → here ≡ text ++ rest
    → here ≡ digits 2 c.hour ++ colon ∷ (digits 2 c.minute ++ rest)
clock_is minutes here text rest c is = is ∙ ap (λ (t : List ℕ). t ++ rest) c.shown ∙ clock_spread c.hour c.minute rest

below_day : (h m : ℕ) → (h < 24) × (m < 60) → (h < 100) × (m < 100)
below_day h m in_day = let a : h < 24 = in_day.0 in let b : m < 60 = in_day.1 in (omega arith, omega arith)

pub no_hour : (here : List ℕ) → ((n : ℕ) → NoFront (IsTwo n) here) → (minutes : ℕ) → NoFront (IsClock minutes) here
no_hour here none minutes text rest c is =
    none c.hour (digits 2 c.hour) (colon ∷ (digits 2 c.minute ++ rest)) ((below_day c.hour c.minute c.exists).0, refl)
    (clock_is minutes here text rest c is)

after_hour : (hour minutes : ℕ) (here rest text x : List ℕ) (c : IsClock minutes text) → here ≡ text ++ x → Front (IsTwo hour) here rest
    → Cut hour c.hour rest (colon ∷ (digits 2 c.minute ++ x))
after_hour hour minutes here rest text x c is front =
    after_two hour c.hour here rest (colon ∷ (digits 2 c.minute ++ x)) front (below_day c.hour c.minute c.exists).0
    (clock_is minutes here text x c is)

pub no_mark : (hour : ℕ) (here rest : List ℕ) → Front (IsTwo hour) here rest
    → ((x : List ℕ) → rest ≢ colon ∷ x) → (minutes : ℕ) → NoFront (IsClock minutes) here
no_mark hour here rest front none minutes text x c is =
    none (digits 2 c.minute ++ x) (after_hour hour minutes here rest text x c is front).rest

pub no_minute : (hour : ℕ) (here rest : List ℕ) → Front (IsTwo hour) here (colon ∷ rest)
    → ((n : ℕ) → NoFront (IsTwo n) rest) → (minutes : ℕ) → NoFront (IsClock minutes) here
no_minute hour here rest front none minutes text x c is =
    none c.minute (digits 2 c.minute) x ((below_day c.hour c.minute c.exists).1, refl)
    (tails (after_hour hour minutes here (colon ∷ rest) text x c is front).rest)

pub no_clock : (hour minute : ℕ) (here between rest : List ℕ) → Front (IsTwo hour) here (colon ∷ between)
    → Front (IsTwo minute) between rest → ¬ ((hour < 24) × (minute < 60))
    → (minutes : ℕ) → NoFront (IsClock minutes) here
no_clock hour minute here between rest hours mins none minutes text x c is =
    let first = after_hour hour minutes here (colon ∷ between) text x c is hours in
    let second = after_two minute c.minute between rest x mins (below_day c.hour c.minute c.exists).1 (tails first.rest) in
    let P : ℕ → Type 0 = λ h. (h < 24) × (minute < 60) in
    let Q : ℕ → Type 0 = λ m. (c.hour < 24) × (m < 60) in
    none (subst P (sym first.number) (subst Q (sym second.number) c.exists))

pub is_clock : (hour minute minutes : ℕ) (here between rest : List ℕ) → Front (IsTwo hour) here (colon ∷ between)
    → Front (IsTwo minute) between rest → (hour < 24) × (minute < 60)
    → minutes ≡ hour * 60 + minute → Front (IsClock minutes) here rest
is_clock hour minute minutes here between rest hours mins exists is =
    record {
      text = minute_text hour minute;
      kind = record { hour = hour; minute = minute; exists = exists; shown = refl; is = is };
      is = hours.is ∙ ap (λ (t : List ℕ). t ++ colon ∷ between) hours.kind.1
          ∙ ap (λ (t : List ℕ). digits 2 hour ++ colon ∷ t) (mins.is ∙ ap (λ (t : List ℕ). t ++ rest) mins.kind.1)
          ∙ sym (clock_spread hour minute rest);
    }

-- one clock in front of a text
pub after_clock : (m n : ℕ) (here rest text x : List ℕ) → Front (IsClock m) here rest → IsClock n text → here ≡ text ++ x → Cut m n rest x
after_clock m n here rest text x front c is =
    let mine = front.kind in
    let spread : digits 2 mine.hour ++ colon ∷ (digits 2 mine.minute ++ rest) ≡ digits 2 c.hour ++ colon ∷ (digits 2 c.minute ++ x)
    = sym (clock_is m here front.text rest mine front.is) ∙ clock_is n here text x c is in
    let hours : Front (IsTwo mine.hour) (digits 2 mine.hour ++ colon ∷ (digits 2 mine.minute ++ rest))
    (colon ∷ (digits 2 mine.minute ++ rest))
    = record { text = digits 2 mine.hour; kind = ((below_day mine.hour mine.minute mine.exists).0, refl); is = refl } in
    let first = after_two mine.hour c.hour _ _ (colon ∷ (digits 2 c.minute ++ x)) hours (below_day c.hour c.minute c.exists).0 spread in
    let mins : Front (IsTwo mine.minute) (digits 2 mine.minute ++ rest) rest
    = record { text = digits 2 mine.minute; kind = ((below_day mine.hour mine.minute mine.exists).1, refl); is = refl } in
    let second = after_two mine.minute c.minute _ _ x mins (below_day c.hour c.minute c.exists).1 (tails first.rest) in
    record {
      number = mine.is ∙ ap (λ (h : ℕ). h * 60 + mine.minute) first.number ∙ ap (λ (k : ℕ). c.hour * 60 + k) second.number ∙ sym c.is;
      rest = second.rest;
    }

pub clock_below : (minutes : ℕ) (text : List ℕ) → IsClock minutes text → minutes < 1440
clock_below minutes text c = let h : c.hour < 24 = c.exists.0 in let m : c.minute < 60 = c.exists.1 in omega (arith, c.is)

-- ---- hh:mm:ss

clock_of : (seconds : ℕ) (text : List ℕ) (s : IsSeconds seconds text) → IsClock (s.hour * 60 + s.minute) (minute_text s.hour s.minute)
clock_of seconds text s = record { hour = s.hour; minute = s.minute; exists = (s.exists.0, s.exists.1); shown = refl; is = refl }

seconds_is : (seconds : ℕ) (here text rest : List ℕ) (s : IsSeconds seconds text) → here ≡ text ++ rest
    → here ≡ minute_text s.hour s.minute ++ colon ∷ (digits 2 s.second ++ rest)
seconds_is seconds here text rest s is =
    is ∙ ap (λ (t : List ℕ). t ++ rest) s.shown ∙ append_assoc (minute_text s.hour s.minute) (colon ∷ digits 2 s.second) rest

below_minute : (seconds : ℕ) (text : List ℕ) (s : IsSeconds seconds text) → s.second < 100
below_minute seconds text s = let below : s.second < 60 = s.exists.2 in omega arith

pub seconds_no_clock : (here : List ℕ) → ((minutes : ℕ) → NoFront (IsClock minutes) here) → (seconds : ℕ) → NoFront (IsSeconds seconds) here
seconds_no_clock here none seconds text rest s is =
    none (s.hour * 60 + s.minute) (minute_text s.hour s.minute) (colon ∷ (digits 2 s.second ++ rest)) (clock_of seconds text s)
    (seconds_is seconds here text rest s is)

behind_clock : (minutes seconds : ℕ) (here rest text x : List ℕ) (s : IsSeconds seconds text) → here ≡ text ++ x
    → Front (IsClock minutes) here rest
    → Cut minutes (s.hour * 60 + s.minute) rest (colon ∷ (digits 2 s.second ++ x))
behind_clock minutes seconds here rest text x s is front =
    after_clock minutes (s.hour * 60 + s.minute) here rest (minute_text s.hour s.minute) (colon ∷ (digits 2 s.second ++ x)) front
    (clock_of seconds text s) (seconds_is seconds here text x s is)

pub seconds_no_mark : (minutes : ℕ) (here rest : List ℕ) → Front (IsClock minutes) here rest
    → ((x : List ℕ) → rest ≢ colon ∷ x) → (seconds : ℕ) → NoFront (IsSeconds seconds) here
seconds_no_mark minutes here rest front none seconds text x s is =
    none (digits 2 s.second ++ x) (behind_clock minutes seconds here rest text x s is front).rest

pub seconds_no_second : (minutes : ℕ) (here rest : List ℕ) → Front (IsClock minutes) here (colon ∷ rest)
    → ((n : ℕ) → NoFront (IsTwo n) rest) → (seconds : ℕ) → NoFront (IsSeconds seconds) here
seconds_no_second minutes here rest front none seconds text x s is =
    none s.second (digits 2 s.second) x (below_minute seconds text s, refl)
    (tails (behind_clock minutes seconds here (colon ∷ rest) text x s is front).rest)

pub seconds_too_many : (minutes second : ℕ) (here between rest : List ℕ) → Front (IsClock minutes) here (colon ∷ between)
    → Front (IsTwo second) between rest → 60 ≤ second
    → (seconds : ℕ) → NoFront (IsSeconds seconds) here
seconds_too_many minutes second here between rest clock two many seconds text x s is =
    let first = behind_clock minutes seconds here (colon ∷ between) text x s is clock in
    let last = after_two second s.second between rest x two (below_minute seconds text s) (tails first.rest) in
    let below : s.second < 60 = s.exists.2 in
    omega (arith, last.number)

pub is_seconds : (minutes second seconds : ℕ) (here between rest : List ℕ) → Front (IsClock minutes) here (colon ∷ between)
    → Front (IsTwo second) between rest → second < 60
    → seconds ≡ minutes * 60 + second → Front (IsSeconds seconds) here rest
is_seconds minutes second seconds here between rest clock two below is =
    let c = clock.kind in
    record {
      text = second_text c.hour c.minute second;
      kind = record {
        hour = c.hour;
        minute = c.minute;
        second = second;
        exists = (c.exists.0, c.exists.1, below);
        shown = refl;
        is = is ∙ ap (λ (m : ℕ). m * 60 + second) c.is;
      };
      is = clock.is ∙ ap (λ (t : List ℕ). t ++ colon ∷ between) c.shown
          ∙ ap (λ (t : List ℕ). minute_text c.hour c.minute ++ colon ∷ t) (two.is ∙ ap (λ (t : List ℕ). t ++ rest) two.kind.1)
          ∙ sym (append_assoc (minute_text c.hour c.minute) (colon ∷ digits 2 second) rest);
    }

-- one such time in front of a text
pub after_seconds : (m n : ℕ) (here rest text x : List ℕ) → Front (IsSeconds m) here rest → IsSeconds n text → here ≡ text ++ x
    → Cut m n rest x
after_seconds m n here rest text x front s is =
    let mine = front.kind in
    let clock : Front (IsClock (mine.hour * 60 + mine.minute)) here (colon ∷ (digits 2 mine.second ++ rest))
    = record {
      text = minute_text mine.hour mine.minute;
      kind = clock_of m front.text mine;
      is = seconds_is m here front.text rest mine front.is;
    } in
    let first = behind_clock (mine.hour * 60 + mine.minute) n here _ text x s is clock in
    let two : Front (IsTwo mine.second) (digits 2 mine.second ++ rest) rest
    = record { text = digits 2 mine.second; kind = (below_minute m front.text mine, refl); is = refl } in
    let last = after_two mine.second s.second _ _ x two (below_minute n text s) (tails first.rest) in
    record {
      number =
          mine.is
          ∙ ap (λ (k : ℕ). k * 60 + mine.second) first.number
          ∙ ap (λ (k : ℕ). (s.hour * 60 + s.minute) * 60 + k) last.number
          ∙ sym s.is;
      rest = last.rest;
    }

-- ---- offsets

pub whole_clock_is : (minutes : ℕ) (here : List ℕ) → Front (IsClock minutes) here [] → IsClock minutes here
whole_clock_is minutes here front = subst (IsClock minutes) (sym (front.is ∙ append-nil front.text)) front.kind

pub no_whole_clock : (here : List ℕ) → ((minutes : ℕ) → NoFront (IsClock minutes) here) → (minutes : ℕ) → ¬ IsClock minutes here
no_whole_clock here none minutes c = none minutes here [] c (sym (append-nil here))

pub more_than_a_clock : (m : ℕ) (here rest : List ℕ) → Front (IsClock m) here rest → rest ≢ [] → (minutes : ℕ) → ¬ IsClock minutes here
more_than_a_clock m here rest front more minutes c = more (after_clock m minutes here rest here [] front c (sym (append-nil here))).rest

pub is_east : (minutes : ℕ) (here rest : List ℕ) → here ≡ plus ∷ rest → IsClock minutes rest → IsOffset (pos minutes) here
is_east minutes here rest is c = east c.hour c.minute (is ∙ ap (λ (t : List ℕ). plus ∷ t) c.shown) c.exists (ap pos c.is)

pub is_west : (minutes : ℕ) (here rest : List ℕ) → here ≡ minus ∷ rest → IsClock minutes rest → IsOffset (neg_ℤ (pos minutes)) here
is_west minutes here rest is c =
    west c.hour c.minute (is ∙ ap (λ (t : List ℕ). minus ∷ t) c.shown) c.exists (ap (λ (k : ℕ). neg_ℤ (pos k)) c.is)

clock_text : (hour minute : ℕ) (rest : List ℕ) → (hour < 24) × (minute < 60) → rest ≡ minute_text hour minute
    → IsClock (hour * 60 + minute) rest
clock_text hour minute rest exists shown = record { hour = hour; minute = minute; exists = exists; shown = shown; is = refl }

empty_cons : (b : ℕ) (x : List ℕ) → [] ≡ b ∷ x → ⊥
empty_cons b x e = cc

-- the rest of an offset behind its mark is a clock, or nothing where the mark is Z
pub data OffsetShape (here : List ℕ) : Type 0 where
  nothing : here ≡ [] → OffsetShape here
  letter : here ≡ 90 ∷ [] → OffsetShape here
  east_of : (minutes : ℕ) (rest : List ℕ) → here ≡ plus ∷ rest → IsClock minutes rest → OffsetShape here
  west_of : (minutes : ℕ) (rest : List ℕ) → here ≡ minus ∷ rest → IsClock minutes rest → OffsetShape here

shape : (o : ℤ) (here : List ℕ) → IsOffset o here → OffsetShape here
shape o here (unsaid e i) = nothing e
shape o here (utc e i) = letter e
shape o here (east h m e exists i) = east_of (h * 60 + m) (minute_text h m) e (clock_text h m (minute_text h m) exists refl)
shape o here (west h m e exists i) = west_of (h * 60 + m) (minute_text h m) e (clock_text h m (minute_text h m) exists refl)

no_clock_behind : (b : ℕ) (here rest : List ℕ) → here ≡ b ∷ rest → ((minutes : ℕ) → ¬ IsClock minutes rest) → (b ≡ plus → ⊥)
    → OffsetShape here → (b ≡ minus) → ⊥
no_clock_behind b here rest is none no_plus (nothing e) minus_is = empty_cons b rest (sym e ∙ is)
no_clock_behind b here rest is none no_plus (letter e) minus_is = let same = heads (sym is ∙ e) in omega arith
no_clock_behind b here rest is none no_plus (east_of minutes x e c) minus_is = no_plus (heads (sym is ∙ e))
no_clock_behind b here rest is none no_plus (west_of minutes x e c) minus_is =
    none minutes (subst (IsClock minutes) (sym (tails (sym is ∙ e))) c)

no_clock_ahead : (b : ℕ) (here rest : List ℕ) → here ≡ b ∷ rest → ((minutes : ℕ) → ¬ IsClock minutes rest) → OffsetShape here → (b ≡ plus)
    → ⊥
no_clock_ahead b here rest is none (nothing e) plus_is = empty_cons b rest (sym e ∙ is)
no_clock_ahead b here rest is none (letter e) plus_is = let same = heads (sym is ∙ e) in omega arith
no_clock_ahead b here rest is none (east_of minutes x e c) plus_is = none minutes (subst (IsClock minutes) (sym (tails (sym is ∙ e))) c)
no_clock_ahead b here rest is none (west_of minutes x e c) plus_is = let same = heads (sym is ∙ e) in omega arith

no_shape : (b : ℕ) (here rest : List ℕ) → here ≡ b ∷ rest → (b ≡ plus → ⊥) → (b ≡ minus → ⊥) → (b ≡ 90 → rest ≡ [] → ⊥) → OffsetShape here
    → ⊥
no_shape b here rest is no_plus no_minus no_letter (nothing e) = empty_cons b rest (sym e ∙ is)
no_shape b here rest is no_plus no_minus no_letter (letter e) = no_letter (heads (sym is ∙ e)) (tails (sym is ∙ e))
no_shape b here rest is no_plus no_minus no_letter (east_of minutes x e c) = no_plus (heads (sym is ∙ e))
no_shape b here rest is no_plus no_minus no_letter (west_of minutes x e c) = no_minus (heads (sym is ∙ e))

pub no_east : (here rest : List ℕ) → here ≡ plus ∷ rest → ((minutes : ℕ) → ¬ IsClock minutes rest) → (o : ℤ) → ¬ IsOffset o here
no_east here rest is none o h = no_clock_ahead plus here rest is none (shape o here h) refl

pub no_west : (here rest : List ℕ) → here ≡ minus ∷ rest → ((minutes : ℕ) → ¬ IsClock minutes rest) → (o : ℤ) → ¬ IsOffset o here
no_west here rest is none o h = no_clock_behind minus here rest is none (λ e. omega arith) (shape o here h) refl

pub no_offset : (b : ℕ) (here rest : List ℕ) → here ≡ b ∷ rest → (b ≡ plus → ⊥) → (b ≡ minus → ⊥) → (b ≡ 90 → rest ≡ [] → ⊥)
    → (o : ℤ) → ¬ IsOffset o here
no_offset b here rest is no_plus no_minus no_letter o h = no_shape b here rest is no_plus no_minus no_letter (shape o here h)

-- ---- fractions

pub ending_without : (here : List ℕ) (ahead : ℤ) → IsOffset ahead here → IsEnding 0 ahead here
ending_without here ahead h = record { fraction = []; offset = here; part = whole refl refl; from_utc = h; is = refl }

pub ending_with : (here run rest : List ℕ) (millis : ℕ) (ahead : ℤ) → here ≡ point ∷ (run ++ rest) → Each is_digit run
    → (1 ≤ length run) × (length run ≤ 9)
    → millis ≡ number run * 1000 / 10 ^ length run → IsOffset ahead rest → IsEnding millis ahead here
ending_with here run rest millis ahead is each few value h =
    record { fraction = point ∷ run; offset = rest; part = part refl each few value; from_utc = h; is = is }

no_ending_whole : (millis : ℕ) (ahead : ℤ) (here : List ℕ)
    → ((x : List ℕ) → here ≢ point ∷ x) → ((o : ℤ) → ¬ IsOffset o here) → (f o : List ℕ)
    → IsFraction millis f → IsOffset ahead o → here ≡ f ++ o → ⊥
no_ending_whole millis ahead here no_point none f o (whole e i) h is =
    none ahead (subst (IsOffset ahead) (sym (is ∙ ap (λ (t : List ℕ). t ++ o) e)) h)
no_ending_whole millis ahead here no_point none f o (part {digits = d} e each few i) h is =
    no_point (d ++ o) (is ∙ ap (λ (t : List ℕ). t ++ o) e)

pub no_ending_without : (here : List ℕ) → ((x : List ℕ) → here ≢ point ∷ x) → ((o : ℤ) → ¬ IsOffset o here) → (millis : ℕ) (ahead : ℤ)
    → ¬ IsEnding millis ahead here
no_ending_without here no_point none millis ahead e =
    no_ending_whole millis ahead here no_point none e.fraction e.offset e.part e.from_utc e.is

no_ending_part : (millis : ℕ) (ahead : ℤ) (here behind run rest : List ℕ) → here ≡ point ∷ behind → IsRun is_digit behind run rest
    → ((1 ≤ length run) × (length run ≤ 9) → (o : ℤ) → ¬ IsOffset o rest) → (f o : List ℕ) → IsFraction millis f → IsOffset ahead o
    → here ≡ f ++ o → ⊥
no_ending_part millis ahead here behind run rest is cut none f o (whole e i) h same =
    (offset_marked ahead o h).no_point behind (sym (same ∙ ap (λ (t : List ℕ). t ++ o) e) ∙ is)
no_ending_part millis ahead here behind run rest is cut none f o (part {digits = d} e each few i) h same =
    let runs =
    one_run is_digit d run o rest each cut.each (offset_marked ahead o h).digit cut.stops
    (tails (sym (same ∙ ap (λ (t : List ℕ). t ++ o) e) ∙ is) ∙ cut.is) in
    let P : List ℕ → Type 0 = λ z. (1 ≤ length z) × (length z ≤ 9) in
    none (subst P runs.0 few) ahead (subst (IsOffset ahead) runs.1 h)

pub no_ending_with : (here behind run rest : List ℕ) → here ≡ point ∷ behind → IsRun is_digit behind run rest
    → ((1 ≤ length run) × (length run ≤ 9) → (o : ℤ) → ¬ IsOffset o rest) → (millis : ℕ) (ahead : ℤ) → ¬ IsEnding millis ahead here
no_ending_with here behind run rest is cut none millis ahead e =
    no_ending_part millis ahead here behind run rest is cut none e.fraction e.offset e.part e.from_utc e.is

-- ---- times with their offset

seconds_of : (millis : ℕ) (text : List ℕ) (t : IsTime millis text)
    → IsSeconds ((t.hour * 60 + t.minute) * 60 + t.second) (second_text t.hour t.minute t.second)
seconds_of millis text t = record { hour = t.hour; minute = t.minute; second = t.second; exists = t.exists; shown = refl; is = refl }

time_is : (millis : ℕ) (ahead : ℤ) (here : List ℕ) (t : IsTimeOf millis ahead here)
    → here ≡ second_text t.of_day.hour t.of_day.minute t.of_day.second ++ (t.of_day.ending ++ t.offset)
time_is millis ahead here t =
    t.is
    ∙ ap (λ (z : List ℕ). z ++ t.offset) t.of_day.text
    ∙ append_assoc (second_text t.of_day.hour t.of_day.minute t.of_day.second) t.of_day.ending t.offset

ending_of : (millis : ℕ) (ahead : ℤ) (here : List ℕ) (t : IsTimeOf millis ahead here)
    → IsEnding t.of_day.fraction ahead (t.of_day.ending ++ t.offset)
ending_of millis ahead here t =
    record { fraction = t.of_day.ending; offset = t.offset; part = t.of_day.part; from_utc = t.from_utc; is = refl }

pub no_seconds : (here : List ℕ) → ((seconds : ℕ) → NoFront (IsSeconds seconds) here) → (millis : ℕ) (ahead : ℤ)
    → ¬ IsTimeOf millis ahead here
no_seconds here none millis ahead t =
    none _ (second_text t.of_day.hour t.of_day.minute t.of_day.second) (t.of_day.ending ++ t.offset) (seconds_of millis t.time t.of_day)
    (time_is millis ahead here t)

pub no_ending : (seconds : ℕ) (here rest : List ℕ) → Front (IsSeconds seconds) here rest
    → ((millis : ℕ) (ahead : ℤ) → ¬ IsEnding millis ahead rest) → (millis : ℕ) (ahead : ℤ) → ¬ IsTimeOf millis ahead here
no_ending seconds here rest front none millis ahead t =
    let cut =
    after_seconds seconds _ here rest (second_text t.of_day.hour t.of_day.minute t.of_day.second) (t.of_day.ending ++ t.offset) front
    (seconds_of millis t.time t.of_day) (time_is millis ahead here t) in
    none t.of_day.fraction ahead (subst (IsEnding t.of_day.fraction ahead) (sym cut.rest) (ending_of millis ahead here t))

pub is_time : (seconds fraction millis : ℕ) (ahead : ℤ) (here rest : List ℕ) → Front (IsSeconds seconds) here rest
    → IsEnding fraction ahead rest → millis ≡ seconds * 1000 + fraction → IsTimeOf millis ahead here
is_time seconds fraction millis ahead here rest front e is =
    let s = front.kind in
    record {
      time = second_text s.hour s.minute s.second ++ e.fraction;
      offset = e.offset;
      of_day = record {
        hour = s.hour;
        minute = s.minute;
        second = s.second;
        fraction = fraction;
        ending = e.fraction;
        exists = s.exists;
        part = e.part;
        text = refl;
        is = is ∙ ap (λ (k : ℕ). k * 1000 + fraction) s.is;
      };
      from_utc = e.from_utc;
      is = front.is ∙ ap (λ (z : List ℕ). z ++ rest) s.shown ∙ ap (λ (z : List ℕ). second_text s.hour s.minute s.second ++ z) e.is
          ∙ sym (append_assoc (second_text s.hour s.minute s.second) e.fraction e.offset);
    }
