-- An instant's text is a date, and a time of day behind it or none.
use Rattle.std.proofs.Common.{◌≡◌, ℕ, ℤ, pos, Bool, true, false, List, [], ◌∷◌, ◌++◌, ap, ◌∙◌, sym, subst}
use Rattle.std.proofs.lemmas.List.{append-nil}
use Rattle.edn_model.specs.Instants.{IsDate, instant_of, in_range, IsInstant, at_midnight, at_time}
use Rattle.edn_model.proofs.Runs.{tails}
use Rattle.edn_model.proofs.OneInstant.{same_date, same_time, same_offset, offset_marked}
use Rattle.edn_instant.specs.Fronts.{Front, NoFront, IsTimeOf}

empty_cons : (b : ℕ) (x : List ℕ) → b ∷ x ≡ [] → ⊥
empty_cons b x e = cc

pub no_date : (text : List ℕ) → ((day : ℤ) → NoFront (IsDate day) text) → (z : ℤ) → ¬ IsInstant z text
no_date text none z (at_midnight {day = d} h i) = none d text [] h (sym (append-nil text))
no_date text none z (at_time {day = d} {date = date} {time = time} {ending = ending} f h k o i r) = none d date (84 ∷ (time ++ ending)) h f

pub is_midnight : (day z : ℤ) (text rest : List ℕ) → Front (IsDate day) text rest → rest ≡ [] → z ≡ instant_of day 0 (pos 0)
    → IsInstant z text
is_midnight day z text rest front none is =
    at_midnight (subst (IsDate day) (sym (front.is ∙ ap (λ (r : List ℕ). front.text ++ r) none ∙ append-nil front.text)) front.kind) is

same_front : (day other : ℤ) (text rest date x : List ℕ) → Front (IsDate day) text rest → IsDate other date → text ≡ date ++ x
    → (day ≡ other) × (rest ≡ x)
same_front day other text rest date x front h is = same_date day other front.text date rest x front.kind h (sym front.is ∙ is)

pub no_time : (day : ℤ) (text behind : List ℕ) → Front (IsDate day) text (84 ∷ behind)
    → ((millis : ℕ) (ahead : ℤ) → ¬ IsTimeOf millis ahead behind) → (z : ℤ) → ¬ IsInstant z text
no_time day text behind front none z (at_midnight {day = d} h i) =
    empty_cons 84 behind (same_front day d text (84 ∷ behind) text [] front h (sym (append-nil text))).1
no_time day text behind front none z
    (at_time {day = d} {offset = o} {millis = m} {date = date} {time = time} {ending = ending} f h k g i r) =
    none m o (record {
      time = time;
      offset = ending;
      of_day = k;
      from_utc = g;
      is = tails (same_front day d text (84 ∷ behind) date (84 ∷ (time ++ ending)) front h f).1;
    })

pub is_at : (day z : ℤ) (millis : ℕ) (ahead : ℤ) (text behind : List ℕ) → Front (IsDate day) text (84 ∷ behind)
    → IsTimeOf millis ahead behind → z ≡ instant_of day millis ahead
    → in_range z ≡ true → IsInstant z text
is_at day z millis ahead text behind front t is range =
    at_time (front.is ∙ ap (λ (r : List ℕ). front.text ++ 84 ∷ r) t.is) front.kind t.of_day t.from_utc is range

true_false : (b : Bool) → b ≡ true → b ≡ false → ⊥
true_false b h k = cc

pub out_of_range : (day : ℤ) (millis : ℕ) (ahead : ℤ) (text behind : List ℕ) → Front (IsDate day) text (84 ∷ behind)
    → IsTimeOf millis ahead behind
    → in_range (instant_of day millis ahead) ≡ false → (z : ℤ) → ¬ IsInstant z text
out_of_range day millis ahead text behind front t range z (at_midnight {day = d} h i) =
    empty_cons 84 behind (same_front day d text (84 ∷ behind) text [] front h (sym (append-nil text))).1
out_of_range day millis ahead text behind front t range z
    (at_time {day = d} {offset = o} {millis = m} {date = date} {time = time} {ending = ending} f h k g i r) =
    let dates = same_front day d text (84 ∷ behind) date (84 ∷ (time ++ ending)) front h f in
    let times =
    same_time millis m t.time time t.offset ending t.of_day k (offset_marked ahead t.offset t.from_utc) (offset_marked o ending g)
    (sym t.is ∙ tails dates.1) in
    let offsets = same_offset ahead o t.offset ending t.from_utc g times.1 in
    let same : instant_of day millis ahead ≡ z =
    ap (λ (x : ℤ). instant_of x millis ahead) dates.0
    ∙ ap (λ (x : ℕ). instant_of d x ahead) times.0
    ∙ ap (λ (x : ℤ). instant_of d m x) offsets
    ∙ sym i in
    true_false (in_range z) r (ap in_range (sym same) ∙ range)
