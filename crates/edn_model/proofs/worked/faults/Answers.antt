use Rattle.std.proofs.Common.{◌≡◌, ℕ, ℤ, ◌≤◌, List, [], ◌∷◌, ◌++◌, codes, pos, ap, ◌∙◌, sym, replicate, refl, inr, lit<, lit≤, arith}
use Rattle.std.proofs.lemmas.List.{append-nil}
use Rattle.jiff_core.specs.Calendar.{IsCivilDate, days_in_month}
use Rattle.edn_model.specs.Form as form
use Rattle.edn_model.specs.Tokens.{IsDecimal, StringAt}
use Rattle.edn_model.specs.Instants.{date_text, IsInstant, at_midnight, at_time}
use Rattle.edn_model.specs.Grammar.{TagAt, Gap, Text, vector, list, set, no_gap, blank, Members, member, no_members, Entries, entry}
use Rattle.edn_model.specs.Grammar.{no_entries}
use Rattle.edn_model.specs.Faults.{stuck, in_map, behind_key, in_set, behind_discard, behind_inst, Faultless, outside, inside, ends}
use Rattle.edn_model.specs.Faults.{closes_nothing, deep_collection, key_again, member_again, no_instant}
use Rattle.edn_model.proofs.OneInstant.{Fits, date_fits, same_date_text}
use Rattle.edn_model.proofs.Pieces.{spelled_plain, ascii_utf8, int_text, key_text, pile, deeper}
use Rattle.edn_model.proofs.worked.faults.Goals as goal

one : IsDecimal 1 (codes "1")
one = record { some = lit< tt; each = refl; leading = inr refl; is = refl }

two : IsDecimal 2 (codes "2")
two = record { some = lit< tt; each = refl; leading = inr refl; is = refl }

pub returns-clause-deep : goal.returns-clause-deep
returns-clause-deep c = record {
  opens = pile 64 [];
  here = 91 ∷ [];
  place = 91 ∷ [];
  stands = deeper 64 (replicate 65 91) [] (91 ∷ []) refl (lit≤ tt) (outside no_gap);
  is = stuck (deep_collection refl refl refl);
  byte_is = refl;
}

pub returns-clause-cut : goal.returns-clause-cut
returns-clause-cut c = record {
  opens = pile 64 [];
  here = [];
  place = [];
  stands = deeper 64 (replicate 64 91) [] [] refl (lit≤ tt) (outside no_gap);
  is = stuck ends;
  byte_is = refl;
}

pub returns-clause-key_twice : goal.returns-clause-key_twice
returns-clause-key_twice c =
    let a : Text 63 (form.keyword (codes "a")) (codes ":a 1 :a 2}") (codes " 1 :a 2}") =
    key_text 63 (codes "a") (codes " 1 :a 2}") (lit< tt) refl refl refl refl in
    let value : Text 63 (form.integer (pos 1)) (codes "1 :a 2}") (codes " :a 2}") =
    int_text 63 1 (codes "1") (codes " :a 2}") one refl refl in
    let entries : Entries 63 (form.pair (form.keyword (codes "a")) (form.integer (pos 1)) form.no_pairs) (codes ":a 1 :a 2}")
    (codes ":a 2}") =
    entry no_gap a (blank refl no_gap) value (no_entries (blank refl no_gap)) in
    let start : Faultless (codes "{:a 1 :a 2}") [] (codes "{:a 1 :a 2}") = outside no_gap in
    let again : Text 63 (form.keyword (codes "a")) (codes ":a 2}") (codes " 2}") =
    key_text 63 (codes "a") (codes " 2}") (lit< tt) refl refl refl refl in
    record {
      opens = in_map (form.pair (form.keyword (codes "a")) (form.integer (pos 1)) form.no_pairs) ∷ [];
      here = codes ":a 2}";
      place = codes ":a 2}";
      stands = inside start refl (lit≤ tt) (codes ":a 1 :a 2}", refl, entries, refl);
      is = key_again again refl;
      byte_is = refl;
    }

pub returns-clause-odd : goal.returns-clause-odd
returns-clause-odd c =
    let a : Text 63 (form.keyword (codes "a")) (codes ":a}") (codes "}") =
    key_text 63 (codes "a") (codes "}") (lit< tt) refl refl refl refl in
    let none : Entries 63 form.no_pairs (codes ":a}") (codes ":a}") = no_entries no_gap in
    let start : Faultless (codes "{:a}") [] (codes "{:a}") = outside no_gap in
    record {
      opens = behind_key form.no_pairs (form.keyword (codes "a")) ∷ [];
      here = codes "}";
      place = codes "}";
      stands = inside start refl (lit≤ tt) (codes ":a}", codes ":a}", codes "}", refl, none, a, no_gap, refl);
      is = stuck (closes_nothing refl refl);
      byte_is = refl;
    }

pub returns-clause-sequence_twice : goal.returns-clause-sequence_twice
returns-clause-sequence_twice c =
    let inner : Members 62 (form.form (form.integer (pos 1)) form.no_forms) (codes "1] (1)}") (codes "] (1)}") =
    member no_gap (int_text 62 1 (codes "1") (codes "] (1)}") one refl refl) (no_members no_gap) in
    let first : Text 63 (form.vector (form.form (form.integer (pos 1)) form.no_forms)) (codes "[1] (1)}") (codes " (1)}") =
    vector refl inner in
    let members : Members 63 (form.form (form.vector (form.form (form.integer (pos 1)) form.no_forms)) form.no_forms) (codes "[1] (1)}")
    (codes "(1)}") =
    member no_gap first (no_members (blank refl no_gap)) in
    let again : Members 62 (form.form (form.integer (pos 1)) form.no_forms) (codes "1)}") (codes ")}") =
    member no_gap (int_text 62 1 (codes "1") (codes ")}") one refl refl) (no_members no_gap) in
    let second : Text 63 (form.list (form.form (form.integer (pos 1)) form.no_forms)) (codes "(1)}") (codes "}") = list refl again in
    let start : Faultless (codes "#{[1] (1)}") [] (codes "#{[1] (1)}") = outside no_gap in
    record {
      opens = in_set (form.form (form.vector (form.form (form.integer (pos 1)) form.no_forms)) form.no_forms) ∷ [];
      here = codes "(1)}";
      place = codes "(1)}";
      stands = inside start refl (lit≤ tt) (codes "[1] (1)}", refl, members, refl);
      is = member_again second refl;
      byte_is = refl;
    }

pub returns-clause-set_twice : goal.returns-clause-set_twice
returns-clause-set_twice c =
    let inner : Members 62 (form.form (form.integer (pos 1)) (form.form (form.integer (pos 2)) form.no_forms)) (codes "1 2} #{2 1}}")
    (codes "} #{2 1}}") =
    member no_gap (int_text 62 1 (codes "1") (codes " 2} #{2 1}}") one refl refl)
    (member (blank refl no_gap) (int_text 62 2 (codes "2") (codes "} #{2 1}}") two refl refl) (no_members no_gap)) in
    let first : Text 63 (form.set (form.form (form.integer (pos 1)) (form.form (form.integer (pos 2)) form.no_forms)))
    (codes "#{1 2} #{2 1}}") (codes " #{2 1}}") =
    set refl inner refl in
    let members : Members 63
    (form.form (form.set (form.form (form.integer (pos 1)) (form.form (form.integer (pos 2)) form.no_forms))) form.no_forms)
    (codes "#{1 2} #{2 1}}") (codes "#{2 1}}") =
    member no_gap first (no_members (blank refl no_gap)) in
    let again : Members 62 (form.form (form.integer (pos 2)) (form.form (form.integer (pos 1)) form.no_forms)) (codes "2 1}}")
    (codes "}}") =
    member no_gap (int_text 62 2 (codes "2") (codes " 1}}") two refl refl)
    (member (blank refl no_gap) (int_text 62 1 (codes "1") (codes "}}") one refl refl) (no_members no_gap)) in
    let second : Text 63 (form.set (form.form (form.integer (pos 2)) (form.form (form.integer (pos 1)) form.no_forms))) (codes "#{2 1}}")
    (codes "}") =
    set refl again refl in
    let start : Faultless (codes "#{#{1 2} #{2 1}}") [] (codes "#{#{1 2} #{2 1}}") = outside no_gap in
    record {
      opens =
          in_set (form.form (form.set (form.form (form.integer (pos 1)) (form.form (form.integer (pos 2)) form.no_forms))) form.no_forms)
          ∷ [];
      here = codes "#{2 1}}";
      place = codes "#{2 1}}";
      stands = inside start refl (lit≤ tt) (codes "#{1 2} #{2 1}}", refl, members, refl);
      is = member_again second refl;
      byte_is = refl;
    }

pub returns-clause-discard : goal.returns-clause-discard
returns-clause-discard c =
    let start : Faultless (codes "#_") [] (codes "#_") = outside no_gap in
    record {
      opens = behind_discard ∷ [];
      here = [];
      place = [];
      stands = inside start refl (lit≤ tt) ([], refl, no_gap);
      is = stuck ends;
      byte_is = refl;
    }

no_leap_day : (y m d : ℕ) (x : List ℕ) → IsCivilDate (pos y) m d → codes "2023-02-29" ≡ date_text y m d ++ x → ⊥
no_leap_day y m d x exists e =
    let here : Fits 2023 2 29 = record { year_below = lit< tt; month_below = lit< tt; day_below = lit< tt } in
    let same = same_date_text 2023 2 29 y m d [] x here (date_fits y m d exists) e in
    let last : d ≤ days_in_month (pos y) m = exists.2.1 in
    let year = ap (λ (n : ℕ). days_in_month (pos n) m) (sym same.year) in
    let month = ap (λ (n : ℕ). days_in_month (pos 2023) n) (sym same.month) in
    let day = same.day in
    omega arith

not_leap : (z : ℤ) → IsInstant z (codes "2023-02-29") → ⊥
not_leap z (at_midnight h i) = no_leap_day h.year h.month h.day [] h.exists (h.text ∙ sym (append-nil (date_text h.year h.month h.day)))
not_leap z (at_time {time = b} {ending = c} f h g o j r) =
    no_leap_day h.year h.month h.day (84 ∷ (b ++ c)) h.exists (f ∙ ap (λ x. x ++ 84 ∷ (b ++ c)) h.text)

pub returns-clause-no_such_day : goal.returns-clause-no_such_day
returns-clause-no_such_day c =
    let tag : TagAt (codes "inst") (codes "#inst \"2023-02-29\"") (codes " \"2023-02-29\"") = record { is = refl; ends = refl } in
    let gap : Gap 64 (codes " \"2023-02-29\"") (codes "\"2023-02-29\"") = blank refl no_gap in
    let start : Faultless (codes "#inst \"2023-02-29\"") [] (codes "#inst \"2023-02-29\"") = outside no_gap in
    let stands : StringAt (codes "2023-02-29") (codes "\"2023-02-29\"") [] = record {
      inside = codes "2023-02-29\"";
      opens = refl;
      spells = spelled_plain (codes "2023-02-29") (codes "\"") refl;
      utf8 = ascii_utf8 (codes "2023-02-29") refl;
    } in
    record {
      opens = behind_inst ∷ [];
      here = codes "\"2023-02-29\"";
      place = codes "\"2023-02-29\"";
      stands = inside start refl (lit≤ tt) (codes " \"2023-02-29\"", tag, gap);
      is = stuck (no_instant stands not_leap);
      byte_is = refl;
    }
