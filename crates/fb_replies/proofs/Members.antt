-- The texts of a datom, of a transaction, of the report of one, and of a tuple's row.
use Rattle.std.proofs.Common.{◌≡◌, ℕ, List, [], ◌∷◌, ◌++◌, map, refl, ap, ◌∙◌, codes}
use Rattle.std.specs.Prelude.{if◌then◌else◌, decimal}
use Rattle.std.proofs.lemmas.List.{append_assoc, append-nil}
use Rattle.edn_model.specs.Form as edn
use Rattle.edn_model.specs.Form.{forms, pairs}
use Rattle.edn_model.specs.Canon.{Canon, CanonAll, CanonPairs}
use Rattle.edn_values.specs.Values.{form_of_value}
use Rattle.edn_print.specs.Printed.{Appends}
use Rattle.fb_values.specs.declared.facts.Datom.{Datom}
use Rattle.fb_values.specs.declared.facts.Entry.{Entry}
use Rattle.fb_numbers.specs.Numbers.{transaction_of}
use Rattle.tuple_model.specs.Tuples.{Row}
use Rattle.talk_model.specs.Replies.{entity, attribute, datom_form, datom_forms, transaction_form, tempid_pair, member_form, row_form, receipt}
use Rattle.fb_replies.proofs.Lines.{braces, in_brackets, vector_text, map_text, numbered, numbered_text}

pub datom_behind : (facts : List Datom) (d : Datom) (l0 l1 l2 l3 l4 l5 l6 l7 l8 l9 : List ℕ) → l1 ≡ l0 ++ codes "["
    → Appends (Canon (entity d.e)) l1 l2 → l3 ≡ l2 ++ codes " " → Appends (Canon (attribute facts d.a)) l3 l4 → l5 ≡ l4 ++ codes " "
    → Appends (Canon (form_of_value d.v)) l5 l6 → l7 ≡ l6 ++ codes " " → Appends (Canon (entity (transaction_of d.t))) l7 l8
    → l9 ≡ l8 ++ 32 ∷ ((if d.added then codes "true" else codes "false") ++ 93 ∷ []) → Appends (Canon (datom_form facts d)) l0 l9
datom_behind facts d l0 l1 l2 l3 l4 l5 l6 l7 l8 l9 e1 e e3 a e5 v e7 t e9 =
    let added : List ℕ = if d.added then codes "true" else codes "false" in
    let last : List ℕ = 32 ∷ (added ++ []) in
    let at_t : List ℕ = 32 ∷ (t.text ++ last) in
    let at_v : List ℕ = 32 ∷ (v.text ++ at_t) in
    let at_a : List ℕ = 32 ∷ (a.text ++ at_v) in
    let l4_is : l4 ≡ (((l0 ++ codes "[") ++ e.text) ++ codes " ") ++ a.text = simp (a.behind, e3, e.behind, e1) in
    let l6_is : l6 ≡ (l4 ++ codes " ") ++ v.text = simp (v.behind, e5) in
    let l8_is : l8 ≡ (l6 ++ codes " ") ++ t.text = simp (t.behind, e7) in
    let grouped : (b : List ℕ)
    → ((((((((l0 ++ codes "[") ++ e.text) ++ codes " ") ++ a.text) ++ codes " ") ++ v.text) ++ codes " ") ++ t.text) ++ 32 ∷ (b ++ 93 ∷ [])
    ≡ l0 ++ 91 ∷ ((e.text ++ 32 ∷ (a.text ++ 32 ∷ (v.text ++ 32 ∷ (t.text ++ 32 ∷ (b ++ []))))) ++ 93 ∷ []) =
    λ b. simp (append_assoc, append-nil) in
    let whole : l9 ≡ ((((((((l0 ++ codes "[") ++ e.text) ++ codes " ") ++ a.text) ++ codes " ") ++ v.text) ++ codes " ") ++ t.text) ++ 32
    ∷ (added ++ 93 ∷ []) =
    e9
    ∙ ap (λ (z : List ℕ). z ++ 32 ∷ (added ++ 93 ∷ []))
    (l8_is ∙ ap (λ (z : List ℕ). (z ++ codes " ") ++ t.text) (l6_is ∙ ap (λ (z : List ℕ). (z ++ codes " ") ++ v.text) l4_is)) in
    record {
      text = 91 ∷ ((e.text ++ at_a) ++ 93 ∷ []);
      is = (
        e.text ++ at_a,
        (
          e.text,
          at_a,
          e.is,
          (a.text, at_v, a.is, (v.text, at_t, v.is, (t.text, last, t.is, (added, [], refl, refl, refl), refl), refl), refl),
          refl,
        ),
        refl,
      );
      behind = whole ∙ grouped added;
    }

pub transaction_behind : (facts : List Datom) (entry : Entry) (l0 l1 l2 l3 l4 l5 : List ℕ) → l1 ≡ l0 ++ codes "{:t "
    → l2 ≡ l1 ++ decimal entry.t → l3 ≡ l2 ++ codes " :data [" → Appends (CanonAll (forms (map (datom_form facts) entry.datoms))) l3 l4
    → l5 ≡ l4 ++ codes "]}" → Appends (Canon (transaction_form facts entry)) l0 l5
transaction_behind facts entry l0 l1 l2 l3 l4 l5 e1 e2 e3 a e5 =
    let inside = vector_text (map (datom_form facts) entry.datoms) a.text a.is in
    record {
      text = numbered (codes "t") entry.t (codes "data") (in_brackets a.text);
      is = numbered_text (codes "t") (codes "data") entry.t (datom_forms facts entry.datoms) (in_brackets a.text) inside;
      behind = simp (e5, a.behind, e3, e2, e1, append_assoc, append-nil);
    }

pub report_behind : (t : ℕ) (tempids : List (List ℕ × ℕ)) (l0 l1 l2 l3 l4 l5 : List ℕ) → l1 ≡ l0 ++ codes "{:t " → l2 ≡ l1 ++ decimal t
    → l3 ≡ l2 ++ codes " :tempids {" → Appends (CanonPairs (pairs (map tempid_pair tempids))) l3 l4 → l5 ≡ l4 ++ codes "}}"
    → Appends (Canon (receipt t tempids)) l0 l5
report_behind t tempids l0 l1 l2 l3 l4 l5 e1 e2 e3 a e5 =
    let inside = map_text (map tempid_pair tempids) a.text a.is in
    record {
      text = numbered (codes "t") t (codes "tempids") (braces a.text);
      is = numbered_text (codes "t") (codes "tempids") t (edn.map (pairs (map tempid_pair tempids))) (braces a.text) inside;
      behind = simp (e5, a.behind, e3, e2, e1, append_assoc, append-nil);
    }

pub row_behind : (row : Row) (l0 l1 l2 l3 l4 l5 : List ℕ) → l1 ≡ l0 ++ codes "[["
    → Appends (CanonAll (forms (map member_form row.tuple))) l1 l2 → l3 ≡ l2 ++ codes "] " → Appends (Canon (entity row.e)) l3 l4
    → l5 ≡ l4 ++ codes "]" → Appends (Canon (row_form row)) l0 l5
row_behind row l0 l1 l2 l3 l4 l5 e1 a e3 e e5 =
    let tuple = in_brackets a.text in
    let last : List ℕ = 32 ∷ (e.text ++ []) in
    let inside = vector_text (map member_form row.tuple) a.text a.is in
    record {
      text = in_brackets (tuple ++ last);
      is = (tuple ++ last, (tuple, last, inside, (e.text, [], e.is, refl, refl), refl), refl);
      behind = simp (e5, e.behind, e3, a.behind, e1, append_assoc, append-nil);
    }
