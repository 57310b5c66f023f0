-- The lines of maps with one, two and three fields.
use Rattle.std.proofs.Common.{◌≡◌, ℕ, ◌+◌, ◌-◌, true, List, [], ◌∷◌, ◌++◌, map, length, length-append, take, refl, ap, ◌∙◌, sym, codes, arith}
use Rattle.std.specs.Prelude.{decimal}
use Rattle.std.proofs.lemmas.List.{append_assoc, append-nil}
use Rattle.std.proofs.Math.Seq.{take-append_seam}
use Rattle.edn_model.specs.Form as edn
use Rattle.edn_model.specs.Form.{Form, forms, pairs}
use Rattle.edn_model.specs.Canon.{Canon, CanonAll, CanonPairs}
use Rattle.edn_print.specs.Printed.{Appends}
use Rattle.edn_print.specs.Printable.{printable}
use Rattle.fb_values.specs.declared.facts.Datom.{Datom}
use Rattle.fb_values.specs.declared.facts.Entry.{Entry}
use Rattle.talk_model.specs.Replies.{number, vector, map_of, tempid_pair, datom_form, transaction_form, receipt, basis_reply, done_reply}
use Rattle.talk_model.specs.Replies.{datoms_reply, transactions_reply, pull_reply, with_reply, tuples_reply, row_form, refusal_reply}
use Rattle.talk_model.specs.Replies.{fault_reply, IsLineOf}
use Rattle.tuple_model.specs.Tuples.{Row}
use Rattle.with_model.specs.Chain.{TxReport}
use Rattle.fb_replies.specs.Faults.{place_text}

-- ---- fields

abbrev pub field_text : List ℕ → List ℕ → List ℕ → List ℕ
field_text k value rest = (58 ∷ k) ++ 32 ∷ (value ++ rest)

abbrev pub braces : List ℕ → List ℕ
braces inside = 123 ∷ (inside ++ 125 ∷ [])

pub one_field : (k : List ℕ) (v : Form) (t : List ℕ) → Canon v t → Canon (map_of ((k, v) ∷ [])) (braces (field_text k t []))
one_field k v t h = (field_text k t [], (58 ∷ k, t, [], refl, h, refl, refl), refl)

pub two_fields : (k l : List ℕ) (v w : Form) (t u : List ℕ) → Canon v t → Canon w u
    → Canon (map_of ((k, v) ∷ (l, w) ∷ [])) (braces (field_text k t (32 ∷ field_text l u [])))
two_fields k l v w t u h i = (
  field_text k t (32 ∷ field_text l u []),
  (58 ∷ k, t, 32 ∷ field_text l u [], refl, h, (58 ∷ l, u, [], refl, i, refl, refl), refl),
  refl,
)

pub three_fields : (k l m : List ℕ) (v w x : Form) (t u s : List ℕ) → Canon v t → Canon w u → Canon x s
    → Canon (map_of ((k, v) ∷ (l, w) ∷ (m, x) ∷ [])) (braces (field_text k t (32 ∷ field_text l u (32 ∷ field_text m s []))))
three_fields k l m v w x t u s h i j =
    let last = 32 ∷ field_text m s [] in
    let later = 32 ∷ field_text l u last in
    (field_text k t later, (58 ∷ k, t, later, refl, h, (58 ∷ l, u, last, refl, i, (58 ∷ m, s, [], refl, j, refl, refl), refl), refl), refl)

-- the text of a vector and of a map, from that of what is inside
abbrev pub in_brackets : List ℕ → List ℕ
in_brackets inside = 91 ∷ (inside ++ 93 ∷ [])

pub vector_text : (fs : List Form) (inside : List ℕ) → CanonAll (forms fs) inside → Canon (vector fs) (in_brackets inside)
vector_text fs inside h = (inside, h, refl)

pub map_text : (ps : List (Form × Form)) (inside : List ℕ) → CanonPairs (pairs ps) inside → Canon (edn.map (pairs ps)) (braces inside)
map_text ps inside h = (inside, h, refl)

-- ---- lines

-- what ends a line, behind its last number
number_ended : (n : List ℕ) → n ++ 125 ∷ 10 ∷ [] ≡ ((n ++ []) ++ 125 ∷ []) ++ 10 ∷ []
number_ended n =
    let grouped : n ++ 125 ∷ 10 ∷ [] ≡ (n ++ 125 ∷ []) ++ 10 ∷ [] = simp append_assoc in
    grouped ∙ ap (λ (z : List ℕ). (z ++ 125 ∷ []) ++ 10 ∷ []) (sym (append-nil n))

place_ended : (word at basis : List ℕ)
    → word ++ (codes " :at " ++ (at ++ (codes " :basis " ++ (basis ++ 125 ∷ 10 ∷ []))))
    ≡ ((word ++ (codes " :at " ++ (at ++ (codes " :basis " ++ (basis ++ []))))) ++ 125 ∷ []) ++ 10 ∷ []
place_ended word at basis =
    let grouped : word ++ (codes " :at " ++ (at ++ (codes " :basis " ++ (basis ++ 125 ∷ 10 ∷ []))))
    ≡ ((word ++ (codes " :at " ++ (at ++ (codes " :basis " ++ basis)))) ++ 125 ∷ []) ++ 10 ∷ [] =
    simp append_assoc in
    grouped
    ∙ ap (λ (z : List ℕ). ((word ++ (codes " :at " ++ (at ++ (codes " :basis " ++ z)))) ++ 125 ∷ []) ++ 10 ∷ []) (sym (append-nil basis))

-- of a number and of something else
abbrev pub numbered : List ℕ → ℕ → List ℕ → List ℕ → List ℕ
numbered k n l u = braces (field_text k (decimal n) (32 ∷ field_text l u []))

pub numbered_text : (k l : List ℕ) (n : ℕ) (w : Form) (u : List ℕ) → Canon w u
    → Canon (map_of ((k, number n) ∷ (l, w) ∷ [])) (numbered k n l u)
numbered_text k l n w u h = two_fields k l (number n) w (decimal n) u refl h

pub receipt_line : (t : ℕ) (tempids : List (List ℕ × ℕ)) (l0 l1 l2 l3 l4 : List ℕ) → l0 ≡ codes "{:t " → l1 ≡ l0 ++ decimal t
    → l2 ≡ l1 ++ codes " :tempids {" → Appends (CanonPairs (pairs (map tempid_pair tempids))) l2 l3 → l4 ≡ l3 ++ codes "}}\n"
    → IsLineOf (receipt t tempids) l4
receipt_line t tempids l0 l1 l2 l3 l4 e0 e1 e2 a e4 =
    let inside = map_text (map tempid_pair tempids) a.text a.is in (
      numbered (codes "t") t (codes "tempids") (braces a.text),
      numbered_text (codes "t") (codes "tempids") t (edn.map (pairs (map tempid_pair tempids))) (braces a.text) inside,
      simp (e4, a.behind, e2, e1, e0, append_assoc, append-nil),
    )

pub basis_line : (basis : ℕ) (l0 l1 l2 : List ℕ) → l0 ≡ codes "{:basis " → l1 ≡ l0 ++ decimal basis → l2 ≡ l1 ++ codes "}\n"
    → IsLineOf (basis_reply basis) l2
basis_line basis l0 l1 l2 e0 e1 e2 =
    let pieces : l2 ≡ (codes "{:basis " ++ decimal basis) ++ codes "}\n" = simp (e2, e1, e0) in (
      braces (field_text (codes "basis") (decimal basis) []),
      one_field (codes "basis") (number basis) (decimal basis) refl,
      pieces ∙ ap (λ (z : List ℕ). codes "{:basis " ++ z) (number_ended (decimal basis)),
    )

pub done_line : (basis : ℕ) (l0 l1 l2 : List ℕ) → l0 ≡ codes "{:ok true :basis " → l1 ≡ l0 ++ decimal basis → l2 ≡ l1 ++ codes "}\n"
    → IsLineOf (done_reply basis) l2
done_line basis l0 l1 l2 e0 e1 e2 =
    let pieces : l2 ≡ (codes "{:ok true :basis " ++ decimal basis) ++ codes "}\n" = simp (e2, e1, e0) in (
      braces (field_text (codes "ok") (codes "true") (32 ∷ field_text (codes "basis") (decimal basis) [])),
      two_fields (codes "ok") (codes "basis") (edn.boolean true) (number basis) (codes "true") (decimal basis) refl refl,
      pieces ∙ ap (λ (z : List ℕ). codes "{:ok true :basis " ++ z) (number_ended (decimal basis)),
    )

pub datoms_line : (basis : ℕ) (facts ds : List Datom) (l0 l1 l2 l3 l4 : List ℕ) → l0 ≡ codes "{:basis " → l1 ≡ l0 ++ decimal basis
    → l2 ≡ l1 ++ codes " :datoms [" → Appends (CanonAll (forms (map (datom_form facts) ds))) l2 l3 → l4 ≡ l3 ++ codes "]}\n"
    → IsLineOf (datoms_reply basis facts ds) l4
datoms_line basis facts ds l0 l1 l2 l3 l4 e0 e1 e2 a e4 =
    let inside = vector_text (map (datom_form facts) ds) a.text a.is in (
      numbered (codes "basis") basis (codes "datoms") (in_brackets a.text),
      numbered_text (codes "basis") (codes "datoms") basis (vector (map (datom_form facts) ds)) (in_brackets a.text) inside,
      simp (e4, a.behind, e2, e1, e0, append_assoc, append-nil),
    )

pub transactions_line : (basis : ℕ) (facts : List Datom) (entries : List Entry) (l0 l1 l2 l3 l4 : List ℕ) → l0 ≡ codes "{:basis "
    → l1 ≡ l0 ++ decimal basis → l2 ≡ l1 ++ codes " :txs [" → Appends (CanonAll (forms (map (transaction_form facts) entries))) l2 l3
    → l4 ≡ l3 ++ codes "]}\n" → IsLineOf (transactions_reply basis facts entries) l4
transactions_line basis facts entries l0 l1 l2 l3 l4 e0 e1 e2 a e4 =
    let inside = vector_text (map (transaction_form facts) entries) a.text a.is in (
      numbered (codes "basis") basis (codes "txs") (in_brackets a.text),
      numbered_text (codes "basis") (codes "txs") basis (vector (map (transaction_form facts) entries)) (in_brackets a.text) inside,
      simp (e4, a.behind, e2, e1, e0, append_assoc, append-nil),
    )

pub tuples_line : (basis : ℕ) (rows : List Row) (l0 l1 l2 l3 l4 : List ℕ) → l0 ≡ codes "{:basis " → l1 ≡ l0 ++ decimal basis
    → l2 ≡ l1 ++ codes " :tuples [" → Appends (CanonAll (forms (map row_form rows))) l2 l3 → l4 ≡ l3 ++ codes "]}\n"
    → IsLineOf (tuples_reply basis rows) l4
tuples_line basis rows l0 l1 l2 l3 l4 e0 e1 e2 a e4 =
    let inside = vector_text (map row_form rows) a.text a.is in (
      numbered (codes "basis") basis (codes "tuples") (in_brackets a.text),
      numbered_text (codes "basis") (codes "tuples") basis (vector (map row_form rows)) (in_brackets a.text) inside,
      simp (e4, a.behind, e2, e1, e0, append_assoc, append-nil),
    )

pub pull_line : (basis : ℕ) (tree : Form) (l0 l1 l2 l3 l4 : List ℕ) → l0 ≡ codes "{:basis " → l1 ≡ l0 ++ decimal basis
    → l2 ≡ l1 ++ codes " :pull "
    → Appends (Canon (printable tree)) l2 l3 → l4 ≡ l3 ++ codes "}\n" → IsLineOf (pull_reply basis tree) l4
pull_line basis tree l0 l1 l2 l3 l4 e0 e1 e2 a e4 = (
  numbered (codes "basis") basis (codes "pull") a.text,
  numbered_text (codes "basis") (codes "pull") basis (printable tree) a.text a.is,
  simp (e4, a.behind, e2, e1, e0, append_assoc, append-nil),
)

-- of a line all but its line feed
line_taken : (text : List ℕ) → take (length (text ++ 10 ∷ []) - 1) (text ++ 10 ∷ []) ≡ text
line_taken text =
    let one : length (text ++ 10 ∷ []) ≡ length text + 1 = length-append text (10 ∷ []) in
    let all : length (text ++ 10 ∷ []) - 1 ≡ length text = omega (arith, one) in
    ap (λ (n : ℕ). take n (text ++ 10 ∷ [])) all ∙ take-append_seam text (10 ∷ [])

pub with_line : (basis : ℕ) (reports : List TxReport) (reply : Form) (shown : List ℕ) (l0 l1 l2 l3 l4 l5 l6 : List ℕ)
    → l0 ≡ codes "{:basis "
    → l1 ≡ l0 ++ decimal basis → l2 ≡ l1 ++ codes " :with ["
    → Appends (CanonAll (forms (map (λ (one : TxReport). receipt one.t one.tempids) reports))) l2 l3 → l4 ≡ l3 ++ codes "] :reply "
    → l5 ≡ l4 ++ take (length shown - 1) shown → l6 ≡ l5 ++ codes "}\n" → IsLineOf reply shown
    → IsLineOf (with_reply basis reports reply) l6
with_line basis reports reply shown l0 l1 l2 l3 l4 l5 l6 e0 e1 e2 a e4 e5 e6 says =
    let each : List Form = map (λ (one : TxReport). receipt one.t one.tempids) reports in
    let inside = vector_text each a.text a.is in
    let text : take (length shown - 1) shown ≡ says.0 =
    ap (λ (l : List ℕ). take (length l - 1) l) says.2 ∙ line_taken says.0 in
    let last : l5 ≡ l4 ++ says.0 = e5 ∙ ap (λ (t : List ℕ). l4 ++ t) text in (
      braces (field_text (codes "basis") (decimal basis) (32 ∷ field_text (codes "with") (in_brackets a.text) (32 ∷ field_text
          (codes "reply") says.0 []))),
      three_fields (codes "basis") (codes "with") (codes "reply") (number basis) (vector each) reply (decimal basis)
          (in_brackets a.text) says.0 refl inside says.1,
      simp (e6, last, e4, a.behind, e2, e1, e0, append_assoc, append-nil),
    )

-- of a keyword and two numbers
abbrev placed : List ℕ → List ℕ → ℕ → ℕ → List ℕ
placed k word at basis =
    braces (field_text k (58 ∷ word) (32 ∷ field_text (codes "at") (decimal at) (32 ∷ field_text (codes "basis") (decimal basis) [])))

placed_text : (k word : List ℕ) (at basis : ℕ)
    → Canon (map_of ((k, edn.keyword word) ∷ (codes "at", number at) ∷ (codes "basis", number basis) ∷ [])) (placed k word at basis)
placed_text k word at basis =
    three_fields k (codes "at") (codes "basis") (edn.keyword word) (number at) (number basis) (58 ∷ word) (decimal at)
    (decimal basis) refl refl refl

pub refusal_line : (word : List ℕ) (at basis : ℕ) (l0 l1 l2 : List ℕ) → l0 ≡ codes "{:refused :" → l1 ≡ l0 ++ word
    → l2 ≡ l1 ++ place_text at basis → IsLineOf (refusal_reply word at basis) l2
refusal_line word at basis l0 l1 l2 e0 e1 e2 =
    let pieces : l2 ≡ (codes "{:refused :" ++ word) ++ place_text at basis = simp (e2, e1, e0) in (
      placed (codes "refused") word at basis,
      placed_text (codes "refused") word at basis,
      pieces ∙ ap (λ (z : List ℕ). codes "{:refused :" ++ z) (place_ended word (decimal at) (decimal basis)),
    )

pub fault_line : (word : List ℕ) (at basis : ℕ) (l0 l1 l2 : List ℕ) → l0 ≡ codes "{:fault :" → l1 ≡ l0 ++ word
    → l2 ≡ l1 ++ place_text at basis → IsLineOf (fault_reply word at basis) l2
fault_line word at basis l0 l1 l2 e0 e1 e2 =
    let pieces : l2 ≡ (codes "{:fault :" ++ word) ++ place_text at basis = simp (e2, e1, e0) in (
      placed (codes "fault") word at basis,
      placed_text (codes "fault") word at basis,
      pieces ∙ ap (λ (z : List ℕ). codes "{:fault :" ++ z) (place_ended word (decimal at) (decimal basis)),
    )
