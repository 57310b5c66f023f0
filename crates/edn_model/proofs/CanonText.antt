-- The canonical text of a token is a text of it.
use Rattle.std.proofs.Common.{◌≡◌, ℕ, Bool, true, false, List, [], ◌∷◌, ◌++◌, flat_map, refl, ap, sym, subst, arith, inl, inr}
use Rattle.std.proofs.lemmas.Bool.{cases_Bool}
use Rattle.std.proofs.lemmas.Bool.Decides.{nat_tests}
use Rattle.std.proofs.lemmas.List.{append_assoc}
use Rattle.std.specs.Prelude.{◌==◌, not, if◌then◌else◌}
use Rattle.std.specs.Str.{IsUtf8}
use Rattle.edn_model.specs.Form as form
use Rattle.edn_model.specs.Bytes.{quote, backslash, is_plain, TokenEnds}
use Rattle.edn_model.specs.Tokens.{IsAtom, IsSymbol, IsKeyword, Spells, nothing, plain, escape, StringAt}
use Rattle.edn_model.specs.Grammar.{Text, atom, string}
use Rattle.edn_model.specs.Canon.{escaped, string_text, Canon}
use Rattle.edn_model.proofs.Runs.{both_true}

-- ---- strings

is_byte : (b c : ℕ) → (b == c) ≡ true → c ≡ b
is_byte b c h = grind (arith, nat_tests)

none_of_five : (p q r s t : Bool) (v w x y z u : List ℕ) → p ≡ false → q ≡ false → r ≡ false → s ≡ false → t ≡ false
    → (if p then v else (if q then w else (if r then x else (if s then y else (if t then z else u))))) ≡ u
none_of_five true q r s t v w x y z u hp hq hr hs ht = cc
none_of_five false true r s t v w x y z u hp hq hr hs ht = cc
none_of_five false false true s t v w x y z u hp hq hr hs ht = cc
none_of_five false false false true t v w x y z u hp hq hr hs ht = cc
none_of_five false false false false true v w x y z u hp hq hr hs ht = cc
none_of_five false false false false false v w x y z u hp hq hr hs ht = refl

tab_spells : (tail text rest : List ℕ) → Spells tail text rest → Spells (escaped 9 ++ tail) (9 ∷ text) rest
tab_spells tail text rest h = escape refl refl h

feed_spells : (tail text rest : List ℕ) → Spells tail text rest → Spells (escaped 10 ++ tail) (10 ∷ text) rest
feed_spells tail text rest h = escape refl refl h

return_spells : (tail text rest : List ℕ) → Spells tail text rest → Spells (escaped 13 ++ tail) (13 ∷ text) rest
return_spells tail text rest h = escape refl refl h

quote_spells : (tail text rest : List ℕ) → Spells tail text rest → Spells (escaped 34 ++ tail) (34 ∷ text) rest
quote_spells tail text rest h = escape refl refl h

backslash_spells : (tail text rest : List ℕ) → Spells tail text rest → Spells (escaped 92 ++ tail) (92 ∷ text) rest
backslash_spells tail text rest h = escape refl refl h

plain_spells : (b : ℕ) (tail text rest : List ℕ) → (b == 9) ≡ false → (b == 10) ≡ false → (b == 13) ≡ false → (b == quote) ≡ false
    → (b == backslash) ≡ false
    → Spells tail text rest → Spells (escaped b ++ tail) (b ∷ text) rest
plain_spells b tail text rest p q r s t h =
    let alone : escaped b ≡ b ∷ [] =
    none_of_five (b == 9) (b == 10) (b == 13) (b == quote) (b == backslash) (backslash ∷ 116 ∷ []) (backslash ∷ 110 ∷ [])
    (backslash ∷ 114 ∷ []) (backslash ∷ quote ∷ []) (backslash ∷ backslash ∷ []) (b ∷ []) p q r s t in
    let itself : is_plain b ≡ true = both_true (not (b == quote)) (not (b == backslash)) (ap not s) (ap not t) in
    let family : List ℕ → Type 0 = λ z. Spells (z ++ tail) (b ∷ text) rest in
    subst family (sym alone) (plain itself h)

byte_spells : (b : ℕ) (tail text rest : List ℕ) → Spells tail text rest → Spells (escaped b ++ tail) (b ∷ text) rest
byte_spells b tail text rest h =
    let family : ℕ → Type 0 = λ z. Spells (escaped z ++ tail) (z ∷ text) rest in
    elim (cases_Bool (b == 9)) [
      | inl e ↦ subst family (is_byte b 9 e) (tab_spells tail text rest h)
      | inr p ↦ elim (cases_Bool (b == 10)) [
        | inl e ↦ subst family (is_byte b 10 e) (feed_spells tail text rest h)
        | inr q ↦ elim (cases_Bool (b == 13)) [
          | inl e ↦ subst family (is_byte b 13 e) (return_spells tail text rest h)
          | inr r ↦ elim (cases_Bool (b == quote)) [
            | inl e ↦ subst family (is_byte b quote e) (quote_spells tail text rest h)
            | inr s ↦ elim (cases_Bool (b == backslash)) [
              | inl e ↦ subst family (is_byte b backslash e) (backslash_spells tail text rest h)
              | inr t ↦ plain_spells b tail text rest p q r s t h
            ]
          ]
        ]
      ]
    ]

pub escaped_spells : (s rest : List ℕ) → Spells (flat_map escaped s ++ quote ∷ rest) s (quote ∷ rest)
escaped_spells [] rest = nothing
escaped_spells (b ∷ s) rest =
    let family : List ℕ → Type 0 = λ z. Spells z (b ∷ s) (quote ∷ rest) in
    subst family (sym (append_assoc (escaped b) (flat_map escaped s) (quote ∷ rest)))
    (byte_spells b (flat_map escaped s ++ quote ∷ rest) s (quote ∷ rest) (escaped_spells s rest))

pub string_stands : (s rest : List ℕ) → IsUtf8 s → StringAt s (string_text s ++ rest) rest
string_stands s rest utf8 = record {
  inside = flat_map escaped s ++ quote ∷ rest;
  opens = ap (λ (z : List ℕ). quote ∷ z) (append_assoc (flat_map escaped s) (quote ∷ []) rest);
  spells = escaped_spells s rest;
  utf8 = utf8;
}

-- ---- tokens

pub string_text_is : (depth : ℕ) (s bytes rest : List ℕ) → IsUtf8 s → Canon (form.string s) bytes
    → Text depth (form.string s) (bytes ++ rest) rest
string_text_is depth s bytes rest utf8 e =
    let family : List ℕ → Type 0 = λ z. Text depth (form.string s) (z ++ rest) rest in
    subst family (sym e) (string (string_stands s rest utf8))

atom_text_is : (depth : ℕ) (f : form.Form) (bytes rest : List ℕ) → IsAtom f bytes → TokenEnds rest → Text depth f (bytes ++ rest) rest
atom_text_is depth f bytes rest h ends = atom bytes h refl ends

pub nil_text_is : (depth : ℕ) (bytes rest : List ℕ) → Canon form.nil bytes → TokenEnds rest → Text depth form.nil (bytes ++ rest) rest
nil_text_is depth bytes rest e ends = atom_text_is depth form.nil bytes rest e ends

pub boolean_text_is : (depth : ℕ) (b : Bool) (bytes rest : List ℕ) → Canon (form.boolean b) bytes → TokenEnds rest
    → Text depth (form.boolean b) (bytes ++ rest) rest
boolean_text_is depth b bytes rest e ends = atom_text_is depth (form.boolean b) bytes rest e ends

pub symbol_text_is : (depth : ℕ) (s bytes rest : List ℕ) → IsSymbol s → Canon (form.symbol s) bytes → TokenEnds rest
    → Text depth (form.symbol s) (bytes ++ rest) rest
symbol_text_is depth s bytes rest h e ends = atom_text_is depth (form.symbol s) bytes rest (e, h) ends

pub keyword_text_is : (depth : ℕ) (k bytes rest : List ℕ) → IsKeyword k → Canon (form.keyword k) bytes → TokenEnds rest
    → Text depth (form.keyword k) (bytes ++ rest) rest
keyword_text_is depth k bytes rest h e ends = atom_text_is depth (form.keyword k) bytes rest (e, h) ends
