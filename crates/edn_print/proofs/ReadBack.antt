-- The canonical text of a form that a reader can give is a text of it.
use Rattle.std.proofs.Common.{◌≡◌, ℕ, zero, suc, ◌+◌, ◌-◌, ◌<◌, List, [], ◌∷◌, ◌++◌, length, length-append, drop, refl, ap, ◌∙◌, sym, subst}
use Rattle.std.proofs.Common.{arith}
use Rattle.std.proofs.lemmas.List.{append_assoc, append-nil}
use Rattle.edn_model.specs.Form as form
use Rattle.edn_model.specs.Bytes.{open_paren, close_paren, open_bracket, close_bracket, open_brace, close_brace, hash, TokenEnds}
use Rattle.edn_model.specs.Readable.{IsReadable, AreReadable, ArePairsReadable}
use Rattle.edn_model.specs.Canon.{Canon, CanonAll, CanonRest, CanonPairs, CanonRestPairs}
use Rattle.edn_model.specs.Grammar.{Gap, no_gap, blank, Text, list, vector, map, set, Members, no_members, member, Entries, no_entries}
use Rattle.edn_model.specs.Grammar.{entry, FormAt, max_depth}
use Rattle.edn_model.proofs.CanonText.{string_text_is, nil_text_is, boolean_text_is, symbol_text_is, keyword_text_is}
use Rattle.edn_model.proofs.Numerals.{integer_text_is}
use Rattle.edn_model.proofs.OnePlace.{text_not_empty}
use Rattle.edn_print.proofs.Tags.{instant_text_is, uuid_text_is}

lowered : (depth : ℕ) → suc depth - 1 ≡ depth
lowered depth = omega arith

-- what stands behind some members
behind : (bytes text after rest : List ℕ) → bytes ≡ text ++ after → bytes ++ rest ≡ text ++ (after ++ rest)
behind bytes text after rest e = ap (λ (z : List ℕ). z ++ rest) e ∙ append_assoc text after rest

rest_ends : (fs : form.Forms) (bytes rest : List ℕ) → CanonRest fs bytes → TokenEnds rest → TokenEnds (bytes ++ rest)
rest_ends form.no_forms bytes rest e ends = subst (λ (z : List ℕ). TokenEnds (z ++ rest)) (sym e) ends
rest_ends (form.form f fs) bytes rest c ends = subst (λ (z : List ℕ). TokenEnds (z ++ rest)) (sym c.4) refl

pairs_end : (ps : form.Pairs) (bytes rest : List ℕ) → CanonRestPairs ps bytes → TokenEnds rest → TokenEnds (bytes ++ rest)
pairs_end form.no_pairs bytes rest e ends = subst (λ (z : List ℕ). TokenEnds (z ++ rest)) (sym e) ends
pairs_end (form.pair k v ps) bytes rest c ends = subst (λ (z : List ℕ). TokenEnds (z ++ rest)) (sym c.6) refl

pair_behind : (bytes key value after rest : List ℕ) → bytes ≡ key ++ 32 ∷ (value ++ after)
    → bytes ++ rest ≡ key ++ 32 ∷ (value ++ (after ++ rest))
pair_behind bytes key value after rest e =
    behind bytes key (32 ∷ (value ++ after)) rest e ∙ ap (λ (z : List ℕ). key ++ 32 ∷ z) (append_assoc value after rest)

one_space : (depth : ℕ) (at : List ℕ) → Gap depth (32 ∷ at) at
one_space depth at = blank refl no_gap

mutual
  pub text_is : (depth : ℕ) (f : form.Form) (bytes rest : List ℕ) → IsReadable depth f → Canon f bytes → TokenEnds rest
      → Text depth f (bytes ++ rest) rest
  text_is depth form.nil bytes rest h e ends = nil_text_is depth bytes rest e ends
  text_is depth (form.boolean b) bytes rest h e ends = boolean_text_is depth b bytes rest e ends
  text_is depth (form.integer z) bytes rest h e ends = integer_text_is depth z bytes rest h e ends
  text_is depth (form.string s) bytes rest h e ends = string_text_is depth s bytes rest h e
  text_is depth (form.symbol s) bytes rest h e ends = symbol_text_is depth s bytes rest h e ends
  text_is depth (form.keyword k) bytes rest h e ends = keyword_text_is depth k bytes rest h e ends
  text_is zero (form.list fs) bytes rest h e ends = absurd (let some = h.0 in omega arith)
  text_is (suc depth) (form.list fs) bytes rest h e ends =
      let inside = members_are depth fs e.0 (close_paren ∷ rest) (subst (λ d. AreReadable d fs) (lowered depth) h.1) e.1 refl in
      list (behind bytes (open_paren ∷ e.0) (close_paren ∷ []) rest e.2) inside
  text_is zero (form.vector fs) bytes rest h e ends = absurd (let some = h.0 in omega arith)
  text_is (suc depth) (form.vector fs) bytes rest h e ends =
      let inside = members_are depth fs e.0 (close_bracket ∷ rest) (subst (λ d. AreReadable d fs) (lowered depth) h.1) e.1 refl in
      vector (behind bytes (open_bracket ∷ e.0) (close_bracket ∷ []) rest e.2) inside
  text_is zero (form.map ps) bytes rest h e ends = absurd (let some = h.0 in omega arith)
  text_is (suc depth) (form.map ps) bytes rest h e ends =
      let inside = entries_are depth ps e.0 (close_brace ∷ rest) (subst (λ d. ArePairsReadable d ps) (lowered depth) h.1) e.1 refl in
      map (behind bytes (open_brace ∷ e.0) (close_brace ∷ []) rest e.2) inside h.2
  text_is zero (form.set fs) bytes rest h e ends = absurd (let some = h.0 in omega arith)
  text_is (suc depth) (form.set fs) bytes rest h e ends =
      let inside = members_are depth fs e.0 (close_brace ∷ rest) (subst (λ d. AreReadable d fs) (lowered depth) h.1) e.1 refl in
      set (behind bytes (hash ∷ open_brace ∷ e.0) (close_brace ∷ []) rest e.2) inside h.2
  text_is depth (form.instant z) bytes rest h e ends = instant_text_is depth z e.0 bytes rest h e.1 e.2
  text_is depth (form.uuid n) bytes rest h e ends = uuid_text_is depth n bytes rest h e

  members_are : (depth : ℕ) (fs : form.Forms) (bytes rest : List ℕ) → AreReadable depth fs → CanonAll fs bytes → TokenEnds rest
      → Members depth fs (bytes ++ rest) rest
  members_are depth form.no_forms bytes rest h e ends =
      subst (λ (z : List ℕ). Members depth form.no_forms (z ++ rest) rest) (sym e) (no_members no_gap)
  members_are depth (form.form f fs) bytes rest h c ends =
      let first = text_is depth f c.0 (c.1 ++ rest) h.0 c.2 (rest_ends fs c.1 rest c.3 ends) in
      subst (λ (z : List ℕ). Members depth (form.form f fs) z rest) (sym (behind bytes c.0 c.1 rest c.4))
      (member no_gap first (others_are depth fs c.1 rest h.1 c.3 ends))

  others_are : (depth : ℕ) (fs : form.Forms) (bytes rest : List ℕ) → AreReadable depth fs → CanonRest fs bytes → TokenEnds rest
      → Members depth fs (bytes ++ rest) rest
  others_are depth form.no_forms bytes rest h e ends =
      subst (λ (z : List ℕ). Members depth form.no_forms (z ++ rest) rest) (sym e) (no_members no_gap)
  others_are depth (form.form f fs) bytes rest h c ends =
      let first = text_is depth f c.0 (c.1 ++ rest) h.0 c.2 (rest_ends fs c.1 rest c.3 ends) in
      subst (λ (z : List ℕ). Members depth (form.form f fs) z rest) (sym (behind bytes (32 ∷ c.0) c.1 rest c.4))
      (member (one_space depth (c.0 ++ (c.1 ++ rest))) first (others_are depth fs c.1 rest h.1 c.3 ends))

  entries_are : (depth : ℕ) (ps : form.Pairs) (bytes rest : List ℕ) → ArePairsReadable depth ps → CanonPairs ps bytes → TokenEnds rest
      → Entries depth ps (bytes ++ rest) rest
  entries_are depth form.no_pairs bytes rest h e ends =
      subst (λ (z : List ℕ). Entries depth form.no_pairs (z ++ rest) rest) (sym e) (no_entries no_gap)
  entries_are depth (form.pair k v ps) bytes rest h c ends =
      let key = text_is depth k c.0 (32 ∷ (c.1 ++ (c.2 ++ rest))) h.0 c.3 refl in
      let value = text_is depth v c.1 (c.2 ++ rest) h.1 c.4 (pairs_end ps c.2 rest c.5 ends) in
      subst (λ (z : List ℕ). Entries depth (form.pair k v ps) z rest) (sym (pair_behind bytes c.0 c.1 c.2 rest c.6))
      (entry no_gap key (one_space depth (c.1 ++ (c.2 ++ rest))) value (later_are depth ps c.2 rest h.2 c.5 ends))

  later_are : (depth : ℕ) (ps : form.Pairs) (bytes rest : List ℕ) → ArePairsReadable depth ps → CanonRestPairs ps bytes → TokenEnds rest
      → Entries depth ps (bytes ++ rest) rest
  later_are depth form.no_pairs bytes rest h e ends =
      subst (λ (z : List ℕ). Entries depth form.no_pairs (z ++ rest) rest) (sym e) (no_entries no_gap)
  later_are depth (form.pair k v ps) bytes rest h c ends =
      let key = text_is depth k c.0 (32 ∷ (c.1 ++ (c.2 ++ rest))) h.0 c.3 refl in
      let value = text_is depth v c.1 (c.2 ++ rest) h.1 c.4 (pairs_end ps c.2 rest c.5 ends) in
      subst (λ (z : List ℕ). Entries depth (form.pair k v ps) z rest) (sym (pair_behind bytes (32 ∷ c.0) c.1 c.2 rest c.6))
      (entry (one_space depth (c.0 ++ 32 ∷ (c.1 ++ (c.2 ++ rest)))) key (one_space depth (c.1 ++ (c.2 ++ rest))) value
      (later_are depth ps c.2 rest h.2 c.5 ends))

-- ---- where it stands

not_empty : (depth : ℕ) (f : form.Form) (text : List ℕ) → IsReadable depth f → Canon f text → text ≡ [] → ⊥
not_empty depth f text h e none = text_not_empty (text_is depth f text [] h e refl) (append-nil text ∙ none)

some_bytes : (bytes : List ℕ) → (bytes ≡ [] → ⊥) → 0 < length bytes
some_bytes [] h = absurd (h refl)
some_bytes (b ∷ bytes) h = omega arith

-- what stands behind so many bytes
skipped : (before rest : List ℕ) → drop (length before) (before ++ rest) ≡ rest
skipped [] rest = refl
skipped (b ∷ before) rest = skipped before rest

pub stands : (f : form.Form) (before text rest : List ℕ) → IsReadable max_depth f → Canon f text → TokenEnds rest
    → FormAt (before ++ (text ++ rest)) (length before) f (length before + length text)
stands f before text rest h e ends =
    let some = some_bytes text (not_empty max_depth f text h e) in
    let all : length (before ++ (text ++ rest)) ≡ length before + (length text + length rest) =
    length-append before (text ++ rest) ∙ ap (λ n. length before + n) (length-append text rest) in
    let behind : drop (length before + length text) (before ++ (text ++ rest)) ≡ rest =
    ap (λ n. drop n (before ++ (text ++ rest))) (sym (length-append before text))
    ∙ ap (λ (z : List ℕ). drop (length (before ++ text)) z) (sym (append_assoc before text rest))
    ∙ skipped (before ++ text) rest in
    record {
      order = (omega arith, omega arith);
      start = text ++ rest;
      before = subst (λ (z : List ℕ). Gap max_depth z (text ++ rest)) (sym (skipped before (text ++ rest))) no_gap;
      text = subst (λ (z : List ℕ). Text max_depth f (text ++ rest) z) (sym behind) (text_is max_depth f text rest h e ends);
    }
