-- The canonical text of a form without instants, computed.
use Rattle.std.proofs.Common.{◌≡◌, ℕ, Bool, true, false, ◌&&◌, List, [], ◌∷◌, ◌++◌, refl, sym}
use Rattle.std.specs.Prelude.{if◌then◌else◌, codes}
use Rattle.std.proofs.lemmas.Bool.{true≢false, and_parts}
use Rattle.std.specs.Fmt.{signed_decimal}
use Rattle.std.specs.Int.{w128, to_be_bytes}
use Rattle.uuid.specs.Text.{lower, hyphenated_text}
use Rattle.edn_model.specs.Form as form
use Rattle.edn_model.specs.Bytes.{hash, open_paren, close_paren, colon, open_bracket, close_bracket, open_brace, close_brace}
use Rattle.edn_model.specs.Canon.{string_text, Canon, CanonAll, CanonRest, CanonPairs, CanonRestPairs}
use Rattle.talk_model.specs.Replies.{line_feed, IsLineOf}

abbrev mutual
  pub text : form.Form → List ℕ
  text form.nil = codes "nil"
  text (form.boolean b) = if b then codes "true" else codes "false"
  text (form.integer z) = signed_decimal z
  text (form.string s) = string_text s
  text (form.symbol s) = s
  text (form.keyword k) = colon ∷ k
  text (form.list fs) = open_paren ∷ (text_all fs ++ close_paren ∷ [])
  text (form.vector fs) = open_bracket ∷ (text_all fs ++ close_bracket ∷ [])
  text (form.map ps) = open_brace ∷ (text_pairs ps ++ close_brace ∷ [])
  text (form.set fs) = hash ∷ open_brace ∷ (text_all fs ++ close_brace ∷ [])
  text (form.instant z) = []
  text (form.uuid n) = codes "#uuid " ++ string_text (hyphenated_text lower (to_be_bytes w128 n))

  pub text_all : form.Forms → List ℕ
  text_all form.no_forms = []
  text_all (form.form f fs) = text f ++ text_rest fs

  pub text_rest : form.Forms → List ℕ
  text_rest form.no_forms = []
  text_rest (form.form f fs) = 32 ∷ (text f ++ text_rest fs)

  pub text_pairs : form.Pairs → List ℕ
  text_pairs form.no_pairs = []
  text_pairs (form.pair k v ps) = text k ++ 32 ∷ (text v ++ text_later ps)

  pub text_later : form.Pairs → List ℕ
  text_later form.no_pairs = []
  text_later (form.pair k v ps) = 32 ∷ (text k ++ 32 ∷ (text v ++ text_later ps))

-- no instant stands in it
abbrev mutual
  pub is_plain : form.Form → Bool
  is_plain (form.list fs) = are_plain fs
  is_plain (form.vector fs) = are_plain fs
  is_plain (form.map ps) = are_plain_pairs ps
  is_plain (form.set fs) = are_plain fs
  is_plain (form.instant z) = false
  is_plain f = true

  pub are_plain : form.Forms → Bool
  are_plain form.no_forms = true
  are_plain (form.form f fs) = is_plain f && are_plain fs

  pub are_plain_pairs : form.Pairs → Bool
  are_plain_pairs form.no_pairs = true
  are_plain_pairs (form.pair k v ps) = is_plain k && (is_plain v && are_plain_pairs ps)

mutual
  pub text-Canon : (f : form.Form) → is_plain f ≡ true → Canon f (text f)
  text-Canon form.nil p = refl
  text-Canon (form.boolean b) p = refl
  text-Canon (form.integer z) p = refl
  text-Canon (form.string s) p = refl
  text-Canon (form.symbol s) p = refl
  text-Canon (form.keyword k) p = refl
  text-Canon (form.list fs) p = (text_all fs, all-Canon fs p, refl)
  text-Canon (form.vector fs) p = (text_all fs, all-Canon fs p, refl)
  text-Canon (form.map ps) p = (text_pairs ps, pairs-Canon ps p, refl)
  text-Canon (form.set fs) p = (text_all fs, all-Canon fs p, refl)
  text-Canon (form.instant z) p = absurd (true≢false (sym p))
  text-Canon (form.uuid n) p = refl

  all-Canon : (fs : form.Forms) → are_plain fs ≡ true → CanonAll fs (text_all fs)
  all-Canon form.no_forms p = refl
  all-Canon (form.form f fs) p =
      let parts = and_parts (is_plain f) (are_plain fs) p in (text f, text_rest fs, text-Canon f parts.0, rest-Canon fs parts.1, refl)

  rest-Canon : (fs : form.Forms) → are_plain fs ≡ true → CanonRest fs (text_rest fs)
  rest-Canon form.no_forms p = refl
  rest-Canon (form.form f fs) p =
      let parts = and_parts (is_plain f) (are_plain fs) p in (text f, text_rest fs, text-Canon f parts.0, rest-Canon fs parts.1, refl)

  pairs-Canon : (ps : form.Pairs) → are_plain_pairs ps ≡ true → CanonPairs ps (text_pairs ps)
  pairs-Canon form.no_pairs p = refl
  pairs-Canon (form.pair k v ps) p =
      let parts = and_parts (is_plain k) (is_plain v && are_plain_pairs ps) p in
      let behind = and_parts (is_plain v) (are_plain_pairs ps) parts.1 in
      (text k, text v, text_later ps, text-Canon k parts.0, text-Canon v behind.0, later-Canon ps behind.1, refl)

  later-Canon : (ps : form.Pairs) → are_plain_pairs ps ≡ true → CanonRestPairs ps (text_later ps)
  later-Canon form.no_pairs p = refl
  later-Canon (form.pair k v ps) p =
      let parts = and_parts (is_plain k) (is_plain v && are_plain_pairs ps) p in
      let behind = and_parts (is_plain v) (are_plain_pairs ps) parts.1 in
      (text k, text v, text_later ps, text-Canon k parts.0, text-Canon v behind.0, later-Canon ps behind.1, refl)

pub line : (f : form.Form) (bytes : List ℕ) → is_plain f ≡ true → bytes ≡ text f ++ line_feed ∷ [] → IsLineOf f bytes
line f bytes plain is = (text f, text-Canon f plain, is)
