-- Values that are read where they were written, and the other way round.
use Rattle.std.proofs.Common.{◌≡◌, ◌≤◌, ℕ, zero, suc, Bool, true, List, [], ◌∷◌, ◌++◌, refl, sym, ◌∙◌, ap, subst, arith}
use Rattle.std.specs.Prelude.{nat_le, nat_eq}
use Rattle.std.proofs.lemmas.Bool.{and_parts, and_from, cond_both, leb-true}
use Rattle.fb_values.specs.declared.facts.Value.{Value}
use Rattle.fb_values.specs.declared.facts.Value.TheVariants.{Keyword, Str, Bool as Boolean, Long, Ref, Instant, Uuid, Symbol, Uri}
use Rattle.fb_model.specs.Words.{is_keyword_text, is_symbol_text}
use Rattle.log_model.specs.Fields.{mapped, that_fits, read_u8, read_u64, u64_bytes, read_u128, u128_bytes, read_i64, i64_bytes, read_truth}
use Rattle.log_model.specs.Fields.{truth_bytes, read_text, text_bytes}
use Rattle.log_model.specs.Values.{tag_of, content_bytes, value_bytes, is_any, last_tag, is_tag, read_content, read_value}
use Rattle.log_model.specs.Storable.{is_storable_text, is_storable_content, is_storable_value}
use Rattle.log_model.proofs.Numbers.{AreBytes}
use Rattle.log_model.proofs.Fields.{Reads, Reads-then, Reads-mapped, Reads-that_fits, Reads-u8, Reads-u64, Reads-u128, Reads-i64}
use Rattle.log_model.proofs.Fields.{Reads-truth, Reads-text, IsFound, Wrote, then-found, mapped-found, fits-found, Wrote-u8, Wrote-u64}
use Rattle.log_model.proofs.Fields.{Wrote-u128, Wrote-i64, Wrote-truth, Wrote-text}

Reads-content : (v : Value) → is_storable_content v ≡ true → Reads (read_content (tag_of v)) v (content_bytes v)
Reads-content (Keyword text) fits =
    Reads-mapped Keyword (read_text is_keyword_text) text (text_bytes text) (Reads-text is_keyword_text text fits)
Reads-content (Str text) fits = Reads-mapped Str (read_text is_any) text (text_bytes text) (Reads-text is_any text fits)
Reads-content (Boolean b) fits = Reads-mapped Boolean read_truth b (truth_bytes b) (Reads-truth b)
Reads-content (Long n) fits = Reads-mapped Long read_i64 n (i64_bytes n) (Reads-i64 n fits)
Reads-content (Ref e) fits = Reads-mapped Ref read_u64 e (u64_bytes e) (Reads-u64 e fits)
Reads-content (Instant n) fits = Reads-mapped Instant read_i64 n (i64_bytes n) (Reads-i64 n fits)
Reads-content (Uuid n) fits = Reads-mapped Uuid read_u128 n (u128_bytes n) (Reads-u128 n fits)
Reads-content (Symbol text) fits =
    Reads-mapped Symbol (read_text is_symbol_text) text (text_bytes text) (Reads-text is_symbol_text text fits)
Reads-content (Uri text) fits = Reads-mapped Uri (read_text is_any) text (text_bytes text) (Reads-text is_any text fits)

pub Reads-value : (format : ℕ) (v : Value) → is_storable_value format v ≡ true → Reads (read_value format) v (value_bytes v)
Reads-value format v fits =
    let parts = and_parts (is_tag format (tag_of v)) (is_storable_content v) fits in
    Reads-then (that_fits (is_tag format) read_u8) read_content (tag_of v) v (tag_of v ∷ []) (content_bytes v)
    (Reads-that_fits (is_tag format) read_u8 (tag_of v) (tag_of v ∷ []) parts.0 (Reads-u8 (tag_of v)))
    (Reads-content v parts.1)

-- a value of this tag, with its content
record IsContent (tag : ℕ) (bytes : List ℕ) (v : Value) (rest : List ℕ) : Type 0 where
  tag_is : tag_of v ≡ tag
  bytes_are : bytes ≡ content_bytes v ++ rest
  storable : is_storable_content v ≡ true

module _ (bytes : List ℕ) (v : Value) (rest : List ℕ) (are : AreBytes bytes) where
  -- behind each tag
  text_content : (tag : ℕ) (of : List ℕ → Value) (test : List ℕ → Bool)
      → ((text : List ℕ) → tag_of (of text) ≡ tag) → ((text : List ℕ) → content_bytes (of text) ≡ text_bytes text)
      → ((text : List ℕ) → is_storable_content (of text) ≡ is_storable_text test text) → IsFound (mapped of (read_text test bytes)) v rest
      → IsContent tag bytes v rest
  text_content tag of test tags contents tests is =
      let back = mapped-found of (read_text test bytes) v rest is in
      let text = back.0 in
      let parts = Wrote-text test bytes text rest are back.1 in
      subst (λ w. IsContent tag bytes w rest) back.2 (record {
        tag_is = tags text;
        bytes_are = parts.0 ∙ ap (λ l. l ++ rest) (sym (contents text));
        storable = tests text ∙ parts.1;
      })

  content_1 : IsFound (read_content 1 bytes) v rest → IsContent 1 bytes v rest
  content_1 is = text_content 1 Keyword is_keyword_text (λ text. refl) (λ text. refl) (λ text. refl) is

  content_2 : IsFound (read_content 2 bytes) v rest → IsContent 2 bytes v rest
  content_2 is = text_content 2 Str is_any (λ text. refl) (λ text. refl) (λ text. refl) is

  content_3 : IsFound (read_content 3 bytes) v rest → IsContent 3 bytes v rest
  content_3 is =
      let back = mapped-found Boolean (read_truth bytes) v rest is in
      subst (λ w. IsContent 3 bytes w rest) back.2
      (record { tag_is = refl; bytes_are = Wrote-truth bytes back.0 rest are back.1; storable = refl })

  content_4 : IsFound (read_content 4 bytes) v rest → IsContent 4 bytes v rest
  content_4 is =
      let back = mapped-found Long (read_i64 bytes) v rest is in
      let parts = Wrote-i64 bytes back.0 rest are back.1 in
      subst (λ w. IsContent 4 bytes w rest) back.2 (record { tag_is = refl; bytes_are = parts.0; storable = parts.1 })

  content_5 : IsFound (read_content 5 bytes) v rest → IsContent 5 bytes v rest
  content_5 is =
      let back = mapped-found Ref (read_u64 bytes) v rest is in
      let parts = Wrote-u64 bytes back.0 rest are back.1 in
      subst (λ w. IsContent 5 bytes w rest) back.2 (record { tag_is = refl; bytes_are = parts.0; storable = parts.1 })

  content_6 : IsFound (read_content 6 bytes) v rest → IsContent 6 bytes v rest
  content_6 is =
      let back = mapped-found Instant (read_i64 bytes) v rest is in
      let parts = Wrote-i64 bytes back.0 rest are back.1 in
      subst (λ w. IsContent 6 bytes w rest) back.2 (record { tag_is = refl; bytes_are = parts.0; storable = parts.1 })

  content_7 : IsFound (read_content 7 bytes) v rest → IsContent 7 bytes v rest
  content_7 is =
      let back = mapped-found Uuid (read_u128 bytes) v rest is in
      let parts = Wrote-u128 bytes back.0 rest are back.1 in
      subst (λ w. IsContent 7 bytes w rest) back.2 (record { tag_is = refl; bytes_are = parts.0; storable = parts.1 })

  content_8 : IsFound (read_content 8 bytes) v rest → IsContent 8 bytes v rest
  content_8 is = text_content 8 Symbol is_symbol_text (λ text. refl) (λ text. refl) (λ text. refl) is

  content_9 : IsFound (read_content 9 bytes) v rest → IsContent 9 bytes v rest
  content_9 is = text_content 9 Uri is_any (λ text. refl) (λ text. refl) (λ text. refl) is

  content : (tag : ℕ) → 1 ≤ tag → tag ≤ 9 → IsFound (read_content tag bytes) v rest → IsContent tag bytes v rest
  content zero low high is = absurd (omega (arith, low))
  content (suc zero) low high is = content_1 is
  content (suc (suc zero)) low high is = content_2 is
  content (suc (suc (suc zero))) low high is = content_3 is
  content (suc (suc (suc (suc zero)))) low high is = content_4 is
  content (suc (suc (suc (suc (suc zero))))) low high is = content_5 is
  content (suc (suc (suc (suc (suc (suc zero)))))) low high is = content_6 is
  content (suc (suc (suc (suc (suc (suc (suc zero))))))) low high is = content_7 is
  content (suc (suc (suc (suc (suc (suc (suc (suc zero)))))))) low high is = content_8 is
  content (suc (suc (suc (suc (suc (suc (suc (suc (suc zero))))))))) low high is = content_9 is
  content (suc (suc (suc (suc (suc (suc (suc (suc (suc (suc tag)))))))))) low high is = absurd (omega (arith, high))

pub last_tag_is : (format : ℕ) → last_tag format ≤ 9
last_tag_is format = cond_both (nat_eq format 1) 7 9 (λ n. n ≤ 9) (λ e. omega arith) (λ e. omega arith)

pub Wrote-value : (format : ℕ) → Wrote (read_value format) value_bytes (is_storable_value format)
Wrote-value format bytes v rest are is =
    let split = then-found (that_fits (is_tag format) read_u8 bytes) read_content v rest is in
    let tag = split.0 in
    let behind = split.1 in
    let fits = fits-found (is_tag format) read_u8 bytes tag behind split.2 in
    let first = Wrote-u8 bytes tag behind are fits.0 in
    let bounds = and_parts (nat_le 1 tag) (nat_le tag (last_tag format)) fits.1 in
    let low = leb-true 1 tag bounds.0 in
    let high = leb-true tag (last_tag format) bounds.1 in
    let back = content behind v rest (subst AreBytes first.0 are).1 tag low (omega (arith, high, last_tag_is format)) split.3 in (
      first.0 ∙ (λ i. sym back.tag_is i ∷ back.bytes_are i),
      and_from (is_tag format (tag_of v)) (is_storable_content v) (ap (is_tag format) back.tag_is ∙ fits.1) back.storable,
    )
