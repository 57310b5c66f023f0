-- The entries of lawful histories are storable.
use Rattle.std.proofs.Common.{◌≡◌, ℕ, zero, suc, ◌^◌, ◌<◌, ◌≤◌, ℤ, pos, negsuc, Bool, true, false, ◌&&◌, List, [], ◌∷◌, length, refl, ap}
use Rattle.std.proofs.Common.{sym, ◌∙◌, subst, arith, eqb, leb, Option, Some, None}
use Rattle.std.specs.Prelude.{All, Contains, IsUtf8, is_some, option_and_then}
use Rattle.std.specs.List.{list_any, list_all}
use Rattle.std.specs.Option.{option_map_or}
use Rattle.std.specs.Str.{IsAscii}
use Rattle.std.proofs.lemmas.Bool.{true≢false, and_parts, and_from, or_parts, or_left, eqb-true, leb-true, lt-ltb}
use Rattle.std.proofs.lemmas.List.Elements.{All-nil, All-push}
use Rattle.std.proofs.lemmas.Str.{is_utf8-from_IsUtf8, IsUtf8-from_ascii}
use Rattle.fb_values.specs.declared.facts.Datom.{Datom}
use Rattle.fb_values.specs.declared.facts.Entry.{Entry}
use Rattle.fb_values.specs.declared.facts.Value.{Value}
use Rattle.fb_values.specs.declared.facts.Value.TheVariants.{Keyword, Str, Bool as Boolean, Long, Ref, Instant, Uuid, Symbol, Uri}
use Rattle.fb_numbers.specs.Numbers.{ident, value_type, cardinality, unique, is_component, index, is_instant, is_long, greatest_t}
use Rattle.fb_numbers.specs.Numbers.{most_datoms}
use Rattle.fb_model.specs.FirstEntry.{first_entry}
use Rattle.fb_model.specs.Words.{is_keyword_text, is_symbol_text}
use Rattle.fb_model.specs.Utf8.{is_utf8_text}
use Rattle.fb_model.specs.Types.{type_of, is_well_formed, is_short_enough, is_of_type}
use Rattle.fb_model.specs.History.{is_issued}
use Rattle.fb_model.specs.Facts.{facts, value_of}
use Rattle.fb_model.specs.Schema.{Attribute, attribute_from, attribute_of, is_attribute, keyword_in, keyword_of, entity_of, truth_of}
use Rattle.fb_model.specs.Laws.{is_known, is_known_value}
use Rattle.fb_model.specs.Lawful.{IsLawful, IsLawfulAfter}
use Rattle.fb_model.proofs.Utf8Texts.{IsUtf8-from_is_utf8_text}
use Rattle.fb_model.proofs.Members.{member_passes, all_members, some_member}
use Rattle.fb_model.proofs.Invariants.{of_lawful}
use Rattle.fb_model.proofs.SchemaHistories.{all_pass}
use Rattle.fb_model.proofs.KnownFacts.{is_typed, facts_issued}
use Rattle.tx_model.proofs.Users.{known_small}
use Rattle.log_model.specs.Values.{is_any}
use Rattle.log_model.specs.Payload.{written_format}
use Rattle.log_model.specs.Storable.{is_u64, is_i64, is_storable_text, is_storable_value, is_storable_datom, IsStorable}

-- ---- values

short_text : (test : List ℕ → Bool) (text : List ℕ) (n : ℕ) → n < 2 ^ 32 → IsUtf8 text → test text ≡ true → leb (length text) n ≡ true
    → is_storable_text test text ≡ true
short_text test text n small utf8 passes short =
    let within : length text ≤ n = leb-true (length text) n short in
    and_from _ _ (lt-ltb (length text) (2 ^ 32) (omega arith)) (and_from _ _ (is_utf8-from_IsUtf8 text utf8) passes)

visible-IsAscii : (text : List ℕ) → list_all (λ b. leb 33 b && leb b 126) text ≡ true → IsAscii text
visible-IsAscii [] visible i = omega arith
visible-IsAscii (b ∷ rest) visible zero =
    let first = and_parts (leb 33 b && leb b 126) (list_all (λ b. leb 33 b && leb b 126) rest) visible in
    let low : b ≤ 126 = leb-true b 126 (and_parts (leb 33 b) (leb b 126) first.0).1 in
    omega arith
visible-IsAscii (b ∷ rest) visible (suc i) =
    visible-IsAscii rest (and_parts (leb 33 b && leb b 126) (list_all (λ b. leb 33 b && leb b 126) rest) visible).1 i

long_fits : (z : ℤ) → is_long z ≡ true → is_i64 z ≡ true
long_fits (pos n) within =
    let most : n ≤ 9223372036854775807 = leb-true n 9223372036854775807 within in
    lt-ltb n (2 ^ 63) (omega arith)
long_fits (negsuc n) within =
    let most : n ≤ 9223372036854775807 = leb-true n 9223372036854775807 (and_parts (leb n 9223372036854775807) true within).0 in
    lt-ltb n (2 ^ 63) (omega arith)

instant_fits : (z : ℤ) → is_instant z ≡ true → is_i64 z ≡ true
instant_fits (pos n) within =
    let most : n ≤ 253402300799999 = leb-true n 253402300799999 within in
    lt-ltb n (2 ^ 63) (omega arith)
instant_fits (negsuc n) within =
    let most : n ≤ 62135596799999 = leb-true n 62135596799999 (and_parts (leb n 62135596799999) true within).0 in
    lt-ltb n (2 ^ 63) (omega arith)

storable_value : (v : Value) → is_well_formed v ≡ true → is_short_enough v ≡ true → is_storable_value written_format v ≡ true
storable_value (Keyword text) formed short =
    let parts = and_parts (is_utf8_text text) (is_keyword_text text) formed in
    short_text is_keyword_text text 65535 (omega arith) (IsUtf8-from_is_utf8_text text parts.0) parts.1 short
storable_value (Str text) formed short = short_text is_any text 1048576 (omega arith) (IsUtf8-from_is_utf8_text text formed) refl short
storable_value (Boolean b) formed short = refl
storable_value (Long n) formed short = long_fits n formed
storable_value (Ref e) formed short = formed
storable_value (Instant n) formed short = instant_fits n formed
storable_value (Uuid n) formed short = formed
storable_value (Symbol text) formed short =
    let parts = and_parts (is_utf8_text text) (is_symbol_text text) formed in
    short_text is_symbol_text text 65535 (omega arith) (IsUtf8-from_is_utf8_text text parts.0) parts.1 short
storable_value (Uri text) formed short =
    let visible = (and_parts (leb 1 (length text)) (list_all (λ b. leb 33 b && leb b 126) text) formed).1 in
    short_text is_any text 65535 (omega arith) (IsUtf8-from_ascii text (visible-IsAscii text visible)) refl short

typed_value : (attribute : Option Attribute) (v : Value) → option_map_or (λ (a : Attribute). is_of_type a.kind v) attribute false ≡ true
    → is_storable_value written_format v ≡ true
typed_value None v typed = absurd (true≢false (sym typed))
typed_value (Some a) v typed =
    let parts = and_parts (eqb (type_of v) a.kind && is_well_formed v) (is_short_enough v) typed in
    storable_value v (and_parts (eqb (type_of v) a.kind) (is_well_formed v) parts.0).1 parts.1

-- ---- an installed attribute is an issued entity: a fact has its name

has_name : (e : ℕ) (name : Option (List ℕ)) (kind count uniqueness : Option ℕ) (component indexed : Bool)
    → is_some (attribute_from e name kind count uniqueness component indexed) ≡ true → is_some name ≡ true
has_name e None kind count uniqueness component indexed some = some
has_name e (Some name) kind count uniqueness component indexed some = refl

no_value : (facts : List Datom) (e a : ℕ) → list_any (λ d. eqb d.e e) facts ≡ false → value_of facts e a ≡ None
no_value [] e a none = refl
no_value (d ∷ facts) e a none =
    let parts = or_parts (eqb d.e e) (list_any (λ d. eqb d.e e) facts) none in
    rw parts.0 (no_value facts e a parts.1)

in_some_fact : (facts : List Datom) (e : ℕ) → is_attribute facts e ≡ true → list_any (λ d. eqb d.e e) facts ≡ true
in_some_fact facts e attribute = go (list_any (λ d. eqb d.e e) facts) refl
  where
    go : (b : Bool) → list_any (λ d. eqb d.e e) facts ≡ b → b ≡ true
    go true is = refl
    go false is =
        let named : is_some (keyword_of facts e ident) ≡ true =
        has_name e (keyword_of facts e ident) (entity_of facts e value_type) (entity_of facts e cardinality) (entity_of facts e unique)
        (truth_of facts e is_component) (truth_of facts e index) attribute in
        absurd (true≢false (sym named ∙ ap (λ v. is_some (option_and_then keyword_in v)) (no_value facts e ident is)))

attribute_issued : (h : List Entry) (a : ℕ) → IsLawful h → is_attribute (facts h) a ≡ true → is_issued h a ≡ true
attribute_issued h a lawful installed =
    let found = some_member (λ d. eqb d.e a) (facts h) (in_some_fact (facts h) a installed) in
    subst (λ n. is_issued h n ≡ true) (eqb-true found.0.e a found.2) (and_parts _ _ (facts_issued h lawful found.0 found.1)).0

-- ---- entries

module _ (h : List Entry) (entry : Entry) (lawful : IsLawful h) (next : IsLawfulAfter h entry) where
  t_small : entry.t ≤ greatest_t
  t_small = leb-true entry.t greatest_t (and_parts _ _ next.next_t).1

  few : length entry.datoms ≤ most_datoms
  few = leb-true (length entry.datoms) most_datoms (and_parts _ _ next.datoms_in_order).1

  known_fits : (n : ℕ) → is_known h entry n ≡ true → is_u64 n ≡ true
  known_fits n known = known_small h entry n lawful t_small few known

  storable_datom : (d : Datom) → Contains entry.datoms d → is_storable_datom written_format entry.t d ≡ true
  storable_datom d member =
      let known = member_passes (λ d. is_known h entry d.e && is_known_value h entry d.v) entry.datoms d next.known_numbers member in
      let installed = member_passes (λ d. is_attribute (facts h) d.a) entry.datoms d next.installed_attributes member in
      let typed = member_passes (is_typed (facts h)) entry.datoms d next.typed_values member in
      let own = member_passes (λ d. eqb d.t entry.t) entry.datoms d (and_parts _ _ (and_parts _ _ next.datoms_in_order).0).0 member in
      and_from _ _
      (and_from _ _
      (and_from _ _ (known_fits d.e (and_parts _ _ known).0)
      (known_fits d.a (or_left _ _ (or_left _ _ (attribute_issued h d.a lawful installed)))))
      (typed_value (attribute_of (facts h) d.a) d.v typed))
      own

  pub storable_entry : IsStorable entry
  storable_entry =
      and_from _ _
      (and_from _ _
      (and_from _ _ (lt-ltb entry.t (2 ^ 32) (omega (arith, t_small))) (instant_fits entry.instant (and_parts _ _ next.later_instant).1))
      (lt-ltb (length entry.datoms) (2 ^ 32) (omega (arith, few))))
      (all_members (is_storable_datom written_format entry.t) entry.datoms storable_datom)

-- ---- the first entry

abbrev is_plain : Datom → Bool
is_plain d = (is_u64 d.e && is_u64 d.a) && (is_well_formed d.v && is_short_enough d.v) && eqb d.t 0

plain_datom : (d : Datom) → is_plain d ≡ true → is_storable_datom written_format 0 d ≡ true
plain_datom d plain =
    let parts = and_parts _ (eqb d.t 0) plain in
    let inner = and_parts (is_u64 d.e && is_u64 d.a) (is_well_formed d.v && is_short_enough d.v) parts.0 in
    let value = and_parts (is_well_formed d.v) (is_short_enough d.v) inner.1 in
    and_from _ _ (and_from _ _ inner.0 (storable_value d.v value.0 value.1)) parts.1

storable_first : IsStorable first_entry
storable_first = all_pass is_plain (is_storable_datom written_format 0) plain_datom first_entry.datoms refl

pub all_storable : (h : List Entry) → IsLawful h → All IsStorable h
all_storable =
    of_lawful (All IsStorable)
    (All-push IsStorable [] first_entry (All-nil IsStorable) storable_first)
    (λ h entry lawful before next. All-push IsStorable h entry before (storable_entry h entry lawful next))
