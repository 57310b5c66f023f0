-- The parts of entities, attributes and values agree with how these compare.
use Rattle.std.proofs.Common.{◌≡◌, ℕ, ◌+◌, ◌-◌, ◌*◌, ◌/◌, ◌%◌, ◌^◌, ◌<◌, ◌≤◌, inl, inr, min, ℤ, pos, negsuc, true, false, cond, nat_lt, ◌&&◌, List, Some, refl, arith}
use Rattle.std.proofs.lemmas.Bool.{and_parts}
use Rattle.std.proofs.lemmas.Bool.Decides.{nat_tests}
use Rattle.std.proofs.lemmas.Nat.{div_below}
use Rattle.std.specs.Ordering.{nat_cmp, int_cmp, bool_cmp, ordering_then}
use Rattle.std.specs.declared.cmp.Ordering.{Ordering}
use Rattle.std.specs.declared.cmp.Ordering.TheVariants.{Less, Equal, Greater}
use Rattle.fb_values.specs.declared.facts.Value.{Value}
use Rattle.fb_values.specs.declared.facts.Value.TheVariants.{Keyword, Str, Bool as Boolean, Long, Ref, Instant}
use Rattle.fb_values.specs.declared.facts.Value.TheVariants.{Uuid, Symbol, Uri}
use Rattle.fb_values.specs.declared.facts.Datom.{Datom}
use Rattle.fb_values.specs.Orders.{type_place, text_cmp, content_cmp, value_cmp}
use Rattle.fb_prefix.specs.declared.parts.Part.{Part}
use Rattle.fb_prefix.specs.Parts.{held, attribute_part, front, sixteen, raised, signed_part, content_of, content, value_part}
use Rattle.fb_prefix.specs.Prefixes.{behind_value, value_and_entity}
use Rattle.fb_prefix.proofs.Agreeing.{nat_less, nat_equal, Agree, AgreeByWords, less_then, equal_then, behind_less, first_part, same_parts}
use Rattle.fb_prefix.proofs.Fronts.{front_rises, front_below, div_less, next_less}

lt_true : (m n : ℕ) → m < n → nat_lt m n ≡ true
lt_true m n less = grind (arith, nat_tests)

true_lt : (m n : ℕ) → nat_lt m n ≡ true → m < n
true_lt m n is = grind (arith, nat_tests)

pub held_agrees : (m n most : ℕ) → Agree (held m most) (held n most) (nat_cmp m n)
held_agrees m n most =
    record {
      rises = λ less. nat_less m n (omega arith);
      exact = λ same whole.
          let below = true_lt n most whole in
          (nat_equal m n (omega arith), lt_true m most (omega arith));
    }

pub attributes_agree : (m n : ℕ) → Agree (attribute_part m) (attribute_part n) (nat_cmp m n)
attributes_agree m n =
    record {
      rises = λ less. nat_less m n (grind (arith, nat_tests));
      exact = λ same whole. (nat_equal m n (grind (arith, nat_tests)), grind (arith, nat_tests));
    }

pub attribute_below : (a : ℕ) → (attribute_part a).n < 2 ^ 14
attribute_below a = grind (arith, nat_tests)

by_less : (m n : ℕ) → m < n → cond (nat_lt m n) Less (cond (nat_lt n m) Greater Equal) ≡ Less
by_less m n less = grind (arith, nat_tests)

by_equal : (m n : ℕ) → m ≡ n → cond (nat_lt m n) Less (cond (nat_lt n m) Greater Equal) ≡ Equal
by_equal m n same = grind (arith, nat_tests)

raised_less : (middle : ℕ) (x y : ℤ) → raised middle x < raised middle y → int_cmp x y ≡ Less
raised_less middle (pos m) (pos n) less = by_less m n (omega arith)
raised_less middle (pos m) (negsuc n) less = absurd (omega arith)
raised_less middle (negsuc m) (pos n) less = refl
raised_less middle (negsuc m) (negsuc n) less = by_less n m (omega arith)

raised_same : (middle : ℕ) (x y : ℤ) → raised middle x ≡ raised middle y → 0 < raised middle y → int_cmp x y ≡ Equal
raised_same middle (pos m) (pos n) same some = by_equal m n (omega arith)
raised_same middle (pos m) (negsuc n) same some = absurd (omega arith)
raised_same middle (negsuc m) (pos n) same some = absurd (omega arith)
raised_same middle (negsuc m) (negsuc n) same some = by_equal n m (omega arith)

within_range : (m n : ℕ) → nat_lt 0 m && nat_lt m n ≡ true → (0 < m) × (m < n)
within_range m n is = let both = and_parts (nat_lt 0 m) (nat_lt m n) is in (true_lt 0 m both.0, true_lt m n both.1)

pub signed_agrees : (middle : ℕ) (x y : ℤ) → Agree (signed_part middle x) (signed_part middle y) (int_cmp x y)
signed_agrees middle x y =
    record {
      rises = λ less. raised_less middle x y (omega arith);
      exact = λ same whole.
          let within = within_range (raised middle y) (2 * middle - 1) whole in
          let e : raised middle x ≡ raised middle y = omega (arith, within.0, within.1) in
          (raised_same middle x y e within.0, rw e whole);
    }

-- a range that what sixteen bytes begin with fits into
pub record IsRange (middle : ℕ) : Type 0 where
  pub more : 1 < middle
  pub some : 0 < 2 ^ 127 / middle
  pub all : 2 ^ 128 ≤ 2 * middle * (2 ^ 127 / middle)

cut_agrees : (m n d : ℕ) (o : Ordering) → 0 < d → (m < n → o ≡ Less)
    → Agree (record { n = m / d; is_whole = false }) (record { n = n / d; is_whole = false }) o
cut_agrees m n d o some rises =
    record {
      rises = λ less. rises (div_less m n d some less);
      exact = λ same whole. absurd (cc);
    }

texts_agree : (middle : ℕ) (x y : List ℕ) → IsRange middle
    → Agree (content_of middle (Keyword x) (Some (front 16 x))) (content_of middle (Keyword y) (Some (front 16 y))) (text_cmp x y)
texts_agree middle x y range = cut_agrees (front 16 x) (front 16 y) (2 ^ 127 / middle) (text_cmp x y) range.some (front_rises 16 x y)

pub contents_agree : (middle : ℕ) (x y : Value) → IsRange middle → type_place x ≡ type_place y
    → Agree (content middle x) (content middle y) (content_cmp x y)
contents_agree middle (Keyword x) (Keyword y) range e = texts_agree middle x y range
contents_agree middle (Str x) (Str y) range e = texts_agree middle x y range
contents_agree middle (Boolean false) (Boolean false) range e = record { rises = λ less. absurd (omega arith); exact = λ same whole. (refl, refl) }
contents_agree middle (Boolean false) (Boolean true) range e = record { rises = λ less. refl; exact = λ same whole. absurd (omega arith) }
contents_agree middle (Boolean true) (Boolean false) range e =
    record { rises = λ less. absurd (omega arith); exact = λ same whole. absurd (omega arith) }
contents_agree middle (Boolean true) (Boolean true) range e = record { rises = λ less. absurd (omega arith); exact = λ same whole. (refl, refl) }
contents_agree middle (Long x) (Long y) range e = signed_agrees middle x y
contents_agree middle (Ref x) (Ref y) range e = held_agrees x y (2 * middle - 1)
contents_agree middle (Instant x) (Instant y) range e = signed_agrees middle x y
contents_agree middle (Uuid x) (Uuid y) range e =
    cut_agrees (min x (2 ^ 128 - 1)) (min y (2 ^ 128 - 1)) (2 ^ 127 / middle) (nat_cmp x y) range.some (λ less. nat_less x y (omega arith))
contents_agree middle (Symbol x) (Symbol y) range e = texts_agree middle x y range
contents_agree middle (Uri x) (Uri y) range e = texts_agree middle x y range
contents_agree middle x y range e = absurd (omega (arith, e))

cut_below : (n middle : ℕ) → IsRange middle → n < 2 ^ 128 → n / (2 ^ 127 / middle) < 2 * middle
cut_below n middle range below = div_below n (2 ^ 127 / middle) (2 * middle) range.some (omega (arith, range.all))

pub content_below : (middle : ℕ) (v : Value) → IsRange middle → (content middle v).n < 2 * middle
content_below middle (Keyword x) range = cut_below (front 16 x) middle range (front_below 16 x)
content_below middle (Str x) range = cut_below (front 16 x) middle range (front_below 16 x)
content_below middle (Boolean false) range = omega (arith, range.more)
content_below middle (Boolean true) range = omega (arith, range.more)
content_below middle (Long x) range = omega (arith, range.more)
content_below middle (Ref x) range = omega (arith, range.more)
content_below middle (Instant x) range = omega (arith, range.more)
content_below middle (Uuid x) range = cut_below (min x (2 ^ 128 - 1)) middle range (omega arith)
content_below middle (Symbol x) range = cut_below (front 16 x) middle range (front_below 16 x)
content_below middle (Uri x) range = cut_below (front 16 x) middle range (front_below 16 x)

equal_is : (o rest : Ordering) → o ≡ Equal → ordering_then o rest ≡ rest
equal_is o rest equal = rw equal refl

typed_agree : (room s t : ℕ) (p q : Part) (o : Ordering) → p.n < room → q.n < room → (s ≡ t → Agree p q o)
    → Agree (record { n = s * room + p.n; is_whole = p.is_whole }) (record { n = t * room + q.n; is_whole = q.is_whole })
    (ordering_then (nat_cmp s t) o)
typed_agree room s t p q o pb qb agree =
    record {
      rises = λ less.
          elim (first_part s t p.n q.n room pb qb less) [
            | inl before ↦ less_then (nat_cmp s t) o (nat_less s t before)
            | inr same ↦ equal_then (nat_cmp s t) o (nat_equal s t same.0) ((agree same.0).rises same.1)
          ];
      exact = λ same whole.
          let parts = same_parts s t p.n q.n room pb qb same in
          let told = (agree parts.0).exact parts.1 whole in
          (rw (nat_equal s t parts.0) told.0, told.1);
    }

pub values_agree : (middle : ℕ) (x y : Value) → IsRange middle → Agree (value_part middle x) (value_part middle y) (value_cmp x y)
values_agree middle x y range =
    typed_agree (2 * middle) (type_place x) (type_place y) (content middle x) (content middle y) (content_cmp x y) (content_below middle x range)
    (content_below middle y range) (contents_agree middle x y range)

pub long_range : IsRange (2 ^ 59)
long_range = record { more = omega arith; some = omega arith; all = omega arith }

pub short_range : IsRange (2 ^ 45)
short_range = record { more = omega arith; some = omega arith; all = omega arith }

entity_behind : (p q : Part) (o : Ordering) (m n : ℕ) (rest : Ordering) → Agree p q o → p.n ≡ q.n → cond p.is_whole m 0 < cond q.is_whole n 0
    → ordering_then o (ordering_then (nat_cmp m n) rest) ≡ Less
entity_behind p q o m n rest agree same less =
    let told = behind_less p.is_whole q.is_whole m n less in
    let exact = agree.exact same told.0 in
    equal_then o _ exact.0 (less_then (nat_cmp m n) rest (nat_less m n (told.1 exact.1)))

-- the next bits of two values whose first ones are equal
abbrev NextAgree : Value → Value → ℕ → ℕ → Ordering → Type 0
NextAgree x y m n rest =
    (content (2 ^ 45) x).n ≡ (content (2 ^ 45) y).n
    → behind_value (value_part (2 ^ 45) x) (sixteen x) m < behind_value (value_part (2 ^ 45) y) (sixteen y) n
    → ordering_then (content_cmp x y) (ordering_then (nat_cmp m n) rest) ≡ Less

texts_next : (x y : List ℕ) (rest : Ordering) → front 16 x / 2 ^ 82 ≡ front 16 y / 2 ^ 82
    → front 16 x / 2 ^ 18 % 2 ^ 64 < front 16 y / 2 ^ 18 % 2 ^ 64 → ordering_then (text_cmp x y) rest ≡ Less
texts_next x y rest same less = less_then (text_cmp x y) rest (front_rises 16 x y (next_less (front 16 x) (front 16 y) same less))

next_agree : (x y : Value) (m n : ℕ) (rest : Ordering) → type_place x ≡ type_place y → NextAgree x y m n rest
next_agree (Keyword x) (Keyword y) m n rest e same less = texts_next x y (ordering_then (nat_cmp m n) rest) same less
next_agree (Str x) (Str y) m n rest e same less = texts_next x y (ordering_then (nat_cmp m n) rest) same less
next_agree (Boolean x) (Boolean y) m n rest e same less =
    entity_behind (content (2 ^ 45) (Boolean x)) (content (2 ^ 45) (Boolean y)) (bool_cmp x y) m n rest (contents_agree (2 ^ 45) (Boolean x) (Boolean y) short_range e) same less
next_agree (Long x) (Long y) m n rest e same less =
    entity_behind (content (2 ^ 45) (Long x)) (content (2 ^ 45) (Long y)) (int_cmp x y) m n rest (contents_agree (2 ^ 45) (Long x) (Long y) short_range e) same less
next_agree (Ref x) (Ref y) m n rest e same less =
    entity_behind (content (2 ^ 45) (Ref x)) (content (2 ^ 45) (Ref y)) (nat_cmp x y) m n rest (contents_agree (2 ^ 45) (Ref x) (Ref y) short_range e) same less
next_agree (Instant x) (Instant y) m n rest e same less =
    entity_behind (content (2 ^ 45) (Instant x)) (content (2 ^ 45) (Instant y)) (int_cmp x y) m n rest (contents_agree (2 ^ 45) (Instant x) (Instant y) short_range e) same less
next_agree (Uuid x) (Uuid y) m n rest e same less =
    let before : min x (2 ^ 128 - 1) < min y (2 ^ 128 - 1) = next_less (min x (2 ^ 128 - 1)) (min y (2 ^ 128 - 1)) same less in
    less_then (nat_cmp x y) (ordering_then (nat_cmp m n) rest) (nat_less x y (omega arith))
next_agree (Symbol x) (Symbol y) m n rest e same less = texts_next x y (ordering_then (nat_cmp m n) rest) same less
next_agree (Uri x) (Uri y) m n rest e same less = texts_next x y (ordering_then (nat_cmp m n) rest) same less
next_agree x y m n rest e same less = absurd (omega (arith, e))

pub values_and_entities_agree : (x y : Datom) (rest : Ordering)
    → AgreeByWords (value_and_entity x) (value_and_entity y) (ordering_then (value_cmp x.v y.v) (ordering_then (nat_cmp x.e y.e) rest))
values_and_entities_agree x y rest =
    record {
      high = λ less. less_then (value_cmp x.v y.v) _ ((values_agree (2 ^ 45) x.v y.v short_range).rises less);
      low = λ same less.
          let parts =
          same_parts (type_place x.v) (type_place y.v) (content (2 ^ 45) x.v).n (content (2 ^ 45) y.v).n (2 ^ 46) (content_below (2 ^ 45) x.v short_range)
          (content_below (2 ^ 45) y.v short_range) same in
          rw (nat_equal (type_place x.v) (type_place y.v) parts.0) (next_agree x.v y.v x.e y.e rest parts.0 parts.1 less);
    }

type_below : (v : Value) → type_place v < 9
type_below (Keyword x) = omega arith
type_below (Str x) = omega arith
type_below (Boolean x) = omega arith
type_below (Long x) = omega arith
type_below (Ref x) = omega arith
type_below (Instant x) = omega arith
type_below (Uuid x) = omega arith
type_below (Symbol x) = omega arith
type_below (Uri x) = omega arith

pub value_below : (v : Value) → (value_part (2 ^ 45) v).n < 2 ^ 50
value_below v = omega (arith, type_below v, content_below (2 ^ 45) v short_range)
