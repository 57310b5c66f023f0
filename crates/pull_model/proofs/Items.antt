-- A form is a pattern exactly where it has no bad item.
use Rattle.std.proofs.Common.{◌≡◌, ℕ, ◌+◌, true, false, cond, is_some, is_none, refl, ap, sym, ◌∙◌, option_map, bytes_eq, codes, Option}
use Rattle.std.proofs.Common.{Some, None}
use Rattle.std.proofs.lemmas.Bool.{true≢false}
use Rattle.edn_model.specs.Form as edn
use Rattle.edn_model.specs.Form.{Form, Forms, no_forms, form, Pairs, pair}
use Rattle.pull_model.specs.Patterns.{Pattern, no_items, item, Item, wildcard, one}
use Rattle.pull_model.specs.Reading.{both, if_any, item_with_options, specified, specification, below_of, pattern_of, items_of, item_of}
use Rattle.pull_model.specs.Reading.{specifications_of, first_bad_from, first_bad_item}

if_any-twice : (p : Option Pattern) → if_any (if_any p) ≡ if_any p
if_any-twice None = refl
if_any-twice (Some no_items) = refl
if_any-twice (Some (item i rest)) = refl

if_any-one : (i : Option Item) → if_any (option_map one i) ≡ option_map one i
if_any-one None = refl
if_any-one (Some i) = refl

-- an item is at least one
if_any-item : (f : Form) → if_any (item_of f) ≡ item_of f
if_any-item edn.nil = refl
if_any-item (edn.boolean b) = refl
if_any-item (edn.integer z) = refl
if_any-item (edn.string s) = refl
if_any-item (edn.symbol s) =
    elim (bytes_eq s (codes "*")) as (λ b. if_any (cond b (Some (one wildcard)) None) ≡ cond b (Some (one wildcard)) None) [
      | true ↦ refl
      | false ↦ refl
    ]
if_any-item (edn.keyword k) = refl
if_any-item (edn.list fs) = refl
if_any-item (edn.vector fs) = if_any-one (item_with_options (edn.items fs))
if_any-item (edn.map ps) = if_any-twice (specifications_of ps)
if_any-item (edn.set fs) = refl
if_any-item (edn.instant z) = refl
if_any-item (edn.uuid n) = refl

is_some-both : (a b : Option Pattern) (c : Option ℕ) (place : ℕ) → is_some b ≡ is_none c
    → is_some (both a b) ≡ is_none (cond (is_some a) c (Some place))
is_some-both None b c place same = refl
is_some-both (Some p) None c place same = same
is_some-both (Some p) (Some q) c place same = same

all_items : (place : ℕ) (fs : Forms) → is_some (items_of fs) ≡ is_none (first_bad_from place fs)
all_items place no_forms = refl
all_items place (form f fs) = is_some-both (item_of f) (items_of fs) (first_bad_from (place + 1) fs) place (all_items (place + 1) fs)

some≢none : (p : Pattern) → ◌≡◌ {A = Option Pattern} None (Some p) → ⊥
some≢none p same = true≢false (sym (ap is_some same))

if_any-both : (a b : Option Pattern) → if_any a ≡ a → if_any (both a b) ≡ both a b
if_any-both None b is = refl
if_any-both (Some no_items) b is = absurd (some≢none no_items is)
if_any-both (Some (item i rest)) None is = refl
if_any-both (Some (item i rest)) (Some q) is = refl

-- a vector with an item, and a map with a pair, are patterns of at least one item where they are any
pub if_any-items : (f : Form) (fs : Forms) → if_any (items_of (form f fs)) ≡ items_of (form f fs)
if_any-items f fs = if_any-both (item_of f) (items_of fs) (if_any-item f)

pub if_any-specifications : (key value : Form) (rest : Pairs)
    → if_any (specifications_of (pair key value rest)) ≡ specifications_of (pair key value rest)
if_any-specifications key value rest =
    let i = specification (specified key) (below_of value) in
    if_any-both (option_map one i) (specifications_of rest) (if_any-one i)

pub pattern_or_bad_item : (f : Form) → is_some (pattern_of f) ≡ is_none (first_bad_item f)
pattern_or_bad_item edn.nil = refl
pattern_or_bad_item (edn.boolean b) = refl
pattern_or_bad_item (edn.integer z) = refl
pattern_or_bad_item (edn.string s) = refl
pattern_or_bad_item (edn.symbol s) = refl
pattern_or_bad_item (edn.keyword k) = refl
pattern_or_bad_item (edn.list fs) = refl
pattern_or_bad_item (edn.vector no_forms) = refl
pattern_or_bad_item (edn.vector (form f fs)) = ap is_some (if_any-items f fs) ∙ all_items 0 (form f fs)
pattern_or_bad_item (edn.map ps) = refl
pattern_or_bad_item (edn.set fs) = refl
pattern_or_bad_item (edn.instant z) = refl
pattern_or_bad_item (edn.uuid n) = refl
