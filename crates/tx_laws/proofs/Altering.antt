-- What is said of an altered entity, and the map of those that are described.
use Rattle.std.proofs.Common.{◌≡◌, ℕ, Bool, true, false, not, ◌&&◌, ◌||◌, List, [], ◌∷◌, refl, ap, ◌∙◌, eqb, Option}
use Rattle.std.specs.List.{list_any}
use Rattle.std.proofs.lemmas.Bool.{or_parts}
use Rattle.std.specs.Option.{option_map_or}
use Rattle.fb_values.specs.declared.facts.Datom.{Datom}
use Rattle.fb_values.specs.declared.facts.Entry.{Entry}
use Rattle.fb_model.specs.Facts.{facts}
use Rattle.fb_model.specs.Schema.{Attribute, attribute_of, is_one, is_unique}
use Rattle.fb_schema.specs.Described.{SchemaStands, describes}
use Rattle.fb_schema.proofs.Lookups.{attribute_of-described}
use Rattle.tx_laws.specs.declared.altered.Altered.{Altered}
use Rattle.tx_laws.specs.Alterations.{is_described}

pub attribute_stands : (schema : List Datom) (h : List Entry) (a : ℕ) → SchemaStands schema h
    → attribute_of schema a ≡ attribute_of (facts h) a
attribute_stands schema h a stands = ap (λ ds. attribute_of ds a) stands ∙ attribute_of-described (facts h) a

pub one_stands : (schema : List Datom) (h : List Entry) (a : ℕ) → SchemaStands schema h → is_one schema a ≡ is_one (facts h) a
one_stands schema h a stands =
    ap (λ o. option_map_or (λ (attribute : Attribute). not attribute.many) o false) (attribute_stands schema h a stands)

pub unique_stands : (schema : List Datom) (h : List Entry) (a : ℕ) → SchemaStands schema h → is_unique schema a ≡ is_unique (facts h) a
unique_stands schema h a stands =
    ap (λ o. option_map_or (λ (attribute : Attribute). not (eqb attribute.uniqueness 0)) o false) (attribute_stands schema h a stands)

pub one_from : (o : Option Attribute) (facts : List Datom) (a : ℕ) → o ≡ attribute_of facts a
    → option_map_or (λ (attribute : Attribute). not attribute.many) o false ≡ is_one facts a
one_from o facts a is = ap (λ o. option_map_or (λ (attribute : Attribute). not attribute.many) o false) is

pub unique_from : (o : Option Attribute) (facts : List Datom) (a : ℕ) → o ≡ attribute_of facts a
    → option_map_or (λ (attribute : Attribute). not (eqb attribute.uniqueness 0)) o false ≡ is_unique facts a
unique_from o facts a is = ap (λ o. option_map_or (λ (attribute : Attribute). not (eqb attribute.uniqueness 0)) o false) is

-- none is described where no datom describes
pub none_described : (e : ℕ) (ds : List Datom) → list_any describes ds ≡ false → is_described e ds ≡ false
none_described e [] none = refl
none_described e (d ∷ ds) none =
    let parts = or_parts (describes d) (list_any describes ds) none in
    rw (parts.0, none_described e ds parts.1) (neither (eqb d.e e))
  where
    neither : (b : Bool) → (b && false || false) ≡ false
    neither true = refl
    neither false = refl

abbrev pub made : Bool → Bool → Bool → Bool → Bool → Altered
made one unique whole values holders = record { one = one; unique = unique; whole = whole; keeps_values = values; keeps_holders = holders }

pub made-same : (a b c d e a' b' c' d' e' : Bool) → a ≡ a' → b ≡ b' → c ≡ c' → d ≡ d' → e ≡ e' → made a b c d e ≡ made a' b' c' d' e'
made-same a b c d e a' b' c' d' e' p q r s t =
    ap (λ x. made x b c d e) p
    ∙ ap (λ x. made a' x c d e) q
    ∙ ap (λ x. made a' b' x d e) r
    ∙ ap (λ x. made a' b' c' x e) s
    ∙ ap (λ x. made a' b' c' d' x) t

pub keeps-same : (was one gives was' one' : Bool) → was ≡ was' → one ≡ one' → (was || not one || gives) ≡ (was' || not one' || gives)
keeps-same was one gives was' one' p q = ap (λ x. x || not one || gives) p ∙ ap (λ x. was' || not x || gives) q
