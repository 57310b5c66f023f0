-- AVET holds the attributes that names are found by.
use Rattle.std.proofs.Common.{◌≡◌, ℕ, Bool, true, false, not, ◌||◌, List, refl, ap, sym, ◌∙◌, subst, Option, Some, None, eqb}
use Rattle.std.specs.Option.{option_and_then, option_map_or}
use Rattle.fb_values.specs.declared.facts.Datom.{Datom}
use Rattle.fb_values.specs.declared.indexes.Order.TheVariants.{Avet}
use Rattle.fb_model.specs.Schema.{Attribute, attribute_from, attribute_of, attribute_named, named, is_held, covers}

own_id : (e : ℕ) (x : Attribute) (name : Option (List ℕ)) (kind count uniqueness : Option ℕ) (component indexed : Bool)
    → attribute_from e name kind count uniqueness component indexed ≡ Some x → x.id ≡ e
own_id e x None kind count uniqueness component indexed same = absurd (cc)
own_id e x (Some name) None count uniqueness component indexed same = absurd (cc)
own_id e x (Some name) (Some kind) None uniqueness component indexed same = absurd (cc)
own_id e x (Some name) (Some kind) (Some count) uniqueness component indexed same =
    sym (ap (λ (o : Option Attribute). option_map_or (λ (a : Attribute). a.id) o e) same)

unique_is_held : (facts : List Datom) (e : ℕ) (x : Attribute) → attribute_of facts e ≡ Some x → eqb x.uniqueness 0 ≡ false
    → covers facts Avet e ≡ true
unique_is_held facts e x is unique =
    ap (λ (o : Option Attribute). option_map_or (is_held Avet) o false) is ∙ ap (λ b. not b || x.indexed) unique

pub named_is_held : (facts : List Datom) (k : List ℕ) (x : Attribute) → attribute_named facts k ≡ Some x → eqb x.uniqueness 0 ≡ false
    → covers facts Avet x.id ≡ true
named_is_held facts k x = go (named facts k)
  where
    go : (o : Option ℕ) → option_and_then (attribute_of facts) o ≡ Some x → eqb x.uniqueness 0 ≡ false → covers facts Avet x.id ≡ true
    go None other unique = absurd (cc)
    go (Some e) is unique = subst (λ n. covers facts Avet n ≡ true) (sym (own_id e x _ _ _ _ _ _ is)) (unique_is_held facts e x is unique)

pub was_unique : (b r : Bool) → r ≡ not b → r ≡ true → b ≡ false
was_unique true r same held = absurd (cc)
was_unique false r same held = refl

pub was_not_other : (b r : Bool) → r ≡ not b → not r ≡ false → b ≡ false
was_not_other true true same held = absurd (cc)
was_not_other true false same held = absurd (cc)
was_not_other false r same held = refl
