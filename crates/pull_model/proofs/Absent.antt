-- Absent attributes, and plain values under a limit.
use Rattle.std.proofs.Common.{◌≡◌, ℕ, Bool, true, false, cond, not, ◌&&◌, List, [], ◌∷◌, map, filter, filter_map, nat_eq, refl, ap, sym}
use Rattle.std.proofs.Common.{◌∙◌, subst, Some, None}
use Rattle.std.specs.Option.{option_or}
use Rattle.std.proofs.lemmas.Bool.{true≢false}
use Rattle.fb_values.specs.declared.facts.Datom.{Datom}
use Rattle.fb_values.specs.declared.facts.Value.{Value}
use Rattle.fb_values.specs.declared.facts.Value.TheVariants.{Ref}
use Rattle.edn_values.specs.Values.{form_of_value}
use Rattle.fb_numbers.specs.Numbers.{type_ref}
use Rattle.fb_model.specs.Facts.{value_eq, values_of}
use Rattle.fb_model.specs.Schema.{Attribute, entity_in}
use Rattle.pull_model.specs.Patterns.{Options, Pattern, attribute, Below, is_reversed, limit_of}
use Rattle.pull_model.specs.Found.{Db, Found, absent, values, entities, found_forward, found_backward, found, meant, referring}
use Rattle.pull_model.specs.Made.{Made, nothing, plain, limited, forms_made, collected, gathered, or_default}
use Rattle.pull_model.specs.Tree.{pull_below, limit_for, value_of, made_of}
use Rattle.pull_model.specs.Measures.{without_attribute}
use Rattle.pull_model.proofs.Lists.{limited-nil}

-- ---- what a filter leaves of an attribute that it hides

not_both : (e a : ℕ) (d : Datom) → not (nat_eq d.a a) ≡ true → (nat_eq d.e e && nat_eq d.a a) ≡ false
not_both e a d other = go (nat_eq d.e e) (nat_eq d.a a) other
  where
    go : (b c : Bool) → not c ≡ true → (b && c) ≡ false
    go true true isnt = absurd (true≢false (sym isnt))
    go true false isnt = refl
    go false c isnt = refl

no_values : (facts : List Datom) (e a : ℕ) → values_of (filter (λ d. not (nat_eq d.a a)) facts) e a ≡ []
no_values [] e a = refl
no_values (d ∷ facts) e a = go (not (nat_eq d.a a)) refl (no_values facts e a)
  where
    go : (b : Bool) → not (nat_eq d.a a) ≡ b → values_of (filter (λ d. not (nat_eq d.a a)) facts) e a ≡ []
        → values_of (cond b (d ∷ filter (λ d. not (nat_eq d.a a)) facts) (filter (λ d. not (nat_eq d.a a)) facts)) e a ≡ []
    go true other none =
        subst
        (λ c. map (λ (d : Datom). d.v) (cond c (d ∷ filter (λ d. nat_eq d.e e && nat_eq d.a a) (filter (λ d. not (nat_eq d.a a)) facts))
        (filter (λ d. nat_eq d.e e && nat_eq d.a a) (filter (λ d. not (nat_eq d.a a)) facts))) ≡ []) (sym (not_both e a d other)) none
    go false same none = none

not_first : (a : ℕ) (d : Datom) (c : Bool) → not (nat_eq d.a a) ≡ true → (nat_eq d.a a && c) ≡ false
not_first a d c other = go (nat_eq d.a a) other
  where
    go : (b : Bool) → not b ≡ true → (b && c) ≡ false
    go true isnt = absurd (true≢false (sym isnt))
    go false isnt = refl

no_referring : (facts : List Datom) (e a : ℕ) → referring (filter (λ d. not (nat_eq d.a a)) facts) e a ≡ []
no_referring [] e a = refl
no_referring (d ∷ facts) e a = go (not (nat_eq d.a a)) refl (no_referring facts e a)
  where
    go : (b : Bool) → not (nat_eq d.a a) ≡ b → referring (filter (λ d. not (nat_eq d.a a)) facts) e a ≡ []
        → referring (cond b (d ∷ filter (λ d. not (nat_eq d.a a)) facts) (filter (λ d. not (nat_eq d.a a)) facts)) e a ≡ []
    go true other none =
        subst (λ c.
        map (λ (d : Datom). d.e) (cond c (d ∷ filter (λ d. nat_eq d.a a && value_eq d.v (Ref e)) (filter (λ d. not (nat_eq d.a a)) facts))
        (filter (λ d. nat_eq d.a a && value_eq d.v (Ref e)) (filter (λ d. not (nat_eq d.a a)) facts))) ≡ [])
        (sym (not_first a d (value_eq d.v (Ref e)) other)) none
    go false same none = none

-- ---- nothing found

module _ (trees : Pattern → List ℕ → ℕ → Made) (pattern : Pattern) (place : ℕ) (path : List ℕ) (options : Options) (below : Below) where
  no_entities : (several parts : Bool) (ns : List ℕ) → ns ≡ []
      → value_of trees pattern place path options below (entities several parts ns) ≡ nothing
  no_entities several parts ns none =
      ap (λ list. gathered several (map (pull_below trees pattern place path parts below) list))
      (ap (limited (limit_for several options)) none ∙ limited-nil (limit_for several options))

  no_plain_values : (several : Bool) (vs : List Value) → vs ≡ []
      → value_of trees pattern place path options below (values several vs) ≡ nothing
  no_plain_values several vs none =
      ap (λ list. gathered several (map (λ v. plain (form_of_value v)) list))
      (ap (limited (limit_for several options)) none ∙ limited-nil (limit_for several options))

  hidden_forward : (db : Db) (e : ℕ) (a : Attribute) → values_of db.seen e a.id ≡ []
      → value_of trees pattern place path options below (found_forward db e (Some a)) ≡ nothing
  hidden_forward db e a none =
      elim (nat_eq a.kind type_ref) as (λ b. value_of trees pattern place path options below
      (cond b (entities a.many a.component (filter_map entity_in (values_of db.seen e a.id))) (values a.many (values_of db.seen e a.id)))
      ≡ nothing) [
        | true ↦ no_entities a.many a.component _ (ap (filter_map entity_in) none)
        | false ↦ no_plain_values a.many _ none
      ]

  hidden_backward : (db : Db) (e : ℕ) (a : Attribute) → referring db.seen e a.id ≡ []
      → value_of trees pattern place path options below (found_backward db e (Some a)) ≡ nothing
  hidden_backward db e a none =
      elim (nat_eq a.kind type_ref) as (λ b. value_of trees pattern place path options below
      (cond b (entities (not a.component) false (referring db.seen e a.id)) absent) ≡ nothing) [
        | true ↦ no_entities (not a.component) false _ none
        | false ↦ refl
      ]

pub hidden : (trees : Pattern → List ℕ → ℕ → Made) (db : Db) (pattern : Pattern) (above : List ℕ) (e place : ℕ) (name : List ℕ)
    (options : Options) (below : Below) (a : Attribute)
    → meant db name ≡ Some a
    → made_of trees (without_attribute a.id db) pattern above e place (attribute name options below) ≡ or_default options.default nothing
hidden trees db pattern above e place name options below a means =
    ap (or_default options.default)
    (subst (λ m. value_of trees pattern place (e ∷ above) options below
    (cond (is_reversed name) (found_backward (without_attribute a.id db) e m) (found_forward (without_attribute a.id db) e m)) ≡ nothing)
    (sym means) (go (is_reversed name)))
  where
    go : (b : Bool)
        → value_of trees pattern place (e ∷ above) options below
        (cond b (found_backward (without_attribute a.id db) e (Some a)) (found_forward (without_attribute a.id db) e (Some a))) ≡ nothing
    go true = hidden_backward trees pattern place (e ∷ above) options below (without_attribute a.id db) e a (no_referring db.seen e a.id)
    go false = hidden_forward trees pattern place (e ∷ above) options below (without_attribute a.id db) e a (no_values db.seen e a.id)

pub no_attribute : (trees : Pattern → List ℕ → ℕ → Made) (db : Db) (pattern : Pattern) (above : List ℕ) (e place : ℕ) (name : List ℕ)
    (options : Options) (below : Below)
    → meant db name ≡ None
    → made_of trees db pattern above e place (attribute name options below) ≡ or_default options.default nothing
no_attribute trees db pattern above e place name options below means =
    ap (or_default options.default)
    (subst (λ m. value_of trees pattern place (e ∷ above) options below
    (cond (is_reversed name) (found_backward db e m) (found_forward db e m)) ≡ nothing) (sym means) (go (is_reversed name)))
  where
    go : (b : Bool)
        → value_of trees pattern place (e ∷ above) options below (cond b (found_backward db e None) (found_forward db e None)) ≡ nothing
    go true = refl
    go false = refl

-- ---- plain values

forms-plain : (vs : List Value) → forms_made (map (λ v. plain (form_of_value v)) vs) ≡ map form_of_value vs
forms-plain [] = refl
forms-plain (v ∷ vs) = ap (λ fs. form_of_value v ∷ fs) (forms-plain vs)

pub plain_values : (trees : Pattern → List ℕ → ℕ → Made) (db : Db) (pattern : Pattern) (above : List ℕ) (e place : ℕ) (name : List ℕ)
    (options : Options) (below : Below) (a : Attribute)
    → is_reversed name ≡ false → meant db name ≡ Some a → nat_eq a.kind type_ref ≡ false → a.many ≡ true
    → (made_of trees db pattern above e place (attribute name options below)).form
    ≡ option_or (collected true (map form_of_value (limited (limit_of options) (values_of db.seen e a.id)))) options.default
plain_values trees db pattern above e place name options below a forward means no_ref many =
    ap (λ (f : Found). option_or (value_of trees pattern place (e ∷ above) options below f).form options.default) is_found
    ∙ ap (λ fs. option_or (collected true fs) options.default) (forms-plain (limited (limit_of options) (values_of db.seen e a.id)))
  where
    is_found : found db e name ≡ values true (values_of db.seen e a.id)
    is_found =
        ap (λ b. cond b (found_backward db e (meant db name)) (found_forward db e (meant db name))) forward
        ∙ ap (found_forward db e) means
        ∙ ap (λ b. cond b (entities a.many a.component (filter_map entity_in (values_of db.seen e a.id)))
        (values a.many (values_of db.seen e a.id))) no_ref
        ∙ ap (λ b. values b (values_of db.seen e a.id)) many
