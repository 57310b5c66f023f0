-- Attributes that are put in the order of their names.
use denote.Ref.{Bor}
use Rattle.std.proofs.Common.{◌≡◌, ◌∙◌, ℕ, ◌+◌, ◌<◌, ◌≤◌, Bool, cond, List, [], ◌∷◌, ◌++◌, length, take, drop, get_or}
use Rattle.std.proofs.Common.{refl, sym, ap, subst, Option, Some, None, arith}
use Rattle.std.specs.Prelude.{IfOk, Result, option_map}
use Rattle.std.specs.List.{All, insert}
use Rattle.std.specs.Ordering.{is_lt, ordering_reverse}
use Rattle.std.specs.declared.cmp.Ordering.{Ordering}
use Rattle.std.specs.declared.cmp.Ordering.TheVariants.{Less, Equal, Greater}
use Rattle.std.proofs.lemmas.Cmp.{nat_list_cmp_total}
use Rattle.std.proofs.lemmas.List.{take_all, drop_all, take_more, drop_more, take-append-drop, append_assoc, map-append, take-map, drop-map}
use Rattle.std.proofs.lemmas.List.{get_or-map, length-map}
use Rattle.std.proofs.lemmas.List.Elements.{All-append, All-cons, All-drop, All-nil, All-take}
use Rattle.fb_values.specs.Orders.{text_cmp}
use Rattle.fb_values.specs.declared.facts.Datom.{Datom}
use Rattle.fb_model.specs.Schema.{Attribute as ModelAttribute, attribute_of}
use Rattle.fb_schema.proofs.Results.{IfOk-join}
use Rattle.fb_schema.specs.declared.attribute.Attribute.{Attribute}
use Rattle.fb_schema.specs.Parts.{model_attribute}
use Rattle.pull_model.specs.Found.{put_name}
use Rattle.fb_pull.specs.Attributes.{name_of, put, IsPlace, IsOfSchema, names_of, HaveNames}
use Rattle.fb_pull.proofs.Known.{own_id}

-- ---- the place of a name

module _ (name : List ℕ) (names : List (List ℕ)) (at : ℕ) where
  -- the name's place is not among the first ones
  abbrev pub IsBehind : Type 0
  IsBehind = put_name name names ≡ take at names ++ put_name name (drop at names)

  pub behind_all : (n : ℕ) → n ≡ length names → length names ≤ at → IsBehind → IsPlace name names (Some n)
  behind_all n is past behind = (
    omega (arith, is),
    behind ∙ ap (λ l. take at names ++ put_name name l) (drop_all at names past) ∙ ap (λ l. l ++ name ∷ []) (take_all at names past)
        ∙ sym (ap (λ l. l ++ name ∷ drop n names) (take_all n names (omega (arith, is)))
        ∙ ap (λ l. names ++ name ∷ l) (drop_all n names (omega (arith, is)))),
  )

  module _ (other : List ℕ) (below : at < length names) (is : other ≡ get_or names at other) (behind : IsBehind) where
    abbrev rest : List (List ℕ)
    rest = drop (at + 1) names

    ahead : drop at names ≡ other ∷ rest
    ahead = drop_more names at other below ∙ ap (λ x. x ∷ rest) (sym is)

    abbrev put_by : Bool → Bool → List (List ℕ)
    put_by less more = take at names ++ cond less (name ∷ other ∷ rest) (cond more (other ∷ put_name name rest) (other ∷ rest))

    by_order : (o : Ordering) → text_cmp name other ≡ o → put_name name names ≡ put_by (is_lt o) (is_lt (ordering_reverse o))
    by_order o order =
        behind ∙ ap (λ l. take at names ++ put_name name l) ahead
        ∙ ap (λ p. put_by (is_lt p) (is_lt (text_cmp other name))) order
        ∙ ap (λ p. put_by (is_lt o) (is_lt p)) (nat_list_cmp_total.antisymm other name ∙ ap ordering_reverse order)

    pub before_other : text_cmp name other ≡ Less → IsPlace name names (Some at)
    before_other less = (omega (arith, below), by_order Less less ∙ ap (λ l. take at names ++ name ∷ l) (sym ahead))

    pub as_other : text_cmp name other ≡ Equal → IsPlace name names None
    as_other same = by_order Equal same ∙ ap (λ l. take at names ++ l) (sym ahead) ∙ take-append-drop at names

    pub after_other : text_cmp name other ≡ Greater → put_name name names ≡ take (at + 1) names ++ put_name name rest
    after_other more =
        by_order Greater more ∙ sym (append_assoc (take at names) (other ∷ []) (put_name name rest))
        ∙ ap (λ l. l ++ put_name name rest) (sym (take_more names at other below ∙ ap (λ x. take at names ++ x ∷ []) (sym is)))

-- ---- an attribute in its place

pub names_inserted : (list : List (Bor Attribute)) (at : ℕ) (attribute : Bor Attribute)
    → names_of (insert list at attribute) ≡ insert (names_of list) at attribute.now.ident
names_inserted list at attribute =
    map-append (λ (a : Bor Attribute). a.now.ident) (take at list) (attribute ∷ drop at list)
    ∙ ap (λ l. l ++ attribute.now.ident ∷ names_of (drop at list)) (sym (take-map (λ (a : Bor Attribute). a.now.ident) at list))
    ∙ ap (λ l. take at (names_of list) ++ attribute.now.ident ∷ l) (sym (drop-map (λ (a : Bor Attribute). a.now.ident) at list))

pub all_inserted : {X : Type 0} (P : X → Type 0) (list : List X) (at : ℕ) (x : X) → P x → All P list → All P (insert list at x)
all_inserted P list at x own all =
    All-append P (take at list) (x ∷ drop at list) (All-take P at list all) (All-cons P x (drop at list) own (All-drop P at list all))

pub names_length : (list : List (Bor Attribute)) → length (names_of list) ≡ length list
names_length list = length-map list (λ (a : Bor Attribute). a.now.ident)

pub names_below : (list : List (Bor Attribute)) (i : ℕ) → i < length list → i < length (names_of list)
names_below list i below = subst (λ (n : ℕ). i < n) (sym (names_length list)) below

pub names_past : (list : List (Bor Attribute)) (i : ℕ) → length list ≤ i → length (names_of list) ≤ i
names_past list i past = subst (λ (n : ℕ). n ≤ i) (sym (names_length list)) past

pub names_at : (list : List (Bor Attribute)) (i : ℕ) (a : Bor Attribute) → i < length list → a ≡ get_or list i a
    → a.now.ident ≡ get_or (names_of list) i a.now.ident
names_at list i a below is =
    ap (λ (x : Bor Attribute). x.now.ident) is ∙ sym (get_or-map (λ (x : Bor Attribute). x.now.ident) list i a a.now.ident below)

-- ---- lists of attributes

module _ (schema : List Datom) where
  pub none_named : (list : List (Bor Attribute)) (names : List (List ℕ)) → list ≡ [] → names ≡ [] → HaveNames schema list names
  none_named list names none none_too =
      subst (λ (l : List (Bor Attribute)). HaveNames schema l names) (sym none)
      (subst (λ (l : List (List ℕ)). HaveNames schema [] l) (sym none_too)
      record { named = refl; known = All-nil (λ (a : Bor Attribute). IsOfSchema schema a.now) })

  pub put_known : {E : Type 0} (old new : List (Bor Attribute)) (names : List (List ℕ)) (a : ℕ) (attribute : Bor Attribute)
      (result : Result (Unit {0}) E)
      → Some (model_attribute attribute.now) ≡ attribute_of schema a → HaveNames schema old names
      → IfOk result (λ _. names_of new ≡ put_name attribute.now.ident (names_of old))
      → (IsOfSchema schema attribute.now → All (λ o. IsOfSchema schema o.now) old
      → IfOk result (λ _. All (λ o. IsOfSchema schema o.now) new))
      → IfOk result (λ _. HaveNames schema new (put (name_of schema a) names))
  put_known old new names a attribute result is has named members =
      IfOk-join (λ _. names_of new ≡ put_name attribute.now.ident (names_of old)) (λ _. All (λ o. IsOfSchema schema o.now) new) _
      (λ done own_named own_known. record {
        named =
            own_named ∙ ap (put_name attribute.now.ident) has.named
            ∙ ap (λ (o : Option ModelAttribute). put (option_map (λ x. x.name) o) names) is;
        known = own_known;
      })
      result named (members own has.known)
    where
      own : IsOfSchema schema attribute.now
      own = ap (attribute_of schema) (own_id schema a (model_attribute attribute.now) (sym is)) ∙ sym is
