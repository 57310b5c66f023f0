-- The keys of a tree stand in the order of the items, and none twice.
use Rattle.std.proofs.Common.{◌≡◌, ℕ, Bool, true, false, not, List, [], ◌∷◌, ◌++◌, map, fold, refl, ap, sym, ◌∙◌, subst, inl, inr, Option}
use Rattle.std.proofs.Common.{Some, None, append_assoc, append-nil}
use Rattle.std.proofs.lemmas.Bool.{and_from, and_parts, or_from, or_parts}
use Rattle.edn_model.specs.Form.{Form, Forms, no_forms, form, pairs}
use Rattle.edn_model.specs.Likeness.{alike, any, distinct, distinct_from, keys}
use Rattle.pull_model.specs.Patterns.{Item}
use Rattle.pull_model.specs.Made.{Made, Inside, pair_of}
use Rattle.pull_model.specs.Tree.{key_of_item, has_key, unless_there, with_item}
use Rattle.pull_model.specs.Measures.{AreInOrder}
use Rattle.edn_model.specs.Form.{with_last}

-- ---- in order

abbrev pub keys_in : List (Form × Form) → List Form
keys_in ps = map (λ p. p.0) ps

abbrev pub item_keys : List (ℕ × Item) → List Form
item_keys items = map (λ p. key_of_item p.1) items

-- the pairs that one item adds
pub record Added (old new : Inside) (key : Form) : Type 0 where
  pub value : Option Form
  pub is : new.pairs ≡ old.pairs ++ pair_of key value

one_added : (made : ℕ → Item → Made) (old : Inside) (p : ℕ × Item) → Added old (with_item made old p) (key_of_item p.1)
one_added made old p = go (has_key old.pairs (key_of_item p.1))
  where
    go : (b : Bool) → Added old (unless_there b made old p.0 p.1) (key_of_item p.1)
    go true = record { value = None; is = sym (append-nil old.pairs) }
    go false = record { value = (made p.0 p.1).form; is = refl }

more_in_order : (value : Option Form) (key : Form) (ps : List (Form × Form)) (others : List Form) → AreInOrder (keys_in ps) others
    → AreInOrder (keys_in (pair_of key value ++ ps)) (key ∷ others)
more_in_order None key [] others order = tt
more_in_order None key (p ∷ ps) others order = inr order
more_in_order (Some v) key ps others order = inl (refl, order)

pub record AddedInOrder (old new : Inside) (items : List (ℕ × Item)) : Type 0 where
  pub added : List (Form × Form)
  pub is : new.pairs ≡ old.pairs ++ added
  pub order : AreInOrder (keys_in added) (item_keys items)

pub folded_in_order : (made : ℕ → Item → Made) (old : Inside) (items : List (ℕ × Item))
    → AddedInOrder old (fold (with_item made) old items) items
folded_in_order made old [] = record { added = []; is = sym (append-nil old.pairs); order = tt }
folded_in_order made old (p ∷ items) =
    let now = one_added made old p in
    let later = folded_in_order made (with_item made old p) items in
    record {
      added = pair_of (key_of_item p.1) now.value ++ later.added;
      is = later.is ∙ ap (λ ps. ps ++ later.added) now.is ∙ append_assoc old.pairs (pair_of (key_of_item p.1) now.value) later.added;
      order = more_in_order now.value (key_of_item p.1) later.added (item_keys items) later.order;
    }

-- ---- none twice

any-with_last : (test : Form → Bool) (fs : Forms) (f : Form) → any test fs ≡ false → test f ≡ false → any test (with_last fs f) ≡ false
any-with_last test no_forms f none isnt = or_from (test f) false isnt refl
any-with_last test (form g fs) f none isnt =
    let parts = or_parts (test g) (any test fs) none in or_from (test g) _ parts.0 (any-with_last test fs f parts.1 isnt)

distinct_with : (seen : Forms) (ps : List (Form × Form)) (k v : Form) → distinct_from seen (keys (pairs ps)) ≡ true
    → any (alike k) seen ≡ false → has_key ps k ≡ false
    → distinct_from seen (keys (pairs (ps ++ (k, v) ∷ []))) ≡ true
distinct_with seen [] k v is none new = and_from (not (any (alike k) seen)) true (ap not none) refl
distinct_with seen (p ∷ ps) k v is none new =
    let parts = and_parts (not (any (alike p.0) seen)) (distinct_from (with_last seen p.0) (keys (pairs ps))) is in
    let other = or_parts (alike k p.0) (has_key ps k) new in
    and_from (not (any (alike p.0) seen)) _ parts.0
    (distinct_with (with_last seen p.0) ps k v parts.1 (any-with_last (alike k) seen p.0 none other.0) other.1)

abbrev pub has_distinct_keys : List (Form × Form) → Bool
has_distinct_keys ps = distinct (keys (pairs ps))

distinct_after : (made : ℕ → Item → Made) (old : Inside) (p : ℕ × Item) → has_distinct_keys old.pairs ≡ true
    → has_distinct_keys (with_item made old p).pairs ≡ true
distinct_after made old p is = go (has_key old.pairs (key_of_item p.1)) refl
  where
    put : (value : Option Form) → has_key old.pairs (key_of_item p.1) ≡ false
        → has_distinct_keys (old.pairs ++ pair_of (key_of_item p.1) value) ≡ true
    put None new = subst (λ ps. has_distinct_keys ps ≡ true) (sym (append-nil old.pairs)) is
    put (Some v) new = distinct_with no_forms old.pairs (key_of_item p.1) v is refl new

    go : (b : Bool) → has_key old.pairs (key_of_item p.1) ≡ b → has_distinct_keys (unless_there b made old p.0 p.1).pairs ≡ true
    go true there = is
    go false new = put (made p.0 p.1).form new

pub folded_distinct : (made : ℕ → Item → Made) (old : Inside) (items : List (ℕ × Item)) → has_distinct_keys old.pairs ≡ true
    → has_distinct_keys (fold (with_item made) old items).pairs ≡ true
folded_distinct made old [] is = is
folded_distinct made old (p ∷ items) is = folded_distinct made (with_item made old p) items (distinct_after made old p is)
