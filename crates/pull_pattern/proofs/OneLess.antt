-- A pattern with one less for the number of one of its items, put together from three parts.
use Rattle.std.proofs.Common.{◌≡◌, ℕ, zero, suc, ◌+◌, ◌-◌, ◌<◌, ◌≤◌, true, false, cond, nat_le, List, [], ◌∷◌, ◌++◌, length, take, drop}
use Rattle.std.proofs.Common.{get_or, refl, ap, sym, ◌∙◌, arith, option_to_list, Some, None}
use Rattle.std.proofs.lemmas.List.{append_assoc}
use Rattle.pull_model.specs.Patterns as model
use Rattle.pull_model.specs.Patterns.{wildcard, own, attribute, usual, under, times, unlimited, one_less}
use Rattle.pull_pattern.specs.declared.patterns.Item.{Item}
use Rattle.pull_pattern.specs.Items.{lessened}
use Rattle.pull_pattern.specs.View.{model_item, model_items, pattern_from, pattern_of}

abbrev left : model.Item → List model.Item
left i = option_to_list (lessened i)

less_first : (i : model.Item) (is : List model.Item) → one_less 0 (pattern_from (i ∷ is)) ≡ pattern_from (left i ++ is)
less_first wildcard is = refl
less_first (own options) is = refl
less_first (attribute name options usual) is = refl
less_first (attribute name options (under p)) is = refl
less_first (attribute name options unlimited) is = refl
less_first (attribute name options (times n)) is =
    elim (nat_le n 1) as (λ b. cond b (pattern_from is) (model.item (attribute name options (times (n - 1))) (pattern_from is))
    ≡ pattern_from (option_to_list (cond b None (Some (attribute name options (times (n - 1))))) ++ is))
    [ true ↦ refl | false ↦ refl ]

less_at : (items : List Item) (place : ℕ) (i : Item) → place < length items → i ≡ get_or items place i
    → pattern_from (model_items (take place items) ++ (left (model_item i) ++ model_items (drop (place + 1) items)))
    ≡ one_less place (pattern_of items)
less_at [] place i below is = absurd (omega (arith, below))
less_at (j ∷ items) zero i below is =
    sym (less_first (model_item i) (model_items items)) ∙ ap (λ k. one_less 0 (pattern_from (model_item k ∷ model_items items))) is
less_at (j ∷ items) (suc place) i below is =
    let next : suc place + 1 ≡ suc (place + 1) = omega arith in
    ap (λ n. pattern_from (model_items (take (suc place) (j ∷ items)) ++ (left (model_item i) ++ model_items (drop n (j ∷ items))))) next
    ∙ ap (model.item (model_item j)) (less_at items place i (omega arith) is)

pub less_past : (items : List Item) (place : ℕ) → length items ≤ place → pattern_of items ≡ one_less place (pattern_of items)
less_past [] place past = refl
less_past (j ∷ items) zero past = absurd (omega (arith, past))
less_past (j ∷ items) (suc place) past = ap (model.item (model_item j)) (less_past items place (omega arith))

-- the three parts one after another
pub less_made : (items none front middle list : List Item) (place : ℕ) (i : Item)
    → place < length items → i ≡ get_or items place i → none ≡ []
    → model_items front ≡ model_items none ++ model_items (take place items) → model_items middle ≡ model_items front ++ left (model_item i)
    → model_items list ≡ model_items middle ++ model_items (drop (place + 1) items)
    → pattern_of list ≡ one_less place (pattern_of items)
less_made items none front middle list place i below is empty fronts middles lists =
    ap pattern_from
    (lists
    ∙ ap (λ l. l ++ model_items (drop (place + 1) items))
    (middles ∙ ap (λ l. l ++ left (model_item i)) (fronts ∙ ap (λ l. model_items l ++ model_items (take place items)) empty))
    ∙ append_assoc (model_items (take place items)) (left (model_item i)) (model_items (drop (place + 1) items)))
    ∙ less_at items place i below is
