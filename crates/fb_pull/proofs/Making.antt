-- What the steps of a pull make, one after another, and that what is too large stays so.
use Rattle.std.proofs.Common.{◌≡◌, ◌∙◌, ◌≢◌, ℕ, suc, ◌+◌, ◌-◌, ◌<◌, ◌≤◌, inl, inr, min, max, Bool, true, false, cond, not}
use Rattle.std.proofs.Common.{List, [], ◌∷◌, ◌++◌, length, take, drop, map, fold, get_or, refl, sym, ap, subst, Option, Some, None, arith}
use Rattle.std.specs.Prelude.{Result, Ok, Err, option_map, filter}
use Rattle.std.specs.List.{cons_option, slice_get}
use Rattle.std.specs.Result.{IsErr, IsErrAnd}
use Rattle.std.proofs.Common.{Vec, Global}
use Rattle.edn_form.specs.declared.form.Edn.{Edn}
use Rattle.std.proofs.lemmas.Bool.{true≢false}
use Rattle.std.proofs.lemmas.List.{take_all, length-take, take-append-drop, map-append, take_more, append_assoc}
use Rattle.std.proofs.lemmas.List.Sums.{fold-append}
use Rattle.std.proofs.lemmas.List.Elements.{filter-append, filter_map-append}
use Rattle.edn_model.specs.Form.{Form}
use Rattle.edn_form.specs.View.{form_of, forms_of, pairs_of}
use Rattle.edn_values.specs.Values.{form_of_value}
use Rattle.fb_values.specs.declared.facts.Value.{Value as TheValue}
use Rattle.fb_values.specs.declared.facts.Value.TheVariants.{Ref}
use Rattle.pull_model.specs.Patterns as patterns
use Rattle.pull_model.specs.Patterns.{Pattern, Options, Item, Below, own, attribute, usual, no_options, key_of, own_name}
use Rattle.pull_model.specs.Found as model
use Rattle.pull_model.specs.Made as made
use Rattle.pull_model.specs.Made.{Made, forms_made, maps_made, depth_made, gathered, collected, limited, nothing, plain, or_default}
use Rattle.pull_model.specs.Made.{map_of, enclosed, pair_of, with_pair}
use Rattle.pull_pattern.specs.declared.patterns.Item.{Item as Asked}
use Rattle.pull_pattern.specs.declared.patterns.Item.TheVariants.{Attribute, rolls-Attribute}
use Rattle.pull_pattern.specs.declared.patterns.Options.{Options as AskedOptions}
use Rattle.pull_pattern.specs.declared.patterns.Below.{Below as AskedBelow}
use Rattle.pull_pattern.specs.declared.patterns.Below.TheFolds.{fold-roll-Item}
use Rattle.pull_pattern.specs.declared.patterns.Below.TheOpen.{Item-F}
use Rattle.pull_pattern.specs.View.{model_item, model_options, model_below, below_step, item_step, pattern_step, pattern_from, pattern_of}
use Rattle.pull_model.specs.Tree.{has_item_for, wildcard_items, items_from, tree, pull_below, inside, with_item, unless_there, has_key}
use Rattle.pull_model.specs.Tree.{made_of, value_of, limit_for}
use Rattle.pull_model.proofs.Counts.{items_grow, lists_add, told_counts}
use Rattle.pull_model.proofs.Rooms.{some_room}
use Rattle.fb_pull.specs.declared.made.Pulled.{Pulled}
use Rattle.fb_pull.specs.declared.made.Several.{Several}
use Rattle.fb_pull.specs.declared.made.Inside.{Inside}
use Rattle.fb_pull.specs.declared.made.Limits.{Limits}
use Rattle.fb_pull.specs.declared.found.Found.TheVariants.{Value, Values, Entities}
use Rattle.fb_pull.specs.Finding.{Finds}
use Rattle.fb_pull.specs.Made.{form_in}
use Rattle.fb_pull.specs.declared.stops.Stop.{Stop}
use Rattle.fb_pull.specs.declared.stops.Stop.TheVariants.{TooLarge, Memory}
use Rattle.fb_pull.specs.Making.{Exceed, IsMadeAs, Makes, AreMadeAs, MakesSeveral, IsInside, MakesInside, Adds, with_own}

-- ---- a tree

abbrev pub inner_limits : Limits → Limits
inner_limits limits = record { depth = limits.depth - 1; maps = limits.maps - 1 }

-- the maps that are left
abbrev pub left_of : Limits → ℕ → Limits
left_of limits maps = record { depth = limits.depth; maps = maps }

module _ (facts : model.Db) (pattern : Pattern) (above : List ℕ) (e : ℕ) (limits : Limits) where
  abbrev within : made.Inside
  within = inside (tree (limits.depth - 1) facts) facts pattern above e

  pub tree_exceeds : limits.depth ≢ 0 → limits.maps ≢ 0 → Exceed within.maps within.depth (inner_limits limits)
      → Exceed (tree limits.depth facts pattern above e).maps (tree limits.depth facts pattern above e).depth limits
  tree_exceeds some_depth some_maps exceeds =
      subst (λ (m : Made). Exceed m.maps m.depth limits) (some_room limits.depth facts pattern above e some_depth) (more exceeds)
    where
      more : Exceed within.maps within.depth (inner_limits limits) → Exceed (within.maps + 1) (within.depth + 1) limits
      more (inl many) = inl (omega (arith, many))
      more (inr deep) = inr (omega (arith, deep))

  pub tree_told : limits.depth ≢ 0 → limits.maps ≢ 0 → limits.maps ≤ 4294967295 → (i : Inside) (pull_below : Pulled)
      → IsInside within (inner_limits limits) i → option_map form_of pull_below.form ≡ map_of (pairs_of i.pairs.items)
      → pull_below.maps ≡ min (i.maps + 1) 4294967295
      → IsMadeAs (tree limits.depth facts pattern above e) limits pull_below
  tree_told some_depth some_maps fits i pull_below is form maps =
      subst (λ (m : Made). IsMadeAs m limits pull_below) (some_room limits.depth facts pattern above e some_depth) record {
        form = form ∙ ap map_of is.pairs;
        maps = count is.maps is.few;
        few = few is.few;
        shallow = shallow is.shallow;
      }
    where
      positive : limits.maps ≢ 0 → 1 ≤ limits.maps
      positive some = omega (arith, some)

      count : i.maps ≡ within.maps → within.maps ≤ limits.maps - 1 → pull_below.maps ≡ within.maps + 1
      count same low = let one = positive some_maps in omega (arith, same, low, maps, fits, one)

      few : within.maps ≤ limits.maps - 1 → within.maps + 1 ≤ limits.maps
      few low = let one = positive some_maps in omega (arith, low, one)

      shallow : within.depth ≤ limits.depth - 1 → within.depth + 1 ≤ limits.depth
      shallow low = omega (arith, low, some_depth)

-- an answer that went wrong is handed on
pub handed_on : {T : Type 0} (P : Stop → Type 0) (result : Result T Stop) (stop : Stop) → IsErr result × IsErrAnd result P
    → ((x : Stop) → P x → x ≡ stop) → result ≡ Err stop
handed_on P (Ok x) stop given same = absurd (true≢false (sym given.0))
handed_on P (Err x) stop given same = ap Err (same x given.1)

pub tree_stops : (facts : model.Db) (pattern : Pattern) (above : List ℕ) (e : ℕ) (limits : Limits) → limits.depth ≢ 0 → limits.maps ≢ 0
    → (stop : Stop)
    → MakesInside (inside (tree (limits.depth - 1) facts) facts pattern above e) (inner_limits limits) (Err stop)
    → Makes (tree limits.depth facts pattern above e) limits (Err stop)
tree_stops facts pattern above e limits some_depth some_maps TooLarge exceeds =
    tree_exceeds facts pattern above e limits some_depth some_maps exceeds
tree_stops facts pattern above e limits some_depth some_maps Memory none = tt

-- ---- several entities

form_alone : (m : Made) → forms_made (m ∷ []) ≡ form_in m.form
form_alone m = go m.form
  where
    go : (o : Option Form) → cons_option o [] ≡ form_in o
    go None = refl
    go (Some form) = refl

forms_push : (l : List Made) (m : Made) → forms_made (l ++ m ∷ []) ≡ forms_made l ++ form_in m.form
forms_push l m = filter_map-append (λ (x : Made). x.form) l (m ∷ []) ∙ ap (λ fs. forms_made l ++ fs) (form_alone m)

module _ (f : ℕ → Made) (ns : List ℕ) (limits : Limits) where
  next_is : (i n : ℕ) → i < length ns → n ≡ get_or ns i 0 → map f (take (i + 1) ns) ≡ map f (take i ns) ++ f n ∷ []
  next_is i n below is = ap (map f) (take_more ns i 0 below ∙ ap (λ m. take i ns ++ m ∷ []) (sym is)) ∙ map-append f (take i ns) (n ∷ [])

  pub one_told : limits.maps ≤ 4294967295 → (i n : ℕ) (all new : Several) (t : Pulled) → i < length ns → n ≡ get_or ns i 0
      → AreMadeAs (map f (take i ns)) limits all
      → IsMadeAs (f n) (left_of limits (limits.maps - all.maps)) t
      → forms_of new.forms.items ≡ forms_of all.forms.items ++ form_in (option_map form_of t.form)
      → new.maps ≡ min (all.maps + t.maps) 4294967295
      → AreMadeAs (map f (take (i + 1) ns)) limits new
  one_told fits i n all new t below is before own_told forms maps =
      subst (λ (l : List Made). AreMadeAs l limits new) (sym (next_is i n below is)) record {
        forms =
            forms ∙ ap (λ l. l ++ form_in (option_map form_of t.form)) before.forms
            ∙ ap (λ o. forms_made (map f (take i ns)) ++ form_in o) own_told.form ∙ sym (forms_push (map f (take i ns)) (f n));
        maps = count (lists_add (map f (take i ns)) (f n ∷ [])).0 before.maps before.few own_told.maps own_told.few;
        few = few (lists_add (map f (take i ns)) (f n ∷ [])).0 before.maps before.few own_told.few;
        shallow = shallow (lists_add (map f (take i ns)) (f n ∷ [])).1 before.shallow own_told.shallow;
      }
    where
      so_far : List Made
      so_far = map f (take i ns)

      count : maps_made (so_far ++ f n ∷ []) ≡ maps_made so_far + maps_made (f n ∷ []) → all.maps ≡ maps_made so_far
          → maps_made so_far ≤ limits.maps → t.maps ≡ (f n).maps → (f n).maps ≤ limits.maps - all.maps
          → new.maps ≡ maps_made (so_far ++ f n ∷ [])
      count sum all_is low own_is own_low = omega (arith, sum, all_is, low, own_is, own_low, maps, fits)

      few : maps_made (so_far ++ f n ∷ []) ≡ maps_made so_far + maps_made (f n ∷ []) → all.maps ≡ maps_made so_far
          → maps_made so_far ≤ limits.maps → (f n).maps ≤ limits.maps - all.maps → maps_made (so_far ++ f n ∷ []) ≤ limits.maps
      few sum all_is low own_low = omega (arith, sum, all_is, low, own_low)

      shallow : depth_made (so_far ++ f n ∷ []) ≡ max (depth_made so_far) (depth_made (f n ∷ [])) → depth_made so_far ≤ limits.depth
          → (f n).depth ≤ limits.depth → depth_made (so_far ++ f n ∷ []) ≤ limits.depth
      shallow greatest low own_low = omega (arith, greatest, low, own_low)

  -- one that is too large makes the whole too large
  pub one_exceeds : (i n : ℕ) (all : Several) → i < length ns → n ≡ get_or ns i 0 → AreMadeAs (map f (take i ns)) limits all
      → Exceed (f n).maps (f n).depth (left_of limits (limits.maps - all.maps))
      → Exceed (maps_made (map f ns)) (depth_made (map f ns)) limits
  one_exceeds i n all below is before exceeds =
      subst (λ (l : List Made). Exceed (maps_made l) (depth_made l) limits) (sym parts) (go exceeds)
    where
      rest : List Made
      rest = map f (drop (i + 1) ns)

      parts : map f ns ≡ (map f (take i ns) ++ f n ∷ []) ++ rest
      parts =
          ap (map f) (sym (take-append-drop (i + 1) ns)) ∙ map-append f (take (i + 1) ns) (drop (i + 1) ns)
          ∙ ap (λ l. l ++ rest) (next_is i n below is)

      go : Exceed (f n).maps (f n).depth (left_of limits (limits.maps - all.maps))
          → Exceed (maps_made ((map f (take i ns) ++ f n ∷ []) ++ rest)) (depth_made ((map f (take i ns) ++ f n ∷ []) ++ rest)) limits
      go (inl many) =
          inl (more (lists_add (map f (take i ns) ++ f n ∷ []) rest).0 (lists_add (map f (take i ns)) (f n ∷ [])).0 before.maps before.few
          many)
        where
          more : maps_made ((map f (take i ns) ++ f n ∷ []) ++ rest) ≡ maps_made (map f (take i ns) ++ f n ∷ []) + maps_made rest
              → maps_made (map f (take i ns) ++ f n ∷ []) ≡ maps_made (map f (take i ns)) + maps_made (f n ∷ [])
              → all.maps ≡ maps_made (map f (take i ns)) → maps_made (map f (take i ns)) ≤ limits.maps
              → limits.maps - all.maps < (f n).maps → limits.maps < maps_made ((map f (take i ns) ++ f n ∷ []) ++ rest)
          more whole front all_is low high = omega (arith, whole, front, all_is, low, high)
      go (inr deep) = inr (more (lists_add (map f (take i ns) ++ f n ∷ []) rest).1 (lists_add (map f (take i ns)) (f n ∷ [])).1 deep)
        where
          more : depth_made ((map f (take i ns) ++ f n ∷ []) ++ rest) ≡ max (depth_made (map f (take i ns) ++ f n ∷ [])) (depth_made rest)
              → depth_made (map f (take i ns) ++ f n ∷ []) ≡ max (depth_made (map f (take i ns))) (depth_made (f n ∷ []))
              → limits.depth < (f n).depth → limits.depth < depth_made ((map f (take i ns) ++ f n ∷ []) ++ rest)
          more whole front high = omega (arith, whole, front, high)

  pub all_told : (i : ℕ) (all : Several) → length ns ≤ i → AreMadeAs (map f (take i ns)) limits all → AreMadeAs (map f ns) limits all
  all_told i all past is = subst (λ (l : List ℕ). AreMadeAs (map f l) limits all) (take_all i ns past) is

pub one_stops : (f : ℕ → Made) (ns : List ℕ) (limits : Limits) (i n : ℕ) (all : Several) → i < length ns → n ≡ get_or ns i 0
    → AreMadeAs (map f (take i ns)) limits all
    → (stop : Stop) → Makes (f n) (left_of limits (limits.maps - all.maps)) (Err stop) → MakesSeveral (map f ns) limits (Err stop)
one_stops f ns limits i n all below is before TooLarge exceeds = one_exceeds f ns limits i n all below is before exceeds
one_stops f ns limits i n all below is before Memory none = tt

-- ---- the value of an attribute

plain_forms : (vs : List TheValue) → forms_made (map (λ v. plain (form_of_value v)) vs) ≡ map form_of_value vs
plain_forms [] = refl
plain_forms (v ∷ vs) = ap (λ (l : List Form). form_of_value v ∷ l) (plain_forms vs)

plain_maps : (vs : List TheValue) → maps_made (map (λ v. plain (form_of_value v)) vs) ≡ 0
plain_maps [] = refl
plain_maps (v ∷ vs) = omega (arith, plain_maps vs)

plain_depth : (vs : List TheValue) → depth_made (map (λ v. plain (form_of_value v)) vs) ≡ 0
plain_depth [] = refl
plain_depth (v ∷ vs) = omega (arith, plain_depth vs)

module _ (facts : model.Db) (pattern : Pattern) (place : ℕ) (path : List ℕ) (options : Options) (below : Below) (limits : Limits) where
  abbrev pub trees : Pattern → List ℕ → ℕ → Made
  trees = tree limits.depth facts

  plain_told : (many : Bool) (vs : List TheValue) (t : Pulled)
      → option_map form_of t.form ≡ collected many (map form_of_value (limited (limit_for many options) vs)) → t.maps ≡ 0
      → IsMadeAs (value_of trees pattern place path options below (model.values many vs)) limits t
  plain_told many vs t form maps = record {
    form = form ∙ ap (collected many) (sym (plain_forms (limited (limit_for many options) vs)));
    maps = maps ∙ sym (plain_maps (limited (limit_for many options) vs));
    few = omega (arith, plain_maps (limited (limit_for many options) vs));
    shallow = omega (arith, plain_depth (limited (limit_for many options) vs));
  }

  -- the first value is the one that is given
  one_given : (vs : List TheValue) → option_map form_of_value (slice_get vs 0) ≡ collected false
      (map form_of_value (limited (limit_for false options) vs))
  one_given [] = refl
  one_given (v ∷ vs) = refl

  pub value_told : (there : model.Found) (form : Option Edn) → Finds there options limits.maps (Value form)
      → IsMadeAs (value_of trees pattern place path options below there) limits (record { form = form; maps = 0 })
  value_told model.absent form finds = absurd finds
  value_told (model.entities many parts ns) form finds = absurd finds
  value_told (model.values many vs) form finds =
      plain_told many vs (record { form = form; maps = 0 })
      (finds.1 ∙ one_given vs ∙ ap (λ b. collected b (map form_of_value (limited (limit_for b options) vs))) (sym finds.0)) refl

  pub values_told : (there : model.Found) (forms : Vec Edn Global) (t : Pulled)
      → Finds there options limits.maps (Values forms) → option_map form_of t.form ≡ collected true (forms_of forms.items)
      → t.maps ≡ 0
      → IsMadeAs (value_of trees pattern place path options below there) limits t
  values_told model.absent forms t finds form maps = absurd finds
  values_told (model.entities many parts ns) forms t finds form maps = absurd finds
  values_told (model.values many vs) forms t finds form maps =
      plain_told many vs t (form ∙ ap (λ b. collected b (forms_of forms.items)) (sym finds.0) ∙ ap (collected many) finds.1) maps

  abbrev tells : Bool → ℕ → Made
  tells parts = pull_below trees pattern place path parts below

  same_map : (f g : ℕ → Made) → ((n : ℕ) → f n ≡ g n) → (ns : List ℕ) → map f ns ≡ map g ns
  same_map f g same [] = refl
  same_map f g same (n ∷ ns) = ap (λ (m : Made). m ∷ map f ns) (same n) ∙ ap (λ (l : List Made). g n ∷ l) (same_map f g same ns)

  at_least : (parts : Bool) (ns : List ℕ) → length ns ≤ maps_made (map (tells parts) ns)
  at_least parts [] = omega arith
  at_least parts (n ∷ ns) = omega (arith, at_least parts ns, (told_counts limits.depth facts pattern place path parts below n).0)

  -- the first of them, one more than may be told, are all, or too many
  pub entities_told : (there : model.Found) (several parts : Bool) (list : Vec ℕ Global) (f : ℕ → Made) (all : Several) (t : Pulled)
      → Finds there options limits.maps (Entities several parts list)
      → ((n : ℕ) → f n ≡ pull_below trees pattern place path parts below n) → AreMadeAs (map f list.items) limits all
      → option_map form_of t.form ≡ collected several (forms_of all.forms.items) → t.maps ≡ all.maps
      → IsMadeAs (value_of trees pattern place path options below there) limits t
  entities_told model.absent several parts list f all t finds same is form maps = absurd finds
  entities_told (model.values many vs) several parts list f all t finds same is form maps = absurd finds
  entities_told (model.entities many components ns) several parts list f all t finds same is form maps =
      subst (λ (l : List Made). IsMadeAs (gathered many l) limits t) (ap (map (tells components)) whole) record {
        form =
            form ∙ ap (collected several) whole_is.forms ∙ ap (λ b. collected b (forms_made (map (tells components) list.items))) finds.0;
        maps = maps ∙ whole_is.maps;
        few = whole_is.few;
        shallow = whole_is.shallow;
      }
    where
      told_is : map f list.items ≡ map (tells components) list.items
      told_is = same_map f (tells components) (λ n. same n ∙ ap (λ b. tells b n) finds.1) list.items

      whole_is : AreMadeAs (map (tells components) list.items) limits all
      whole_is = subst (λ (l : List Made). AreMadeAs l limits all) told_is is

      whole : list.items ≡ limited (limit_for many options) ns
      whole =
          finds.2 ∙ take_all (limits.maps + 1) (limited (limit_for many options) ns) (short (limited (limit_for many options) ns) finds.2)
        where
          short : (l : List ℕ) → list.items ≡ take (limits.maps + 1) l → length l ≤ limits.maps + 1
          short l cut =
              let count : length list.items ≡ min (limits.maps + 1) (length l) = ap length cut
              ∙ length-take (limits.maps + 1) l in omega (arith, count, at_least components list.items, whole_is.few)

  pub entities_exceed : (there : model.Found) (several parts : Bool) (list : Vec ℕ Global) (f : ℕ → Made)
      → Finds there options limits.maps (Entities several parts list)
      → ((n : ℕ) → f n ≡ pull_below trees pattern place path parts below n)
      → Exceed (maps_made (map f list.items)) (depth_made (map f list.items)) limits
      → Exceed (value_of trees pattern place path options below there).maps (value_of trees pattern place path options below there).depth
      limits
  entities_exceed model.absent several parts list f finds same exceeds = absurd finds
  entities_exceed (model.values many vs) several parts list f finds same exceeds = absurd finds
  entities_exceed (model.entities many components ns) several parts list f finds same exceeds =
      subst (λ (l : List ℕ). Exceed (maps_made (map (tells components) l)) (depth_made (map (tells components) l)) limits)
      (take-append-drop (limits.maps + 1) whole)
      (subst (λ (l : List Made). Exceed (maps_made l) (depth_made l) limits)
      (sym (map-append (tells components) (take (limits.maps + 1) whole) (drop (limits.maps + 1) whole)))
      (go (subst (λ (l : List Made). Exceed (maps_made l) (depth_made l) limits) (told_is ∙ ap (map (tells components)) finds.2)
      exceeds)))
    where
      whole : List ℕ
      whole = limited (limit_for many options) ns

      told_is : map f list.items ≡ map (tells components) list.items
      told_is = same_map f (tells components) (λ n. same n ∙ ap (λ b. tells b n) finds.1) list.items

      go : Exceed (maps_made (map (tells components) (take (limits.maps + 1) whole)))
          (depth_made (map (tells components) (take (limits.maps + 1) whole))) limits
          → Exceed (maps_made (map (tells components) (take (limits.maps + 1) whole) ++ map (tells components)
          (drop (limits.maps + 1) whole))) (depth_made
          (map (tells components) (take (limits.maps + 1) whole) ++ map (tells components) (drop (limits.maps + 1) whole))) limits
      go (inl many_maps) =
          inl (omega (
            arith,
            many_maps,
            (lists_add (map (tells components) (take (limits.maps + 1) whole))
                (map (tells components) (drop (limits.maps + 1) whole))).0,
          ))
      go (inr deep) =
          inr (omega (
            arith,
            deep,
            (lists_add (map (tells components) (take (limits.maps + 1) whole))
                (map (tells components) (drop (limits.maps + 1) whole))).1,
          ))

pub entities_stop : (facts : model.Db) (pattern : Pattern) (place : ℕ) (path : List ℕ) (options : Options) (below : Below)
    (limits : Limits)
    → (there : model.Found) (several parts : Bool) (list : Vec ℕ Global) (f : ℕ → Made)
    → Finds there options limits.maps (Entities several parts list)
    → ((n : ℕ) → f n ≡ pull_below (tree limits.depth facts) pattern place path parts below n) → (stop : Stop)
    → MakesSeveral (map f list.items) limits (Err stop)
    → Makes (value_of (tree limits.depth facts) pattern place path options below there) limits (Err stop)
entities_stop facts pattern place path options below limits there several parts list f finds same TooLarge exceeds =
    entities_exceed facts pattern place path options below limits there several parts list f finds same exceeds
entities_stop facts pattern place path options below limits there several parts list f finds same Memory none = tt

-- ---- the pairs of a map

nothing_more : {X : Type 0} (xs : List X) → xs ++ [] ≡ xs
nothing_more [] = refl
nothing_more (x ∷ xs) = ap (λ l. x ∷ l) (nothing_more xs)

module _ (facts : model.Db) (P : Pattern) (e : ℕ) where
  abbrev from : ℕ → Pattern → List (ℕ × Item)
  from = items_from facts e P

  first_item : (k : ℕ) (i : Item) (rest : Pattern) → from k (patterns.item i rest) ≡ from k (patterns.one i) ++ from (k + 1) rest
  first_item k patterns.wildcard rest =
      ap (λ l. l ++ from (k + 1) rest) (sym (nothing_more (map (λ i. (k, i)) (wildcard_items facts e P))))
  first_item k (own options) rest = refl
  first_item k (attribute name options below) rest = refl

  items_append : (k : ℕ) (xs ys : List Item) → from k (pattern_from (xs ++ ys)) ≡ from k (pattern_from xs) ++ from (k + length xs)
      (pattern_from ys)
  items_append k [] ys = ap (λ n. from n (pattern_from ys)) none
    where
      none : k ≡ k + 0
      none = omega arith
  items_append k (x ∷ xs) ys =
      first_item k x (pattern_from (xs ++ ys))
      ∙ ap (λ l. from k (patterns.one x) ++ l) (items_append (k + 1) xs ys)
      ∙ sym (append_assoc (from k (patterns.one x)) (from (k + 1) (pattern_from xs)) (from (k + 1 + length xs) (pattern_from ys)))
      ∙ ap (λ l. l ++ from (k + 1 + length xs) (pattern_from ys)) (sym (first_item k x (pattern_from xs)))
      ∙ ap (λ n. from k (pattern_from (x ∷ xs)) ++ from n (pattern_from ys)) (later k (length xs))
    where
      later : (k n : ℕ) → k + 1 + n ≡ k + suc n
      later k n = omega arith

  mapped_length : (some : List Asked) → length (map model_item some) ≡ length some
  mapped_length [] = refl
  mapped_length (x ∷ some) = ap suc (mapped_length some)

  module _ (m : ℕ → Item → Made) (items : List Asked) (limits : Limits) where
    abbrev pub so_far : ℕ → made.Inside
    so_far i = fold (with_item m) made.no_pairs_yet (from 0 (pattern_of (take i items)))

    up_to : (i : ℕ) (x : Asked) → i < length items → x ≡ get_or items i x
        → from 0 (pattern_of (take (i + 1) items)) ≡ from 0 (pattern_of (take i items)) ++ from i (patterns.one (model_item x))
    up_to i x below is =
        ap (λ l. from 0 (pattern_of l)) (take_more items i x below ∙ ap (λ y. take i items ++ y ∷ []) (sym is))
        ∙ ap (λ l. from 0 (pattern_from l)) (map-append model_item (take i items) (x ∷ []))
        ∙ items_append 0 (map model_item (take i items)) (model_item x ∷ [])
        ∙ ap (λ n. from 0 (pattern_of (take i items)) ++ from n (patterns.one (model_item x)))
        (count (mapped_length (take i items)) (length-take i items))
      where
        count : length (map model_item (take i items)) ≡ length (take i items) → length (take i items) ≡ min i (length items)
            → 0 + length (map model_item (take i items)) ≡ i
        count mapped taken = omega (arith, mapped, taken, below)

    pub item_added : (i : ℕ) (x : Asked) → i < length items → x ≡ get_or items i x
        → fold (with_item m) (so_far i) (from i (patterns.one (model_item x))) ≡ so_far (i + 1)
    item_added i x below is =
        sym (fold-append (with_item m) made.no_pairs_yet (from 0 (pattern_of (take i items))) (from i (patterns.one (model_item x))))
        ∙ ap (fold (with_item m) made.no_pairs_yet) (sym (up_to i x below is))

    pub whole_exceeds : (i : ℕ) → Exceed (so_far i).maps (so_far i).depth limits
        → Exceed (fold (with_item m) made.no_pairs_yet (from 0 (pattern_of items))).maps
        (fold (with_item m) made.no_pairs_yet (from 0 (pattern_of items))).depth limits
    whole_exceeds i exceeds = subst (λ (n : made.Inside). Exceed n.maps n.depth limits) (sym parts) (go exceeds)
      where
        rest : List (ℕ × Item)
        rest = from (0 + length (map model_item (take i items))) (pattern_of (drop i items))

        parts : fold (with_item m) made.no_pairs_yet (from 0 (pattern_of items)) ≡ fold (with_item m) (so_far i) rest
        parts =
            ap (λ l. fold (with_item m) made.no_pairs_yet (from 0 (pattern_of l))) (sym (take-append-drop i items))
            ∙ ap (λ l. fold (with_item m) made.no_pairs_yet (from 0 (pattern_from l))) (map-append model_item (take i items) (drop i items))
            ∙ ap (fold (with_item m) made.no_pairs_yet) (items_append 0 (map model_item (take i items)) (map model_item (drop i items)))
            ∙ fold-append (with_item m) made.no_pairs_yet (from 0 (pattern_of (take i items))) rest

        go : Exceed (so_far i).maps (so_far i).depth limits
            → Exceed (fold (with_item m) (so_far i) rest).maps (fold (with_item m) (so_far i) rest).depth limits
        go (inl many) = inl (omega (arith, many, (items_grow m (so_far i) rest).0))
        go (inr deep) = inr (omega (arith, deep, (items_grow m (so_far i) rest).1))

pub pairs_whole : (facts : model.Db) (P : Pattern) (e : ℕ) (m : ℕ → Item → Made) (items : List Asked) (limits : Limits) (i : ℕ)
    (inside : Inside) → length items ≤ i → pattern_of items ≡ P
    → IsInside (so_far facts P e m items limits i) limits inside
    → IsInside (fold (with_item m) made.no_pairs_yet (items_from facts e P 0 P)) limits inside
pairs_whole facts P e m items limits i inside past same is =
    subst (λ (p : Pattern). IsInside (fold (with_item m) made.no_pairs_yet (items_from facts e P 0 p)) limits inside) same
    (subst (λ (l : List Asked). IsInside (fold (with_item m) made.no_pairs_yet (items_from facts e P 0 (pattern_of l))) limits inside)
    (take_all i items past) is)

pub item_stops : (facts : model.Db) (P : Pattern) (e : ℕ) (m : ℕ → Item → Made) (items : List Asked) (limits : Limits) (i : ℕ)
    (stop : Stop) (inside : Inside)
    → Adds (so_far facts P e m items limits (i + 1)) limits inside (Err stop)
    → MakesInside (fold (with_item m) made.no_pairs_yet (items_from facts e P 0 (pattern_of items))) limits (Err stop)
item_stops facts P e m items limits i TooLarge inside exceeds = whole_exceeds facts P e m items limits (i + 1) exceeds
item_stops facts P e m items limits i Memory inside none = tt

-- ---- what `*` stands for

module _ (facts : model.Db) (P : Pattern) (e place : ℕ) (m : ℕ → Item → Made) (limits : Limits) (before : made.Inside)
    (names : List (List ℕ)) where
  abbrev other : List ℕ → Item
  other name = attribute name no_options usual

  abbrev is_other : List ℕ → Bool
  is_other name = not (has_item_for name P)

  abbrev pub listed : List (List ℕ) → List (ℕ × Item)
  listed some = map (λ i. (place, i)) (own no_options ∷ map other (filter is_other some))

  abbrev pub others_so_far : ℕ → made.Inside
  others_so_far i = fold (with_item m) before (listed (take i names))

  listed_append : (xs ys : List (List ℕ)) → listed (xs ++ ys) ≡ listed xs ++ map (λ i. (place, i)) (map other (filter is_other ys))
  listed_append xs ys =
      ap (λ l. (place, own no_options) ∷ l)
      (ap (λ l. map (λ i. (place, i)) (map other l)) (filter-append is_other xs ys)
      ∙ ap (map (λ i. (place, i))) (map-append other (filter is_other xs) (filter is_other ys))
      ∙ map-append (λ i. (place, i)) (map other (filter is_other xs)) (map other (filter is_other ys)))

  pub other_added : (i : ℕ) (name : List ℕ) → i < length names → name ≡ get_or names i name
      → cond (has_item_for name P) (others_so_far i) (with_item m (others_so_far i) (place, other name)) ≡ others_so_far (i + 1)
  other_added i name below is =
      one (has_item_for name P)
      ∙ sym (fold-append (with_item m) before (listed (take i names)) (map (λ j. (place, j)) (map other (filter is_other (name ∷ [])))))
      ∙ ap (fold (with_item m) before) (sym (listed_append (take i names) (name ∷ []))
      ∙ ap listed (sym (take_more names i name below ∙ ap (λ n. take i names ++ n ∷ []) (sym is))))
    where
      one : (b : Bool) → cond b (others_so_far i) (with_item m (others_so_far i) (place, other name))
          ≡ fold (with_item m) (others_so_far i) (map (λ j. (place, j)) (map other (cond (not b) (name ∷ []) [])))
      one true = refl
      one false = refl

  pub others_exceed : (i : ℕ) → Exceed (others_so_far i).maps (others_so_far i).depth limits
      → Exceed (fold (with_item m) before (listed names)).maps (fold (with_item m) before (listed names)).depth limits
  others_exceed i exceeds = subst (λ (n : made.Inside). Exceed n.maps n.depth limits) (sym parts) (go exceeds)
    where
      rest : List (ℕ × Item)
      rest = map (λ j. (place, j)) (map other (filter is_other (drop i names)))

      parts : fold (with_item m) before (listed names) ≡ fold (with_item m) (others_so_far i) rest
      parts =
          ap (λ l. fold (with_item m) before (listed l)) (sym (take-append-drop i names))
          ∙ ap (fold (with_item m) before) (listed_append (take i names) (drop i names))
          ∙ fold-append (with_item m) before (listed (take i names)) rest

      go : Exceed (others_so_far i).maps (others_so_far i).depth limits
          → Exceed (fold (with_item m) (others_so_far i) rest).maps (fold (with_item m) (others_so_far i) rest).depth limits
      go (inl many) = inl (omega (arith, many, (items_grow m (others_so_far i) rest).0))
      go (inr deep) = inr (omega (arith, deep, (items_grow m (others_so_far i) rest).1))

  pub all_others : (i : ℕ) (inside : Inside) → length names ≤ i → IsInside (others_so_far i) limits inside
      → IsInside (fold (with_item m) before (listed names)) limits inside
  all_others i inside past is =
      subst (λ (l : List (List ℕ)). IsInside (fold (with_item m) before (listed l)) limits inside) (take_all i names past) is

pub other_stops : (facts : model.Db) (P : Pattern) (e place : ℕ) (m : ℕ → Item → Made) (limits : Limits) (before : made.Inside)
    (names : List (List ℕ)) (i : ℕ) (stop : Stop) (inside : Inside)
    → Adds (others_so_far facts P e place m limits before names (i + 1)) limits inside (Err stop)
    → Adds (fold (with_item m) before (listed facts P e place m limits before names names)) limits inside (Err stop)
other_stops facts P e place m limits before names i TooLarge inside exceeds =
    others_exceed facts P e place m limits before names (i + 1) exceeds
other_stops facts P e place m limits before names i Memory inside none = tt

-- ---- the entity's number

pub own_added : (trees : Pattern → List ℕ → ℕ → Made) (facts : model.Db) (P : Pattern) (above : List ℕ) (e place : ℕ) (limits : Limits)
    (before : made.Inside) (options : Options) (old new : Inside)
    → IsInside before limits old → pairs_of new.pairs.items ≡ with_own (pairs_of old.pairs.items) options e → new.maps ≡ old.maps
    → IsInside (with_item (made_of trees facts P above e) before (place, own options)) limits new
own_added trees facts P above e place limits before options old new is pairs maps =
    go (has_key before.pairs (key_of own_name options)) refl
  where
    as_before : pairs_of new.pairs.items ≡ with_own before.pairs options e
    as_before = pairs ∙ ap (λ ps. with_own ps options e) is.pairs

    go : (b : Bool) → has_key before.pairs (key_of own_name options) ≡ b
        → IsInside (unless_there b (made_of trees facts P above e) before place (own options)) limits new
    go true there = record {
      pairs = as_before ∙ ap (λ b. cond b before.pairs (before.pairs ++ (key_of own_name options, form_of_value (Ref e)) ∷ [])) there;
      maps = maps ∙ is.maps;
      few = is.few;
      shallow = is.shallow;
    }
    go false not_there = record {
      pairs = as_before ∙ ap (λ b. cond b before.pairs (before.pairs ++ (key_of own_name options, form_of_value (Ref e)) ∷ [])) not_there;
      maps = maps ∙ is.maps ∙ same;
      few = few is.few;
      shallow = shallow is.shallow;
    }
      where
        same : before.maps ≡ before.maps + 0
        same = omega arith

        few : before.maps ≤ limits.maps → before.maps + 0 ≤ limits.maps
        few low = omega (arith, low)

        shallow : before.depth ≤ limits.depth → max before.depth 0 ≤ limits.depth
        shallow low = omega (arith, low)

-- ---- an item as the definitions see it

pub as_attribute : (i : Asked) (name : List ℕ) (options : AskedOptions) (below : AskedBelow) → i ≡ Attribute name options below
    → model_item i ≡ attribute name (model_options options) (model_below below)
as_attribute i name options below is =
    ap model_item (is ∙ sym (rolls-Attribute name options below))
    ∙ fold-roll-Item Below Item Pattern below_step item_step pattern_step (Item-F.Attribute name options below)
