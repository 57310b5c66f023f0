-- What goes before a leaf, by a search among datoms; and a leaf that stays.
use Rattle.std.proofs.Common.{◌≡◌, ◌<◌, Bool, true, false, List, [], ◌∷◌, ◌++◌, length, take, drop, refl, ap, ◌∙◌, inl, inr, arith, Some}
use Rattle.std.specs.Prelude.{Contains, IsTrue}
use Rattle.std.specs.List.{All, slice_get}
use Rattle.std.specs.Option.{option_map_or}
use Rattle.std.specs.Ordering.{is_gt, is_lt}
use Rattle.std.specs.declared.cmp.Ordering.{Ordering}
use Rattle.std.specs.declared.cmp.Ordering.TheVariants.{Less, Equal, Greater}
use Rattle.std.proofs.lemmas.List.Elements.{All-contains}
use Rattle.fb_values.specs.declared.facts.Datom.{Datom}
use Rattle.fb_values.specs.declared.indexes.Order.{Order}
use Rattle.fb_values.specs.Orders.{key_cmp}
use Rattle.fb_values.specs.OrderLaws.{key_cmp_total}
use Rattle.fb_covers.specs.Coverage.{Coverage}
use Rattle.fb_values.specs.Rising.{IsRising}
use Rattle.fb_search.specs.Places.{place_of, probe_of}
use Rattle.live_index.specs.Growth.{is_held}
use Rattle.live_index.proofs.Members.{contains_none}
use Rattle.seg_tree.specs.Chunks.{BeginsWith}
use Rattle.seg_tree.specs.Nodes.{LeafNode}
use Rattle.seg_merge.specs.Merged.{goes_before_leaf}
use Rattle.seg_merge.specs.Plans.{Planned, AddsLeaf}
use Rattle.seg_merge.proofs.Before.{own_before, own_behind}

pub begins_some : (ds : List Datom) (first : Datom) → BeginsWith ds first → 0 < length ds
begins_some [] first begins = absurd begins
begins_some (d ∷ ds) first begins = omega arith

first_of : (order : Order) (ds : List Datom) (first d : Datom) (b : Bool) → BeginsWith ds first → is_lt (key_cmp order d first) ≡ b
    → option_map_or (λ f. is_lt (key_cmp order d f)) (slice_get ds 0) false ≡ b
first_of order [] first d b begins is = absurd begins
first_of order (x ∷ ds) first d b begins is = ap (λ (f : Datom). is_lt (key_cmp order d f)) begins ∙ is

pub goes_front : (order : Order) (leaf : LeafNode) (first : Datom) (ds : List Datom) (d : Datom) → BeginsWith leaf.datoms first
    → Contains (take (place_of (probe_of order first) ds) ds) d → goes_before_leaf order (Some leaf) d ≡ true
goes_front order leaf first ds d begins there =
    first_of order leaf.datoms first d true begins (ap is_lt (own_before order first ds d there))

not_lesser : (order : Order) (d first : Datom) (o : Ordering) → key_cmp order first d ≡ o → is_gt o ≡ false
    → is_lt (key_cmp order d first) ≡ false
not_lesser order d first Less e h = let up : key_cmp order d first ≡ Greater = (key_cmp_total order).antisymm d first ∙ cc in ap is_lt up
not_lesser order d first Equal e h = let same : key_cmp order d first ≡ Equal = (key_cmp_total order).antisymm d first ∙ cc in ap is_lt same
not_lesser order d first Greater e h = absurd (cc)

pub goes_behind : (order : Order) (leaf : LeafNode) (first : Datom) (ds : List Datom) (d : Datom) → BeginsWith leaf.datoms first
    → IsRising order ds → Contains (drop (place_of (probe_of order first) ds) ds) d → goes_before_leaf order (Some leaf) d ≡ false
goes_behind order leaf first ds d begins rising there =
    first_of order leaf.datoms first d false begins
    (not_lesser order d first (key_cmp order first d) refl (own_behind order first ds d rising there))

-- a leaf that stays
pub adds_kept : (order : Order) (coverage : Coverage) (leaf : LeafNode) (plan : Planned)
    → IsRising order leaf.datoms → All (λ d. IsTrue (is_held coverage order d)) leaf.datoms
    → AddsLeaf order coverage leaf [] plan (record { datoms = plan.datoms ++ leaf.datoms; kept = plan.kept ++ leaf ∷ [] })
adds_kept order coverage leaf plan rising all = record {
  piece = leaf.datoms;
  datoms = refl;
  union = record {
    rising = rising;
    members = λ d. (
      λ there. inl (there, All-contains (λ x. IsTrue (is_held coverage order x)) leaf.datoms d all there),
      λ given. elim given [
        | inl a ↦ a.0
        | inr b ↦ absurd (contains_none d b)
      ],
    );
  };
  kept = inr refl;
  stays = λ e every. refl;
}
