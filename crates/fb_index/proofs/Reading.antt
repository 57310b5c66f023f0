-- What is read of each list.
use Rattle.std.proofs.Common.{◌≡◌, ◌∙◌, ℕ, ◌+◌, Bool, true, false, cond, not, List, [], ◌∷◌, drop, refl, sym, ap, subst, Option, Some, None}
use Rattle.std.specs.Prelude.{filter, IfSome}
use Rattle.std.specs.List.{slice_get}
use Rattle.fb_values.specs.declared.facts.Datom.{Datom}
use Rattle.fb_values.specs.declared.indexes.Order.{Order}
use Rattle.fb_values.specs.declared.indexes.Probe.{Probe}
use Rattle.fb_values.specs.Lists.{Lists}
use Rattle.fb_values.specs.Rising.{IsRising}
use Rattle.fb_search.specs.Places.{is_below, place_of}
use Rattle.live_index.specs.Halves.{IsPair, merged, outlives, withdrawn}
use Rattle.live_index.proofs.Walking.{drop_next, drop_past, rising-drop}
use Rattle.fb_index.specs.declared.sides.Extent.{Extent}
use Rattle.fb_index.specs.declared.sides.Extent.TheVariants.{Said, Held}
use Rattle.fb_index.specs.Ranges.{from_probe, is_above, is_past, upto_probe, within}
use Rattle.fb_index.specs.Sides.{is_read, older_read}
use Rattle.fb_index.proofs.Merging.{filter_pair, merged-filter, filter-filter, from_place, upto_none}

-- ---- of a tree

read_step : (extent : Extent) (live : Lists) (d : Datom) (ds : List Datom) (b : Bool) → is_read extent live d ≡ b
    → older_read extent live (d ∷ ds) ≡ cond b (d ∷ older_read extent live ds) (older_read extent live ds)
read_step Said live d ds b is = ap (λ (c : Bool). cond c (d ∷ ds) ds) is
read_step Held live d ds b is = ap (λ (c : Bool). cond c (d ∷ older_read Held live ds) (older_read Held live ds)) is

nothing : (extent : Extent) (live : Lists) → older_read extent live [] ≡ []
nothing Said live = refl
nothing Held live = refl

pub older_here : (extent : Extent) (live : Lists) (ds : List Datom) (i : ℕ) (d : Datom) → slice_get ds i ≡ Some d
    → is_read extent live d ≡ true → older_read extent live (drop i ds) ≡ d ∷ older_read extent live (drop (i + 1) ds)
older_here extent live ds i d at is = ap (older_read extent live) (drop_next ds i d at) ∙ read_step extent live d (drop (i + 1) ds) true is

pub older_skipped : (extent : Extent) (live : Lists) (ds : List Datom) (i : ℕ) (d : Datom) → slice_get ds i ≡ Some d
    → is_read extent live d ≡ false → older_read extent live (drop i ds) ≡ older_read extent live (drop (i + 1) ds)
older_skipped extent live ds i d at is =
    ap (older_read extent live) (drop_next ds i d at) ∙ read_step extent live d (drop (i + 1) ds) false is

pub older_past : (extent : Extent) (live : Lists) (ds : List Datom) (i : ℕ) → slice_get ds i ≡ None
    → older_read extent live (drop i ds) ≡ []
older_past extent live ds i none = ap (older_read extent live) (drop_past ds i none) ∙ nothing extent live

pub older_from : (extent : Extent) (live : Lists) (p : Probe) (ds : List Datom) → IsRising p.order ds
    → older_read extent live (drop (place_of p ds) ds) ≡ from_probe p (older_read extent live ds)
older_from Said live p ds rising = from_place p ds rising
older_from Held live p ds rising =
    ap (filter (outlives (withdrawn live.eavt))) (from_place p ds rising)
    ∙ filter-filter (outlives (withdrawn live.eavt)) (λ d. not (is_below p d)) ds

-- ---- as far as a probe leads

pub within_both : (end : Option Probe) (order : Order) (older live : List Datom) → IsPair order older live
    → within end (merged order older live) ≡ merged order (within end older) (within end live)
within_both None order older live pair = refl
within_both (Some p) order older live pair = sym (merged-filter order (λ x. not (is_above p x)) older live pair)

pub within_none : (end : Option Probe) → within end [] ≡ []
within_none None = refl
within_none (Some p) = refl

pub within_step : (end : Option Probe) (d : Datom) (ds : List Datom) → is_past end d ≡ false → within end (d ∷ ds) ≡ d ∷ within end ds
within_step None d ds is = refl
within_step (Some p) d ds is = rw is refl

pub within_end : (end : Option Probe) (order : Order) (d : Datom) (ds : List Datom) → IfSome end (λ p. p.order ≡ order)
    → IsRising order (d ∷ ds) → is_past end d ≡ true → within end (d ∷ ds) ≡ []
within_end None order d ds same rising is = absurd (cc)
within_end (Some p) order d ds same rising is = upto_none p d ds (subst (λ (o : Order). IsRising o (d ∷ ds)) (sym same) rising) is

-- of a tree too
within_older : (extent : Extent) (live : Lists) (end : Option Probe) (ds : List Datom)
    → within end (older_read extent live ds) ≡ older_read extent live (within end ds)
within_older extent live None ds = refl
within_older Said live (Some p) ds = refl
within_older Held live (Some p) ds = filter-filter (λ x. not (is_above p x)) (outlives (withdrawn live.eavt)) ds

pub older_end : (extent : Extent) (live : Lists) (end : Option Probe) (order : Order) (ds : List Datom) (i : ℕ) (d : Datom)
    → IfSome end (λ p. p.order ≡ order) → IsRising order ds → slice_get ds i ≡ Some d → is_past end d ≡ true
    → within end (older_read extent live (drop i ds)) ≡ []
older_end extent live end order ds i d same rising at is =
    within_older extent live end (drop i ds)
    ∙ ap (older_read extent live) (ap (within end) (drop_next ds i d at) ∙ within_end end order d (drop (i + 1) ds) same
    (subst (IsRising order) (drop_next ds i d at) (rising-drop order ds i rising)) is)
    ∙ nothing extent live

pub within_pair : (end : Option Probe) (order : Order) (older live : List Datom) → IsPair order older live
    → IsPair order (within end older) (within end live)
within_pair None order older live pair = pair
within_pair (Some p) order older live pair = filter_pair order (λ d. not (is_above p d)) older live pair

-- the walk of a live list ends with the first datom that is above the end
pub live_end : (end : Option Probe) (d : Datom) (ds rest : List Datom) → IfSome end (λ p. IsRising p.order ds) → ds ≡ d ∷ rest
    → is_past end d ≡ true → (within end ds ≡ []) × (within end rest ≡ [])
live_end None d ds rest rising is past = absurd (cc)
live_end (Some p) d ds rest rising is past =
    let none = upto_none p d rest (subst (IsRising p.order) is rising) past in
    (ap (upto_probe p) is ∙ none, rw past at none)
