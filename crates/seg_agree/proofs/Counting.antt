-- Totals of a history's datoms, and how many of them an index has.
use Rattle.std.proofs.Common.{◌≡◌, ℕ, suc, ◌+◌, ◌<◌, Bool, true, List, [], ◌∷◌, ◌++◌, length, take, get_or, refl, sym, ap, ◌∙◌, arith, Some}
use Rattle.std.proofs.Common.{length-append, below_more}
use Rattle.std.specs.Prelude.{filter, count_by}
use Rattle.std.specs.List.{slice_get}
use Rattle.std.proofs.Math.ListN.{get_or-append}
use Rattle.std.proofs.Math.Seq.{get_or-append_seam}
use Rattle.std.proofs.lemmas.List.Sums.{length-filter}
use Rattle.fb_values.specs.declared.facts.Datom.{Datom}
use Rattle.fb_values.specs.declared.facts.Entry.{Entry}
use Rattle.fb_values.specs.declared.indexes.Order.{Order}
use Rattle.fb_values.specs.declared.indexes.Order.TheVariants.{Eavt, Aevt}
use Rattle.fb_covers.specs.Coverage.{Coverage, covers as held}
use Rattle.fb_model.specs.History.{said, upto}
use Rattle.fb_model.proofs.Untouched.{filter-append}
use Rattle.log_model.specs.Kept.{index_len}
use Rattle.seg_agree.specs.Indexes.{HoldsAsOf}
use Rattle.seg_agree.proofs.Entries.{said_with}

-- one entry more
pub total_with : (h : List Entry) (t total sum : ℕ) (entry : Entry) → slice_get h t ≡ Some entry
    → total ≡ length (said (take t h)) → sum ≡ total + length entry.datoms → sum ≡ length (said (take (t + 1) h))
total_with h t total sum entry is before after =
    let more : length (said (take (t + 1) h)) ≡ length (said (take t h)) + length entry.datoms =
    ap length (said_with h t entry is) ∙ length-append (said (take t h)) entry.datoms in
    omega (arith, before, after, more)

-- and the datoms of it that pass a test
pub passing_with : (p : Datom → Bool) (h : List Entry) (t total sum passing : ℕ) (entry : Entry) → slice_get h t ≡ Some entry
    → total ≡ length (filter p (said (take t h))) → passing ≡ count_by p entry.datoms → sum ≡ total + passing
    → sum ≡ length (filter p (said (take (t + 1) h)))
passing_with p h t total sum passing entry is before own after =
    let counted = length-filter p entry.datoms in
    let more : length (filter p (said (take (t + 1) h))) ≡ length (filter p (said (take t h))) + length (filter p entry.datoms) =
    ap (λ ds. length (filter p ds)) (said_with h t entry is)
    ∙ ap length (filter-append p (said (take t h)) entry.datoms)
    ∙ length-append (filter p (said (take t h))) (filter p entry.datoms) in
    omega (arith, before, own, after, more, counted)

-- by the coverage after c, the index of the entries up to c has so many
pub held_len : (coverage : Coverage) (h : List Entry) (c : ℕ) (order : Order) → HoldsAsOf coverage (upto h c) order
    → length (filter (λ d. held coverage order d.a) (said (upto h c))) ≡ index_len (upto h c) order
held_len coverage h c order holds = ap (λ (p : Datom → Bool). length (filter p (said (upto h c)))) (λ i d. holds d.a i)

-- a list of totals with one total more
pub totals_more : (h : List Entry) (totals more : List ℕ) (t sum : ℕ) → more ≡ totals ++ sum ∷ [] → length totals ≡ t
    → ((k : ℕ) → k < t → get_or totals k 0 ≡ length (said (take (k + 1) h))) → sum ≡ length (said (take (t + 1) h))
    → (length more ≡ t + 1) × ((k : ℕ) → k < t + 1 → get_or more k 0 ≡ length (said (take (k + 1) h)))
totals_more h totals more t sum is long each last = (
  ap length is ∙ length-append totals (sum ∷ []) ∙ ap (λ n. n + 1) long,
  below_more _ t
      (λ k below. ap (λ l. get_or l k 0) is ∙ get_or-append totals (sum ∷ []) 0 k (omega (arith, below, long)) ∙ each k below)
      (ap (λ l. get_or l t 0) is ∙ ap (λ n. get_or (totals ++ sum ∷ []) n 0) (sym long) ∙ get_or-append_seam totals sum [] 0 ∙ last),
)

-- the indexes by entity have them all
every_one : (ds : List Datom) → length ds ≡ length (filter (λ _. true) ds)
every_one [] = refl
every_one (d ∷ ds) = ap suc (every_one ds)

pub every_by_entity : (h : List Entry) → length (said h) ≡ index_len h Eavt
every_by_entity h = every_one (said h)

pub every_by_attribute : (h : List Entry) → length (said h) ≡ index_len h Aevt
every_by_attribute h = every_one (said h)
