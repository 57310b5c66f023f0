-- The number of a list's last datom.
use Rattle.std.proofs.Common.{◌≡◌, ◌∙◌, ℕ, ◌-◌, ◌<◌, ◌≤◌, List, [], ◌++◌, length, length-append, length-drop, drop, refl, sym, ap, arith}
use Rattle.std.proofs.Common.{Option, Some, None}
use Rattle.std.specs.List.{slice_get}
use Rattle.std.specs.Option.{option_map}
use Rattle.std.proofs.lemmas.List.{drop_all, get_or_append_left, length-map}
use Rattle.std.proofs.lemmas.Option.{slice_get-get_or, slice_get-map}
use Rattle.fb_values.specs.declared.facts.Datom.{Datom}
use Rattle.fb_values.specs.declared.indexes.Order.{Order}
use Rattle.live_runs.specs.Members.{datom_of, nothing}
use Rattle.live_index.specs.declared.ranked.Ranked.{Ranked}
use Rattle.live_index.specs.Lists.{IsLastOf, IsNumberIf, numbered}
use Rattle.live_index.specs.Ranks.{AreRanked, IsRanked, datoms_of}
use Rattle.live_index.specs.Walks.{later_of}
use Rattle.live_index.proofs.Ranking.{ranked_read}
use Rattle.live_index.proofs.Spans.{number_at}

-- ---- over a longer table

pub number_longer : (table more : List Datom) (o : Option ℕ) → IsNumberIf table o → IsNumberIf (table ++ more) o
number_longer table more None within = tt
number_longer table more (Some number) within = omega (arith, within, length-append table more)

pub numbered_longer : (table more : List Datom) (o : Option ℕ) → IsNumberIf table o → numbered (table ++ more) o ≡ numbered table o
numbered_longer table more None within = refl
numbered_longer table more (Some number) within = ap Some (get_or_append_left table more nothing number within)

-- ---- the last of the datoms that came last

pub later_none : (order : Order) (o : Option Datom) → later_of order o None ≡ o
later_none order None = refl
later_none order (Some x) = refl

pub none_last : (first : ℕ) (table : List Datom) → length table ≤ first
    → slice_get (drop first table) (length (drop first table) - 1) ≡ None
none_last first table all = ap (λ (l : List Datom). slice_get l (length l - 1)) (drop_all first table all)

pub last_at : (first count : ℕ) (table : List Datom) → count ≡ length table → first < count
    → slice_get (drop first table) (length (drop first table) - 1) ≡ Some (datom_of table (count - 1))
last_at first count table counted some =
    let long = length-drop first table in
    let place : length (drop first table) - 1 ≡ (count - 1) - first = omega (arith, long, counted, some) in
    ap (slice_get (drop first table)) place
    ∙ slice_get-get_or (drop first table) ((count - 1) - first) nothing (omega (arith, long, counted, some))
    ∙ ap Some (number_at table first (count - 1) nothing (omega (arith, some)))

-- ---- the last of those that are in order

pub none_ranked : (table : List Datom) (rs : List Ranked) → rs ≡ [] → IsLastOf table (datoms_of rs) None
none_ranked table rs none =
    record { within = tt; is = sym (ap (λ (l : List Ranked). slice_get (datoms_of l) (length (datoms_of l) - 1)) none) }

pub last_ranked : (order : Order) (table : List Datom) (rs : List Ranked) (place : ℕ) (r : Ranked) → AreRanked order table rs
    → place ≡ length rs - 1 → 0 < length rs → slice_get rs place ≡ Some r → IsLastOf table (datoms_of rs) (Some r.member.number)
last_ranked order table rs place r are at some read =
    let is : IsRanked order table r = ranked_read order table rs place r are read (omega (arith, at, some)) in
    let long : length (datoms_of rs) ≡ length rs = length-map rs (λ (x : Ranked). x.datom.now) in
    let last : length (datoms_of rs) - 1 ≡ place = omega (arith, long, at) in
    record {
      within = is.member.within;
      is =
          ap Some is.datom_is
          ∙ sym (ap (option_map (λ (x : Ranked). x.datom.now)) read)
          ∙ sym (slice_get-map (λ (x : Ranked). x.datom.now) rs place)
          ∙ ap (slice_get (datoms_of rs)) (sym last);
    }
