-- The history of one entry.
use Rattle.std.proofs.Common.{◌≡◌, ℕ, max, List, [], ◌∷◌, ◌++◌, Some, ap, sym, ◌∙◌, subst, arith}
use Rattle.std.specs.Prelude.{slice_get}
use Rattle.fb_values.specs.declared.facts.Datom.{Datom}
use Rattle.fb_values.specs.declared.facts.Entry.{Entry}
use Rattle.fb_model.specs.History.{basis, last_instant, said, users_in, users_issued}
use Rattle.fb_model.proofs.OneMoreEntry.{said-push}
use Rattle.held_facts.specs.declared.fact_maps.FactMaps.{FactMaps}
use Rattle.held_facts.specs.FactMaps.{HasFacts}

pub record IsFirst (h : List Entry) (entry : Entry) (users : ℕ) (kept : FactMaps) : Type 0 where
  pub basis_is : entry.t ≡ basis h
  pub instant_is : last_instant h ≡ entry.instant
  pub users_is : users ≡ users_issued h
  pub has : HasFacts (said h) kept

nothing_less : (n : ℕ) → max 0 n ≡ n
nothing_less n = omega arith

pub first_is : (h : List Entry) (x entry : Entry) (users : ℕ) (ds : List Datom) (kept : FactMaps) → h ≡ x ∷ [] → slice_get h 0 ≡ Some entry
    → ds ≡ entry.datoms
    → users ≡ max 0 (users_in ds) → HasFacts ([] ++ ds) kept → IsFirst h entry users kept
first_is h x entry users ds kept is at of counted has =
    let same : x ≡ entry = cc in
    let alone : h ≡ entry ∷ [] = is ∙ ap (λ y. y ∷ []) same in
    let all : said h ≡ ds = ap said alone ∙ said-push [] entry ∙ sym of in
    record {
      basis_is = ap basis (sym alone);
      instant_is = ap last_instant alone;
      users_is = counted ∙ nothing_less (users_in ds) ∙ ap users_in (sym all);
      has = subst (λ l. HasFacts l kept) (sym all) has;
    }
