-- The lookup ref with a number, and what it finds.
use Rattle.std.proofs.Common.{◌≡◌, ℕ, zero, suc, List, [], ◌∷◌, false, refl}
use Rattle.std.specs.Prelude.{None, is_none, slice_index_or}
use Rattle.tx_model.specs.Asks.{Name, is_tempid}
use Rattle.tx_model.specs.Tempids.{Db, entity_of}
use Rattle.tx_model.specs.NameRules.{finds_none}
use Rattle.tx_asks.specs.declared.asks.LookupRef.{LookupRef}
use Rattle.tx_asks.specs.Asks.{lookup_at}
use Rattle.tx_resolve.specs.Whoms.{all_found}

pub lookup_is_no_tempid : (refs : List LookupRef) (n : ℕ) → is_tempid (lookup_at refs n) ≡ false
lookup_is_no_tempid [] n = refl
lookup_is_no_tempid (ref ∷ refs) zero = refl
lookup_is_no_tempid (ref ∷ refs) (suc n) = lookup_is_no_tempid refs n

pub entity_at : (db : Db) (names : List (Name × ℕ)) (refs : List LookupRef) (n : ℕ)
    → entity_of db names (lookup_at refs n) ≡ slice_index_or (all_found db refs) n None
entity_at db names [] n = refl
entity_at db names (ref ∷ refs) zero = refl
entity_at db names (ref ∷ refs) (suc n) = entity_at db names refs n

pub lookup_lost : (db : Db) (refs : List LookupRef) (n : ℕ)
    → is_none (slice_index_or (all_found db refs) n None) ≡ finds_none db (lookup_at refs n)
lookup_lost db [] n = refl
lookup_lost db (ref ∷ refs) zero = refl
lookup_lost db (ref ∷ refs) (suc n) = lookup_lost db refs n
