-- The rows of matches, by the ids of their arguments.
use Rattle.std.proofs.Common.{◌≡◌, ◌∙◌, ◌||◌, Bool, cond, true, false, refl, ap, List, [], ◌∷◌, ◌++◌, Option, Some, None, is_some}
use Rattle.std.specs.List.{find}
use Rattle.std.specs.Str.{bytes_eq}
use Rattle.std.proofs.lemmas.Slice.Eq.{bytes_eq-Decides}
use Rattle.clap.specs.declared.builder.value_parser.Reading.{Reading}
use Rattle.clap.specs.declared.parser.matches.ValueSource.{ValueSource}
use Rattle.clap.specs.Walk.{Row, Text, has_row, more_values, stronger, with_values, without}

-- the row of an argument
abbrev pub found : Text → List Row → Option Row
found id = find (λ r. bytes_eq r.id id)

pub has_row-found : (id : Text) (rows : List Row) → has_row id rows ≡ is_some (found id rows)
has_row-found id [] = refl
has_row-found id (r ∷ rs) = go (bytes_eq r.id id) (has_row-found id rs)
  where
    go : (b : Bool) → has_row id rs ≡ is_some (found id rs) → (b || has_row id rs) ≡ is_some (cond b (Some r) (found id rs))
    go true e = refl
    go false e = e

-- an id that has no row yet
pub without_none : (id : Text) (rows : List Row) → found id rows ≡ None → without id rows ≡ rows
without_none id [] none = refl
without_none id (r ∷ rs) none = go (bytes_eq r.id id) (without_none id rs) none
  where
    go : (b : Bool) → (found id rs ≡ None → without id rs ≡ rs) → cond b (Some r) (found id rs) ≡ None
        → cond b ([] ++ rs) (r ∷ without id rs) ≡ r ∷ rs
    go true further e = absurd (cc)
    go false further e = ap (λ (xs : List Row). r ∷ xs) (further e)

module _ (id : Text) (same : bytes_eq id id ≡ true) (how : Reading) (s : ValueSource) (values : List Text) where
  abbrev fresh : Row
  fresh = record { id = id; values = values; count = None; source = Some s; reading = how }

  pub found_first : (rows : List Row) → found id rows ≡ None → found id (with_values id how s values rows) ≡ Some fresh
  found_first [] none = rw same refl
  found_first (r ∷ rs) none = go (bytes_eq r.id id) refl (found_first rs) none
    where
      go : (b : Bool) → bytes_eq r.id id ≡ b → (found id rs ≡ None → found id (with_values id how s values rs) ≡ Some fresh)
          → cond b (Some r) (found id rs) ≡ None
          → found id (cond b (more_values s values r ++ rs) (r ∷ with_values id how s values rs)) ≡ Some fresh
      go true is further e = absurd (cc)
      go false is further e = rw is (further e)

  abbrev grown : Row → Row
  grown r = record r { values = r.values ++ values; source = Some (stronger r.source s) }

  pub found_more : (rows : List Row) (was : Row) → found id rows ≡ Some was → found id (with_values id how s values rows) ≡ Some (grown was)
  found_more [] was e = absurd (cc)
  found_more (r ∷ rs) was e = go (bytes_eq r.id id) refl (found_more rs was) e
    where
      go : (b : Bool) → bytes_eq r.id id ≡ b → (found id rs ≡ Some was → found id (with_values id how s values rs) ≡ Some (grown was))
          → cond b (Some r) (found id rs) ≡ Some was
          → found id (cond b (more_values s values r ++ rs) (r ∷ with_values id how s values rs)) ≡ Some (grown was)
      go true is further e =
          let same_row : r ≡ was = cc in
          rw is (ap (λ (x : Row). Some (grown x)) same_row)
      go false is further e = rw is (further e)

-- the rows of other arguments stay
pub found_other : (id other : Text) → bytes_eq other id ≡ false → (how : Reading) (s : ValueSource) (values : List Text) (rows : List Row)
    → found id (with_values other how s values rows) ≡ found id rows
found_other id other apart how s values [] = rw apart refl
found_other id other apart how s values (r ∷ rs) = go (bytes_eq r.id other) refl (found_other id other apart how s values rs)
  where
    go : (b : Bool) → bytes_eq r.id other ≡ b → found id (with_values other how s values rs) ≡ found id rs
        → found id (cond b (more_values s values r ++ rs) (r ∷ with_values other how s values rs)) ≡ found id (r ∷ rs)
    go true is further =
        let its : r.id ≡ other = (bytes_eq-Decides r.id other).0 is in
        let miss : bytes_eq r.id id ≡ false = ap (λ (x : Text). bytes_eq x id) its ∙ apart in
        rw miss refl
    go false is further = ap (cond (bytes_eq r.id id) (Some r)) further
