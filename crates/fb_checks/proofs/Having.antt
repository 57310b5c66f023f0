-- An entity has a value exactly if its values are some.
use Rattle.std.proofs.Common.{◌≡◌, suc, Bool, true, false, not, cond, ◌||◌, List, [], ◌∷◌, length, map, refl, ap, ◌∙◌, arith}
use Rattle.std.specs.Prelude.{filter, ◌==◌}
use Rattle.std.specs.List.{list_any}
use Rattle.std.proofs.lemmas.Bool.{ne_eqb}
use Rattle.fb_values.specs.declared.facts.Datom.{Datom}
use Rattle.fb_values.specs.declared.facts.Value.{Value}

some_values : (p : Datom → Bool) (ds : List Datom) → not (length (map (λ (d : Datom). d.v) (filter p ds)) == 0) ≡ list_any p ds
some_values p [] = refl
some_values p (d ∷ ds) = go (p d) (some_values p ds)
  where
    go : (b : Bool) → not (length (map (λ (d : Datom). d.v) (filter p ds)) == 0) ≡ list_any p ds
        → not (length (map (λ (d : Datom). d.v) (cond b (d ∷ filter p ds) (filter p ds))) == 0) ≡ (b || list_any p ds)
    go true rest = ap not (ne_eqb (suc (length (map (λ (x : Datom). x.v) (filter p ds)))) 0 (λ same. omega (arith, same)))
    go false rest = rest

pub has_values : (p : Datom → Bool) (ds : List Datom) (values : List Value)
    → length values ≡ length (map (λ (d : Datom). d.v) (filter p ds))
    → not (length values == 0) ≡ list_any p ds
has_values p ds values same = ap (λ n. not (n == 0)) same ∙ some_values p ds
