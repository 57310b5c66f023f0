-- The entities that are found under an attribute are among those of the facts.
use Rattle.std.proofs.Common.{ℕ, true, false, cond, ◌&&◌, List, [], ◌∷◌, map, filter, filter_map, nat_eq, Option, Some, None}
use Rattle.std.specs.List.{cons_option}
use Rattle.fb_values.specs.declared.facts.Datom.{Datom}
use Rattle.fb_values.specs.declared.facts.Value.TheVariants.{Ref}
use Rattle.fb_model.specs.Facts.{value_eq, values_of}
use Rattle.fb_model.specs.Schema.{entity_in}
use Rattle.pull_model.specs.Found.{referring}
use Rattle.pull_model.specs.Measures.{entities_of}
use Rattle.pull_model.proofs.Lists.{AreOn, on-here, on-there, on-left, on-right, on-more}

add_option : (o : Option ℕ) (all ns : List ℕ) → AreOn all ns → AreOn (cons_option o all) ns
add_option None all ns on = on
add_option (Some n) all ns on = on-more all (n ∷ all) ns (λ m. on-there n m all) on

add_both : (o : Option ℕ) (all ns : List ℕ) → AreOn all ns → AreOn (cons_option o all) (cons_option o ns)
add_both None all ns on = on
add_both (Some n) all ns on = (on-here n all, on-more all (n ∷ all) ns (λ m. on-there n m all) on)

objects_on : (facts : List Datom) (e a : ℕ) → AreOn (filter_map (λ d. entity_in d.v) facts) (filter_map entity_in (values_of facts e a))
objects_on [] e a = tt
objects_on (d ∷ facts) e a =
    elim (nat_eq d.e e && nat_eq d.a a) as (λ b. AreOn (filter_map (λ d. entity_in d.v) (d ∷ facts)) (filter_map entity_in
    (map (λ d. d.v) (cond b (d ∷ filter (λ d. nat_eq d.e e && nat_eq d.a a) facts) (filter (λ d. nat_eq d.e e && nat_eq d.a a) facts))))) [
      | true ↦
          add_both (entity_in d.v) (filter_map (λ d. entity_in d.v) facts) (filter_map entity_in (values_of facts e a))
          (objects_on facts e a)
      | false ↦
          add_option (entity_in d.v) (filter_map (λ d. entity_in d.v) facts) (filter_map entity_in (values_of facts e a))
          (objects_on facts e a)
    ]

subjects_on : (facts : List Datom) (e a : ℕ) → AreOn (map (λ d. d.e) facts) (referring facts e a)
subjects_on [] e a = tt
subjects_on (d ∷ facts) e a =
    let later : AreOn (d.e ∷ map (λ d. d.e) facts) (referring facts e a) =
    on-more (map (λ d. d.e) facts) (d.e ∷ map (λ d. d.e) facts) (referring facts e a) (λ m. on-there d.e m (map (λ d. d.e) facts))
    (subjects_on facts e a) in
    elim (nat_eq d.a a && value_eq d.v (Ref e)) as (λ b. AreOn (d.e ∷ map (λ d. d.e) facts) (map (λ d. d.e)
    (cond b (d ∷ filter (λ d. nat_eq d.a a && value_eq d.v (Ref e)) facts) (filter (λ d. nat_eq d.a a && value_eq d.v (Ref e)) facts)))) [
      | true ↦ (on-here d.e (map (λ d. d.e) facts), later)
      | false ↦ later
    ]

pub forward_on : (facts : List Datom) (e a : ℕ) → AreOn (entities_of facts) (filter_map entity_in (values_of facts e a))
forward_on facts e a =
    on-more (filter_map (λ d. entity_in d.v) facts) (entities_of facts) _ (λ n. on-right (map (λ d. d.e) facts) _ n) (objects_on facts e a)

pub backward_on : (facts : List Datom) (e a : ℕ) → AreOn (entities_of facts) (referring facts e a)
backward_on facts e a =
    on-more (map (λ d. d.e) facts) (entities_of facts) _ (λ n. on-left (map (λ d. d.e) facts) _ n) (subjects_on facts e a)
