-- The trees of the first entry stand for it in each lawful history.
use Rattle.std.proofs.Common.{◌≡◌, ℕ, List, [], ◌∷◌, sym, ap, subst, arith}
use Rattle.fb_values.specs.declared.facts.Entry.{Entry}
use Rattle.fb_values.specs.Lists.{Lists, list_in}
use Rattle.fb_model.specs.FirstEntry.{first_entry}
use Rattle.fb_model.specs.Lawful.{IsLawful}
use Rattle.fb_model.specs.Rising.{IsRisingListOf}
use Rattle.view_model.specs.Stands.{IsIndexed, RootStands}

pub first-stands : (roots : Lists) (h : List Entry) → IsLawful h → RootStands roots (first_entry ∷ []) 0 → RootStands roots h 0
first-stands roots [] lawful stand = absurd lawful
first-stands roots (first ∷ rest) lawful stand = record {
  bound = omega arith;
  trees = λ order. subst (λ (l : List Entry). IsRisingListOf order (list_in roots order) (IsIndexed l order))
      (ap (λ (e : Entry). e ∷ []) (sym lawful.0)) (stand.trees order);
}

pub first-roots : (roots : Lists) (h : List Entry) (c : ℕ) → h ≡ first_entry ∷ [] → c ≡ 0 → RootStands roots h c
    → RootStands roots (first_entry ∷ []) 0
first-roots roots h c is none stand = subst (λ (n : ℕ). RootStands roots (first_entry ∷ []) n) none
    (subst (λ (l : List Entry). RootStands roots l c) is stand)
