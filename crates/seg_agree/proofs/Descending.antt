-- Going down a list of kept roots.
use Rattle.std.proofs.Common.{◌≡◌, List, [], ◌∷◌, ◌++◌, map, refl, sym, ap, ◌∙◌, subst, arith, inl, inr, Some, None, append_assoc}
use Rattle.std.specs.Prelude.{Contains}
use Rattle.std.proofs.lemmas.List.{map-append}
use Rattle.std.proofs.lemmas.List.Elements.{Contains-append_cases, Contains-append_left, Contains-push_cases, Contains-push}
use Rattle.fb_values.specs.declared.facts.Entry.{Entry}
use Rattle.log_model.specs.Kept.{KeptRoot, Agrees, NoneAgrees}
use Rattle.seg_store.specs.Loads.{kept_of}
use Rattle.seg_store.specs.declared.loads.KeptTrees.{KeptTrees}
use Rattle.seg_agree.specs.Newest.{IsNewest}

-- none of the kept trees behind these agrees
pub record IsPassed (h : List Entry) (kept older : List KeptTrees) : Type 0 where
  pub newer : List KeptTrees
  pub place : kept ≡ older ++ newer
  pub none : NoneAgrees h (map kept_of newer)

none_in : (root : KeptRoot) → Contains [] root → ⊥
none_in root member = omega (arith, member.1)

none_cons : (h : List Entry) (first : KeptRoot) (rest : List KeptRoot) → (Agrees h first → ⊥) → NoneAgrees h rest
    → NoneAgrees h (first ∷ rest)
none_cons h first rest not_first none root member agrees =
    elim (Contains-append_cases (first ∷ []) rest root member) [
      | inl one ↦
          elim (Contains-push_cases [] first root one) [
            | inl nothing ↦ none_in root nothing
            | inr same ↦ not_first (subst (Agrees h) (sym same) agrees)
          ]
      | inr later ↦ none root later agrees
    ]

pub nothing_passed : (h : List Entry) (kept : List KeptTrees) → IsPassed h kept kept
nothing_passed h kept = record { newer = []; place = sym (append-nil kept); none = λ root member agrees. none_in root member }
  where
    append-nil : (xs : List KeptTrees) → xs ++ [] ≡ xs
    append-nil [] = refl
    append-nil (x ∷ xs) = ap (λ rest. x ∷ rest) (append-nil xs)

place_at : (kept older left newer : List KeptTrees) (trees : KeptTrees) → kept ≡ older ++ newer → older ≡ left ++ trees ∷ []
    → kept ≡ left ++ trees ∷ newer
place_at kept older left newer trees place popped = place ∙ ap (λ l. l ++ newer) popped ∙ append_assoc left (trees ∷ []) newer

-- the next ones do not agree
pub passed_more : (h : List Entry) (kept older left : List KeptTrees) (trees : KeptTrees) → IsPassed h kept older
    → older ≡ left ++ trees ∷ []
    → (Agrees h (kept_of trees) → ⊥) → IsPassed h kept left
passed_more h kept older left trees passed popped not_these = record {
  newer = trees ∷ passed.newer;
  place = place_at kept older left passed.newer trees passed.place popped;
  none = none_cons h (kept_of trees) (map kept_of passed.newer) not_these passed.none;
}

-- or they are the newest that do
pub found_newest : (h : List Entry) (kept older left : List KeptTrees) (trees : KeptTrees) → IsPassed h kept older
    → older ≡ left ++ trees ∷ []
    → Agrees h (kept_of trees) → IsNewest h kept (Some trees)
found_newest h kept older left trees passed popped agrees =
    let place = place_at kept older left passed.newer trees passed.place popped in (
      subst (λ l. Contains l trees) (sym (passed.place ∙ ap (λ l. l ++ passed.newer) popped))
          (Contains-append_left (left ++ trees ∷ []) passed.newer trees (Contains-push left trees)),
      record {
        older = map kept_of left;
        newer = map kept_of passed.newer;
        place = ap (map kept_of) place ∙ map-append kept_of left (trees ∷ passed.newer);
        agrees = agrees;
        newest = passed.none;
      },
    )

-- at the end none does
pub none_newest : (h : List Entry) (kept older : List KeptTrees) → IsPassed h kept older → older ≡ [] → IsNewest h kept None
none_newest h kept older passed empty =
    subst (λ l. NoneAgrees h (map kept_of l)) (sym (passed.place ∙ ap (λ l. l ++ passed.newer) empty)) passed.none
