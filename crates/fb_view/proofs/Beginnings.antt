-- The first entries of a lawful history.
use Rattle.std.proofs.Common.{◌≡◌, ◌∙◌, ℕ, zero, suc, ◌+◌, ◌<◌, ◌≤◌, List, [], ◌∷◌, ◌++◌, length, take, min, refl, sym, ap, subst, arith, Some}
use Rattle.std.proofs.Common.{append_assoc, append-nil}
use Rattle.std.specs.List.{slice_get}
use Rattle.std.proofs.lemmas.List.{length-take}
use Rattle.fb_values.specs.declared.facts.Entry.{Entry}
use Rattle.fb_model.specs.Rising.{IsRisingListOf}
use Rattle.fb_model.specs.History.{basis, upto}
use Rattle.fb_model.specs.Lawful.{IsLawful, IsLawfulFrom, IsLawfulAfter}
use Rattle.fb_model.proofs.LawfulHistories.{IsLawful-length}
use Rattle.fb_values.specs.Lists.{Lists, list_in}
use Rattle.view_model.specs.Stands.{IsIndexed, RootStands}
use Rattle.fb_values.specs.declared.facts.Datom.{Datom}
use Rattle.fb_schema.specs.Described.{SchemaStands}
use Rattle.fb_schema.specs.Tables.{HasCoverage}
use Rattle.fb_view.specs.declared.growth.Older.{Older}
use Rattle.seg_tree.specs.Indexes.{trees_of}
use Rattle.fb_view.specs.SnapshotModel.{AreFacts, AreWhole}
use Rattle.fb_view.proofs.Standing.{coverage_of}

next_from : (before rest : List Entry) (t : ℕ) (entry : Entry) → IsLawfulFrom before rest → slice_get rest t ≡ Some entry
    → IsLawfulAfter (before ++ take t rest) entry
next_from before [] t entry lawful read = absurd (cc)
next_from before (e ∷ rest) zero entry lawful read =
    let same : e ≡ entry = cc in
    subst (λ (h : List Entry). IsLawfulAfter h entry) (sym (append-nil before)) (subst (IsLawfulAfter before) same lawful.0)
next_from before (e ∷ rest) (suc t) entry lawful read =
    subst (λ (h : List Entry). IsLawfulAfter h entry) (append_assoc before (e ∷ []) (take t rest))
    (next_from (before ++ e ∷ []) rest t entry lawful.1 read)

-- each later entry may follow those before it
pub next_of : (h : List Entry) (t : ℕ) (entry : Entry) → IsLawful h → 0 < t → slice_get h t ≡ Some entry → IsLawfulAfter (take t h) entry
next_of [] t entry lawful later read = absurd lawful
next_of (first ∷ rest) zero entry lawful later read = absurd (omega arith)
next_of (first ∷ rest) (suc t) entry lawful later read = next_from (first ∷ []) rest t entry lawful.1 read

from_beginning : (before rest : List Entry) (n : ℕ) → IsLawfulFrom before rest → IsLawfulFrom before (take n rest)
from_beginning before rest zero lawful = tt
from_beginning before [] (suc n) lawful = tt
from_beginning before (e ∷ rest) (suc n) lawful = (lawful.0, from_beginning (before ++ e ∷ []) rest n lawful.1)

pub upto_lawful : (h : List Entry) (c : ℕ) → IsLawful h → IsLawful (upto h c)
upto_lawful [] c lawful = absurd lawful
upto_lawful (first ∷ rest) c lawful =
    let one : c + 1 ≡ suc c = omega arith in rw one (lawful.0, from_beginning (first ∷ []) rest c lawful.1)

take_length : (h : List Entry) (n : ℕ) → n ≤ length h → length (take n h) ≡ n
take_length h zero few = refl
take_length [] (suc n) few = absurd (omega arith)
take_length (e ∷ h) (suc n) few = ap suc (take_length h n (omega arith))

pub upto_basis : (h : List Entry) (c : ℕ) → IsLawful h → c ≤ basis h → basis (upto h c) ≡ c
upto_basis h c lawful within =
    let counted = IsLawful-length h lawful in
    let few : c + 1 ≤ length h = omega arith in
    omega (arith, IsLawful-length (upto h c) (upto_lawful h c lawful), take_length h (c + 1) few)

take_take : (h : List Entry) (n : ℕ) → take n (take n h) ≡ take n h
take_take h zero = refl
take_take [] (suc n) = refl
take_take (e ∷ h) (suc n) = ap (λ (rest : List Entry). e ∷ rest) (take_take h n)

pub upto-upto : (h : List Entry) (c : ℕ) → upto (upto h c) c ≡ upto h c
upto-upto h c = take_take h (c + 1)

-- trees of the entries up to c stand for these alone
pub roots_upto : (roots : Lists) (h : List Entry) (c : ℕ) → IsLawful h → RootStands roots h c → RootStands roots (upto h c) c
roots_upto roots h c lawful stand = record {
  bound = omega (arith, upto_basis h c lawful stand.bound);
  trees =
      λ order. subst (λ (past : List Entry). IsRisingListOf order (list_in roots order) (IsIndexed past order)) (sym (upto-upto h c))
      (stand.trees order);
}

-- and those of a beginning stand for the whole history's first entries
pub roots_from : (roots : Lists) (h begin : List Entry) → IsLawful h → IsLawful begin → upto h (basis begin) ≡ begin
    → RootStands roots begin (basis begin) → RootStands roots h (basis begin)
roots_from roots h begin lawful first begins stand = record {
  bound = bound;
  trees =
      λ order. subst (λ (past : List Entry). IsRisingListOf order (list_in roots order) (IsIndexed past order)) same (stand.trees order);
}
  where
    same : upto begin (basis begin) ≡ upto h (basis begin)
    same = ap (λ past. upto past (basis begin)) (sym begins) ∙ upto-upto h (basis begin)

    bound : basis begin ≤ basis h
    bound =
        let counted = IsLawful-length h lawful in
        let counted_first = IsLawful-length begin first in
        let few = length-take (basis begin + 1) h in
        let taken : length (take (basis begin + 1) h) ≡ length begin = ap length begins in
        grind arith

-- trees of a beginning hold all of it
pub whole_of : (h : List Entry) (c : ℕ) (schema : List Datom) (older : Older) → IsLawful h → RootStands (trees_of older.roots) h c
    → older.covered ≡ c → SchemaStands schema (upto h c) → HasCoverage older.held schema → AreFacts older.roots older.facts
    → AreWhole (upto h c) older
whole_of h c schema older lawful stand covered stands has now_is = record {
  lawful = upto_lawful h c lawful;
  roots_stand =
      subst (λ (n : ℕ). RootStands (trees_of older.roots) (upto h c) n) (sym covered) (roots_upto (trees_of older.roots) h c lawful stand);
  covered_is = covered ∙ sym (upto_basis h c lawful stand.bound);
  held_is = coverage_of schema (upto h c) older.held stands has;
  now_is = now_is;
}

-- a history has more entries than the t of any of its beginnings
pub begins_within : (h older : List Entry) → IsLawful older → upto h (basis older) ≡ older → basis older < length h
begins_within h older lawful begins =
    let counted = IsLawful-length older lawful in
    let taken : min (basis older + 1) (length h) ≡ basis older + 1 = sym (length-take (basis older + 1) h) ∙ ap length begins ∙ counted in
    omega (arith, taken)
