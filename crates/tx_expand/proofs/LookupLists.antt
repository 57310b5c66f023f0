-- Lists of lookup refs that grow, and the lookup ref with a number.
use Rattle.std.proofs.Common.{◌≡◌, ℕ, zero, suc, ◌+◌, List, [], ◌∷◌, ◌++◌, length, map, drop, refl, ap, sym, ◌∙◌, subst, append_assoc}
use Rattle.std.proofs.Common.{arith, length-append, ◌≤◌}
use Rattle.std.specs.Prelude.{slice_index_or, Vec}
use Rattle.std.specs.declared.alloc.Global.{Global}
use Rattle.std.proofs.lemmas.List.{length-map}
use Rattle.fb_values.specs.declared.facts.Datom.{Datom}
use Rattle.edn_form.specs.View.{form_of}
use Rattle.tx_model.specs.Asks.{Name, number}
use Rattle.tx_model.specs.NameRules.{lookups_in}
use Rattle.tx_asks.specs.declared.asks.LookupRef.{LookupRef}
use Rattle.tx_asks.specs.Asks.{lookup_of, lookup_at}
use Rattle.tx_expand.specs.View.{BeginWith}
use Rattle.tx_expand.specs.Numbered.{behind}
use Rattle.tx_expand.specs.Placed.{placed}
use Rattle.tx_expand.specs.declared.faults.NameFaults.{NameFaults}
use Rattle.tx_expand.specs.Faults.{lookups_faults, ref_faults, no_name_faults}

append_nothing : {A : Type 0} (xs : List A) → xs ++ [] ≡ xs
append_nothing [] = refl
append_nothing (x ∷ xs) = ap (λ rest. x ∷ rest) (append_nothing xs)

pub begin_with_themselves : (xs : List LookupRef) → BeginWith xs xs
begin_with_themselves xs = record { rest = []; are = sym (append_nothing xs) }

-- with one more

pub begin_before : (xs : List LookupRef) (x : LookupRef) (ys all : List LookupRef) → ys ≡ xs ++ x ∷ [] → BeginWith ys all → BeginWith xs all
begin_before xs x ys all more begin =
    record { rest = x ∷ begin.rest; are = begin.are ∙ ap (λ zs. zs ++ begin.rest) more ∙ append_assoc xs (x ∷ []) begin.rest }

pub begin_same : (xs ys : Vec LookupRef Global) (all : List LookupRef) → ys ≡ xs → BeginWith ys.items all → BeginWith xs.items all
begin_same xs ys all are begin = subst (λ (refs : Vec LookupRef Global). BeginWith refs.items all) are begin

at_length : (xs : List LookupRef) (x : LookupRef) (rest : List LookupRef) → lookup_at (xs ++ x ∷ rest) (length xs) ≡ lookup_of x
at_length [] x rest = refl
at_length (y ∷ xs) x rest = at_length xs x rest

pub last_lookup : (xs : List LookupRef) (x : LookupRef) (ys all : List LookupRef) (n : ℕ) → ys ≡ xs ++ x ∷ [] → n ≡ length xs
    → BeginWith ys all → lookup_at all n ≡ lookup_of x
unfolding begin_before
last_lookup xs x ys all n more is begin =
    let before = begin_before xs x ys all more begin in
    ap (λ k. lookup_at all k) is ∙ ap (λ zs. lookup_at zs (length xs)) before.are ∙ at_length xs x begin.rest

-- ---- the lookup ref with a number

pub behind_lookup : (all : List LookupRef) (n k : ℕ) → behind (lookup_at all n) k ≡ k
behind_lookup [] n k = refl
behind_lookup (x ∷ all) zero k = refl
behind_lookup (x ∷ all) (suc n) k = behind_lookup all n k

pub placed_lookup : (places : List (List ℕ)) (all : List LookupRef) (n : ℕ) → lookup_at all n ≡ placed places (lookup_at all n)
placed_lookup places [] n = refl
placed_lookup places (x ∷ all) zero = refl
placed_lookup places (x ∷ all) (suc n) = placed_lookup places all n

pub faults_at : (facts : List Datom) (all : List LookupRef) (n : ℕ)
    → slice_index_or (map (ref_faults facts) all) n no_name_faults ≡ lookups_faults facts (lookups_in facts (lookup_at all n))
faults_at facts [] n = refl
faults_at facts (x ∷ all) zero = refl
faults_at facts (x ∷ all) (suc n) = faults_at facts all n

-- where all are judged
pub found_at : (facts : List Datom) (all : List LookupRef) (judged : List NameFaults) (n : ℕ) → judged ≡ map (ref_faults facts) all
    → slice_index_or judged n no_name_faults ≡ lookups_faults facts (lookups_in facts (lookup_at all n))
found_at facts all judged n are = ap (λ xs. slice_index_or xs n no_name_faults) are ∙ faults_at facts all n

-- ---- those behind the ones that are judged

within : {A B : Type 0} (f : A → B) (xs rest : List A) → map f xs ++ map f (drop (length (map f xs)) (xs ++ rest)) ≡ map f (xs ++ rest)
within f [] rest = refl
within f (x ∷ xs) rest = ap (λ ys. f x ∷ ys) (within f xs rest)

pub judged_behind : (facts : List Datom) (old new : List LookupRef) (judged : List NameFaults) → judged ≡ map (ref_faults facts) old
    → BeginWith old new
    → judged ++ map (ref_faults facts) (drop (length judged) new) ≡ map (ref_faults facts) new
judged_behind facts old new judged are begin =
    ap (λ (js : List NameFaults). js ++ map (ref_faults facts) (drop (length js) new)) are
    ∙ ap (λ (refs : List LookupRef). map (ref_faults facts) old ++ map (ref_faults facts) (drop (length (map (ref_faults facts) old)) refs))
    begin.are
    ∙ within (ref_faults facts) old begin.rest
    ∙ ap (map (ref_faults facts)) (sym begin.are)

pub no_more_judged : (facts : List Datom) (old new : List LookupRef) (judged : List NameFaults) → judged ≡ map (ref_faults facts) old
    → BeginWith old new
    → length judged ≤ length new
no_more_judged facts old new judged are begin =
    omega (arith, ap length are, length-map old (ref_faults facts), ap length begin.are, length-append old begin.rest)
