-- The numbers in asks are below the number of places, where no place behind them tells.
use Rattle.std.proofs.Common.{◌≡◌, ℕ, zero, suc, ◌+◌, ◌<◌, ◌≤◌, Bool, true, false, List, [], ◌∷◌, ◌++◌, ◌⊎◌, inl, inr, length, map, cond}
use Rattle.std.proofs.Common.{refl, ap, sym, ◌∙◌, arith}
use Rattle.std.specs.Prelude.{slice_index_or, filter, Option, Some, None, ⊤}
use Rattle.std.specs.List.{All}
use Rattle.std.proofs.lemmas.Bool.{cases_lt, false≢true}
use Rattle.tx_model.specs.Asks.{Name, number, ident, lookup, tempid, nameless, Operand, plain, entity, Ask, adds, retracts, retracts_all}
use Rattle.tx_model.specs.Asks.{compares, retracts_entity, meets, mentions, lacks_id}
use Rattle.tx_asks.specs.declared.asks.LookupRef.{LookupRef}
use Rattle.tx_asks.specs.declared.asks.Name as program
use Rattle.tx_asks.specs.Asks.{AreCounted, IsCounted, IsCountedPart, IsCountedOldPart}
use Rattle.tx_asks.specs.declared.asks.Ask as asks
use Rattle.tx_asks.specs.declared.asks.Ask.TheVariants.{Adds, Retracts, RetractsAll, Compares, RetractsEntity, Meets}
use Rattle.tx_asks.specs.declared.asks.Operand as parts
use Rattle.tx_asks.specs.declared.asks.Operand.TheVariants.{Plain, Entity}
use Rattle.tx_asks.specs.declared.asks.Name.TheVariants.{Number, Ident, Lookup, Tempid, Nameless}
use Rattle.tx_expand.specs.View.{model_name}
use Rattle.tx_expand.specs.Faults.{part_read, old_part_read, ask_read}
use Rattle.tx_expand.specs.Placed.{placed, part_placed, ask_placed}

-- ---- what is below

abbrev pub IsBelow : ℕ → Name → Type 0
IsBelow n (nameless (k ∷ rest)) = k < n
IsBelow n name = ⊤

abbrev pub IsPartBelow : ℕ → Operand → Type 0
IsPartBelow n (plain f) = ⊤
IsPartBelow n (entity name) = IsBelow n name

abbrev pub IsAskBelow : ℕ → Ask → Type 0
IsAskBelow n (adds name k part) = IsBelow n name × IsPartBelow n part
IsAskBelow n (retracts name k part) = IsBelow n name × IsPartBelow n part
IsAskBelow n (retracts_all name k) = IsBelow n name
IsAskBelow n (compares name k old new) = IsBelow n name × IsPartBelow n old × IsPartBelow n new
IsAskBelow n (retracts_entity name) = IsBelow n name
IsAskBelow n (meets name) = IsBelow n name
IsAskBelow n ask = ⊤

-- ---- a name that more places do not tell from others

ones : ℕ → List (List ℕ)
ones zero = []
ones (suc n) = (0 ∷ []) ∷ ones n

at_ones : (n k : ℕ) → k < n → slice_index_or (ones n) k [] ≡ 0 ∷ []
unfolding ones
at_ones zero k below = absurd (omega (arith, below))
at_ones (suc n) zero below = refl
at_ones (suc n) (suc k) below = at_ones n k (omega (arith, below))

behind_places : (ps : List (List ℕ)) (k n : ℕ) → length ps ≤ k → k < length ps + n → slice_index_or (ps ++ ones n) k [] ≡ 0 ∷ []
behind_places [] k n past below = at_ones n k (omega (arith, below))
behind_places (p ∷ ps) zero n past below = absurd (omega (arith, past))
behind_places (p ∷ ps) (suc k) n past below = behind_places ps k n (omega (arith, past)) (omega (arith, below))

past_places : (ps : List (List ℕ)) (k : ℕ) → length ps ≤ k → slice_index_or ps k [] ≡ []
past_places [] k past = refl
past_places (p ∷ ps) zero past = absurd (omega (arith, past))
past_places (p ∷ ps) (suc k) past = past_places ps k (omega (arith, past))

is_none_left : List ℕ → Bool
is_none_left [] = true
is_none_left (n ∷ rest) = false

no_one : {A : Type 0} → ◌≡◌ {A = List ℕ} [] (0 ∷ []) → A
unfolding is_none_left
no_one same = absurd (false≢true (sym (ap is_none_left same)))

path_in : Name → List ℕ
path_in (nameless path) = path
path_in name = []

name_below : (ps : List (List ℕ)) (name : Name)
    → ((more : List (List ℕ)) → placed (ps ++ more) name ≡ placed ps name) → IsBelow (length ps) name
unfolding path_in
name_below ps (number z) same = tt
name_below ps (ident k) same = tt
name_below ps (lookup k f) same = tt
name_below ps (tempid s) same = tt
name_below ps (nameless []) same = tt
name_below ps (nameless (k ∷ rest)) same = by_cases (cases_lt k (length ps))
  where
    by_cases : (k < length ps) ⊎ (length ps ≤ k) → k < length ps
    by_cases (inl below) = below
    by_cases (inr past) =
        no_one (sym (past_places ps k past) ∙ sym (ap path_in (same (ones (k + 1)))) ∙ behind_places ps k (k + 1) past (omega arith))

abbrev name_in_part : Operand → Name
name_in_part (plain f) = nameless []
name_in_part (entity name) = name

part_below : (ps : List (List ℕ)) (part : Operand)
    → ((more : List (List ℕ)) → part_placed (ps ++ more) part ≡ part_placed ps part) → IsPartBelow (length ps) part
part_below ps (plain f) same = tt
part_below ps (entity name) same = name_below ps name (λ more. ap name_in_part (same more))

abbrev name_in_ask : Ask → Name
name_in_ask (adds name k part) = name
name_in_ask (retracts name k part) = name
name_in_ask (retracts_all name k) = name
name_in_ask (compares name k old new) = name
name_in_ask (retracts_entity name) = name
name_in_ask (meets name) = name
name_in_ask ask = nameless []

abbrev first_part : Ask → Operand
first_part (adds name k part) = part
first_part (retracts name k part) = part
first_part (compares name k old new) = old
first_part ask = entity (nameless [])

abbrev second_part : Ask → Operand
second_part (compares name k old new) = new
second_part ask = entity (nameless [])

ask_below : (ps : List (List ℕ)) (ask : Ask)
    → ((more : List (List ℕ)) → ask_placed (ps ++ more) ask ≡ ask_placed ps ask) → IsAskBelow (length ps) ask
ask_below ps (adds name k part) same =
    (name_below ps name (λ more. ap name_in_ask (same more)), part_below ps part (λ more. ap first_part (same more)))
ask_below ps (retracts name k part) same =
    (name_below ps name (λ more. ap name_in_ask (same more)), part_below ps part (λ more. ap first_part (same more)))
ask_below ps (retracts_all name k) same = name_below ps name (λ more. ap name_in_ask (same more))
ask_below ps (compares name k old new) same = (
  name_below ps name (λ more. ap name_in_ask (same more)),
  part_below ps old (λ more. ap first_part (same more)),
  part_below ps new (λ more. ap second_part (same more)),
)
ask_below ps (retracts_entity name) same = name_below ps name (λ more. ap name_in_ask (same more))
ask_below ps (meets name) same = name_below ps name (λ more. ap name_in_ask (same more))
ask_below ps (mentions k) same = tt
ask_below ps lacks_id same = tt

-- ---- lists of asks

abbrev pub Each : {A : Type 0} → (A → Type 0) → List A → Type 0
Each P [] = ⊤
Each P (x ∷ xs) = P x × Each P xs

pub all_of_each : {A : Type 0} (P : A → Type 0) (xs : List A) → Each P xs → All P xs
all_of_each P [] each k d below = absurd (omega (arith, below))
all_of_each P (x ∷ xs) each zero d below = each.0
all_of_each P (x ∷ xs) each (suc k) d below = all_of_each P xs each.1 k d (omega (arith, below))

each_filter : {A : Type 0} (P : A → Type 0) (test : A → Bool) (xs : List A) → Each P xs → Each P (filter test xs)
each_filter P test [] each = tt
each_filter P test (x ∷ xs) each = by_test (test x) each.1 (each_filter P test xs each.1)
  where
    by_test : (b : Bool) → Each P xs → Each P (filter test xs) → Each P (cond b (x ∷ filter test xs) (filter test xs))
    by_test true rest kept = (each.0, kept)
    by_test false rest kept = kept

head_of : {A : Type 0} → A → List A → A
head_of d [] = d
head_of d (x ∷ xs) = x

tail_of : {A : Type 0} → List A → List A
tail_of [] = []
tail_of (x ∷ xs) = xs

asks_below : (ps : List (List ℕ)) (asks : List Ask)
    → ((more : List (List ℕ)) → map (ask_placed (ps ++ more)) asks ≡ map (ask_placed ps) asks) → Each (IsAskBelow (length ps)) asks
unfolding head_of tail_of
asks_below ps [] same = tt
asks_below ps (ask ∷ asks) same =
    (ask_below ps ask (λ more. ap (head_of lacks_id) (same more)), asks_below ps asks (λ more. ap tail_of (same more)))

pub lists_below : (ps : List (List ℕ)) (lists : List (List Ask))
    → ((more : List (List ℕ)) → map (map (ask_placed (ps ++ more))) lists ≡ map (map (ask_placed ps)) lists)
    → Each (Each (IsAskBelow (length ps))) lists
unfolding head_of tail_of
lists_below ps [] same = tt
lists_below ps (asks ∷ lists) same =
    (asks_below ps asks (λ more. ap (head_of []) (same more)), lists_below ps lists (λ more. ap tail_of (same more)))

-- ---- the asks of the program

counted_name : (n : ℕ) (all : List LookupRef) (name : program.Name) → IsBelow n (model_name all name) → IsCounted n name
counted_name n all (Number z) below = tt
counted_name n all (Ident k) below = tt
counted_name n all (Lookup k) below = tt
counted_name n all (Tempid s) below = tt
counted_name n all (Nameless k) below = below

counted_part : (n : ℕ) (all : List LookupRef) (part : parts.Operand) → IsPartBelow n (part_read all part) → IsCountedPart n part
counted_part n all (Plain f v) below = tt
counted_part n all (Entity name) below = counted_name n all name below

counted_old : (n : ℕ) (all : List LookupRef) (part : Option parts.Operand) → IsPartBelow n (old_part_read all part)
    → IsCountedOldPart n part
counted_old n all None below = tt
counted_old n all (Some part) below = counted_part n all part below

counted_ask : (n : ℕ) (all : List LookupRef) (ask : asks.Ask) → IsAskBelow n (ask_read all ask) → AreCounted n ask
counted_ask n all (Adds on attribute part) below = (counted_name n all on below.0, counted_part n all part below.1)
counted_ask n all (Retracts on attribute part) below = (counted_name n all on below.0, counted_part n all part below.1)
counted_ask n all (RetractsAll on attribute) below = counted_name n all on below
counted_ask n all (Compares of) below =
    (counted_name n all of.on below.0, counted_old n all of.old below.1, counted_part n all of.new below.2)
counted_ask n all (RetractsEntity on) below = counted_name n all on below
counted_ask n all (Meets on) below = counted_name n all on below

pub counted_asks : (n : ℕ) (all : List LookupRef) (xs : List asks.Ask) → Each (IsAskBelow n) (map (ask_read all) xs)
    → Each (AreCounted n) xs
counted_asks n all [] below = tt
counted_asks n all (ask ∷ xs) below = (counted_ask n all ask below.0, counted_asks n all xs below.1)

pub kept_below : (n : ℕ) (test : Ask → Bool) (lists : List (List Ask)) → Each (Each (IsAskBelow n)) lists
    → Each (Each (IsAskBelow n)) (map (filter test) lists)
kept_below n test [] below = tt
kept_below n test (asks ∷ lists) below = (each_filter (IsAskBelow n) test asks below.0, kept_below n test lists below.1)
