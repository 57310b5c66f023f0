-- Numbers in a row: none stands among them twice, and rows that follow one another are one row.
use Rattle.std.proofs.Common.{◌≡◌, ℕ, zero, suc, ◌+◌, ◌-◌, ◌<◌, ◌≤◌, List, [], ◌∷◌, ◌++◌, length, refl, sym, ap, ◌∙◌, subst, inl, inr}
use Rattle.std.proofs.Common.{arith}
use Rattle.std.specs.List.{range_with_len}
use Rattle.std.proofs.lemmas.Bool.{cases_eq, eq-eqb, ne_eqb}
use Rattle.std.proofs.lemmas.List.FromFn.{length-range_with_len}
use Rattle.fb_values.specs.declared.facts.Datom.{Datom}
use Rattle.seg_tree.specs.Nodes.{DirectoryNode}
use Rattle.seg_tree.specs.Ids.{node_ids, next_above, ids_of_four, count_of, AreDistinct}
use Rattle.seg_tree.specs.Built.{IsBuilt}
use Rattle.seg_tree.proofs.Growing.{all_new}

count_none : (id a n : ℕ) → id < a → count_of id (range_with_len a n) ≡ 0
count_none id a zero less = refl
count_none id a (suc n) less = rw (ne_eqb a id (λ e. omega (arith, e, less))) (count_none id (a + 1) n (omega arith))

pub count_range : (id a n : ℕ) → count_of id (range_with_len a n) ≤ 1
count_range id a zero = omega arith
count_range id a (suc n) =
    elim (cases_eq a id) [
      | inl same ↦ let none = count_none id (a + 1) n (omega (arith, same)) in rw (eq-eqb a id same, none) (omega arith)
      | inr apart ↦ rw (ne_eqb a id apart) (count_range id (a + 1) n)
    ]

range-append : (a m n : ℕ) → range_with_len a m ++ range_with_len (a + m) n ≡ range_with_len a (m + n)
range-append a zero n = let e : a + 0 ≡ a = omega arith in let f : 0 + n ≡ n = omega arith in rw (e, f) refl
range-append a (suc m) n =
    let e : a + suc m ≡ (a + 1) + m = omega arith in
    let f : suc m + n ≡ suc (m + n) = omega arith in
    rw (e, f) (ap (λ ns. a ∷ ns) (range-append (a + 1) m n))

pub ranges_join : (a b c : ℕ) → a ≤ b → b ≤ c → range_with_len a (b - a) ++ range_with_len b (c - b) ≡ range_with_len a (c - a)
ranges_join a b c one two =
    let e : a + (b - a) ≡ b = omega arith in
    let f : (b - a) + (c - b) ≡ c - a = omega arith in
    ap (λ k. range_with_len a (b - a) ++ range_with_len k (c - b)) (sym e) ∙ range-append a (b - a) (c - b) ∙ ap (range_with_len a) f

next_above-range : (a n : ℕ) → next_above (range_with_len a (suc n)) ≡ a + suc n
next_above-range a zero = omega arith
next_above-range a (suc n) = omega (arith, next_above-range (a + 1) n)

-- the number behind a row that is not empty
pub next_of_row : (a : ℕ) (ids : List ℕ) → ids ≡ range_with_len a (length ids) → 0 < length ids → next_above ids ≡ a + length ids
next_of_row a [] row some = absurd (omega arith)
next_of_row a (id ∷ ids) row some = ap next_above row ∙ next_above-range a (length ids)

-- the ids of a tree of new leaves alone
row_of : (first next : ℕ) (datoms : List Datom) (tree : List DirectoryNode)
    → IsBuilt (record { first = first; datoms = datoms; kept = [] }) tree next → node_ids tree ≡ range_with_len first (next - first)
row_of first next datoms tree built = sym (all_new first (node_ids tree) built.old) ∙ built.new

module _ (first second third fourth next : ℕ) (es bs vs rs : List Datom) (eavt aevt avet vaet : List DirectoryNode)
    (e : IsBuilt (record { first = first; datoms = es; kept = [] }) eavt second)
    (b : IsBuilt (record { first = second; datoms = bs; kept = [] }) aevt third)
    (v : IsBuilt (record { first = third; datoms = vs; kept = [] }) avet fourth)
    (r : IsBuilt (record { first = fourth; datoms = rs; kept = [] }) vaet next) where
  four : ids_of_four eavt aevt avet vaet ≡ range_with_len first (next - first)
  four =
      ap (λ ids. ((ids ++ node_ids aevt) ++ node_ids avet) ++ node_ids vaet) (row_of first second es eavt e)
      ∙ ap (λ ids. ((range_with_len first (second - first) ++ ids) ++ node_ids avet) ++ node_ids vaet) (row_of second third bs aevt b)
      ∙ ap (λ ids. (ids ++ node_ids avet) ++ node_ids vaet) (ranges_join first second third e.behind b.behind)
      ∙ ap (λ ids. (range_with_len first (third - first) ++ ids) ++ node_ids vaet) (row_of third fourth vs avet v)
      ∙ ap (λ ids. ids ++ node_ids vaet) (ranges_join first third fourth (omega (arith, e.behind, b.behind)) v.behind)
      ∙ ap (λ ids. range_with_len first (fourth - first) ++ ids) (row_of fourth next rs vaet r)
      ∙ ranges_join first fourth next (omega (arith, e.behind, b.behind, v.behind)) r.behind

  -- the ids of four trees, each numbered from where the one before ends
  pub four_in_row : ids_of_four eavt aevt avet vaet ≡ range_with_len first (length (ids_of_four eavt aevt avet vaet))
  four_in_row = four ∙ ap (range_with_len first) (sym (ap length four ∙ length-range_with_len first (next - first)))

  pub four_distinct : AreDistinct (ids_of_four eavt aevt avet vaet)
  four_distinct id = subst (λ (ids : List ℕ). count_of id ids ≤ 1) (sym four) (count_range id first (next - first))
