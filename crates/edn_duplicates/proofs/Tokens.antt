-- The order of tokens is total, and equal tokens are one token.
use Rattle.std.proofs.Common.{◌≡◌, Bool, true, false, ◌&&◌, List, [], ◌∷◌, Ordering, Less, Equal, Greater, is_eq, refl, ap, sym, ◌∙◌, true≢false}
use Rattle.std.proofs.lemmas.Map.Lookups.{CmpEqualImpliesEq, exact_unsigned, exact_signed, exact_bytes}
use Rattle.std.specs.Cmp.Lexicographic.{slice_cmp, pointwise, lists_ties}
use Rattle.std.specs.Ordering.{ordering_then, bool_cmp, eq_by_cmp}
use Rattle.edn_duplicates.specs.Code.{spelled}
use Rattle.edn_duplicates.specs.Order.{token_eq, token_cmp, token_ties}
use Rattle.edn_duplicates.specs.declared.token.CodeToken.{CodeToken}
use Rattle.edn_duplicates.specs.declared.token.CodeToken.TheVariants.{Nil, Bool as Bool', Int, Str, Sym, Key, Inst, Uuid, Sequence, Map}
use Rattle.edn_duplicates.specs.declared.token.CodeToken.TheVariants.{Set}

first_equal : (r s : Ordering) → ordering_then r s ≡ Equal → r ≡ Equal
first_equal Less s h = h
first_equal Equal s h = refl
first_equal Greater s h = h

one_bool : (a b : Bool) → bool_cmp a b ≡ Equal → a ≡ b
one_bool true true h = refl
one_bool true false h = absurd (true≢false (sym (ap is_eq h)))
one_bool false true h = absurd (true≢false (sym (ap is_eq h)))
one_bool false false h = refl

pub token_exact : (a b : CodeToken) → token_cmp a b ≡ Equal → a ≡ b
unfolding token_cmp
token_exact Nil Nil h = refl
token_exact (Bool' a) (Bool' b) h = ap Bool' (one_bool a b h)
token_exact (Int a) (Int b) h = ap Int (exact_signed a b h)
token_exact (Str a) (Str b) h = ap (λ z. Str (spelled z)) (exact_bytes a.text b.text h)
token_exact (Sym a) (Sym b) h = ap (λ z. Sym (spelled z)) (exact_bytes a.text b.text h)
token_exact (Key a) (Key b) h = ap (λ z. Key (spelled z)) (exact_bytes a.text b.text h)
token_exact (Inst a) (Inst b) h = ap Inst (exact_signed a b h)
token_exact (Uuid a) (Uuid b) h = ap Uuid (exact_unsigned a b h)
token_exact (Sequence a) (Sequence b) h = ap Sequence (exact_unsigned a b h)
token_exact (Map a) (Map b) h = ap Map (exact_unsigned a b h)
token_exact (Set a) (Set b) h = ap Set (exact_unsigned a b h)
token_exact a b h = absurd (true≢false (sym (ap is_eq h)))

-- so are lists of tokens
pub lists_exact : {K : Type 0} (c : K → K → Ordering) → CmpEqualImpliesEq c → CmpEqualImpliesEq (slice_cmp c)
lists_exact c e [] [] h = refl
lists_exact c e [] (y ∷ ys) h = absurd (true≢false (sym (ap is_eq h)))
lists_exact c e (x ∷ xs) [] h = absurd (true≢false (sym (ap is_eq h)))
lists_exact c e (x ∷ xs) (y ∷ ys) h =
    let first : c x y ≡ Equal = first_equal (c x y) (slice_cmp c xs ys) h in
    let rest : slice_cmp c xs ys ≡ Equal = ap (λ r. ordering_then r (slice_cmp c xs ys)) (sym first) ∙ h in
    ap (λ z. z ∷ xs) (e x y first) ∙ ap (λ zs. y ∷ zs) (lists_exact c e xs ys rest)

pub code_exact : CmpEqualImpliesEq (slice_cmp token_cmp)
code_exact = lists_exact token_cmp token_exact

-- ---- the test of equal tokens

and_true : (a : Bool) → (a && true) ≡ a
and_true true = refl
and_true false = refl

-- of lists of tokens, and of lists of one
pub same_lists : (xs ys : List CodeToken) → pointwise token_eq xs ys ≡ eq_by_cmp (slice_cmp token_cmp) xs ys
same_lists xs ys = lists_ties token_cmp token_ties xs ys

pub same_ones : (a b : CodeToken) → token_eq a b ≡ eq_by_cmp (slice_cmp token_cmp) (a ∷ []) (b ∷ [])
same_ones a b = sym (and_true (token_eq a b)) ∙ same_lists (a ∷ []) (b ∷ [])
