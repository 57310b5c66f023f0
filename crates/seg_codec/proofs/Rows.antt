-- Lists that are written, or filled, one element after another.
use Rattle.std.proofs.Common.{◌≡◌, ◌<◌, ◌≤◌, ◌+◌, ℕ, Bool, List, [], ◌∷◌, ◌++◌, length, map, take, drop, get_or, sym, ◌∙◌, ap, arith}
use Rattle.std.proofs.Common.{append_assoc}
use Rattle.std.specs.Prelude.{filter, flat_map}
use Rattle.std.proofs.lemmas.List.{take_more, take_all, flat_map_more, append-nil, length-map}
use Rattle.std.proofs.lemmas.List.Folds.{flat_map-map}
use Rattle.log_model.specs.Fields.{u32_bytes}
use Rattle.log_model.specs.Nodes.{list_bytes}
use Rattle.std.proofs.lemmas.List.Elements.{filter-append}
use Rattle.seg_tree.proofs.Making.{seen_more}

pub written_more : {X : Type 0} (f : X → List ℕ) (xs : List X) (i : ℕ) (x : X) (old before after : List ℕ) → i < length xs
    → x ≡ get_or xs i x
    → before ≡ old ++ flat_map f (take i xs) → after ≡ before ++ f x → after ≡ old ++ flat_map f (take (i + 1) xs)
written_more f xs i x old before after within is front step =
    step
    ∙ ap (λ l. l ++ f x) front
    ∙ flat_map_more f old (take i xs) x
    ∙ ap (λ l. old ++ flat_map f l) (ap (λ y. take i xs ++ y ∷ []) is ∙ sym (take_more xs i x within))

pub written_all : {X : Type 0} (f : X → List ℕ) (xs : List X) (i : ℕ) (old out : List ℕ) → length xs ≤ i
    → out ≡ old ++ flat_map f (take i xs) → out ≡ old ++ flat_map f xs
written_all f xs i old out past is = is ∙ ap (λ l. old ++ flat_map f l) (take_all i xs past)

pub kept_more : {X A : Type 0} (p : A → Bool) (now : X → A) (xs : List X) (i : ℕ) (x : X) (old before after : List A) → i < length xs
    → x ≡ get_or xs i x
    → before ≡ old ++ filter p (map now (take i xs)) → after ≡ before ++ filter p (now x ∷ [])
    → after ≡ old ++ filter p (map now (take (i + 1) xs))
kept_more p now xs i x old before after within is front step =
    step
    ∙ ap (λ l. l ++ filter p (now x ∷ [])) front
    ∙ append_assoc old (filter p (map now (take i xs))) (filter p (now x ∷ []))
    ∙ ap (λ l. old ++ l) (sym (filter-append p (map now (take i xs)) (now x ∷ [])) ∙ ap (filter p) (sym (seen_more now xs i x within is)))

-- a list behind its number
pub list_written : {X : Type 0} (f : X → List ℕ) (xs : List X) (old out : List ℕ) → out ≡ (old ++ u32_bytes (length xs)) ++ flat_map f xs
    → out ≡ old ++ list_bytes f xs
list_written f xs old out is = is ∙ append_assoc old (u32_bytes (length xs)) (flat_map f xs)

pub list_mapped : {X A : Type 0} (write : A → List ℕ) (f : X → A) (xs : List X)
    → list_bytes (λ x. write (f x)) xs ≡ list_bytes write (map f xs)
list_mapped write f xs = λ i. u32_bytes (sym (length-map xs f) i) ++ sym (flat_map-map write f xs) i

pub list_begun : {X : Type 0} (f : X → List ℕ) (old out : List ℕ) → out ≡ old → out ≡ old ++ flat_map f []
list_begun f old out is = is ∙ sym (append-nil old)

-- what stands behind eight free bytes
module _ (out c leaves directories roots : List ℕ) (head : ℕ)
    (is : out ≡ ((((0 ∷ 0 ∷ 0 ∷ 0 ∷ 0 ∷ 0 ∷ 0 ∷ 0 ∷ []) ++ head ∷ []) ++ c) ++ leaves) ++ directories ++ roots) where
  pub behind_free : drop 8 out ≡ head ∷ (c ++ leaves ++ directories ++ roots)
  behind_free = ap (drop 8) is

  pub free_room : 8 ≤ length out
  free_room = omega (arith, ap length is)

-- four rows, one behind another
pub four_rows : (old e a v r first second third fourth : List ℕ) → first ≡ old ++ e → second ≡ first ++ a → third ≡ second ++ v
    → fourth ≡ third ++ r
    → fourth ≡ old ++ (e ++ (a ++ (v ++ (r ++ []))))
four_rows old e a v r first second third fourth is_e is_a is_v is_r =
    is_r
    ∙ ap (λ l. l ++ r) (is_v ∙ ap (λ l. l ++ v) (is_a ∙ ap (λ l. l ++ a) is_e))
    ∙ append_assoc ((old ++ e) ++ a) v r
    ∙ append_assoc (old ++ e) a (v ++ r)
    ∙ append_assoc old e (a ++ (v ++ r))
    ∙ ap (λ l. old ++ (e ++ (a ++ (v ++ l)))) (sym (append-nil r))

pub kept_four : {A : Type 0} (p : A → Bool) (e a v r none first second third fourth : List A) → none ≡ [] → first ≡ none ++ filter p e
    → second ≡ first ++ filter p a → third ≡ second ++ filter p v → fourth ≡ third ++ filter p r
    → fourth ≡ filter p (e ++ a ++ v ++ r)
kept_four p e a v r none first second third fourth is_none is_e is_a is_v is_r =
    is_r
    ∙ ap (λ l. l ++ filter p r) (is_v ∙ ap (λ l. l ++ filter p v) (is_a ∙ ap (λ l. l ++ filter p a) (is_e ∙ ap
    (λ l. l ++ filter p e) is_none)))
    ∙ ap (λ l. (l ++ filter p v) ++ filter p r) (sym (filter-append p e a))
    ∙ ap (λ l. l ++ filter p r) (sym (filter-append p (e ++ a) v))
    ∙ sym (filter-append p (e ++ a ++ v) r)
