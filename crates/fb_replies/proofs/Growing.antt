-- How the text of a collection grows by one member behind.
use Rattle.std.proofs.Common.{◌≡◌, ℕ, suc, ◌+◌, ◌<◌, false, List, [], ◌∷◌, ◌++◌, length, map, take, get_or, refl, ap, ◌∙◌, sym, subst}
use Rattle.std.proofs.Common.{arith}
use Rattle.std.proofs.lemmas.Bool.Decides.{nat_tests}
use Rattle.std.proofs.lemmas.List.{append_assoc, append-nil, take_more, map-append, length-map, length-take-le}
use Rattle.std.specs.Prelude.{◌==◌}
use Rattle.edn_model.specs.Form.{Form, forms, pairs}
use Rattle.edn_model.specs.Canon.{Canon, CanonAll, CanonRest, CanonPairs, CanonRestPairs}
use Rattle.edn_print.specs.Printed.{Appends, space_before}

space : (index : ℕ) → space_before (suc index) ≡ 32 ∷ []
space index = let later : (suc index == 0) ≡ false = grind (arith, nat_tests) in rw later refl

-- ---- members

rest_behind : (fs : List Form) (f : Form) (bytes text : List ℕ) → CanonRest (forms fs) bytes → Canon f text
    → CanonRest (forms (fs ++ f ∷ [])) (bytes ++ 32 ∷ text)
rest_behind [] f bytes text h k =
    (text, [], k, refl, ap (λ (z : List ℕ). z ++ 32 ∷ text) h ∙ ap (λ (z : List ℕ). 32 ∷ z) (sym (append-nil text)))
rest_behind (g ∷ fs) f bytes text h k =
    (h.0, h.1 ++ 32 ∷ text, h.2, rest_behind fs f h.1 text h.3 k, ap (λ (z : List ℕ). z ++ 32 ∷ text) h.4 ∙ simp append_assoc)

all_behind : (fs : List Form) (f : Form) (bytes text : List ℕ) → CanonAll (forms fs) bytes → Canon f text
    → CanonAll (forms (fs ++ f ∷ [])) ((bytes ++ space_before (length fs)) ++ text)
all_behind [] f bytes text h k = (text, [], k, refl, ap (λ (z : List ℕ). (z ++ []) ++ text) h ∙ sym (append-nil text))
all_behind (g ∷ fs) f bytes text h k =
    let spaced : (bytes ++ space_before (suc (length fs))) ++ text ≡ ((h.0 ++ h.1) ++ 32 ∷ []) ++ text =
    ap (λ (z : List ℕ). (z ++ space_before (suc (length fs))) ++ text) h.4
    ∙ ap (λ (z : List ℕ). ((h.0 ++ h.1) ++ z) ++ text) (space (length fs)) in
    (h.0, h.1 ++ 32 ∷ text, h.2, rest_behind fs f h.1 text h.3 k, spaced ∙ simp append_assoc)

pub no_member : (old : List ℕ) → Appends (CanonAll (forms [])) old old
no_member old = record { text = []; is = refl; behind = sym (append-nil old) }

member_behind : (fs : List Form) (f : Form) (index : ℕ) (old written spaced new : List ℕ)
    → length fs ≡ index → Appends (CanonAll (forms fs)) old written → spaced ≡ written ++ space_before index → Appends (Canon f) spaced new
    → Appends (CanonAll (forms (fs ++ f ∷ []))) old new
member_behind fs f index old written spaced new count a s b =
    let at : spaced ≡ (old ++ a.text) ++ space_before (length fs) =
    s ∙ ap (λ (z : List ℕ). z ++ space_before index) a.behind ∙ ap (λ n. (old ++ a.text) ++ space_before n) (sym count) in
    let whole : new ≡ ((old ++ a.text) ++ space_before (length fs)) ++ b.text = b.behind ∙ ap (λ (z : List ℕ). z ++ b.text) at in
    let grouped : (sep : List ℕ) → ((old ++ a.text) ++ sep) ++ b.text ≡ old ++ ((a.text ++ sep) ++ b.text) = λ sep. simp append_assoc in
    record {
      text = (a.text ++ space_before (length fs)) ++ b.text;
      is = all_behind fs f a.text b.text a.is b.is;
      behind = whole ∙ grouped (space_before (length fs));
    }

-- ---- pairs

-- a key and its value, with what follows them
abbrev pair_text : List ℕ → List ℕ → List ℕ → List ℕ
pair_text key value rest = key ++ 32 ∷ (value ++ rest)

rest_pairs_behind : (ps : List (Form × Form)) (p : Form × Form) (bytes key value : List ℕ) → CanonRestPairs (pairs ps) bytes → Canon p.0 key
    → Canon p.1 value → CanonRestPairs (pairs (ps ++ p ∷ [])) (bytes ++ 32 ∷ (key ++ 32 ∷ value))
rest_pairs_behind [] p bytes key value h k v = (
  key,
  value,
  [],
  k,
  v,
  refl,
  ap (λ (z : List ℕ). z ++ 32 ∷ (key ++ 32 ∷ value)) h ∙ ap (λ (z : List ℕ). 32 ∷ (key ++ 32 ∷ z)) (sym (append-nil value)),
)
rest_pairs_behind (q ∷ ps) p bytes key value h k v = (
  h.0,
  h.1,
  h.2 ++ 32 ∷ (key ++ 32 ∷ value),
  h.3,
  h.4,
  rest_pairs_behind ps p h.2 key value h.5 k v,
  ap (λ (z : List ℕ). z ++ 32 ∷ (key ++ 32 ∷ value)) h.6 ∙ simp append_assoc,
)

all_pairs_behind : (ps : List (Form × Form)) (p : Form × Form) (bytes key value : List ℕ) → CanonPairs (pairs ps) bytes → Canon p.0 key
    → Canon p.1 value → CanonPairs (pairs (ps ++ p ∷ [])) ((bytes ++ space_before (length ps)) ++ (key ++ 32 ∷ value))
all_pairs_behind [] p bytes key value h k v = (
  key,
  value,
  [],
  k,
  v,
  refl,
  ap (λ (z : List ℕ). (z ++ []) ++ (key ++ 32 ∷ value)) h ∙ ap (λ (z : List ℕ). key ++ 32 ∷ z) (sym (append-nil value)),
)
all_pairs_behind (q ∷ ps) p bytes key value h k v =
    let pair = key ++ 32 ∷ value in
    let spaced : (bytes ++ space_before (suc (length ps))) ++ pair ≡ (pair_text h.0 h.1 h.2 ++ 32 ∷ []) ++ pair =
    ap (λ (z : List ℕ). (z ++ space_before (suc (length ps))) ++ pair) h.6
    ∙ ap (λ (z : List ℕ). (pair_text h.0 h.1 h.2 ++ z) ++ pair) (space (length ps)) in
    (h.0, h.1, h.2 ++ 32 ∷ pair, h.3, h.4, rest_pairs_behind ps p h.2 key value h.5 k v, spaced ∙ simp append_assoc)

pub no_pair : (old : List ℕ) → Appends (CanonPairs (pairs [])) old old
no_pair old = record { text = []; is = refl; behind = sym (append-nil old) }

pair_behind : (ps : List (Form × Form)) (p : Form × Form) (index : ℕ) (old written spaced keyed between new : List ℕ) → length ps ≡ index
    → Appends (CanonPairs (pairs ps)) old written → spaced ≡ written ++ space_before index → Appends (Canon p.0) spaced keyed
    → between ≡ keyed ++ 32 ∷ [] → Appends (Canon p.1) between new → Appends (CanonPairs (pairs (ps ++ p ∷ []))) old new
pair_behind ps p index old written spaced keyed between new count a s k i v =
    let at : spaced ≡ (old ++ a.text) ++ space_before (length ps) =
    s ∙ ap (λ (z : List ℕ). z ++ space_before index) a.behind ∙ ap (λ n. (old ++ a.text) ++ space_before n) (sym count) in
    let keyed_is : keyed ≡ ((old ++ a.text) ++ space_before (length ps)) ++ k.text = k.behind ∙ ap (λ (z : List ℕ). z ++ k.text) at in
    let whole : new ≡ ((((old ++ a.text) ++ space_before (length ps)) ++ k.text) ++ 32 ∷ []) ++ v.text =
    v.behind ∙ ap (λ (z : List ℕ). z ++ v.text) (i ∙ ap (λ (z : List ℕ). z ++ 32 ∷ []) keyed_is) in
    let grouped : (sep : List ℕ)
    → ((((old ++ a.text) ++ sep) ++ k.text) ++ 32 ∷ []) ++ v.text ≡ old ++ ((a.text ++ sep) ++ (k.text ++ 32 ∷ v.text)) =
    λ sep. simp append_assoc in
    record {
      text = (a.text ++ space_before (length ps)) ++ (k.text ++ 32 ∷ v.text);
      is = all_pairs_behind ps p a.text k.text v.text a.is k.is v.is;
      behind = whole ∙ grouped (space_before (length ps));
    }

-- ---- what a loop has come to

pub map_twice : {X Y Z : Type 0} (g : Y → Z) (f : X → Y) (xs : List X) → map (λ x. g (f x)) xs ≡ map g (map f xs)
map_twice g f [] = refl
map_twice g f (x ∷ xs) = ap (λ ys. g (f x) ∷ ys) (map_twice g f xs)

taken : {X Y : Type 0} (f : X → Y) (xs : List X) (i : ℕ) (x : X) → i < length xs → get_or xs i x ≡ x
    → map f (take i xs) ++ f x ∷ [] ≡ map f (take (i + 1) xs)
taken f xs i x within is =
    sym (ap (map f) (take_more xs i x within) ∙ map-append f (take i xs) (get_or xs i x ∷ []) ∙ ap (λ y. map f (take i xs) ++ f y ∷ []) is)

count : {X Y : Type 0} (f : X → Y) (xs : List X) (i : ℕ) → i < length xs → length (map f (take i xs)) ≡ i
count f xs i within = length-map (take i xs) f ∙ length-take-le i xs (omega arith)

pub member_taken : {X : Type 0} (f : X → Form) (xs : List X) (i : ℕ) (x : X) (old written spaced new : List ℕ)
    → i < length xs → get_or xs i x ≡ x → Appends (CanonAll (forms (map f (take i xs)))) old written → spaced ≡ written ++ space_before i
    → Appends (Canon (f x)) spaced new → Appends (CanonAll (forms (map f (take (i + 1) xs)))) old new
member_taken f xs i x old written spaced new within is a s b =
    subst (λ fs. Appends (CanonAll (forms fs)) old new) (taken f xs i x within is)
    (member_behind (map f (take i xs)) (f x) i old written spaced new (count f xs i within) a s b)

pub pair_taken : {X : Type 0} (f : X → Form × Form) (xs : List X) (i : ℕ) (x : X) (old written spaced keyed between new : List ℕ)
    → i < length xs → get_or xs i x ≡ x → Appends (CanonPairs (pairs (map f (take i xs)))) old written → spaced ≡ written ++ space_before i
    → Appends (Canon (f x).0) spaced keyed → between ≡ keyed ++ 32 ∷ [] → Appends (Canon (f x).1) between new
    → Appends (CanonPairs (pairs (map f (take (i + 1) xs)))) old new
pair_taken f xs i x old written spaced keyed between new within is a s k e v =
    subst (λ ps. Appends (CanonPairs (pairs ps)) old new) (taken f xs i x within is)
    (pair_behind (map f (take i xs)) (f x) i old written spaced keyed between new (count f xs i within) a s k e v)
