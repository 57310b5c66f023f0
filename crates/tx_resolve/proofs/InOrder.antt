-- The tempids with a name, by its bytes.
use Rattle.std.proofs.Common.{◌≡◌, ℕ, suc, ◌+◌, ◌<◌, ◌≤◌, Bool, true, false, cond, List, [], ◌∷◌, ◌++◌, map, length, slice_get, refl, sym}
use Rattle.std.proofs.Common.{ap, ◌∙◌, arith, add-zero}
use Rattle.std.specs.Prelude.{Option, Some, None, is_some, option_map, filter_map, unwrap_or, bytes_eq, ⊤}
use Rattle.std.specs.List.{cons_option}
use Rattle.std.specs.Ordering.{is_eq, is_lt, match_ordering, ordering_reverse}
use Rattle.std.specs.Cmp.Lexicographic.{nat_list_cmp_total}
use Rattle.std.specs.Map.{lookup}
use Rattle.std.specs.BTreeMap.{insert_entry, is_at}
use Rattle.std.specs.declared.cmp.Ordering.{Ordering}
use Rattle.std.specs.declared.cmp.Ordering.TheVariants.{Less, Equal, Greater}
use Rattle.std.proofs.lemmas.Bool.{false≢true}
use Rattle.std.proofs.lemmas.Map.Text.{is_eq-slice_cmp}
use Rattle.std.proofs.lemmas.Option.{slice_get-get_or}
use Rattle.fb_values.specs.Orders.{text_cmp}
use Rattle.tx_model.specs.Tempids.{put_by_text, by_text}
use Rattle.tx_resolve.specs.Tempids.{Tempid, named, nameless, place_in}
use Rattle.tx_resolve.specs.Meeting.{named_places}
use Rattle.tx_resolve.specs.Numbers.{with_entity}
use Rattle.tx_resolve.proofs.Options.{none_not, map_none}

abbrev Pair : Type 0
Pair = List ℕ × ℕ

-- ---- a name that is not there yet goes to its place

head_absent : (b : Bool) (f : ℕ) (rest : Option ℕ) → cond b (Some f) rest ≡ None → b ≡ false
head_absent true f rest absent = none_not (sym absent)
head_absent false f rest absent = refl

rest_absent : (b : Bool) (f : ℕ) (rest : Option ℕ) → cond b (Some f) rest ≡ None → rest ≡ None
rest_absent true f rest absent = none_not (sym absent)
rest_absent false f rest absent = absent

put_first : (o p : Ordering) → p ≡ ordering_reverse o → is_eq o ≡ false → (x y : Pair) (es rest more : List Pair) → rest ≡ more
    → match_ordering o (x ∷ y ∷ es) ((y.0, x.1) ∷ es) (y ∷ rest) ≡ cond (is_lt p) (y ∷ more) (x ∷ y ∷ es)
put_first Less p is apart x y es rest more same = ap (λ q. cond (is_lt q) (y ∷ more) (x ∷ y ∷ es)) (sym is)
put_first Equal p is apart x y es rest more same = absurd (false≢true (sym apart))
put_first Greater p is apart x y es rest more same =
    ap (λ r. y ∷ r) same ∙ ap (λ q. cond (is_lt q) (y ∷ more) (x ∷ y ∷ es)) (sym is)

pub put_told : (s : List ℕ) (p : ℕ) (es : List Pair) → lookup (is_at (text_cmp s)) es ≡ None
    → insert_entry text_cmp es s p ≡ put_by_text (s, p) es
put_told s p [] absent = refl
put_told s p (y ∷ es) absent =
    let rest = lookup (is_at (text_cmp s)) es in
    put_first (text_cmp s y.0) (text_cmp y.0 s) (nat_list_cmp_total.antisymm y.0 s) (head_absent (is_eq (text_cmp s y.0)) y.1 rest absent)
    (s, p) y es (insert_entry text_cmp es s p) (put_by_text (s, p) es)
    (put_told s p es (rest_absent (is_eq (text_cmp s y.0)) y.1 rest absent))

-- ---- two names in either order

abbrev below : Pair → Pair → Bool
below x y = is_lt (text_cmp x.0 y.0)

reverse_lt : (o p : Ordering) → p ≡ ordering_reverse o → is_eq o ≡ false → is_lt p ≡ cond (is_lt o) false true
reverse_lt Less p is apart = ap is_lt is
reverse_lt Equal p is apart = absurd (false≢true (sym apart))
reverse_lt Greater p is apart = ap is_lt is

abbrev is_apart : Pair → Pair → Type 0
is_apart x y = is_eq (text_cmp x.0 y.0) ≡ false

lt_is : (o : Ordering) → is_lt o ≡ true → o ≡ Less
lt_is Less is = refl
lt_is Equal is = absurd (false≢true is)
lt_is Greater is = absurd (false≢true is)

-- what c is below, but not y, has y below it
between : (x y c : Pair) → below c x ≡ true → below c y ≡ false → below y x ≡ true
between x y c is not = ap is_lt (at (text_cmp c.0 y.0) refl not)
  where
    less : text_cmp c.0 x.0 ≡ Less
    less = lt_is (text_cmp c.0 x.0) is

    at : (o : Ordering) → text_cmp c.0 y.0 ≡ o → is_lt o ≡ false → text_cmp y.0 x.0 ≡ Less
    at Less are above = absurd (false≢true (sym above))
    at Equal are above = sym (nat_list_cmp_total.congr c.0 y.0 x.0 are) ∙ less
    at Greater are above =
        nat_list_cmp_total.trans y.0 c.0 x.0 (nat_list_cmp_total.antisymm y.0 c.0 ∙ ap ordering_reverse are) less

either_first : (x y : Pair) (l r : List Pair) → is_apart x y → cond (below y x) l r ≡ cond (below x y) r l
either_first x y l r apart =
    ap (λ b. cond b l r) (reverse_lt (text_cmp x.0 y.0) (text_cmp y.0 x.0) (nat_list_cmp_total.antisymm y.0 x.0) apart)
    ∙ flip (below x y)
  where
    flip : (b : Bool) → cond (cond b false true) l r ≡ cond b r l
    flip true = refl
    flip false = refl

swap : (x y : Pair) (l : List Pair) → is_apart x y → put_by_text x (put_by_text y l) ≡ put_by_text y (put_by_text x l)
swap x y [] apart = either_first x y (y ∷ x ∷ []) (x ∷ y ∷ []) apart
swap x y (c ∷ r) apart = go (swap x y r apart) (below c x) (below c y) refl refl
  where
    here : (z : Pair) (l : List Pair) (b : Bool) → below c z ≡ b → put_by_text z (c ∷ l) ≡ cond b (c ∷ put_by_text z l) (z ∷ c ∷ l)
    here z l b is = ap (λ b. cond b (c ∷ put_by_text z l) (z ∷ c ∷ l)) is

    go : put_by_text x (put_by_text y r) ≡ put_by_text y (put_by_text x r) → (b d : Bool) → below c x ≡ b → below c y ≡ d
        → put_by_text x (cond d (c ∷ put_by_text y r) (y ∷ c ∷ r)) ≡ put_by_text y (cond b (c ∷ put_by_text x r) (x ∷ c ∷ r))
    go rest true true bx by = here x (put_by_text y r) true bx ∙ ap (λ l. c ∷ l) rest ∙ sym (here y (put_by_text x r) true by)
    go rest true false bx by =
        ap (λ b. cond b (y ∷ put_by_text x (c ∷ r)) (x ∷ y ∷ c ∷ r)) (between x y c bx by)
        ∙ ap (λ l. y ∷ l) (here x r true bx)
        ∙ sym (here y (put_by_text x r) false by)
    go rest false true bx by =
        here x (put_by_text y r) false bx
        ∙ ap (λ l. x ∷ l) (sym (here y r true by))
        ∙ ap (λ b. cond b (x ∷ put_by_text y (c ∷ r)) (y ∷ x ∷ c ∷ r)) (sym (between y x c by bx))
    go rest false false bx by =
        ap (λ l. cond (below y x) (y ∷ l) (x ∷ y ∷ c ∷ r)) (here x r false bx)
        ∙ either_first x y (y ∷ x ∷ c ∷ r) (x ∷ y ∷ c ∷ r) apart
        ∙ ap (λ l. cond (below x y) (x ∷ l) (y ∷ x ∷ c ∷ r)) (sym (here y r false by))

-- ---- one more tempid

next_place : (k n p : ℕ) → k + suc n ≡ p → k + 1 + n ≡ p
next_place k n p is = omega arith

pub name_push : (s : List ℕ) (p : ℕ) (ts : List Tempid) (k : ℕ) → k + length ts ≡ p → place_in ts (named s) ≡ None
    → by_text (named_places k (ts ++ named s ∷ [])) ≡ put_by_text (s, p) (by_text (named_places k ts))
name_push s p [] k counted new = ap (λ (n : ℕ). (s, n) ∷ []) (sym (add-zero k) ∙ counted)
name_push s p (named y ∷ ts) k counted new =
    let rest = place_in ts (named s) in
    let apart : is_eq (text_cmp s y) ≡ false = is_eq-slice_cmp s y ∙ head_absent (bytes_eq s y) 0 _ new in
    ap (put_by_text (y, k))
    (name_push s p ts (k + 1) (next_place k (length ts) p counted) (map_none suc rest (rest_absent (bytes_eq s y) 0 _ new)))
    ∙ sym (swap (s, p) (y, k) (by_text (named_places (k + 1) ts)) apart)
name_push s p (nameless n ∷ ts) k counted new =
    name_push s p ts (k + 1) (next_place k (length ts) p counted) (map_none suc (place_in ts (named s)) new)

pub nameless_push : (n : ℕ) (ts : List Tempid) (k : ℕ) → named_places k (ts ++ nameless n ∷ []) ≡ named_places k ts
nameless_push n [] k = refl
nameless_push n (named y ∷ ts) k = ap (λ l. (y, k) ∷ l) (nameless_push n ts (k + 1))
nameless_push n (nameless m ∷ ts) k = nameless_push n ts (k + 1)

-- ---- names with the entities of their places

module _ (entities : List ℕ) where
  abbrev pub numbered_name : Pair → Pair
  numbered_name name = (name.0, unwrap_or (slice_get entities name.1) 0)

  -- each place has an entity
  abbrev Have : List Pair → Type 0
  Have [] = ⊤
  Have (name ∷ names) = (is_some (slice_get entities name.1) ≡ true) × Have names

  put_have : (x : Pair) (l : List Pair) → is_some (slice_get entities x.1) ≡ true → Have l → Have (put_by_text x l)
  put_have x [] has have = (has, tt)
  put_have x (y ∷ l) has have = go (put_have x l has have.1) (below y x)
    where
      go : Have (put_by_text x l) → (b : Bool) → Have (cond b (y ∷ put_by_text x l) (x ∷ y ∷ l))
      go rest true = (have.0, rest)
      go rest false = (has, have)

  by_text_have : (l : List Pair) → Have l → Have (by_text l)
  by_text_have [] have = tt
  by_text_have (x ∷ l) have = put_have x (by_text l) have.0 (by_text_have l have.1)

  within : (i n : ℕ) → i < n → n ≤ length entities → is_some (slice_get entities i) ≡ true
  within i n inside enough = ap is_some (slice_get-get_or entities i 0 (omega arith))

  places_have : (ts : List Tempid) (k : ℕ) → k + length ts ≤ length entities → Have (named_places k ts)
  places_have [] k enough = tt
  places_have (named s ∷ ts) k enough =
      (within k (k + length (named s ∷ ts)) (more k (length ts)) enough, places_have ts (k + 1) (next k (length ts) enough))
    where
      more : (k n : ℕ) → k < k + suc n
      more k n = omega arith

      next : (k n : ℕ) → k + suc n ≤ length entities → k + 1 + n ≤ length entities
      next k n enough = omega arith
  places_have (nameless n ∷ ts) k enough = places_have ts (k + 1) (next k (length ts) enough)
    where
      next : (k n : ℕ) → k + suc n ≤ length entities → k + 1 + n ≤ length entities
      next k n enough = omega arith

  told_one : (x : Pair) (o : Option ℕ) (rest more : List Pair) → is_some o ≡ true → rest ≡ more
      → cons_option (option_map (λ e. (x.0, e)) o) rest ≡ (x.0, unwrap_or o 0) ∷ more
  told_one x None rest more has same = absurd (false≢true has)
  told_one x (Some e) rest more has same = ap (λ l. (x.0, e) ∷ l) same

  told_list : (l : List Pair) → Have l → filter_map (with_entity entities) l ≡ map numbered_name l
  told_list [] have = refl
  told_list (x ∷ l) have =
      told_one x (slice_get entities x.1) (filter_map (with_entity entities) l) (map numbered_name l) have.0 (told_list l have.1)

  put_numbered : (x : Pair) (l : List Pair) → map numbered_name (put_by_text x l) ≡ put_by_text (numbered_name x) (map numbered_name l)
  put_numbered x [] = refl
  put_numbered x (y ∷ l) = go (put_numbered x l) (below y x)
    where
      go : map numbered_name (put_by_text x l) ≡ put_by_text (numbered_name x) (map numbered_name l) → (b : Bool)
          → map numbered_name (cond b (y ∷ put_by_text x l) (x ∷ y ∷ l))
          ≡ cond b (numbered_name y ∷ put_by_text (numbered_name x) (map numbered_name l))
          (numbered_name x ∷ numbered_name y ∷ map numbered_name l)
      go rest true = ap (λ r. numbered_name y ∷ r) rest
      go rest false = refl

  by_text_numbered : (l : List Pair) → map numbered_name (by_text l) ≡ by_text (map numbered_name l)
  by_text_numbered [] = refl
  by_text_numbered (x ∷ l) =
      put_numbered x (by_text l) ∙ ap (put_by_text (numbered_name x)) (by_text_numbered l)

  pub told_in_order : (ts : List Tempid) → length ts ≤ length entities
      → filter_map (with_entity entities) (by_text (named_places 0 ts)) ≡ by_text (map numbered_name (named_places 0 ts))
  told_in_order ts enough =
      told_list (by_text (named_places 0 ts)) (by_text_have (named_places 0 ts) (places_have ts 0 (from_first (length ts) enough)))
      ∙ by_text_numbered (named_places 0 ts)
    where
      from_first : (n : ℕ) → n ≤ length entities → 0 + n ≤ length entities
      from_first n enough = omega arith
