-- No code is the front of another: where two codes begin one list, they are one code.
use Rattle.std.proofs.Common.{◌≡◌, ℕ, List, [], ◌∷◌, ◌++◌, length, flat_map, Ordering, refl, ap, sym, subst, ◌∙◌, append_assoc, arith}
use Rattle.std.specs.List.{AllByRecursion}
use Rattle.edn_model.specs.Form as form
use Rattle.edn_duplicates.specs.Code.{joined, spelled, IsPairCode, InOrder, IsCode, AreCodes, ArePairCodes}
use Rattle.edn_duplicates.specs.declared.token.CodeToken.{CodeToken}
use Rattle.edn_duplicates.specs.declared.token.CodeToken.TheVariants.{Nil, Bool as Bool', Int, Str, Sym, Key, Inst, Uuid, Sequence, Map}
use Rattle.edn_duplicates.specs.declared.token.CodeToken.TheVariants.{Set}
use Rattle.edn_duplicates.proofs.Lists.{each_shuffled}

-- how many parts stand behind a token
abbrev pub part_count : CodeToken → ℕ
part_count (Sequence n) = n
part_count (Map n) = n
part_count (Set n) = n
part_count _ = 0

abbrev pub first_token : List CodeToken → CodeToken
first_token [] = Nil
first_token (t ∷ ts) = t

abbrev pub later_tokens : List CodeToken → List CodeToken
later_tokens [] = []
later_tokens (t ∷ ts) = ts

module _ (cmp : CodeToken → CodeToken → Ordering) where
  pub record IsSomeCode (code : List CodeToken) : Type 0 where
    pub of : form.Form
    pub is : IsCode cmp of code

  -- a list that is told from every code, whatever stands behind the two
  pub record IsApart (s : List CodeToken) : Type 0 where
    pub splits : (t r q : List CodeToken) → IsSomeCode t → s ++ r ≡ t ++ q → (s ≡ t) × (r ≡ q)

  -- a code is a token and as many codes as this says
  pub record IsLaid (code : List CodeToken) : Type 0 where
    pub front : CodeToken
    pub parts : List (List CodeToken)
    pub is : code ≡ joined front parts
    pub count : part_count front ≡ length parts
    pub codes : AllByRecursion IsSomeCode parts

  mutual
    laid : (f : form.Form) (s : List CodeToken) → IsCode cmp f s → IsLaid s
    laid form.nil s h = record { front = Nil; parts = []; is = h; count = refl; codes = tt }
    laid (form.boolean b) s h = record { front = Bool' b; parts = []; is = h; count = refl; codes = tt }
    laid (form.integer z) s h = record { front = Int z; parts = []; is = h; count = refl; codes = tt }
    laid (form.string k) s h = record { front = Str (spelled k); parts = []; is = h; count = refl; codes = tt }
    laid (form.symbol k) s h = record { front = Sym (spelled k); parts = []; is = h; count = refl; codes = tt }
    laid (form.keyword k) s h = record { front = Key (spelled k); parts = []; is = h; count = refl; codes = tt }
    laid (form.list fs) s h =
        record { front = Sequence (length h.parts); parts = h.parts; is = h.joins; count = refl; codes = some_codes fs h.parts h.codes }
    laid (form.vector fs) s h =
        record { front = Sequence (length h.parts); parts = h.parts; is = h.joins; count = refl; codes = some_codes fs h.parts h.codes }
    laid (form.map ps) s h =
        let j : InOrder cmp Map h.parts s = h.joins in
        record {
          front = Map (length j.sorted);
          parts = j.sorted;
          is = j.joins;
          count = refl;
          codes = each_shuffled IsSomeCode h.parts j.sorted j.shuffled (some_pair_codes ps h.parts h.codes);
        }
    laid (form.set fs) s h =
        let j : InOrder cmp Set h.parts s = h.joins in
        record {
          front = Set (length j.sorted);
          parts = j.sorted;
          is = j.joins;
          count = refl;
          codes = each_shuffled IsSomeCode h.parts j.sorted j.shuffled (some_codes fs h.parts h.codes);
        }
    laid (form.instant z) s h = record { front = Inst z; parts = []; is = h; count = refl; codes = tt }
    laid (form.uuid n) s h = record { front = Uuid n; parts = []; is = h; count = refl; codes = tt }

    pub some_codes : (fs : form.Forms) (cs : List (List CodeToken)) → AreCodes cmp fs cs → AllByRecursion IsSomeCode cs
    some_codes form.no_forms [] h = tt
    some_codes form.no_forms (c ∷ cs) h = absurd h
    some_codes (form.form f fs) [] h = absurd h
    some_codes (form.form f fs) (c ∷ cs) h = (record { of = f; is = h.0 }, some_codes fs cs h.1)

    pub some_pair_codes : (ps : form.Pairs) (cs : List (List CodeToken)) → ArePairCodes cmp ps cs → AllByRecursion IsSomeCode cs
    some_pair_codes form.no_pairs [] h = tt
    some_pair_codes form.no_pairs (c ∷ cs) h = absurd h
    some_pair_codes (form.pair k v ps) [] h = absurd h
    some_pair_codes (form.pair k v ps) (c ∷ cs) h =
        let p : IsPairCode (IsCode cmp k) (IsCode cmp v) c = h.0 in (
          record {
            of = form.list (form.form k (form.form v form.no_forms));
            is = record { parts = p.key ∷ p.value ∷ []; codes = (p.is_key, (p.is_value, tt)); joins = p.joins };
          },
          some_pair_codes ps cs h.1,
        )

  pub parts_split : (xs ys : List (List CodeToken)) (r q : List CodeToken) → AllByRecursion IsApart xs → AllByRecursion IsSomeCode ys
      → length xs ≡ length ys
      → flat_map (λ p. p) xs ++ r ≡ flat_map (λ p. p) ys ++ q → (xs ≡ ys) × (r ≡ q)
  parts_split [] [] r q h k n e = (refl, e)
  parts_split [] (b ∷ ys) r q h k n e = absurd (omega arith)
  parts_split (a ∷ xs) [] r q h k n e = absurd (omega arith)
  parts_split (a ∷ xs) (b ∷ ys) r q h k n e =
      let here : a ++ (flat_map (λ p. p) xs ++ r) ≡ b ++ (flat_map (λ p. p) ys ++ q) =
      sym (append_assoc a (flat_map (λ p. p) xs) r) ∙ e ∙ append_assoc b (flat_map (λ p. p) ys) q in
      let first : (a ≡ b) × (flat_map (λ p. p) xs ++ r ≡ flat_map (λ p. p) ys ++ q) =
      h.0.splits b (flat_map (λ p. p) xs ++ r) (flat_map (λ p. p) ys ++ q) k.0 here in
      let rest : (xs ≡ ys) × (r ≡ q) = parts_split xs ys r q h.1 k.1 (omega arith) first.1 in
      (ap (λ z. z ∷ xs) first.0 ∙ ap (λ zs. b ∷ zs) rest.0, rest.1)

  -- a token and as many parts as it says, each told from every code
  whole : (front : CodeToken) (xs : List (List CodeToken)) → part_count front ≡ length xs → AllByRecursion IsApart xs
      → IsApart (joined front xs)
  whole front xs n h = record {
    splits = λ t r q some e.
        let k : IsLaid t = laid some.of t some.is in
        let e' : front ∷ (flat_map (λ p. p) xs ++ r) ≡ k.front ∷ (flat_map (λ p. p) k.parts ++ q) = e ∙ ap (λ z. z ++ q) k.is in
        let fronts : front ≡ k.front = ap first_token e' in
        let many : length xs ≡ length k.parts = sym n ∙ ap part_count fronts ∙ k.count in
        let rest : (xs ≡ k.parts) × (r ≡ q) = parts_split xs k.parts r q h k.codes many (ap later_tokens e') in
        (ap (λ z. joined z xs) fronts ∙ ap (λ zs. joined k.front zs) rest.0 ∙ sym k.is, rest.1);
  }

  mutual
    pub apart : (f : form.Form) (s : List CodeToken) → IsCode cmp f s → IsApart s
    apart form.nil s h = subst IsApart (sym h) (whole Nil [] refl tt)
    apart (form.boolean b) s h = subst IsApart (sym h) (whole (Bool' b) [] refl tt)
    apart (form.integer z) s h = subst IsApart (sym h) (whole (Int z) [] refl tt)
    apart (form.string k) s h = subst IsApart (sym h) (whole (Str (spelled k)) [] refl tt)
    apart (form.symbol k) s h = subst IsApart (sym h) (whole (Sym (spelled k)) [] refl tt)
    apart (form.keyword k) s h = subst IsApart (sym h) (whole (Key (spelled k)) [] refl tt)
    apart (form.list fs) s h = subst IsApart (sym h.joins) (whole (Sequence (length h.parts)) h.parts refl (all_apart fs h.parts h.codes))
    apart (form.vector fs) s h = subst IsApart (sym h.joins) (whole (Sequence (length h.parts)) h.parts refl (all_apart fs h.parts h.codes))
    apart (form.map ps) s h =
        let j : InOrder cmp Map h.parts s = h.joins in
        subst IsApart (sym j.joins) (whole (Map (length j.sorted)) j.sorted refl
        (each_shuffled IsApart h.parts j.sorted j.shuffled (all_pairs_apart ps h.parts h.codes)))
    apart (form.set fs) s h =
        let j : InOrder cmp Set h.parts s = h.joins in
        subst IsApart (sym j.joins)
        (whole (Set (length j.sorted)) j.sorted refl (each_shuffled IsApart h.parts j.sorted j.shuffled (all_apart fs h.parts h.codes)))
    apart (form.instant z) s h = subst IsApart (sym h) (whole (Inst z) [] refl tt)
    apart (form.uuid n) s h = subst IsApart (sym h) (whole (Uuid n) [] refl tt)

    pub all_apart : (fs : form.Forms) (cs : List (List CodeToken)) → AreCodes cmp fs cs → AllByRecursion IsApart cs
    all_apart form.no_forms [] h = tt
    all_apart form.no_forms (c ∷ cs) h = absurd h
    all_apart (form.form f fs) [] h = absurd h
    all_apart (form.form f fs) (c ∷ cs) h = (apart f c h.0, all_apart fs cs h.1)

    pub all_pairs_apart : (ps : form.Pairs) (cs : List (List CodeToken)) → ArePairCodes cmp ps cs → AllByRecursion IsApart cs
    all_pairs_apart form.no_pairs [] h = tt
    all_pairs_apart form.no_pairs (c ∷ cs) h = absurd h
    all_pairs_apart (form.pair k v ps) [] h = absurd h
    all_pairs_apart (form.pair k v ps) (c ∷ cs) h =
        let p : IsPairCode (IsCode cmp k) (IsCode cmp v) c = h.0 in (
          subst IsApart (sym p.joins)
              (whole (Sequence 2) (p.key ∷ p.value ∷ []) refl (apart k p.key p.is_key, (apart v p.value p.is_value, tt))),
          all_pairs_apart ps cs h.1,
        )

  -- the same parts, of which there are as many
  pub same_parts : (xs ys : List (List CodeToken)) → AllByRecursion IsApart xs → AllByRecursion IsSomeCode ys → length xs ≡ length ys
      → flat_map (λ p. p) xs ≡ flat_map (λ p. p) ys → xs ≡ ys
  same_parts xs ys h k n e = (parts_split xs ys [] [] h k n (ap (λ z. z ++ []) e)).0
