-- Which list of tokens is the code of a form.
-- Forms without duplicates inside are alike exactly where they have the same code.
-- This project's own choice.
use Rattle.std.specs.Prelude.{◌≡◌, ℕ, Bool, false, List, [], ◌∷◌, length, flat_map, IsPermutation}
use Rattle.std.specs.Cmp.Lexicographic.{slice_cmp}
use Rattle.std.specs.List.{AllByRecursion}
use Rattle.std.specs.Ordering.{is_lt}
use Rattle.std.specs.declared.cmp.Ordering.{Ordering}
use Rattle.edn_model.specs.Form as form
use Rattle.edn_duplicates.specs.declared.spelling.Spelling.{Spelling}
use Rattle.edn_duplicates.specs.declared.token.CodeToken.{CodeToken}
use Rattle.edn_duplicates.specs.declared.token.CodeToken.TheVariants.{Nil, Bool as Bool', Int, Str}
use Rattle.edn_duplicates.specs.declared.token.CodeToken.TheVariants.{Sym, Key, Inst, Uuid}
use Rattle.edn_duplicates.specs.declared.token.CodeToken.TheVariants.{Sequence, Map, Set}

-- a token, and the parts after it
abbrev pub joined : CodeToken → List (List CodeToken) → List CodeToken
joined front parts = front ∷ flat_map (λ p. p) parts

abbrev pub spelled : List ℕ → Spelling
spelled s = record { text = s }

-- none is less than one before it
abbrev pub Rises : {X : Type 0} → (X → X → Bool) → List X → Type 0
Rises lt [] = Unit {0}
Rises lt (x ∷ xs) = AllByRecursion (λ y. lt y x ≡ false) xs × Rises lt xs

-- parts of which each belongs to a member, and what joins them
pub record Parts (Are Join : List (List CodeToken) → Type 0) : Type 0 where
  pub parts : List (List CodeToken)
  pub codes : Are parts
  pub joins : Join parts

-- a key's code and a value's, joined
pub record IsPairCode (IsKey IsValue : List CodeToken → Type 0) (code : List CodeToken)
    : Type 0 where
  pub key : List CodeToken
  pub value : List CodeToken
  pub is_key : IsKey key
  pub is_value : IsValue value
  pub joins : code ≡ joined (Sequence 2) (key ∷ value ∷ [])

module _ (cmp : CodeToken → CodeToken → Ordering) where
  abbrev pub IsRising : List (List CodeToken) → Type 0
  IsRising = Rises (λ a b. is_lt (slice_cmp cmp a b))

  -- the parts in the order of tokens, joined
  pub record InOrder (front : ℕ → CodeToken) (parts : List (List CodeToken)) (code : List CodeToken)
      : Type 0 where
    pub sorted : List (List CodeToken)
    pub shuffled : IsPermutation parts sorted
    pub rises : IsRising sorted
    pub joins : code ≡ joined (front (length sorted)) sorted

  abbrev mutual
    pub IsCode : form.Form → List CodeToken → Type 0
    IsCode form.nil code = code ≡ Nil ∷ []
    IsCode (form.boolean b) code = code ≡ Bool' b ∷ []
    IsCode (form.integer z) code = code ≡ Int z ∷ []
    IsCode (form.string s) code = code ≡ Str (spelled s) ∷ []
    IsCode (form.symbol s) code = code ≡ Sym (spelled s) ∷ []
    IsCode (form.keyword k) code = code ≡ Key (spelled k) ∷ []
    IsCode (form.list fs) code =
        Parts (AreCodes fs) (λ parts. code ≡ joined (Sequence (length parts)) parts)
    IsCode (form.vector fs) code =
        Parts (AreCodes fs) (λ parts. code ≡ joined (Sequence (length parts)) parts)
    IsCode (form.map ps) code = Parts (ArePairCodes ps) (λ parts. InOrder Map parts code)
    IsCode (form.set fs) code = Parts (AreCodes fs) (λ parts. InOrder Set parts code)
    IsCode (form.instant z) code = code ≡ Inst z ∷ []
    IsCode (form.uuid n) code = code ≡ Uuid n ∷ []

    pub AreCodes : form.Forms → List (List CodeToken) → Type 0
    AreCodes form.no_forms [] = Unit {0}
    AreCodes form.no_forms (c ∷ cs) = ⊥
    AreCodes (form.form f fs) [] = ⊥
    AreCodes (form.form f fs) (c ∷ cs) = IsCode f c × AreCodes fs cs

    pub ArePairCodes : form.Pairs → List (List CodeToken) → Type 0
    ArePairCodes form.no_pairs [] = Unit {0}
    ArePairCodes form.no_pairs (c ∷ cs) = ⊥
    ArePairCodes (form.pair k v ps) [] = ⊥
    ArePairCodes (form.pair k v ps) (c ∷ cs) =
        IsPairCode (IsCode k) (IsCode v) c × ArePairCodes ps cs
