-- Entries and their codes: a list of codes has one list of entries.
use Rattle.std.proofs.Common.{◌≡◌, zero, suc, List, [], ◌∷◌, ◌++◌, sym, ap, subst}
use Rattle.std.proofs.lemmas.List.{map-append}
use mathlib.Core.Option.{some-injective, some-ne-none}
use base.Stored.{Gv, Coded}
use Rattle.board_rule.specs.declared.view.Code.{Code}
use Rattle.board_rule.specs.Views.{StartsWith, IsLawful, AreLawful, code, codes}

module _ {A : Type 0} (c : Coded A) where
  pub codes_inj : (l m : List A) → codes c.code l ≡ codes c.code m → l ≡ m
  codes_inj [] [] e = λ i. []
  codes_inj [] (y ∷ m) e = cc
  codes_inj (x ∷ l) [] e = cc
  codes_inj (x ∷ l) (y ∷ m) e =
      let head : code c.code x ≡ code c.code y = cc e in let tail : codes c.code l ≡ codes c.code m = cc e in
      let same = c.inj x y (ap (λ (k : Code). k.of) head) in let rest = codes_inj l m tail in λ i. same i ∷ rest i

  -- what the codes begin with, the entries do
  pub starts_inj : (l first : List A) → StartsWith (codes c.code l) (codes c.code first) → StartsWith l first
  starts_inj l [] h = (l, λ i. l)
  starts_inj [] (y ∷ m) h = let e = h.1 in cc e
  starts_inj (x ∷ l) (y ∷ m) h =
      let e = h.1 in let head : code c.code x ≡ code c.code y = cc e in let tail : codes c.code l ≡ codes c.code m ++ h.0 = cc e in
      let same = c.inj x y (ap (λ (k : Code). k.of) head) in let rest = starts_inj l m (h.0, tail) in (rest.0, λ i. same i ∷ rest.1 i)

  -- codes of a lawful list are of no other
  pub lawful_inj : (follows : List A → A → Type 0) (l : List A) → AreLawful c.code follows (codes c.code l) → IsLawful follows l
  lawful_inj follows l h = subst (IsLawful follows) (codes_inj h.0 l (sym h.1)) h.2

pub codes_snoc : {A : Type 0} (f : A → Gv) (l : List A) (e : A) → codes f (l ++ e ∷ []) ≡ codes f l ++ code f e ∷ []
codes_snoc f l e = map-append (code f) l (e ∷ [])

pub lawful_snoc : {A : Type 0} (follows : List A → A → Type 0) (l : List A) (e : A) → IsLawful follows l → follows l e
    → IsLawful follows (l ++ e ∷ [])
lawful_snoc follows [] e h f zero a at = subst (follows []) (some-injective e a at) f
lawful_snoc follows [] e h f (suc i) a at = absurd (some-ne-none a (sym at))
lawful_snoc follows (x ∷ l) e h f zero a at = h zero a at
lawful_snoc follows (x ∷ l) e h f (suc i) a at = lawful_snoc (λ m. follows (x ∷ m)) l e (λ j b q. h (suc j) b q) f i a at
