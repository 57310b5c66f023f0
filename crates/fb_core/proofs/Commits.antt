-- The commits of sessions, where one author more has written.
use Rattle.std.proofs.Common.{◌≡◌, ◌∙◌, ℕ, ◌+◌, Bool, true, false, cond, List, [], ◌∷◌, ◌++◌, length, refl, sym, ap, arith}
use Rattle.std.specs.Prelude.{nat_eq}
use Rattle.std.proofs.lemmas.List.{append-nil}
use Rattle.event_model.specs.World.{Session}
use Rattle.fb_core.specs.Worlds.{commits_behind}

-- the commit that the author's entry at t is to the session
abbrev pub own : ℕ → ℕ → ℕ → List ℕ
own s author t = cond (nat_eq s author) (t ∷ []) []

put_before : (b : Bool) (t : ℕ) (xs ys : List ℕ) → cond b (t ∷ (xs ++ ys)) (xs ++ ys) ≡ cond b (t ∷ xs) xs ++ ys
put_before true t xs ys = refl
put_before false t xs ys = refl

pub commits_behind-push : (t s : ℕ) (authors : List ℕ) (author : ℕ)
    → commits_behind t s (authors ++ author ∷ []) ≡ commits_behind t s authors ++ own s author (t + length authors + 1)
commits_behind-push t s [] author = let same : t + 0 + 1 ≡ t + 1 = omega arith in ap (own s author) (sym same)
commits_behind-push t s (first ∷ rest) author =
    let rest_is = commits_behind-push (t + 1) s rest author in
    let same : t + 1 + length rest + 1 ≡ t + length (first ∷ rest) + 1 = omega arith in
    let moved : commits_behind (t + 1) s (rest ++ author ∷ [])
    ≡ commits_behind (t + 1) s rest ++ own s author (t + length (first ∷ rest) + 1) =
    rest_is ∙ ap (λ n. commits_behind (t + 1) s rest ++ own s author n) same in
    ap (λ more. cond (nat_eq s first) ((t + 1) ∷ more) more) moved
    ∙ put_before (nat_eq s first) (t + 1) (commits_behind (t + 1) s rest) (own s author (t + length (first ∷ rest) + 1))

-- a session that has one commit more, or not
pub one_more : (b : Bool) (x y : Session) (commits : List ℕ) (t : ℕ) → x.commits ≡ commits ++ t ∷ [] → y.commits ≡ commits
    → (cond b x y).commits ≡ commits ++ cond b (t ∷ []) []
one_more true x y commits t one other = one
one_more false x y commits t one other = other ∙ sym (append-nil commits)
