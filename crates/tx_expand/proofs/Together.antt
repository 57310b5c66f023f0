-- What is wrong with several asks together.
use Rattle.std.proofs.Common.{◌≡◌, Bool, true, false, List, [], ◌∷◌, ◌++◌, cond, filter, ◌||◌, refl, ap, ◌∙◌}
use Rattle.fb_values.specs.declared.facts.Datom.{Datom}
use Rattle.tx_model.specs.Asks.{Ask}
use Rattle.tx_expand.specs.declared.faults.Faults.{Faults}
use Rattle.tx_expand.specs.Faults.{no_faults, either, ask_faults, form_faults}

or_false : (b : Bool) → (b || false) ≡ b
or_false true = refl
or_false false = refl

or_assoc : (a b c : Bool) → ((a || b) || c) ≡ (a || (b || c))
or_assoc true b c = refl
or_assoc false b c = refl

pub all_five : {a b c d e : Bool} (v w x y z : Bool) → a ≡ v → b ≡ w → c ≡ x → d ≡ y → e ≡ z
    → ◌≡◌ {A = Faults} (record { unknown = a; protected = b; wrong = c; not_unique = d; lacking = e })
    (record { unknown = v; protected = w; wrong = x; not_unique = y; lacking = z })
all_five {a} {b} {c} {d} {e} v w x y z p q r s t =
    ap (λ i. record { unknown = i; protected = b; wrong = c; not_unique = d; lacking = e }) p
    ∙ ap (λ i. record { unknown = v; protected = i; wrong = c; not_unique = d; lacking = e }) q
    ∙ ap (λ i. record { unknown = v; protected = w; wrong = i; not_unique = d; lacking = e }) r
    ∙ ap (λ i. record { unknown = v; protected = w; wrong = x; not_unique = i; lacking = e }) s
    ∙ ap (λ i. record { unknown = v; protected = w; wrong = x; not_unique = y; lacking = i }) t

pub either_of_none : (x : Faults) → either x no_faults ≡ x
either_of_none x =
    all_five x.unknown x.protected x.wrong x.not_unique x.lacking
    (or_false x.unknown) (or_false x.protected) (or_false x.wrong) (or_false x.not_unique) (or_false x.lacking)

pub either_assoc : (x y z : Faults) → either (either x y) z ≡ either x (either y z)
either_assoc x y z =
    all_five (x.unknown || (y.unknown || z.unknown)) (x.protected || (y.protected || z.protected)) (x.wrong || (y.wrong || z.wrong))
    (x.not_unique || (y.not_unique || z.not_unique)) (x.lacking || (y.lacking || z.lacking))
    (or_assoc x.unknown y.unknown z.unknown) (or_assoc x.protected y.protected z.protected) (or_assoc x.wrong y.wrong z.wrong)
    (or_assoc x.not_unique y.not_unique z.not_unique) (or_assoc x.lacking y.lacking z.lacking)

-- what is wrong so far, with one ask more, and with the rest
pub faults_then : (facts : List Datom) (so_far : Faults) (ask : Ask) (rest : List Ask)
    → either (either so_far (ask_faults facts ask)) (form_faults facts rest) ≡ either so_far (form_faults facts (ask ∷ rest))
faults_then facts so_far ask rest = either_assoc so_far (ask_faults facts ask) (form_faults facts rest)

pub one_kept : {A : Type 0} (test : A → Bool) (x : A) (xs : List A) → filter test (x ∷ []) ++ filter test xs ≡ filter test (x ∷ xs)
one_kept test x xs = elim (test x) as (λ b. cond b (x ∷ []) [] ++ filter test xs ≡ cond b (x ∷ filter test xs) (filter test xs)) [
  | true ↦ refl
  | false ↦ refl
]
