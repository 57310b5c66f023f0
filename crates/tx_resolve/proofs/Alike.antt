-- Tempids that are the same.
use Rattle.std.proofs.Common.{◌≡◌, Bool, true, false, refl, sym, ap, subst, eqb-true, eq-eqb}
use Rattle.std.proofs.lemmas.Bool.{false≢true}
use Rattle.std.proofs.lemmas.Slice.Eq.{bytes_eq-Decides}
use Rattle.tx_resolve.specs.Tempids.{Tempid, named, nameless, is_same}

pub same_test : (a b : Bool) → (a ≡ true → b ≡ true) → (b ≡ true → a ≡ true) → a ≡ b
same_test true true f g = refl
same_test true false f g = sym (f refl)
same_test false true f g = g refl
same_test false false f g = refl

pub same_are : (x y : Tempid) → is_same x y ≡ true → x ≡ y
same_are (named x) (named y) is = ap named ((bytes_eq-Decides x y).0 is)
same_are (nameless m) (nameless n) is = ap nameless (eqb-true m n is)
same_are (named x) (nameless n) is = absurd (false≢true is)
same_are (nameless n) (named x) is = absurd (false≢true is)

pub same_itself : (x : Tempid) → is_same x x ≡ true
same_itself (named x) = (bytes_eq-Decides x x).1 refl
same_itself (nameless n) = eq-eqb n n refl

same_turned : (x y : Tempid) → is_same x y ≡ true → is_same y x ≡ true
same_turned x y is = subst (λ z. is_same z x ≡ true) (same_are x y is) (same_itself x)

pub same_back : (x y : Tempid) → is_same x y ≡ is_same y x
same_back x y = same_test (is_same x y) (is_same y x) (same_turned x y) (same_turned y x)
