-- What is behind an answer that is there.
use Rattle.std.proofs.Common.{◌≡◌, Bool, true, false, ◌||◌, refl, sym, ap}
use Rattle.std.proofs.lemmas.Bool.{false≢true}
use Rattle.std.specs.Prelude.{Option, Some, None, is_some, is_none, option_map, option_and_then}

pub record ComesOf {A B : Type 0} (f : A → B) (o : Option A) (y : B) : Type 0 where
  pub from : A
  pub is : o ≡ Some from
  pub gives : f from ≡ y

pub none_not : {A C : Type 0} {x : A} → ◌≡◌ {A = Option A} None (Some x) → C
none_not is = absurd (false≢true (ap is_some is))

pub same_some : {A : Type 0} {x y : A} → ◌≡◌ {A = Option A} (Some x) (Some y) → x ≡ y
same_some is = cc

pub map_some : {A B : Type 0} (f : A → B) (o : Option A) (y : B) → option_map f o ≡ Some y → ComesOf f o y
map_some f None y is = none_not is
map_some f (Some x) y is = record { from = x; is = refl; gives = same_some is }

pub and_then_some : {A B : Type 0} (f : A → Option B) (o : Option A) (y : B) → option_and_then f o ≡ Some y → ComesOf f o (Some y)
and_then_some f None y is = none_not is
and_then_some f (Some x) y is = record { from = x; is = refl; gives = is }

pub is_none-map : {A B : Type 0} (f : A → B) (o : Option A) → is_none (option_map f o) ≡ is_none o
is_none-map f None = refl
is_none-map f (Some x) = refl

pub is_none-some : {A : Type 0} (o : Option A) → is_some o ≡ true → is_none o ≡ false
is_none-some None there = absurd (false≢true there)
is_none-some (Some x) there = refl

pub none_there : {A : Type 0} (o : Option A) → is_some o ≡ false → o ≡ None
none_there None absent = refl
none_there (Some x) absent = absurd (false≢true (sym absent))

-- one of two answers is missing
pub is_none-and_then : {A B : Type 0} (f : A → Option B) (b : Bool)
    → ((x : A) → is_none (f x) ≡ b) → (o : Option A) → is_none (option_and_then f o) ≡ (is_none o || b)
is_none-and_then f b rest None = refl
is_none-and_then f b rest (Some x) = rest x

pub is_some-map : {A B : Type 0} (f : A → B) (o : Option A) → is_some (option_map f o) ≡ is_some o
is_some-map f None = refl
is_some-map f (Some x) = refl

pub map_none : {A B : Type 0} (f : A → B) (o : Option A) → option_map f o ≡ None → o ≡ None
map_none f None none = refl
map_none f (Some x) none = none_not (sym none)
