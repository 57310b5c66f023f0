-- The datoms of one triple.
use Rattle.std.proofs.Common.{◌≡◌, ℕ, true, ◌&&◌, refl, ap, sym, eqb}
use Rattle.std.specs.Ordering.{is_eq}
use Rattle.std.specs.declared.cmp.Ordering.{Ordering}
use Rattle.std.specs.declared.cmp.Ordering.TheVariants.{Less, Equal, Greater}
use Rattle.std.specs.Cmp.{tied_itself}
use Rattle.std.proofs.lemmas.Bool.{true≢false, eqb-true, and_parts}
use Rattle.fb_values.specs.declared.facts.Datom.{Datom}
use Rattle.fb_values.specs.declared.facts.Value.{Value}
use Rattle.fb_values.specs.Orders.{value_cmp}
use Rattle.fb_values.specs.OrderLaws.{value_cmp-IsAntisymmetric, value_cmp_total}
use Rattle.fb_model.specs.Facts.{value_eq, is_of}

is_eq-true : (r : Ordering) → is_eq r ≡ true → r ≡ Equal
is_eq-true Less e = absurd (true≢false (sym e))
is_eq-true Equal e = refl
is_eq-true Greater e = absurd (true≢false (sym e))

pub value_eq-true : (v w : Value) → value_eq v w ≡ true → v ≡ w
value_eq-true v w e = value_cmp-IsAntisymmetric v w (is_eq-true (value_cmp v w) e)

pub value_eq-refl : (v : Value) → value_eq v v ≡ true
value_eq-refl v = ap is_eq (tied_itself value_cmp_total v)

-- what a datom of the triple is
pub record IsOf (e a : ℕ) (v : Value) (d : Datom) : Type 0 where
  pub e_is : d.e ≡ e
  pub a_is : d.a ≡ a
  pub v_is : d.v ≡ v

pub is_of-true : (e a : ℕ) (v : Value) (d : Datom) → is_of e a v d ≡ true → IsOf e a v d
is_of-true e a v d h =
    let parts = and_parts (eqb d.e e && eqb d.a a) (value_eq d.v v) h in
    let numbers = and_parts (eqb d.e e) (eqb d.a a) parts.0 in
    record { e_is = eqb-true d.e e numbers.0; a_is = eqb-true d.a a numbers.1; v_is = value_eq-true d.v v parts.1 }
