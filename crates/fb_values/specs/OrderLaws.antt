-- The laws of the orders: values and keys are totally ordered,
-- and equal keys are those of the same entity, attribute, value and t.
-- This project's own choice.
use Rattle.std.specs.Prelude.{◌≡◌, ℕ, ℤ, List, [], length, take, slice_index_or, refl}
use Rattle.std.proofs.Common.{sym, ◌∙◌, ap, subst, T}
use Rattle.std.specs.Ordering.{nat_cmp, int_cmp, bool_cmp, ordering_then, on, then_cmp, is_eq}
use Rattle.std.specs.Cmp.{IsTotalOrder, on_total, then_total, nat_cmp_total, int_cmp_total}
use Rattle.std.specs.Cmp.{tied_itself}
use Rattle.std.specs.Cmp.Lexicographic.{slice_cmp, lists_total, nat_list_cmp_total}
use Rattle.std.specs.FinMap.{IsAntisymmetric, nat_cmp-IsAntisymmetric, int_cmp-IsAntisymmetric}
use Rattle.std.specs.FinMap.{slice_cmp-IsAntisymmetric}
use Rattle.std.specs.declared.cmp.Ordering.{Ordering}
use Rattle.std.specs.declared.cmp.Ordering.TheVariants.{Less, Equal, Greater}
use Rattle.std.specs.Prelude.{false, true, pos}
use Rattle.fb_values.specs.declared.facts.Value.{Value}
use Rattle.fb_values.specs.declared.facts.Value.TheVariants.{Keyword, Str, Bool, Long, Ref, Instant}
use Rattle.fb_values.specs.declared.facts.Value.TheVariants.{Uuid, Symbol, Uri}
use Rattle.fb_values.specs.declared.facts.Datom.{Datom}
use Rattle.fb_values.specs.declared.indexes.Order.{Order}
use Rattle.fb_values.specs.declared.indexes.Order.TheVariants.{Eavt, Aevt, Avet, Vaet}
use Rattle.fb_values.specs.declared.indexes.Probe.{Probe}
use Rattle.fb_values.specs.Orders.{type_place, text_cmp, value_cmp, key_of, key_cmp, given}
use Rattle.fb_values.specs.Orders.{probe_cmp}

-- what values of each type hold, where other types hold the same: a text, a number, a signed number
abbrev text_in : Value → List ℕ
text_in (Keyword text) = text
text_in (Str text) = text
text_in (Symbol text) = text
text_in (Uri text) = text
text_in v = []

abbrev number_in : Value → ℕ
number_in (Bool false) = 0
number_in (Bool true) = 1
number_in (Ref n) = n
number_in (Uuid n) = n
number_in v = 0

abbrev signed_in : Value → ℤ
signed_in (Long n) = n
signed_in (Instant n) = n
signed_in v = pos 0

abbrev by_parts : Value → Value → Ordering
by_parts =
    then_cmp (on type_place nat_cmp)
    (then_cmp (on text_in text_cmp) (then_cmp (on number_in nat_cmp) (on signed_in int_cmp)))

then-Equal : (r : Ordering) → r ≡ ordering_then r Equal
then-Equal Less = refl
then-Equal Equal = refl
then-Equal Greater = refl

value_cmp-by_parts : (x y : Value) → value_cmp x y ≡ by_parts x y
value_cmp-by_parts (Keyword x) (Keyword y) = then-Equal (text_cmp x y)
value_cmp-by_parts (Str x) (Str y) = then-Equal (text_cmp x y)
value_cmp-by_parts (Bool false) (Bool false) = refl
value_cmp-by_parts (Bool false) (Bool true) = refl
value_cmp-by_parts (Bool true) (Bool false) = refl
value_cmp-by_parts (Bool true) (Bool true) = refl
value_cmp-by_parts (Long x) (Long y) = refl
value_cmp-by_parts (Ref x) (Ref y) = then-Equal (nat_cmp x y)
value_cmp-by_parts (Instant x) (Instant y) = refl
value_cmp-by_parts (Uuid x) (Uuid y) = then-Equal (nat_cmp x y)
value_cmp-by_parts (Symbol x) (Symbol y) = then-Equal (text_cmp x y)
value_cmp-by_parts (Uri x) (Uri y) = then-Equal (text_cmp x y)
value_cmp-by_parts x y = refl

pub value_cmp_total : IsTotalOrder value_cmp
value_cmp_total =
    subst IsTotalOrder (λ i x y. sym (value_cmp-by_parts x y) i)
    (then_total (on_total type_place nat_cmp_total)
    (then_total (on_total text_in nat_list_cmp_total)
    (then_total (on_total number_in nat_cmp_total) (on_total signed_in int_cmp_total))))

-- equal by an order that distinguishes any two values
different : {A : Type 0} (r : Ordering) → T (is_eq r) ≡ ⊥ → r ≡ Equal → A
different r e is = absurd (subst (λ a. a) e (subst (λ q. T (is_eq q)) (sym is) tt))

bool_cmp-IsAntisymmetric : IsAntisymmetric bool_cmp
bool_cmp-IsAntisymmetric false false e = refl
bool_cmp-IsAntisymmetric false true e = different Less refl e
bool_cmp-IsAntisymmetric true false e = different Greater refl e
bool_cmp-IsAntisymmetric true true e = refl

text_cmp-IsAntisymmetric : IsAntisymmetric text_cmp
text_cmp-IsAntisymmetric = slice_cmp-IsAntisymmetric nat_cmp-IsAntisymmetric

pub value_cmp-IsAntisymmetric : IsAntisymmetric value_cmp
value_cmp-IsAntisymmetric (Keyword x) (Keyword y) e = ap Keyword (text_cmp-IsAntisymmetric x y e)
value_cmp-IsAntisymmetric (Str x) (Str y) e = ap Str (text_cmp-IsAntisymmetric x y e)
value_cmp-IsAntisymmetric (Bool x) (Bool y) e = ap Bool (bool_cmp-IsAntisymmetric x y e)
value_cmp-IsAntisymmetric (Long x) (Long y) e = ap Long (int_cmp-IsAntisymmetric x y e)
value_cmp-IsAntisymmetric (Ref x) (Ref y) e = ap Ref (nat_cmp-IsAntisymmetric x y e)
value_cmp-IsAntisymmetric (Instant x) (Instant y) e = ap Instant (int_cmp-IsAntisymmetric x y e)
value_cmp-IsAntisymmetric (Uuid x) (Uuid y) e = ap Uuid (nat_cmp-IsAntisymmetric x y e)
value_cmp-IsAntisymmetric (Symbol x) (Symbol y) e = ap Symbol (text_cmp-IsAntisymmetric x y e)
value_cmp-IsAntisymmetric (Uri x) (Uri y) e = ap Uri (text_cmp-IsAntisymmetric x y e)
value_cmp-IsAntisymmetric x y e = different (value_cmp x y) refl e

pub key_cmp_total : (order : Order) → IsTotalOrder (key_cmp order)
key_cmp_total order = on_total (key_of order) (lists_total value_cmp_total)

-- the same entity, attribute, value and t
pub record IsAtOnePlace (x y : Datom) : Type 0 where
  pub e : x.e ≡ y.e
  pub a : x.a ≡ y.a
  pub v : x.v ≡ y.v
  pub t : x.t ≡ y.t

-- a component of two equal keys
component : {x y : List Value} → x ≡ y → (place : ℕ)
    → slice_index_or x place (Ref 0) ≡ slice_index_or y place (Ref 0)
component e place = ap (λ key. slice_index_or key place (Ref 0)) e

number : {m n : ℕ} → Ref m ≡ Ref n → m ≡ n
number e = ap number_in e

at_one_place : (order : Order) (x y : Datom) → key_of order x ≡ key_of order y → IsAtOnePlace x y
at_one_place Eavt x y k =
    record {
      e = number (component k 0);
      a = number (component k 1);
      v = component k 2;
      t = number (component k 3);
    }
at_one_place Aevt x y k =
    record {
      e = number (component k 1);
      a = number (component k 0);
      v = component k 2;
      t = number (component k 3);
    }
at_one_place Avet x y k =
    record {
      e = number (component k 2);
      a = number (component k 0);
      v = component k 1;
      t = number (component k 3);
    }
at_one_place Vaet x y k =
    record {
      e = number (component k 2);
      a = number (component k 1);
      v = component k 0;
      t = number (component k 3);
    }

pub key_cmp-Equal : (order : Order) (x y : Datom) → key_cmp order x y ≡ Equal → IsAtOnePlace x y
key_cmp-Equal order x y e =
    at_one_place order x y
    (slice_cmp-IsAntisymmetric value_cmp-IsAntisymmetric (key_of order x) (key_of order y) e)

-- the key begins with what the probe gives
pub probe_cmp-Equal : (p : Probe) (d : Datom) → probe_cmp p d ≡ Equal
    → take (length (given p)) (key_of p.order d) ≡ given p
probe_cmp-Equal p d e = sym (slice_cmp-IsAntisymmetric value_cmp-IsAntisymmetric (given p) _ e)

pub Equal-probe_cmp : (p : Probe) (d : Datom) → take (length (given p)) (key_of p.order d) ≡ given p
    → probe_cmp p d ≡ Equal
Equal-probe_cmp p d e =
    ap (slice_cmp value_cmp (given p)) e ∙ tied_itself (lists_total value_cmp_total) (given p)
