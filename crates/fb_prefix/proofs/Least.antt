-- The least datom that a probe leads to, and what its prefix tells.
use Rattle.std.proofs.Common.{◌≡◌, ℕ, true, false, List, [], ◌∷◌, length, take, Option, Some, None, refl, sym, arith}
use Rattle.std.proofs.lemmas.Bool.Decides.{nat_tests}
use Rattle.std.specs.Ordering.{nat_cmp, ordering_then, is_lt, is_gt}
use Rattle.std.specs.Cmp.{tied_back}
use Rattle.std.specs.Cmp.Lexicographic.{slice_cmp}
use Rattle.std.specs.declared.cmp.Ordering.{Ordering}
use Rattle.std.specs.declared.cmp.Ordering.TheVariants.{Less, Equal, Greater}
use Rattle.fb_values.specs.declared.facts.Value.{Value}
use Rattle.fb_values.specs.declared.facts.Value.TheVariants.{Keyword}
use Rattle.fb_values.specs.declared.facts.Datom.{Datom}
use Rattle.fb_values.specs.declared.indexes.Order.{Order}
use Rattle.fb_values.specs.declared.indexes.Order.TheVariants.{Eavt, Aevt, Avet, Vaet}
use Rattle.fb_values.specs.declared.indexes.Probe.{Probe}
use Rattle.fb_values.specs.Orders.{value_cmp, key_of, given}
use Rattle.fb_values.specs.OrderLaws.{value_cmp_total}
use Rattle.fb_prefix.specs.Prefixes.{is_lesser, prefix_in}
use Rattle.fb_prefix.specs.Probes.{sought_at, sought_in, is_below}
use Rattle.fb_prefix.proofs.Law.{lesser_prefix}

-- ---- a key that begins with what is given and goes on with the least components

abbrev AtLeast : List Value → List Value → Type 0
AtLeast [] [] = Unit {0}
AtLeast [] (l ∷ least) = ⊥
AtLeast (c ∷ key) [] = ⊥
AtLeast (c ∷ key) (l ∷ least) = (is_lt (value_cmp c l) ≡ false) × AtLeast key least

abbrev Filled : List Value → List Value → List Value → Type 0
Filled [] filled key = AtLeast key filled
Filled (v ∷ g) [] key = ⊥
Filled (v ∷ g) (w ∷ filled) [] = ⊥
Filled (v ∷ g) (w ∷ filled) (c ∷ key) = (v ≡ w) × Filled g filled key

not_less : (o rest : Ordering) → is_lt o ≡ false → is_lt rest ≡ false → is_lt (ordering_then o rest) ≡ false
not_less Less rest first then = first
not_less Equal rest first then = then
not_less Greater rest first then = refl

at_least : (key least : List Value) → AtLeast key least → is_lt (slice_cmp value_cmp key least) ≡ false
at_least [] [] is = refl
at_least [] (l ∷ least) is = absurd is
at_least (c ∷ key) [] is = absurd is
at_least (c ∷ key) (l ∷ least) is = not_less (value_cmp c l) (slice_cmp value_cmp key least) is.0 (at_least key least is.1)

-- o is how c and v compare, p how v and c do
above_then : (o p rest rest' : Ordering) → (o ≡ Less → p ≡ Greater) → (o ≡ Equal → p ≡ Equal) → (rest ≡ Less → is_gt rest' ≡ true)
    → ordering_then o rest ≡ Less → is_gt (ordering_then p rest') ≡ true
above_then Less p rest rest' less equal next is = rw (less refl) refl
above_then Equal p rest rest' less equal next is = rw (equal refl) (next is)
above_then Greater p rest rest' less equal next is = absurd (cc)

turned_less : (c v : Value) → value_cmp c v ≡ Less → value_cmp v c ≡ Greater
turned_less c v less = cc (value_cmp_total.antisymm v c)

below_filled : (g filled key : List Value) → Filled g filled key → slice_cmp value_cmp key filled ≡ Less
    → is_gt (slice_cmp value_cmp g (take (length g) key)) ≡ true
below_filled [] filled key is less = absurd (cc (at_least key filled is))
below_filled (v ∷ g) [] key is less = absurd is
below_filled (v ∷ g) (w ∷ filled) [] is less = absurd is
below_filled (v ∷ g) (w ∷ filled) (c ∷ key) is less =
    above_then (value_cmp c v) (value_cmp v c) (slice_cmp value_cmp key filled) (slice_cmp value_cmp g (take (length g) key)) (turned_less c v)
    (tied_back value_cmp_total c v) (below_filled g filled key is.1) (rw is.0 less)

not_above_then : (o rest rest' : Ordering) → (rest ≡ Less → is_gt rest' ≡ false) → ordering_then o rest ≡ Less
    → is_gt (ordering_then o rest') ≡ false
not_above_then Less rest rest' next is = refl
not_above_then Equal rest rest' next is = next is
not_above_then Greater rest rest' next is = absurd (cc)

above_filled : (g filled key : List Value) → Filled g filled key → slice_cmp value_cmp filled key ≡ Less
    → is_gt (slice_cmp value_cmp g (take (length g) key)) ≡ false
above_filled [] filled key is less = refl
above_filled (v ∷ g) [] key is less = absurd is
above_filled (v ∷ g) (w ∷ filled) [] is less = absurd is
above_filled (v ∷ g) (w ∷ filled) (c ∷ key) is less =
    not_above_then (value_cmp v c) (slice_cmp value_cmp filled key) (slice_cmp value_cmp g (take (length g) key)) (above_filled g filled key is.1)
    (rw is.0 less)

-- ---- the least datom of a probe

number_least : (n : ℕ) → is_lt (nat_cmp n 0) ≡ false
number_least n = grind (arith, nat_tests)

abbrev least_value : Value
least_value = Keyword []

text_least : (text : List ℕ) → is_lt (slice_cmp nat_cmp text []) ≡ false
text_least [] = refl
text_least (byte ∷ text) = refl

value_least : (v : Value) → is_lt (value_cmp v least_value) ≡ false
value_least (Keyword text) = text_least text
value_least v = refl

abbrev or_zero : Option ℕ → ℕ
or_zero None = 0
or_zero (Some n) = n

abbrev leads : ℕ → ℕ → Value → ℕ → Datom
leads e a v t = record { e = e; a = a; v = v; t = t; added = true }

abbrev pub least_at : Order → Option ℕ → Option ℕ → Option Value → Option ℕ → Datom
least_at Eavt None a v t = leads 0 0 least_value 0
least_at Eavt (Some e) None v t = leads e 0 least_value 0
least_at Eavt (Some e) (Some a) None t = leads e a least_value 0
least_at Eavt (Some e) (Some a) (Some v) t = leads e a v (or_zero t)
least_at Aevt e None v t = leads 0 0 least_value 0
least_at Aevt None (Some a) v t = leads 0 a least_value 0
least_at Aevt (Some e) (Some a) None t = leads e a least_value 0
least_at Aevt (Some e) (Some a) (Some v) t = leads e a v (or_zero t)
least_at Avet e None v t = leads 0 0 least_value 0
least_at Avet e (Some a) None t = leads 0 a least_value 0
least_at Avet None (Some a) (Some v) t = leads 0 a v 0
least_at Avet (Some e) (Some a) (Some v) t = leads e a v (or_zero t)
least_at Vaet e a None t = leads 0 0 least_value 0
least_at Vaet e None (Some v) t = leads 0 0 v 0
least_at Vaet None (Some a) (Some v) t = leads 0 a v 0
least_at Vaet (Some e) (Some a) (Some v) t = leads e a v (or_zero t)

abbrev pub probe_at : Order → Option ℕ → Option ℕ → Option Value → Option ℕ → Probe
probe_at order e a v t = record { order = order; e = e; a = a; v = v; t = t }

abbrev FilledAt : Order → Option ℕ → Option ℕ → Option Value → Option ℕ → Datom → Type 0
FilledAt order e a v t d = Filled (given (probe_at order e a v t)) (key_of order (least_at order e a v t)) (key_of order d)

filled_at : (order : Order) (e a : Option ℕ) (v : Option Value) (t : Option ℕ) (d : Datom) → FilledAt order e a v t d
filled_at Eavt None a v t d = (number_least d.e, (number_least d.a, (value_least d.v, (number_least d.t, tt))))
filled_at Eavt (Some e) None v t d = (refl, (number_least d.a, (value_least d.v, (number_least d.t, tt))))
filled_at Eavt (Some e) (Some a) None t d = (refl, (refl, (value_least d.v, (number_least d.t, tt))))
filled_at Eavt (Some e) (Some a) (Some v) None d = (refl, (refl, (refl, (number_least d.t, tt))))
filled_at Eavt (Some e) (Some a) (Some v) (Some t) d = (refl, (refl, (refl, (refl, tt))))
filled_at Aevt e None v t d = (number_least d.a, (number_least d.e, (value_least d.v, (number_least d.t, tt))))
filled_at Aevt None (Some a) v t d = (refl, (number_least d.e, (value_least d.v, (number_least d.t, tt))))
filled_at Aevt (Some e) (Some a) None t d = (refl, (refl, (value_least d.v, (number_least d.t, tt))))
filled_at Aevt (Some e) (Some a) (Some v) None d = (refl, (refl, (refl, (number_least d.t, tt))))
filled_at Aevt (Some e) (Some a) (Some v) (Some t) d = (refl, (refl, (refl, (refl, tt))))
filled_at Avet e None v t d = (number_least d.a, (value_least d.v, (number_least d.e, (number_least d.t, tt))))
filled_at Avet e (Some a) None t d = (refl, (value_least d.v, (number_least d.e, (number_least d.t, tt))))
filled_at Avet None (Some a) (Some v) t d = (refl, (refl, (number_least d.e, (number_least d.t, tt))))
filled_at Avet (Some e) (Some a) (Some v) None d = (refl, (refl, (refl, (number_least d.t, tt))))
filled_at Avet (Some e) (Some a) (Some v) (Some t) d = (refl, (refl, (refl, (refl, tt))))
filled_at Vaet e a None t d = (value_least d.v, (number_least d.a, (number_least d.e, (number_least d.t, tt))))
filled_at Vaet e None (Some v) t d = (refl, (number_least d.a, (number_least d.e, (number_least d.t, tt))))
filled_at Vaet None (Some a) (Some v) t d = (refl, (refl, (number_least d.e, (number_least d.t, tt))))
filled_at Vaet (Some e) (Some a) (Some v) None d = (refl, (refl, (refl, (number_least d.t, tt))))
filled_at Vaet (Some e) (Some a) (Some v) (Some t) d = (refl, (refl, (refl, (refl, tt))))

-- what is sought is the prefix of that datom
from_least : (order : Order) (e a : Option ℕ) (v : Option Value) (t : Option ℕ) → (sought_at order e a v t).from ≡ prefix_in order (least_at order e a v t)
from_least Eavt None a v t = refl
from_least Eavt (Some e) None v t = refl
from_least Eavt (Some e) (Some a) None t = refl
from_least Eavt (Some e) (Some a) (Some v) t = refl
from_least Aevt None None v t = refl
from_least Aevt (Some e) None v t = refl
from_least Aevt None (Some a) v t = refl
from_least Aevt (Some e) (Some a) None t = refl
from_least Aevt (Some e) (Some a) (Some v) t = refl
from_least Avet e None v t = refl
from_least Avet e (Some a) None t = refl
from_least Avet None (Some a) (Some v) t = refl
from_least Avet (Some e) (Some a) (Some v) t = refl
from_least Vaet e None None t = refl
from_least Vaet e (Some a) None t = refl
from_least Vaet e None (Some v) t = refl
from_least Vaet None (Some a) (Some v) t = refl
from_least Vaet (Some e) (Some a) (Some v) t = refl

below_at : (order : Order) (e a : Option ℕ) (v : Option Value) (t : Option ℕ) (d : Datom)
    → is_lesser (prefix_in order d) (sought_at order e a v t).from ≡ true → is_below (probe_at order e a v t) d ≡ true
below_at order e a v t d lesser =
    let least = least_at order e a v t in
    let less = lesser_prefix order d least (rw (sym (from_least order e a v t)) lesser) in
    below_filled (given (probe_at order e a v t)) (key_of order least) (key_of order d) (filled_at order e a v t d) less

above_at : (order : Order) (e a : Option ℕ) (v : Option Value) (t : Option ℕ) (d : Datom)
    → is_lesser (sought_at order e a v t).from (prefix_in order d) ≡ true → is_below (probe_at order e a v t) d ≡ false
above_at order e a v t d lesser =
    let least = least_at order e a v t in
    let less = lesser_prefix order least d (rw (sym (from_least order e a v t)) lesser) in
    above_filled (given (probe_at order e a v t)) (key_of order least) (key_of order d) (filled_at order e a v t d) less

pub below_sought : (p : Probe) (d : Datom) → is_lesser (prefix_in p.order d) (sought_in p).from ≡ true → is_below p d ≡ true
below_sought p d lesser = below_at p.order p.e p.a p.v p.t d lesser

pub above_sought : (p : Probe) (d : Datom) → is_lesser (sought_in p).from (prefix_in p.order d) ≡ true → is_below p d ≡ false
above_sought p d lesser = above_at p.order p.e p.a p.v p.t d lesser
