-- Which datoms a probe leads to, component by component.
use Rattle.std.proofs.Common.{◌≡◌, ◌∙◌, ℕ, true, ◌&&◌, List, [], ◌∷◌, refl, ap, arith, eqb, Option, Some, None, inl, inr}
use Rattle.std.specs.Prelude.{IfSome}
use Rattle.std.specs.Ordering.{is_eq, nat_cmp, ordering_then, ordering_reverse}
use Rattle.std.specs.Cmp.Lexicographic.{slice_cmp}
use Rattle.std.specs.declared.cmp.Ordering.{Ordering}
use Rattle.std.specs.declared.cmp.Ordering.TheVariants.{Less, Equal, Greater}
use Rattle.fb_values.specs.declared.facts.Datom.{Datom}
use Rattle.fb_values.specs.declared.facts.Value.{Value}
use Rattle.fb_values.specs.declared.facts.Value.TheVariants.{Ref}
use Rattle.fb_values.specs.declared.indexes.Order.TheVariants.{Eavt, Aevt, Avet, Vaet}
use Rattle.fb_values.specs.declared.indexes.Probe.{Probe}
use Rattle.fb_values.specs.Orders.{value_cmp}
use Rattle.fb_values.specs.OrderLaws.{value_cmp_total}
use Rattle.fb_model.specs.Facts.{value_eq}
use Rattle.fb_model.specs.Schema.{covers}
use Rattle.fb_index.specs.Ranges.{is_led}
use Rattle.fb_view.specs.Facts.{IsTripleProbe, IsValueProbe}

is_eq-then : (o p : Ordering) → is_eq (ordering_then o p) ≡ (is_eq o && is_eq p)
is_eq-then Less p = refl
is_eq-then Equal p = refl
is_eq-then Greater p = refl

is_eq-nat_cmp : (m n : ℕ) → is_eq (nat_cmp m n) ≡ eqb n m
is_eq-nat_cmp m n = grind arith

is_eq-last : (o : Ordering) → is_eq (ordering_then o Equal) ≡ is_eq o
is_eq-last Less = refl
is_eq-last Equal = refl
is_eq-last Greater = refl

is_eq-reverse : (o : Ordering) → is_eq (ordering_reverse o) ≡ is_eq o
is_eq-reverse Less = refl
is_eq-reverse Equal = refl
is_eq-reverse Greater = refl

value_eq-sym : (v w : Value) → is_eq (value_cmp v w) ≡ value_eq w v
value_eq-sym v w = ap is_eq (value_cmp_total.antisymm v w) ∙ is_eq-reverse (value_cmp w v)

one : (k d : Value) → is_eq (slice_cmp value_cmp (k ∷ []) (d ∷ [])) ≡ is_eq (value_cmp k d)
one k d = is_eq-last (value_cmp k d)

two : (k l d f : Value) → is_eq (slice_cmp value_cmp (k ∷ l ∷ []) (d ∷ f ∷ [])) ≡ (is_eq (value_cmp k d) && is_eq (value_cmp l f))
two k l d f = is_eq-then (value_cmp k d) (slice_cmp value_cmp (l ∷ []) (f ∷ [])) ∙ ap (λ b. is_eq (value_cmp k d) && b) (one l f)

three : (k l m d f g : Value)
    → is_eq (slice_cmp value_cmp (k ∷ l ∷ m ∷ []) (d ∷ f ∷ g ∷ []))
    ≡ (is_eq (value_cmp k d) && (is_eq (value_cmp l f) && is_eq (value_cmp m g)))
three k l m d f g =
    is_eq-then (value_cmp k d) (slice_cmp value_cmp (l ∷ m ∷ []) (f ∷ g ∷ [])) ∙ ap (λ b. is_eq (value_cmp k d) && b) (two l m f g)

number : (m n : ℕ) → is_eq (value_cmp (Ref m) (Ref n)) ≡ eqb n m
number m n = is_eq-nat_cmp m n

pub led_entity : (e : ℕ) (d : Datom) → is_led (record { order = Eavt; e = Some e; a = None; v = None; t = None }) d ≡ eqb d.e e
led_entity e d = one (Ref e) (Ref d.e) ∙ number e d.e

pub led_about : (e a : ℕ) (d : Datom)
    → is_led (record { order = Eavt; e = Some e; a = Some a; v = None; t = None }) d ≡ (eqb d.e e && eqb d.a a)
led_about e a d =
    two (Ref e) (Ref a) (Ref d.e) (Ref d.a)
    ∙ ap (λ b. b && is_eq (value_cmp (Ref a) (Ref d.a))) (number e d.e)
    ∙ ap (λ b. eqb d.e e && b) (number a d.a)

pub led_triple : (e a : ℕ) (v : Value) (d : Datom)
    → is_led (record { order = Eavt; e = Some e; a = Some a; v = Some v; t = None }) d ≡ (eqb d.e e && (eqb d.a a && value_eq d.v v))
led_triple e a v d =
    three (Ref e) (Ref a) v (Ref d.e) (Ref d.a) d.v
    ∙ ap (λ b. b && (is_eq (value_cmp (Ref a) (Ref d.a)) && is_eq (value_cmp v d.v))) (number e d.e)
    ∙ ap (λ b. eqb d.e e && (b && is_eq (value_cmp v d.v))) (number a d.a)
    ∙ ap (λ b. eqb d.e e && (eqb d.a a && b)) (value_eq-sym v d.v)

pub led_under : (a : ℕ) (d : Datom) → is_led (record { order = Aevt; e = None; a = Some a; v = None; t = None }) d ≡ eqb d.a a
led_under a d = one (Ref a) (Ref d.a) ∙ number a d.a

pub led_indexed : (a : ℕ) (d : Datom) → is_led (record { order = Avet; e = None; a = Some a; v = None; t = None }) d ≡ eqb d.a a
led_indexed a d = one (Ref a) (Ref d.a) ∙ number a d.a

pub led_valued : (a : ℕ) (v : Value) (d : Datom)
    → is_led (record { order = Avet; e = None; a = Some a; v = Some v; t = None }) d ≡ (eqb d.a a && value_eq d.v v)
led_valued a v d =
    two (Ref a) v (Ref d.a) d.v ∙ ap (λ b. b && is_eq (value_cmp v d.v)) (number a d.a) ∙ ap (λ b. eqb d.a a && b) (value_eq-sym v d.v)

pub led_ref : (e : ℕ) (d : Datom)
    → is_led (record { order = Vaet; e = None; a = None; v = Some (Ref e); t = None }) d ≡ value_eq d.v (Ref e)
led_ref e d = one (Ref e) d.v ∙ value_eq-sym (Ref e) d.v

-- ---- the probes by which a value is looked for

pub triple_probe_is : (e a : ℕ) (v : Value) (given : Option Value) → IfSome given (λ copy. copy ≡ v)
    → IsTripleProbe e a v (record { order = Eavt; e = Some e; a = Some a; v = given; t = None })
triple_probe_is e a v None is = inr refl
triple_probe_is e a v (Some copy) is =
    inl (ap (λ (w : Value). let p : Probe = record { order = Eavt; e = Some e; a = Some a; v = Some w; t = None } in p) is)

pub value_probe_is : (facts : List Datom) (a : ℕ) (v : Value) (given : Option Value) → covers facts Avet a ≡ true
    → IfSome given (λ copy. copy ≡ v) → IsValueProbe facts a v (record { order = Avet; e = None; a = Some a; v = given; t = None })
value_probe_is facts a v None held is = inr (held, inr refl)
value_probe_is facts a v (Some copy) held is =
    inr (held, inl (ap (λ (w : Value). let p : Probe = record { order = Avet; e = None; a = Some a; v = Some w; t = None } in p) is))
