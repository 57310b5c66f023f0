-- The first of an entity's values, in their order, is the least of them.
use Rattle.std.proofs.Common.{◌≡◌, ℕ, Bool, true, false, cond, List, [], ◌∷◌, refl, ap, sym, ◌∙◌, map, Option, Some}
use Rattle.std.specs.Prelude.{Contains, filter}
use Rattle.std.specs.Option.{option_map_or}
use Rattle.std.specs.Ordering.{is_eq, is_lt, ordering_reverse, ordering_then}
use Rattle.std.specs.declared.cmp.Ordering.{Ordering}
use Rattle.std.specs.declared.cmp.Ordering.TheVariants.{Less, Equal, Greater}
use Rattle.std.proofs.lemmas.Bool.{true≢false, and_parts, eqb-true}
use Rattle.fb_values.specs.Orders.{value_cmp, key_cmp}
use Rattle.fb_values.specs.OrderLaws.{value_cmp_total}
use Rattle.fb_values.specs.declared.facts.Datom.{Datom}
use Rattle.fb_values.specs.declared.facts.Entry.{Entry}
use Rattle.fb_values.specs.declared.facts.Value.{Value}
use Rattle.fb_values.specs.declared.facts.Value.TheVariants.{Ref}
use Rattle.fb_values.specs.declared.indexes.Order.TheVariants.{Eavt}
use Rattle.fb_model.specs.Rising.{in_order, put_in_order}
use Rattle.fb_model.specs.Schema.{is_about}
use Rattle.fb_model.specs.Facts.{values_of}
use Rattle.fb_model.proofs.Members.{here, there, kept, in_order_member}
use Rattle.fb_model.proofs.Triples.{value_eq-true, value_eq-refl}
use Rattle.tx_after.specs.After as model
use Rattle.tuple_model.specs.Tuples.{least_value}
use Rattle.fb_tuple_guard.specs.Sharing.{first_of}

abbrev values : List Datom → List Value
values ds = map (λ (d : Datom). d.v) ds

abbrev lower : Value → Option Value → Option Value
lower v least = option_map_or (λ w. cond (is_lt (value_cmp w v)) (Some w) (Some v)) least (Some v)

value_cmp-Equal : (v w : Value) → value_cmp v w ≡ Equal → v ≡ w
value_cmp-Equal v w same = value_eq-true v w (rw same refl)

pub is_equal : (r : Ordering) → is_eq r ≡ true → r ≡ Equal
is_equal Less is = absurd (true≢false (sym is))
is_equal Equal is = refl
is_equal Greater is = absurd (true≢false (sym is))

itself : (v : Value) → value_cmp v v ≡ Equal
itself v = is_equal (value_cmp v v) (value_eq-refl v)

-- datoms of one entity and attribute compare by their values first
key_cmp-about : (x y : Datom) → x.e ≡ y.e → x.a ≡ y.a
    → key_cmp Eavt x y ≡ ordering_then (value_cmp x.v y.v) (ordering_then (value_cmp (Ref x.t) (Ref y.t)) Equal)
key_cmp-about x y e a = rw (e, a, itself (Ref y.e), itself (Ref y.a)) refl

put_least : (d m : Datom) (rest : List Datom) → d.e ≡ m.e → d.a ≡ m.a
    → first_of (values (put_in_order Eavt d (m ∷ rest))) ≡ lower d.v (Some m.v)
put_least d m rest e a = go (value_cmp d.v m.v) refl
  where
    either : (b c : Bool) → d.v ≡ m.v
        → first_of (values (cond b (d ∷ m ∷ rest) (cond c (m ∷ put_in_order Eavt d rest) (m ∷ rest)))) ≡ Some d.v
    either true c same = refl
    either false true same = ap Some (sym same)
    either false false same = ap Some (sym same)

    go : (o : Ordering) → value_cmp d.v m.v ≡ o → first_of (values (put_in_order Eavt d (m ∷ rest))) ≡ lower d.v (Some m.v)
    go Less is = rw (key_cmp-about d m e a, value_cmp_total.antisymm m.v d.v, is) refl
    go Greater is = rw (key_cmp-about d m e a, key_cmp-about m d (sym e) (sym a), value_cmp_total.antisymm m.v d.v, is) refl
    go Equal is =
        either (is_lt (key_cmp Eavt d m)) (is_lt (key_cmp Eavt m d)) (value_cmp-Equal d.v m.v is)
        ∙ sym (ap (λ r. cond (is_lt r) (Some m.v) (Some d.v)) (value_cmp_total.antisymm m.v d.v ∙ ap ordering_reverse is))

module _ (e a : ℕ) where
  least_first : (ds : List Datom) → ((d : Datom) → Contains ds d → is_about e a d ≡ true)
      → first_of (values (in_order Eavt ds)) ≡ least_value (values ds)
  least_first [] about = refl
  least_first (d ∷ ds) about =
      let rest = least_first ds (λ x member. about x (there d x ds member)) in
      go (in_order Eavt ds) (λ x member. about x (there d x ds (in_order_member Eavt ds x member))) rest
    where
      go : (ms : List Datom) → ((x : Datom) → Contains ms x → is_about e a x ≡ true) → first_of (values ms) ≡ least_value (values ds)
          → first_of (values (put_in_order Eavt d ms)) ≡ least_value (values (d ∷ ds))
      go [] all is = ap (lower d.v) is
      go (m ∷ ms) all is =
          let of_d = and_parts _ _ (about d (here d ds)) in
          let of_m = and_parts _ _ (all m (here m ms)) in
          put_least d m ms (eqb-true d.e e of_d.0 ∙ sym (eqb-true m.e e of_m.0)) (eqb-true d.a a of_d.1 ∙ sym (eqb-true m.a a of_m.1))
          ∙ ap (lower d.v) is

pub first-least : (h : List Entry) (changes : List Datom) (e a : ℕ)
    → first_of (model.values_of h changes e a) ≡ least_value (values_of (model.after h changes) e a)
first-least h changes e a =
    least_first e a (filter (is_about e a) (model.after h changes))
    (λ d member. (kept (is_about e a) (model.after h changes) d member).passes)
