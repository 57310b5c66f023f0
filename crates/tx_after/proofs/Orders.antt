-- Triples in the order of an index, whatever their t.
use Rattle.std.proofs.Common.{◌≡◌, ℕ, Bool, true, false, cond, List, [], ◌∷◌, refl, ap, sym, ◌∙◌, subst, eqb}
use Rattle.std.specs.Prelude.{filter, Contains}
use Rattle.std.specs.List.{list_all}
use Rattle.std.specs.Ordering.{is_lt, ordering_then, nat_cmp}
use Rattle.std.specs.declared.cmp.Ordering.{Ordering}
use Rattle.std.specs.declared.cmp.Ordering.TheVariants.{Less, Equal, Greater}
use Rattle.std.specs.Cmp.{IsTotalOrder, tied_itself, on_total, nat_cmp_total}
use Rattle.std.proofs.lemmas.Bool.{true≢false, and_parts, and_from, eqb-true, eq-eqb}
use Rattle.fb_values.specs.declared.facts.Datom.{Datom}
use Rattle.fb_values.specs.declared.facts.Value.{Value}
use Rattle.fb_values.specs.declared.indexes.Order.{Order}
use Rattle.fb_values.specs.declared.indexes.Order.TheVariants.{Eavt, Aevt, Avet, Vaet}
use Rattle.fb_values.specs.Orders.{key_cmp, value_cmp}
use Rattle.fb_values.specs.OrderLaws.{key_cmp_total, key_cmp-Equal}
use Rattle.fb_values.specs.Rising.{rises}
use Rattle.fb_model.specs.Facts.{is_of}
use Rattle.fb_model.proofs.Members.{here, there, member_passes, all_members, kept}
use Rattle.fb_model.proofs.InOrder.{first_is_least}
use Rattle.fb_model.proofs.Triples.{is_of-true, value_eq-refl}
use Rattle.fb_facts.specs.FactLists.{is_under}
use Rattle.tx_after.specs.Triples.{without_t, triple_cmp, triples_rise}

-- ---- t decides last

last : (p q r s : Ordering)
    → ordering_then p (ordering_then q (ordering_then r (ordering_then s Equal)))
    ≡ ordering_then (ordering_then p (ordering_then q (ordering_then r Equal))) s
last Less q r s = refl
last Greater q r s = refl
last Equal Less r s = refl
last Equal Greater r s = refl
last Equal Equal Less s = refl
last Equal Equal Greater s = refl
last Equal Equal Equal Less = refl
last Equal Equal Equal Equal = refl
last Equal Equal Equal Greater = refl

pub key_cmp-parts : (order : Order) (x y : Datom) → key_cmp order x y ≡ ordering_then (triple_cmp order x y) (nat_cmp x.t y.t)
key_cmp-parts Eavt x y = last (nat_cmp x.e y.e) (nat_cmp x.a y.a) (value_cmp x.v y.v) (nat_cmp x.t y.t)
key_cmp-parts Aevt x y = last (nat_cmp x.a y.a) (nat_cmp x.e y.e) (value_cmp x.v y.v) (nat_cmp x.t y.t)
key_cmp-parts Avet x y = last (nat_cmp x.a y.a) (value_cmp x.v y.v) (nat_cmp x.e y.e) (nat_cmp x.t y.t)
key_cmp-parts Vaet x y = last (value_cmp x.v y.v) (nat_cmp x.a y.a) (nat_cmp x.e y.e) (nat_cmp x.t y.t)

pub triple_cmp_total : (order : Order) → IsTotalOrder (triple_cmp order)
triple_cmp_total order = on_total without_t (key_cmp_total order)

pub is_less : (r : Ordering) → is_lt r ≡ true → r ≡ Less
is_less Less e = refl
is_less Equal e = absurd (true≢false (sym e))
is_less Greater e = absurd (true≢false (sym e))

-- a lower triple has a lower key
pub key_lt : (order : Order) (x y : Datom) → is_lt (triple_cmp order x y) ≡ true → is_lt (key_cmp order x y) ≡ true
key_lt order x y less =
    ap is_lt (key_cmp-parts order x y ∙ ap (λ r. ordering_then r (nat_cmp x.t y.t)) (is_less (triple_cmp order x y) less))

-- datoms of one triple do not differ but in t
pub same_triple : (order : Order) (x y : Datom) → triple_cmp order x y ≡ Equal → is_of x.e x.a x.v y ≡ true
same_triple order x y equal =
    let place = key_cmp-Equal order (without_t x) (without_t y) equal in
    rw (place.e, place.a, place.v) (grown y)
  where
    grown : (y : Datom) → is_of y.e y.a y.v y ≡ true
    grown y = and_from _ _ (and_from _ _ (same y.e) (same y.a)) (value_eq-refl y.v)
      where
        same : (n : ℕ) → eqb n n ≡ true
        same n = eq-eqb n n refl

-- and so they are at one place, where t does not count
made : ℕ → ℕ → Value → Datom
made e a v = record { e = e; a = a; v = v; t = 0; added = true }

of_parts : (order : Order) (x y : Datom) → triple_cmp order x y ≡ key_cmp order (made x.e x.a x.v) (made y.e y.a y.v)
unfolding made
of_parts Eavt x y = refl
of_parts Aevt x y = refl
of_parts Avet x y = refl
of_parts Vaet x y = refl

pub at_one_place : (order : Order) (x y : Datom) → x.e ≡ y.e → x.a ≡ y.a → x.v ≡ y.v → triple_cmp order x y ≡ Equal
at_one_place order x y e a v =
    of_parts order x y
    ∙ ap (λ n. key_cmp order (made n x.a x.v) (made y.e y.a y.v)) e
    ∙ ap (λ n. key_cmp order (made y.e n x.v) (made y.e y.a y.v)) a
    ∙ ap (λ w. key_cmp order (made y.e y.a w) (made y.e y.a y.v)) v
    ∙ tied_itself (key_cmp_total order) (made y.e y.a y.v)

pub other_triple : (order : Order) (x y : Datom) → is_lt (triple_cmp order x y) ≡ true → is_of x.e x.a x.v y ≡ false
other_triple order x y less = go (is_of x.e x.a x.v y) refl
  where
    go : (b : Bool) → is_of x.e x.a x.v y ≡ b → b ≡ false
    go false is = refl
    go true is =
        let of = is_of-true x.e x.a x.v y is in
        absurd (true≢false (sym less ∙ ap is_lt (at_one_place order x y (sym of.e_is) (sym of.a_is) (sym of.v_is))))

pub other_triple_back : (order : Order) (x y : Datom) → is_lt (triple_cmp order y x) ≡ true → is_of x.e x.a x.v y ≡ false
other_triple_back order x y less = go (is_of x.e x.a x.v y) refl
  where
    go : (b : Bool) → is_of x.e x.a x.v y ≡ b → b ≡ false
    go false is = refl
    go true is =
        let of = is_of-true x.e x.a x.v y is in absurd (true≢false (sym less ∙ ap is_lt (at_one_place order y x of.e_is of.a_is of.v_is)))

pub lt_chain : (order : Order) (x y z : Datom) → is_lt (triple_cmp order x y) ≡ true → is_lt (triple_cmp order y z) ≡ true
    → is_lt (triple_cmp order x z) ≡ true
lt_chain order x y z p q =
    ap is_lt ((triple_cmp_total order).trans x y z (is_less (triple_cmp order x y) p) (is_less (triple_cmp order y z) q))

-- ---- lists

-- where keys rise, and no two of the datoms are of one triple, triples rise
pub record AreApart (ds : List Datom) : Type 0 where
  pub same : (x y : Datom) → Contains ds x → Contains ds y → is_of x.e x.a x.v y ≡ true → x ≡ y

apart_rest : (x : Datom) (ds : List Datom) → AreApart (x ∷ ds) → AreApart ds
apart_rest x ds apart = record { same = λ y z y_in z_in of. apart.same y z (there x y ds y_in) (there x z ds z_in) of }

pub rest_rises : (order : Order) (x : Datom) (ds : List Datom) → rises order (x ∷ ds) ≡ true → rises order ds ≡ true
rest_rises order x [] rising = refl
rest_rises order x (y ∷ ds) rising = (and_parts _ _ rising).1

pub not_itself : (order : Order) (x : Datom) → is_lt (key_cmp order x x) ≡ true → ⊥
not_itself order x lt = true≢false (sym lt ∙ ap is_lt (tied_itself (key_cmp_total order) x))

pub triples-from_keys : (order : Order) (ds : List Datom) → rises order ds ≡ true → AreApart ds → triples_rise order ds ≡ true
triples-from_keys order [] rising apart = refl
triples-from_keys order (x ∷ ds) rising apart =
    and_from _ _ (all_members (λ y. is_lt (triple_cmp order x y)) ds (λ y member. below y member (triple_cmp order x y) refl))
    (triples-from_keys order ds (rest_rises order x ds rising) (apart_rest x ds apart))
  where
    below : (y : Datom) → Contains ds y → (r : Ordering) → triple_cmp order x y ≡ r → is_lt r ≡ true
    below y member Less is = refl
    below y member Equal is =
        absurd (not_itself order x (subst (λ z. is_lt (key_cmp order x z) ≡ true)
        (sym (apart.same x y (here x ds) (there x y ds member) (same_triple order x y is))) (first_is_least order x ds y rising member)))
    below y member Greater is =
        absurd (true≢false (sym (first_is_least order x ds y rising member)
        ∙ ap is_lt (key_cmp-parts order x y ∙ ap (λ r. ordering_then r (nat_cmp x.t y.t)) is)))

-- so they do where all datoms are of one t
pub apart_at_t : (order : Order) (t : ℕ) (ds : List Datom) → rises order ds ≡ true → list_all (λ d. eqb d.t t) ds ≡ true
    → triples_rise order ds ≡ true
apart_at_t order t [] rising own = refl
apart_at_t order t (x ∷ ds) rising own =
    let parts = and_parts (eqb x.t t) (list_all (λ d. eqb d.t t) ds) own in
    and_from _ _ (all_members (λ y. is_lt (triple_cmp order x y)) ds (λ y member. below y (first_is_least order x ds y rising member)
    (eqb-true x.t t parts.0 ∙ sym (eqb-true y.t t (member_passes (λ d. eqb d.t t) ds y parts.1 member))) (triple_cmp order x y) refl))
    (apart_at_t order t ds (rest_rises order x ds rising) parts.1)
  where
    below : (y : Datom) → is_lt (key_cmp order x y) ≡ true → x.t ≡ y.t → (r : Ordering) → triple_cmp order x y ≡ r → is_lt r ≡ true
    below y less same Less is = refl
    below y less same Equal is =
        absurd (true≢false (sym less ∙ ap is_lt (key_cmp-parts order x y ∙ ap (λ r. ordering_then r (nat_cmp x.t y.t)) is
        ∙ ap (λ n. nat_cmp n y.t) same ∙ tied_itself nat_cmp_total y.t)))
    below y less same Greater is =
        absurd (true≢false (sym less ∙ ap is_lt (key_cmp-parts order x y ∙ ap (λ r. ordering_then r (nat_cmp x.t y.t)) is)))

all_kept : (p q : Datom → Bool) (ds : List Datom) → list_all p ds ≡ true → list_all p (filter q ds) ≡ true
all_kept p q ds every = all_members p (filter q ds) (λ d member. member_passes p ds d every (kept q ds d member).member)

pub triples_rise-filter : (order : Order) (q : Datom → Bool) (ds : List Datom) → triples_rise order ds ≡ true
    → triples_rise order (filter q ds) ≡ true
triples_rise-filter order q [] rising = refl
triples_rise-filter order q (x ∷ ds) rising =
    let parts = and_parts (list_all (λ y. is_lt (triple_cmp order x y)) ds) (triples_rise order ds) rising in
    go (q x) (all_kept (λ y. is_lt (triple_cmp order x y)) q ds parts.0) (triples_rise-filter order q ds parts.1)
  where
    go : (b : Bool) → list_all (λ y. is_lt (triple_cmp order x y)) (filter q ds) ≡ true → triples_rise order (filter q ds) ≡ true
        → triples_rise order (cond b (x ∷ filter q ds) (filter q ds)) ≡ true
    go true first rest = and_from _ _ first rest
    go false first rest = rest

-- under one attribute the entity decides first in both orders
pub under_one : (a : ℕ) (ds : List Datom) → triples_rise Eavt ds ≡ true → triples_rise Aevt (filter (is_under a) ds) ≡ true
under_one a ds rising =
    go (filter (is_under a) ds) (triples_rise-filter Eavt (is_under a) ds rising)
    (λ d member. eqb-true d.a a (kept (is_under a) ds d member).passes)
  where
    swapped : (p q r : Ordering) → q ≡ Equal → ordering_then p (ordering_then q r) ≡ ordering_then q (ordering_then p r)
    swapped p q r is = ap (λ z. ordering_then p (ordering_then z r)) is ∙ sym (ap (λ z. ordering_then z (ordering_then p r)) is)

    turned : (x y : Datom) → x.a ≡ y.a → triple_cmp Eavt x y ≡ triple_cmp Aevt x y
    turned x y same =
        swapped (nat_cmp x.e y.e) (nat_cmp x.a y.a) (ordering_then (value_cmp x.v y.v) Equal)
        (ap (λ n. nat_cmp n y.a) same ∙ tied_itself nat_cmp_total y.a)

    go : (ds : List Datom) → triples_rise Eavt ds ≡ true → ((d : Datom) → Contains ds d → d.a ≡ a) → triples_rise Aevt ds ≡ true
    go [] rising under = refl
    go (x ∷ ds) rising under =
        let parts = and_parts (list_all (λ y. is_lt (triple_cmp Eavt x y)) ds) (triples_rise Eavt ds) rising in
        and_from _ _
        (all_members (λ y. is_lt (triple_cmp Aevt x y)) ds
        (λ y member. ap is_lt (sym (turned x y (under x (here x ds) ∙ sym (under y (there x y ds member)))))
        ∙ member_passes (λ y. is_lt (triple_cmp Eavt x y)) ds y parts.0 member))
        (go ds parts.1 (λ d member. under d (there x d ds member)))

-- lists whose triples rise have rising keys, and no two datoms of one triple
pub triples-keys : (order : Order) (ds : List Datom) → triples_rise order ds ≡ true → rises order ds ≡ true
triples-keys order [] rising = refl
triples-keys order (x ∷ []) rising = refl
triples-keys order (x ∷ y ∷ ds) rising =
    let parts = and_parts (list_all (λ z. is_lt (triple_cmp order x z)) (y ∷ ds)) (triples_rise order (y ∷ ds)) rising in
    and_from _ _ (key_lt order x y (and_parts _ _ parts.0).0) (triples-keys order (y ∷ ds) parts.1)
