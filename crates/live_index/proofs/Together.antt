-- An order keeps the datoms of a triple together, in time. Which datoms stand: the last ones of their triples.
use Rattle.std.proofs.Common.{◌≡◌, ◌∙◌, ℕ, ◌+◌, ◌<◌, ◌≤◌, ◌⊎◌, inl, inr, Bool, true, false, not, cond, List, [], ◌∷◌, ◌++◌, length, take}
use Rattle.std.proofs.Common.{drop, get_or, refl, sym, ap, subst, arith, eqb, leb, Some, None}
use Rattle.std.specs.Prelude.{Contains}
use Rattle.std.specs.List.{list_any}
use Rattle.std.specs.Ordering.{is_gt, nat_cmp, ordering_then}
use Rattle.std.specs.declared.cmp.Ordering.{Ordering}
use Rattle.std.specs.declared.cmp.Ordering.TheVariants.{Less, Equal, Greater}
use Rattle.std.specs.Cmp.{IsTotalOrder, tied_itself}
use Rattle.std.specs.Cmp.Lexicographic.{slice_cmp}
use Rattle.std.proofs.lemmas.Bool.{true≢false, cases_Bool, eqb-true, leb-true, and_parts, and_from}
use Rattle.std.proofs.lemmas.List.Elements.{Contains-append_cases}
use Rattle.fb_values.specs.declared.facts.Datom.{Datom}
use Rattle.fb_values.specs.declared.facts.Value.{Value}
use Rattle.fb_values.specs.declared.facts.Value.TheVariants.{Ref}
use Rattle.fb_values.specs.declared.indexes.Order.{Order}
use Rattle.fb_values.specs.declared.indexes.Order.TheVariants.{Eavt, Aevt, Avet, Vaet}
use Rattle.fb_values.specs.declared.indexes.Probe.{Probe}
use Rattle.fb_values.specs.Orders.{key_cmp, key_of, value_cmp, given, probe_cmp}
use Rattle.fb_values.specs.OrderLaws.{value_cmp_total, probe_cmp-Equal, Equal-probe_cmp}
use Rattle.fb_values.specs.Rising.{IsBelowAll, IsRising}
use Rattle.fb_search.proofs.Below.{below_earlier}
use Rattle.fb_values.specs.declared.facts.Entry.{Entry}
use Rattle.fb_values.proofs.Rising.{rising_from}
use Rattle.fb_model.specs.FirstEntry.{first_entry}
use Rattle.fb_model.specs.History.{basis, said}
use Rattle.fb_model.specs.Lawful.{IsLawful}
use Rattle.fb_model.proofs.OneMoreEntry.{said-push}
use Rattle.fb_model.proofs.Times.{own_t, said_t}
use Rattle.fb_model.proofs.Invariants.{of_lawful}
use Rattle.fb_model.specs.Facts.{is_of, standing, is_last_assertion}
use Rattle.fb_model.proofs.Members.{some_member, any_member, standing_member, member_passes}
use Rattle.fb_model.proofs.Triples.{is_of-true, IsOf, is_of-same, value_eq-refl}
use Rattle.live_index.proofs.Members.{contains-cons, contains_head, contains_tail, contains_none}

heads : {K : Type 0} {R : K → K → Ordering} (o : IsTotalOrder R) (v a b : K) (va ab x y xy : Ordering) → R v a ≡ va → R a b ≡ ab
    → (xy ≡ Less → x ≡ Less → y ≡ Less) → ordering_then ab xy ≡ Less → ordering_then va x ≡ Less → ordering_then (R v b) y ≡ Less
heads {R = R} o v a b Less Less x y xy p q rest less above = let far : R v b ≡ Less = o.trans v a b p q in rw far refl
heads {R = R} o v a b Less Equal x y xy p q rest less above =
    let far : R v b ≡ Less = cc (o.antisymm v a, o.antisymm v b, o.congr a b v q) in
    rw far refl
heads {R = R} o v a b Less Greater x y xy p q rest less above = absurd (cc)
heads {R = R} o v a b Equal Less x y xy p q rest less above = let far : R v b ≡ Less = cc (o.congr v a b p) in rw far refl
heads {R = R} o v a b Equal Equal x y xy p q rest less above = let far : R v b ≡ Equal = cc (o.congr v a b p) in rw far (rest less above)
heads {R = R} o v a b Equal Greater x y xy p q rest less above = absurd (cc)
heads {R = R} o v a b Greater ab x y xy p q rest less above = absurd (cc)

-- what leads a smaller list from below leads a greater one from below too
later : {K : Type 0} {R : K → K → Ordering} (o : IsTotalOrder R) (g x y : List K) → slice_cmp R x y ≡ Less
    → slice_cmp R g (take (length g) x) ≡ Less → slice_cmp R g (take (length g) y) ≡ Less
later o [] x y less above = absurd (cc)
later o (v ∷ g) [] y less above = absurd (cc)
later o (v ∷ g) (a ∷ x) [] less above = absurd (cc)
later {R = R} o (v ∷ g) (a ∷ x) (b ∷ y) less above = heads o v a b (R v a) (R a b) _ _ _ refl refl (later o g x y) less above

pub above_later : (p : Probe) (x y : Datom) → key_cmp p.order x y ≡ Less → probe_cmp p x ≡ Less → probe_cmp p y ≡ Less
above_later p x y less above = later value_cmp_total (given p) (key_of p.order x) (key_of p.order y) less above

pub before_member : (order : Order) (x : Datom) (ds : List Datom) (d : Datom) → IsBelowAll order x ds → Contains ds d
    → key_cmp order x d ≡ Less
before_member order x [] d before there = absurd (contains_none d there)
before_member order x (y ∷ ds) d before there =
    elim (contains-cons y ds d there) [
      | inl same ↦ subst (λ (z : Datom). key_cmp order x z ≡ Less) same before.0
      | inr behind ↦ before_member order x ds d before.1 behind
    ]

pub before_all : (order : Order) (x : Datom) (ds : List Datom)
    → ((d : Datom) → Contains ds d → key_cmp order x d ≡ Less) → IsBelowAll order x ds
before_all order x [] each = tt
before_all order x (y ∷ ds) each =
    (each y (contains_head y ds y refl), before_all order x ds (λ d there. each d (contains_tail y ds d there)))

-- later in the list is later in time, among the datoms of one triple
abbrev pub IsByTime : List Datom → Type 0
IsByTime [] = Unit {0}
IsByTime (x ∷ xs) = ((y : Datom) → Contains xs y → is_of x.e x.a x.v y ≡ true → x.t < y.t) × IsByTime xs

pub of_itself : (d : Datom) → is_of d.e d.a d.v d ≡ true
of_itself d = rw (eqb-refl d.e, eqb-refl d.a) (value_eq-refl d.v)
  where
    eqb-refl : (n : ℕ) → eqb n n ≡ true
    eqb-refl n = grind arith

pub of_back : (x y : Datom) → is_of x.e x.a x.v y ≡ true → is_of y.e y.a y.v x ≡ true
of_back x y is = is_of-same x.e x.a x.v y x is ∙ of_itself x

pub of_through : (x y z : Datom) → is_of x.e x.a x.v y ≡ true → is_of x.e x.a x.v z ≡ true → is_of y.e y.a y.v z ≡ true
of_through x y z is also = is_of-same x.e x.a x.v y z is ∙ also

-- the datom stands: it is an addition, and no datom of its triple is later
pub record IsLast (ds : List Datom) (d : Datom) : Type 0 where
  pub there : Contains ds d
  pub added : d.added ≡ true
  pub latest : (x : Datom) → Contains ds x → is_of d.e d.a d.v x ≡ true → x.t ≤ d.t

is_false : (b : Bool) → not b ≡ true → b ≡ false
is_false false e = refl
is_false true e = absurd (true≢false (sym e))

pub standing_last : (ds : List Datom) (d : Datom) → IsByTime ds → Contains (standing ds) d → IsLast ds d
standing_last [] d by_time there = absurd (contains_none d there)
standing_last (x ∷ xs) d by_time there = go (cases_Bool (is_last_assertion x xs)) (λ behind. standing_last xs d by_time.1 behind)
  where
    later : IsLast xs d → IsLast (x ∷ xs) d
    later is = record {
      there = contains_tail x xs d is.there;
      added = is.added;
      latest = λ y member same. elim (contains-cons x xs y member) [
        | inl first ↦ let same_x = subst (λ (z : Datom). is_of d.e d.a d.v z ≡ true) (sym first) same in
            let before = by_time.0 d is.there (of_back d x same_x) in
            subst (λ (z : Datom). z.t ≤ d.t) first (omega (arith, before))
        | inr behind ↦ is.latest y behind same
      ];
    }

    go : (is_last_assertion x xs ≡ true) ⊎ (is_last_assertion x xs ≡ false) → (Contains (standing xs) d → IsLast xs d) → IsLast (x ∷ xs) d
    go (inl stands) next =
        let P : Bool → Type 0 = λ b. Contains (cond b (x ∷ standing xs) (standing xs)) d in
        elim (contains-cons x (standing xs) d (subst P stands there)) [
          | inl same ↦
              let parts = and_parts x.added (not (list_any (is_of x.e x.a x.v) xs)) stands in
              subst (IsLast (x ∷ xs)) same record {
                there = contains_head x xs x refl;
                added = parts.0;
                latest = λ y member is. elim (contains-cons x xs y member) [
                  | inl first ↦ subst (λ (z : Datom). z.t ≤ x.t) first (omega arith)
                  | inr behind ↦ absurd (true≢false (sym (any_member (is_of x.e x.a x.v) xs y behind is) ∙ is_false _ parts.1))
                ];
              }
          | inr behind ↦ later (next behind)
        ]
    go (inr not_now) next =
        let P : Bool → Type 0 = λ b. Contains (cond b (x ∷ standing xs) (standing xs)) d in
        later (next (subst P not_now there))

pub last_stands : (ds : List Datom) (d : Datom) → IsByTime ds → IsLast ds d → Contains (standing ds) d
last_stands [] d by_time is = absurd (contains_none d is.there)
last_stands (x ∷ xs) d by_time is = go (contains-cons x xs d is.there) (λ rest. last_stands xs d by_time.1 rest)
  where
    behind_too : Contains (standing xs) d → Contains (standing (x ∷ xs)) d
    behind_too there =
        elim (is_last_assertion x xs) as (λ b. Contains (cond b (x ∷ standing xs) (standing xs)) d) [
          | true ↦ contains_tail x (standing xs) d there
          | false ↦ there
        ]

    go : (x ≡ d) ⊎ Contains xs d → (IsLast xs d → Contains (standing xs) d) → Contains (standing (x ∷ xs)) d
    go (inr behind) next =
        behind_too
        (next record { there = behind; added = is.added; latest = λ y member same. is.latest y (contains_tail x xs y member) same })
    go (inl same) next =
        let P : Bool → Type 0 = λ b. Contains (cond b (x ∷ standing xs) (standing xs)) d in
        elim (cases_Bool (list_any (is_of x.e x.a x.v) xs)) [
          | inl some ↦
              let found = some_member (is_of x.e x.a x.v) xs some in
              let late = by_time.0 found.0 found.1 found.2 in
              let bound =
              is.latest found.0 (contains_tail x xs found.0 found.1)
              (subst (λ (z : Datom). is_of z.e z.a z.v found.0 ≡ true) same found.2) in
              let same_t : x.t ≡ d.t = ap (λ (z : Datom). z.t) same in
              absurd (omega (arith, late, bound, same_t))
          | inr none ↦
              let x_added : x.added ≡ true = subst (λ (z : Datom). z.added ≡ true) (sym same) is.added in
              let now : is_last_assertion x xs ≡ true = and_from _ _ x_added (ap not none) in
              subst P (sym now) (contains_head x (standing xs) d same)
        ]

by_time-append : (ds more : List Datom) → IsByTime ds → IsByTime more
    → ((x y : Datom) → Contains ds x → Contains more y → x.t < y.t) → IsByTime (ds ++ more)
by_time-append [] more first rest apart = rest
by_time-append (x ∷ ds) more first rest apart = (
  λ y there same. elim (Contains-append_cases ds more y there) [
    | inl here ↦ first.0 y here same
    | inr behind ↦ apart x y (contains_head x ds x refl) behind
  ],
  by_time-append ds more first.1 rest (λ a b a_in b_in. apart a b (contains_tail x ds a a_in) b_in),
)

-- datoms of one triple that rise in an order rise in time
abbrev triple_probe : Order → Datom → Probe
triple_probe order d = record { order = order; e = Some d.e; a = Some d.a; v = Some d.v; t = None }

-- ---- an order keeps the datoms of a triple together

abbrev triple_key : Order → Datom → List Value
triple_key Eavt d = Ref d.e ∷ Ref d.a ∷ d.v ∷ []
triple_key Aevt d = Ref d.a ∷ Ref d.e ∷ d.v ∷ []
triple_key Avet d = Ref d.a ∷ d.v ∷ Ref d.e ∷ []
triple_key Vaet d = d.v ∷ Ref d.a ∷ Ref d.e ∷ []

key-parts : (order : Order) (d : Datom) → key_of order d ≡ triple_key order d ++ Ref d.t ∷ []
key-parts Eavt d = refl
key-parts Aevt d = refl
key-parts Avet d = refl
key-parts Vaet d = refl

lead_same : (k : Value) (xs ys : List Value) → slice_cmp value_cmp (k ∷ xs) (k ∷ ys) ≡ slice_cmp value_cmp xs ys
lead_same k xs ys = rw (tied_itself value_cmp_total k) refl

lead_all : (ks xs ys : List Value) → slice_cmp value_cmp (ks ++ xs) (ks ++ ys) ≡ slice_cmp value_cmp xs ys
lead_all [] xs ys = refl
lead_all (k ∷ ks) xs ys = lead_same k (ks ++ xs) (ks ++ ys) ∙ lead_all ks xs ys

same_triple_key : (order : Order) (x y : Datom) → IsOf x.e x.a x.v y → triple_key order y ≡ triple_key order x
same_triple_key Eavt x y is = let e = is.e_is in let a = is.a_is in let v = is.v_is in cc
same_triple_key Aevt x y is = let e = is.e_is in let a = is.a_is in let v = is.v_is in cc
same_triple_key Avet x y is = let e = is.e_is in let a = is.a_is in let v = is.v_is in cc
same_triple_key Vaet x y is = let e = is.e_is in let a = is.a_is in let v = is.v_is in cc

pub triple_by_t : (order : Order) (x y : Datom) → is_of x.e x.a x.v y ≡ true
    → key_cmp order x y ≡ slice_cmp value_cmp (Ref x.t ∷ []) (Ref y.t ∷ [])
triple_by_t order x y is =
    ap (λ k. slice_cmp value_cmp k (key_of order y)) (key-parts order x)
    ∙ ap (slice_cmp value_cmp (triple_key order x ++ Ref x.t ∷ []))
    (key-parts order y ∙ ap (λ k. k ++ Ref y.t ∷ []) (same_triple_key order x y (is_of-true x.e x.a x.v y is)))
    ∙ lead_all (triple_key order x) (Ref x.t ∷ []) (Ref y.t ∷ [])

nat_less : (t u : ℕ) → nat_cmp t u ≡ Less → t < u
nat_less t u less = grind arith

t_less : (t u : ℕ) → slice_cmp value_cmp (Ref t ∷ []) (Ref u ∷ []) ≡ Less → t < u
t_less t u less = go (nat_cmp t u) refl less
  where
    go : (o : Ordering) → nat_cmp t u ≡ o → slice_cmp value_cmp (Ref t ∷ []) (Ref u ∷ []) ≡ Less → t < u
    go Less is is_less = nat_less t u is
    go Equal is is_less = let same : slice_cmp value_cmp (Ref t ∷ []) (Ref u ∷ []) ≡ Equal = rw is refl in absurd (cc)
    go Greater is is_less = let same : slice_cmp value_cmp (Ref t ∷ []) (Ref u ∷ []) ≡ Greater = rw is refl in absurd (cc)

-- what rises in an order rises in time, where it is of one triple
later_in_time : (order : Order) (x y : Datom) → key_cmp order x y ≡ Less → is_of x.e x.a x.v y ≡ true → x.t < y.t
later_in_time order x y less is = t_less x.t y.t (sym (triple_by_t order x y is) ∙ less)

pub rising_by_time : (order : Order) (ds : List Datom) → IsRising order ds → IsByTime ds
rising_by_time order [] rising = tt
rising_by_time order (x ∷ ds) rising =
    (λ y there is. later_in_time order x y (before_member order x ds y rising.0 there) is, rising_by_time order ds rising.1)

pub said_by_time : (h : List Entry) → IsLawful h → IsByTime (said h)
said_by_time =
    of_lawful (λ h. IsByTime (said h)) (rising_by_time Eavt (said (first_entry ∷ [])) (rising_from Eavt (said (first_entry ∷ [])) refl))
    (λ h entry lawful before next. subst IsByTime (sym (said-push h entry))
    (by_time-append (said h) entry.datoms before
    (rising_by_time Eavt entry.datoms (rising_from Eavt entry.datoms (and_parts _ _ (and_parts _ _ next.datoms_in_order).0).1))
    (λ x y x_in y_in.
    let early = leb-true x.t (basis h) (member_passes (λ d. leb d.t (basis h)) (said h) x (said_t h lawful) x_in) in
    let own = eqb-true y.t (basis h + 1) (member_passes (λ d. eqb d.t (basis h + 1)) entry.datoms y (own_t h entry next) y_in) in
    omega (arith, early, own))))

number_in : Value → ℕ
number_in (Ref n) = n
number_in v = 0

same_triple : (order : Order) (x y : Datom) → triple_key order y ≡ triple_key order x → is_of x.e x.a x.v y ≡ true
same_triple order x y same = parts order same
  where
    made : y.e ≡ x.e → y.a ≡ x.a → y.v ≡ x.v → is_of x.e x.a x.v y ≡ true
    made e a v = rw (e, a, v) (of_itself x)

    first : (j k : Value) (js ks : List Value) → j ∷ js ≡ k ∷ ks → j ≡ k
    first j k js ks is = ap (λ l. get_or l 0 j) is

    rest : (j k : Value) (js ks : List Value) → j ∷ js ≡ k ∷ ks → js ≡ ks
    rest j k js ks is = ap (drop 1) is

    number : (m n : ℕ) → Ref m ≡ Ref n → m ≡ n
    number m n is = cc

    parts : (order : Order) → triple_key order y ≡ triple_key order x → is_of x.e x.a x.v y ≡ true
    parts Eavt is =
        made (number _ _ (first _ _ _ _ is)) (number _ _ (first _ _ _ _ (rest _ _ _ _ is))) (first _ _ _ _ (rest _ _ _ _ (rest _ _ _ _ is)))
    parts Aevt is =
        made (number _ _ (first _ _ _ _ (rest _ _ _ _ is))) (number _ _ (first _ _ _ _ is)) (first _ _ _ _ (rest _ _ _ _ (rest _ _ _ _ is)))
    parts Avet is =
        made (number _ _ (first _ _ _ _ (rest _ _ _ _ (rest _ _ _ _ is)))) (number _ _ (first _ _ _ _ is)) (first _ _ _ _ (rest _ _ _ _ is))
    parts Vaet is =
        made (number _ _ (first _ _ _ _ (rest _ _ _ _ (rest _ _ _ _ is)))) (number _ _ (first _ _ _ _ (rest _ _ _ _ is))) (first _ _ _ _ is)

probe-triple : (order : Order) (x y : Datom)
    → (take (length (given (triple_probe order x))) (key_of order y) ≡ triple_key order y)
    × (given (triple_probe order x) ≡ triple_key order x)
probe-triple Eavt x y = (refl, refl)
probe-triple Aevt x y = (refl, refl)
probe-triple Avet x y = (refl, refl)
probe-triple Vaet x y = (refl, refl)

probe_equal : (order : Order) (x y : Datom) → is_of x.e x.a x.v y ≡ true → probe_cmp (triple_probe order x) y ≡ Equal
probe_equal order x y is =
    Equal-probe_cmp (triple_probe order x) y
    ((probe-triple order x y).0 ∙ same_triple_key order x y (is_of-true x.e x.a x.v y is) ∙ sym (probe-triple order x y).1)

probe_of_triple : (order : Order) (x y : Datom) → probe_cmp (triple_probe order x) y ≡ Equal → is_of x.e x.a x.v y ≡ true
probe_of_triple order x y is =
    same_triple order x y (sym (probe-triple order x y).0 ∙ probe_cmp-Equal (triple_probe order x) y is ∙ (probe-triple order x y).1)

-- what lies between two datoms of a triple is of that triple
pub together : (order : Order) (x y z : Datom) → key_cmp order x y ≡ Less → key_cmp order y z ≡ Less → is_of x.e x.a x.v z ≡ true
    → is_of x.e x.a x.v y ≡ true
together order x y z less more is = go (probe_cmp p y) refl
  where
    p : Probe
    p = triple_probe order x

    go : (o : Ordering) → probe_cmp (triple_probe order x) y ≡ o → is_of x.e x.a x.v y ≡ true
    go Equal at = probe_of_triple order x y at
    go Less at = let beyond = above_later (triple_probe order x) y z more at in let equal = probe_equal order x z is in absurd (cc)
    go Greater at =
        let below : is_gt (probe_cmp (triple_probe order x) y) ≡ true = rw at refl in
        let first = below_earlier (triple_probe order x) x y less below in
        let equal = probe_equal order x x (of_itself x) in
        absurd (true≢false (sym first ∙ ap is_gt equal))

pub rising-standing : (order : Order) (ds : List Datom) → IsRising order ds → IsRising order (standing ds)
rising-standing order [] rising = tt
rising-standing order (d ∷ ds) rising =
    elim (is_last_assertion d ds) as (λ b. IsRising order (cond b (d ∷ standing ds) (standing ds))) [
      | true ↦ (
        before_all order d (standing ds) (λ x there. before_member order d ds x rising.0 (standing_member ds x there)),
        rising-standing order ds rising.1,
      )
      | false ↦ rising-standing order ds rising.1
    ]

-- of two datoms of a triple the earlier one stands before the other in each order
pub earlier : (order : Order) (x y : Datom) → is_of x.e x.a x.v y ≡ true → x.t < y.t → key_cmp order x y ≡ Less
earlier order x y is before = triple_by_t order x y is ∙ less_t x.t y.t before
  where
    less_now : (t u : ℕ) → t < u → nat_cmp t u ≡ Less
    less_now t u less = grind arith

    less_t : (t u : ℕ) → t < u → slice_cmp value_cmp (Ref t ∷ []) (Ref u ∷ []) ≡ Less
    less_t t u less = rw (less_now t u less) refl
