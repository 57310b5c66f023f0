-- An order keeps the datoms of a triple together.
use Rattle.std.proofs.Common.{◌≡◌, ◌∙◌, ℕ, ◌<◌, eqb, inl, inr, true, false, List, [], ◌∷◌, length, take, drop, get_or, refl, sym, ap, subst, arith, Some, None}
use Rattle.std.specs.Prelude.{Contains}
use Rattle.std.specs.List.{list_any}
use Rattle.std.specs.Ordering.{is_gt, ordering_then}
use Rattle.std.specs.declared.cmp.Ordering.{Ordering}
use Rattle.std.specs.declared.cmp.Ordering.TheVariants.{Less, Equal, Greater}
use Rattle.std.specs.Cmp.{IsTotalOrder}
use Rattle.std.specs.Cmp.Lexicographic.{slice_cmp}
use Rattle.std.proofs.lemmas.Bool.{true≢false, cases_Bool}
use Rattle.fb_values.specs.declared.facts.Datom.{Datom}
use Rattle.fb_values.specs.declared.facts.Value.{Value}
use Rattle.fb_values.specs.declared.facts.Value.TheVariants.{Ref}
use Rattle.fb_values.specs.declared.indexes.Order.{Order}
use Rattle.fb_values.specs.declared.indexes.Order.TheVariants.{Eavt, Aevt, Avet, Vaet}
use Rattle.fb_values.specs.declared.indexes.Probe.{Probe}
use Rattle.fb_values.specs.Orders.{given, key_cmp, key_of, probe_cmp, value_cmp}
use Rattle.fb_values.specs.OrderLaws.{Equal-probe_cmp, probe_cmp-Equal, value_cmp_total}
use Rattle.fb_values.specs.Rising.{IsRising}
use Rattle.fb_model.proofs.Members.{any_member, none_of, cases_of, here, some_member}
use Rattle.fb_model.proofs.Triples.{IsOf, is_of-true, value_eq-refl}
use Rattle.fb_prefix.specs.declared.prefixes.Prefix.{Prefix}
use Rattle.fb_prefix.specs.declared.probes.Sought.{Sought}
use Rattle.fb_prefix.specs.Prefixes.{is_lesser, prefix_in}
use Rattle.fb_prefix.specs.Probes.{sought_in}
use Rattle.fb_prefix.proofs.Least.{above_sought, below_sought}
use Rattle.fb_search.specs.Places.{is_below}
use Rattle.live_runs.specs.Changed.{from_probe}
use Rattle.live_runs.specs.Mates.{IsMateIn, is_mate, triple_of}
use Rattle.live_runs.specs.Members.{datom_of}
use Rattle.live_runs.specs.Seeks.{IsSoughtBy}
use Rattle.live_runs.proofs.Rises.{before_member}
use Rattle.live_runs.proofs.Beside.{from_of, into_from}

-- ---- what leads from below

heads : {K : Type 0} {R : K → K → Ordering} (o : IsTotalOrder R) (v a b : K) (va ab x y xy : Ordering) → R v a ≡ va → R a b ≡ ab
    → (xy ≡ Less → x ≡ Less → y ≡ Less) → ordering_then ab xy ≡ Less → ordering_then va x ≡ Less → ordering_then (R v b) y ≡ Less
heads {R = R} o v a b Less Less x y xy p q rest less above = let far : R v b ≡ Less = o.trans v a b p q in rw far refl
heads {R = R} o v a b Less Equal x y xy p q rest less above =
    let far : R v b ≡ Less = cc (o.antisymm v a, o.antisymm v b, o.congr a b v q) in
    rw far refl
heads {R = R} o v a b Less Greater x y xy p q rest less above = absurd (cc)
heads {R = R} o v a b Equal Less x y xy p q rest less above = let far : R v b ≡ Less = cc (o.congr v a b p) in rw far refl
heads {R = R} o v a b Equal Equal x y xy p q rest less above = let far : R v b ≡ Equal = cc (o.congr v a b p) in rw far (rest less above)
heads {R = R} o v a b Equal Greater x y xy p q rest less above = absurd (cc)
heads {R = R} o v a b Greater ab x y xy p q rest less above = absurd (cc)

-- what leads a smaller list from below leads a greater one from below too
later : {K : Type 0} {R : K → K → Ordering} (o : IsTotalOrder R) (g x y : List K) → slice_cmp R x y ≡ Less
    → slice_cmp R g (take (length g) x) ≡ Less → slice_cmp R g (take (length g) y) ≡ Less
later o [] x y less above = absurd (cc)
later o (v ∷ g) [] y less above = absurd (cc)
later o (v ∷ g) (a ∷ x) [] less above = absurd (cc)
later {R = R} o (v ∷ g) (a ∷ x) (b ∷ y) less above = heads o v a b (R v a) (R a b) _ _ _ refl refl (later o g x y) less above

pub above_later : (p : Probe) (x y : Datom) → key_cmp p.order x y ≡ Less → probe_cmp p x ≡ Less → probe_cmp p y ≡ Less
above_later p x y less above = later value_cmp_total (given p) (key_of p.order x) (key_of p.order y) less above

-- ---- what leads to a triple

pub mate_itself : (d : Datom) → is_mate d d ≡ true
mate_itself d = rw (eqb-refl d.e, eqb-refl d.a) (value_eq-refl d.v)
  where
    eqb-refl : (n : ℕ) → eqb n n ≡ true
    eqb-refl n = grind arith

abbrev triple_key : Order → Datom → List Value
triple_key Eavt d = Ref d.e ∷ Ref d.a ∷ d.v ∷ []
triple_key Aevt d = Ref d.a ∷ Ref d.e ∷ d.v ∷ []
triple_key Avet d = Ref d.a ∷ d.v ∷ Ref d.e ∷ []
triple_key Vaet d = d.v ∷ Ref d.a ∷ Ref d.e ∷ []

same_triple_key : (order : Order) (d x : Datom) → IsOf d.e d.a d.v x → triple_key order x ≡ triple_key order d
same_triple_key Eavt d x is = let e = is.e_is in let a = is.a_is in let v = is.v_is in cc
same_triple_key Aevt d x is = let e = is.e_is in let a = is.a_is in let v = is.v_is in cc
same_triple_key Avet d x is = let e = is.e_is in let a = is.a_is in let v = is.v_is in cc
same_triple_key Vaet d x is = let e = is.e_is in let a = is.a_is in let v = is.v_is in cc

same_triple : (order : Order) (d x : Datom) → triple_key order x ≡ triple_key order d → is_mate d x ≡ true
same_triple order d x same = parts order same
  where
    made : x.e ≡ d.e → x.a ≡ d.a → x.v ≡ d.v → is_mate d x ≡ true
    made e a v = rw (e, a, v) (mate_itself d)

    first : (j k : Value) (js ks : List Value) → j ∷ js ≡ k ∷ ks → j ≡ k
    first j k js ks is = ap (λ l. get_or l 0 j) is

    rest : (j k : Value) (js ks : List Value) → j ∷ js ≡ k ∷ ks → js ≡ ks
    rest j k js ks is = ap (drop 1) is

    number : (m n : ℕ) → Ref m ≡ Ref n → m ≡ n
    number m n is = cc

    parts : (order : Order) → triple_key order x ≡ triple_key order d → is_mate d x ≡ true
    parts Eavt is =
        made (number _ _ (first _ _ _ _ is)) (number _ _ (first _ _ _ _ (rest _ _ _ _ is))) (first _ _ _ _ (rest _ _ _ _ (rest _ _ _ _ is)))
    parts Aevt is =
        made (number _ _ (first _ _ _ _ (rest _ _ _ _ is))) (number _ _ (first _ _ _ _ is)) (first _ _ _ _ (rest _ _ _ _ (rest _ _ _ _ is)))
    parts Avet is =
        made (number _ _ (first _ _ _ _ (rest _ _ _ _ (rest _ _ _ _ is)))) (number _ _ (first _ _ _ _ is)) (first _ _ _ _ (rest _ _ _ _ is))
    parts Vaet is =
        made (number _ _ (first _ _ _ _ (rest _ _ _ _ (rest _ _ _ _ is)))) (number _ _ (first _ _ _ _ (rest _ _ _ _ is))) (first _ _ _ _ is)

of_triple : (order : Order) (d x : Datom)
    → (take (length (given (triple_of order d))) (key_of order x) ≡ triple_key order x)
    × (given (triple_of order d) ≡ triple_key order d)
of_triple Eavt d x = (refl, refl)
of_triple Aevt d x = (refl, refl)
of_triple Avet d x = (refl, refl)
of_triple Vaet d x = (refl, refl)

pub mate_equal : (order : Order) (d x : Datom) → is_mate d x ≡ true → probe_cmp (triple_of order d) x ≡ Equal
mate_equal order d x is =
    Equal-probe_cmp (triple_of order d) x
    ((of_triple order d x).0 ∙ same_triple_key order d x (is_of-true d.e d.a d.v x is) ∙ sym (of_triple order d x).1)

pub equal_mate : (order : Order) (d x : Datom) → probe_cmp (triple_of order d) x ≡ Equal → is_mate d x ≡ true
equal_mate order d x is =
    same_triple order d x (sym (of_triple order d x).0 ∙ probe_cmp-Equal (triple_of order d) x is ∙ (of_triple order d x).1)

-- ---- a datom before all of a triple

thens : (a b c t : Ordering) → ordering_then a (ordering_then b (ordering_then c (ordering_then t Equal)))
    ≡ ordering_then (ordering_then a (ordering_then b (ordering_then c Equal))) t
thens Less b c t = refl
thens Greater b c t = refl
thens Equal Less c t = refl
thens Equal Greater c t = refl
thens Equal Equal Less t = refl
thens Equal Equal Greater t = refl
thens Equal Equal Equal Less = refl
thens Equal Equal Equal Equal = refl
thens Equal Equal Equal Greater = refl

-- the triples decide, or where they are one the times do
triple_first : (order : Order) (d x : Datom)
    → key_cmp order d x ≡ ordering_then (probe_cmp (triple_of order d) x) (value_cmp (Ref d.t) (Ref x.t))
triple_first Eavt d x =
    thens (value_cmp (Ref d.e) (Ref x.e)) (value_cmp (Ref d.a) (Ref x.a)) (value_cmp d.v x.v) (value_cmp (Ref d.t) (Ref x.t))
triple_first Aevt d x =
    thens (value_cmp (Ref d.a) (Ref x.a)) (value_cmp (Ref d.e) (Ref x.e)) (value_cmp d.v x.v) (value_cmp (Ref d.t) (Ref x.t))
triple_first Avet d x =
    thens (value_cmp (Ref d.a) (Ref x.a)) (value_cmp d.v x.v) (value_cmp (Ref d.e) (Ref x.e)) (value_cmp (Ref d.t) (Ref x.t))
triple_first Vaet d x =
    thens (value_cmp d.v x.v) (value_cmp (Ref d.a) (Ref x.a)) (value_cmp (Ref d.e) (Ref x.e)) (value_cmp (Ref d.t) (Ref x.t))

pub mate_not_below : (order : Order) (d x : Datom) → is_mate d x ≡ true → is_below (triple_of order d) x ≡ false
mate_not_below order d x is = ap is_gt (mate_equal order d x is)

pub below_triple : (order : Order) (d x : Datom) → is_mate d x ≡ false → is_gt (key_cmp order d x) ≡ is_below (triple_of order d) x
below_triple order d x other = go (probe_cmp (triple_of order d) x) refl
  where
    go : (o : Ordering) → probe_cmp (triple_of order d) x ≡ o → is_gt (key_cmp order d x) ≡ is_gt (probe_cmp (triple_of order d) x)
    go Less is = rw (triple_first order d x, is) refl
    go Equal is = absurd (true≢false (sym (equal_mate order d x is) ∙ other))
    go Greater is = rw (triple_first order d x, is) refl

-- the prefix of a datom tells of its triple
prefix_is : (order : Order) (d : Datom) → (sought_in (triple_of order d)).from ≡ prefix_in order d
prefix_is Eavt d = refl
prefix_is Aevt d = refl
prefix_is Avet d = refl
prefix_is Vaet d = refl

pub triple_sought : (order : Order) (d : Datom) (s : Sought) → s.from ≡ prefix_in order d → s.is_whole ≡ false
    → IsSoughtBy (triple_of order d) s
triple_sought order d s from_is partial =
    let same : s.from ≡ (sought_in (triple_of order d)).from = from_is ∙ sym (prefix_is order d) in
    record {
      below = λ x less. below_sought (triple_of order d) x
          (subst (λ (p : Prefix). is_lesser (prefix_in order x) p ≡ true) same less);
      above = λ x less. above_sought (triple_of order d) x
          (subst (λ (p : Prefix). is_lesser p (prefix_in order x) ≡ true) same less);
      whole = λ is x equal. absurd (true≢false (sym is ∙ partial));
    }

-- ---- the first datom of a triple in a rising list

module _ (order : Order) (table ds : List Datom) (d : Datom) (rising : IsRising order ds) where
  mate_from : (x : Datom) → Contains ds x → is_mate d x ≡ true → Contains (from_probe (triple_of order d) ds) x
  mate_from x inside is = into_from (triple_of order d) ds x inside (mate_not_below order d x is)

  pub no_mate : from_probe (triple_of order d) ds ≡ [] → IsMateIn table ds d None
  no_mate none x inside = elim (cases_Bool (is_mate d x)) [
    | inl is ↦ absurd (none_of x (subst (λ (l : List Datom). Contains l x) none (mate_from x inside is)))
    | inr other ↦ other
  ]

  pub no_mate_first : (y : Datom) (rest : List Datom) → from_probe (triple_of order d) ds ≡ y ∷ rest → is_below (triple_of order d) y ≡ false
      → IsRising order (y ∷ rest) → is_mate d y ≡ false → IsMateIn table ds d None
  no_mate_first y rest first above rises other x inside = elim (cases_Bool (is_mate d x)) [
    | inr is_other ↦ is_other
    | inl is ↦ elim (cases_of y x rest (subst (λ (l : List Datom). Contains l x) first (mate_from x inside is))) [
      | inl same ↦ absurd (true≢false (sym is ∙ ap (is_mate d) (sym same) ∙ other))
      | inr behind ↦ absurd (between (probe_cmp (triple_of order d) y) refl is (before_member order y rest x rises.0 behind))
    ]
  ]
    where
      between : (o : Ordering) → probe_cmp (triple_of order d) y ≡ o → is_mate d x ≡ true → key_cmp order y x ≡ Less → ⊥
      between Less at is less =
          let beyond : probe_cmp (triple_of order d) x ≡ Less = above_later (triple_of order d) y x less at in
          let equal : probe_cmp (triple_of order d) x ≡ Equal = mate_equal order d x is in
          absurd (cc)
      between Equal at is less = absurd (true≢false (sym (equal_mate order d y at) ∙ other))
      between Greater at is less = absurd (true≢false (sym (ap is_gt at) ∙ above))

  pub mate_first : (number : ℕ) (rest : List Datom) → number < length table
      → from_probe (triple_of order d) ds ≡ datom_of table number ∷ rest → is_mate d (datom_of table number) ≡ true
      → IsMateIn table ds d (Some number)
  mate_first number rest within first is = (
    within,
    (
      from_of (triple_of order d) ds (datom_of table number)
          (subst (λ (l : List Datom). Contains l (datom_of table number)) (sym first) (here (datom_of table number) rest)),
      is,
    ),
  )

-- a mate's number is there where the list has a mate
pub mate_any : (table ds : List Datom) (d : Datom) (n : ℕ) → IsMateIn table ds d (Some n) → list_any (is_mate d) ds ≡ true
mate_any table ds d n is = any_member (is_mate d) ds (datom_of table n) is.1.0 is.1.1

pub mate_none : (table ds : List Datom) (d : Datom) → IsMateIn table ds d None → list_any (is_mate d) ds ≡ false
mate_none table ds d none = elim (cases_Bool (list_any (is_mate d) ds)) [
  | inl some ↦ let found = some_member (is_mate d) ds some in absurd (true≢false (sym found.2 ∙ none found.0 found.1))
  | inr is ↦ is
]
