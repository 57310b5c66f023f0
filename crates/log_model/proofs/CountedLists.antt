-- A list of as many datoms as an index has is the index.
use Rattle.std.proofs.Common.{◌≡◌, ◌≤◌, ℕ, Bool, true, false, cond, List, [], ◌∷◌, ◌++◌, length, refl, sym, ◌∙◌, ap, subst, arith, inl, inr}
use Rattle.std.proofs.Common.{◌+◌, eqb, leb, length-append}
use Rattle.std.specs.Prelude.{filter, Contains, All}
use Rattle.std.specs.Ordering.{is_lt}
use Rattle.std.specs.Cmp.{tied_itself}
use Rattle.std.proofs.lemmas.Bool.{true≢false, and_parts, eqb-true, leb-true}
use Rattle.std.proofs.lemmas.List.Elements.{All-contains, Contains-append_cases, Contains-append_left, Contains-append_right}
use Rattle.fb_values.specs.declared.facts.Datom.{Datom}
use Rattle.fb_values.specs.declared.facts.Entry.{Entry}
use Rattle.fb_values.specs.declared.indexes.Order.{Order}
use Rattle.fb_values.specs.declared.indexes.Order.TheVariants.{Eavt}
use Rattle.fb_values.specs.Orders.{key_cmp}
use Rattle.fb_values.specs.OrderLaws.{key_cmp_total}
use Rattle.fb_values.specs.Rising.{rises}
use Rattle.fb_model.specs.FirstEntry.{first_entry}
use Rattle.fb_model.specs.Rising.{IsRisingListOf}
use Rattle.fb_model.specs.History.{basis, said, upto}
use Rattle.fb_model.specs.Facts.{facts}
use Rattle.fb_model.specs.Schema.{covers}
use Rattle.fb_model.specs.Lawful.{IsLawful}
use Rattle.fb_model.proofs.Members.{here, there, cases_of, none_of, member_passes, kept, keep}
use Rattle.fb_model.proofs.InOrder.{first_is_least}
use Rattle.fb_model.proofs.Invariants.{of_lawful}
use Rattle.fb_model.proofs.OneMoreEntry.{said-push}
use Rattle.fb_model.proofs.Times.{own_t, said_t, said-upto}
use Rattle.view_model.specs.Stands.{IsIndexed}
use Rattle.log_model.specs.Kept.{index_len}

-- ---- lists without a datom twice

abbrev AreApart : List Datom → Type 0
AreApart [] = Unit {0}
AreApart (d ∷ ds) = ((other : Datom) → Contains ds other → d ≡ other → ⊥) × AreApart ds

not_below_itself : (order : Order) (d : Datom) → is_lt (key_cmp order d d) ≡ true → ⊥
not_below_itself order d below = true≢false (sym below ∙ ap is_lt (tied_itself (key_cmp_total order) d))

AreApart-rising : (order : Order) (ds : List Datom) → rises order ds ≡ true → AreApart ds
AreApart-rising order [] rising = tt
AreApart-rising order (d ∷ ds) rising = (
  (λ other later same. not_below_itself order other
      (subst (λ x. is_lt (key_cmp order x other) ≡ true) same (first_is_least order d ds other rising later))),
  AreApart-rising order ds (tail d ds rising),
)
  where
    tail : (x : Datom) (xs : List Datom) → rises order (x ∷ xs) ≡ true → rises order xs ≡ true
    tail x [] is = refl
    tail x (y ∷ xs) is = (and_parts _ _ is).1

AreApart-append : (ds es : List Datom) → AreApart ds → AreApart es → ((x y : Datom) → Contains ds x → Contains es y → x ≡ y → ⊥)
    → AreApart (ds ++ es)
AreApart-append [] es one other apart = other
AreApart-append (d ∷ ds) es one other apart = (
  (λ y member same. elim (Contains-append_cases ds es y member) [
    | inl first ↦ one.0 y first same
    | inr later ↦ apart d y
        (here d ds) later same
  ]),
  AreApart-append ds es one.1 other (λ x y first later. apart x y (there d x ds first) later),
)

AreApart-filter : (p : Datom → Bool) (ds : List Datom) → AreApart ds → AreApart (filter p ds)
AreApart-filter p [] apart = tt
AreApart-filter p (d ∷ ds) apart = go (p d) (AreApart-filter p ds apart.1)
  where
    go : (b : Bool) → AreApart (filter p ds) → AreApart (cond b (d ∷ filter p ds) (filter p ds))
    go true rest = ((λ other later. apart.0 other (kept p ds other later).member), rest)
    go false rest = rest

AreApart-said : (h : List Entry) → IsLawful h → AreApart (said h)
AreApart-said =
    of_lawful (λ h. AreApart (said h)) (AreApart-rising Eavt (said (first_entry ∷ [])) refl)
    (λ h entry lawful before next. rw said-push
    (AreApart-append (said h) entry.datoms before
    (AreApart-rising Eavt entry.datoms (and_parts _ _ (and_parts _ _ next.datoms_in_order).0).1)
    (λ x y early late same.
    later (basis h) x.t y.t
    (leb-true x.t (basis h) (member_passes (λ d. leb d.t (basis h)) (said h) x (said_t h lawful) early))
    (eqb-true y.t (basis h + 1) (member_passes (λ d. eqb d.t (basis h + 1)) entry.datoms y (own_t h entry next) late))
    (ap (λ (d : Datom). d.t) same))))
  where
    later : (b t u : ℕ) → t ≤ b → u ≡ b + 1 → t ≡ u → ⊥
    later b t u low is same = omega arith

-- ---- lists one within the other

record Split (d : Datom) (es : List Datom) : Type 0 where
  before : List Datom
  behind : List Datom
  is : es ≡ before ++ d ∷ behind

split : (d : Datom) (es : List Datom) → Contains es d → Split d es
split d [] member = absurd (none_of d member)
split d (e ∷ es) member =
    elim (cases_of e d es member) [
      | inl same ↦ record { before = []; behind = es; is = ap (λ x. x ∷ es) same }
      | inr later ↦ let rest = split d es later in record { before = e ∷ rest.before; behind = rest.behind; is = ap (λ l. e ∷ l) rest.is }
    ]

-- without the datom between them
without : (d other : Datom) (before behind : List Datom) → (d ≡ other → ⊥) → Contains (before ++ d ∷ behind) other
    → Contains (before ++ behind) other
without d other before behind apart member =
    elim (Contains-append_cases before (d ∷ behind) other member) [
      | inl first ↦ Contains-append_left before behind other first
      | inr rest ↦ elim (cases_of d other behind rest) [
        | inl same ↦ absurd
            (apart same)
        | inr later ↦ Contains-append_right before behind other later
      ]
    ]

abbrev IsWithin : List Datom → List Datom → Type 0
IsWithin ds es = (d : Datom) → Contains ds d → Contains es d

others_within : (d : Datom) (ds es : List Datom) → AreApart (d ∷ ds) → IsWithin (d ∷ ds) es → (s : Split d es)
    → IsWithin ds (s.before ++ s.behind)
others_within d ds es apart within s other later =
    without d other s.before s.behind (apart.0 other later) (subst (λ l. Contains l other) s.is (within other (there d other ds later)))

split-length : (d : Datom) (es : List Datom) (s : Split d es) → length es ≡ length (s.before ++ s.behind) + 1
split-length d es s = ap length s.is ∙ omega (arith, length-append s.before (d ∷ s.behind), length-append s.before s.behind)

-- a list that has no datom twice is no longer than one that has all of it
no_longer : (ds es : List Datom) → AreApart ds → IsWithin ds es → length ds ≤ length es
no_longer [] es apart within = omega arith
no_longer (d ∷ ds) es apart within =
    let s = split d es (within d (here d ds)) in
    omega (arith, no_longer ds (s.before ++ s.behind) apart.1 (others_within d ds es apart within s), split-length d es s)

-- and where it is as long it has all of that one
all_of_it : (ds es : List Datom) → AreApart ds → IsWithin ds es → length es ≤ length ds → IsWithin es ds
all_of_it [] es apart within short d member = absurd (omega (arith, member.1, short))
all_of_it (d ∷ ds) es apart within short other member =
    let s = split d es (within d (here d ds)) in
    let rest = all_of_it ds (s.before ++ s.behind) apart.1 (others_within d ds es apart within s)
    (omega (arith, short, split-length d es s)) in
    elim (Contains-append_cases s.before (d ∷ s.behind) other (subst (λ l. Contains l other) s.is member)) [
      | inl first ↦ there d other ds (rest other (Contains-append_left s.before s.behind other first))
      | inr more ↦ elim (cases_of d other s.behind more) [
        | inl same ↦ subst (λ x. Contains (d ∷ ds) x) same (here d ds)
        | inr later ↦ there d other ds (rest other (Contains-append_right s.before s.behind other later))
      ]
    ]

-- ---- the index

module _ (h : List Entry) (order : Order) where
  abbrev is_held : Datom → Bool
  is_held d = covers (facts h) order d.a

  indexed_of : (d : Datom) → Contains (filter is_held (said h)) d → IsIndexed h order d
  indexed_of d member = let k = kept is_held (said h) d member in record { is_said = k.member; is_covered = k.passes }

  of_indexed : (d : Datom) → IsIndexed h order d → Contains (filter is_held (said h)) d
  of_indexed d is = keep is_held (said h) d is.is_said is.is_covered

  pub counted : (ds : List Datom) → rises order ds ≡ true → All (IsIndexed h order) ds → length ds ≡ index_len h order
      → IsRisingListOf order ds (IsIndexed h order)
  counted ds rising each long = record {
    rising = rising;
    members = λ d. (
      (λ member. All-contains (IsIndexed h order) ds d each member),
      (λ is. all_of_it ds (filter is_held (said h)) (AreApart-rising order ds rising)
          (λ x member. of_indexed x (All-contains (IsIndexed h order) ds x each member)) (omega (arith, long)) d (of_indexed d is)),
    );
  }

  pub length_of : (ds : List Datom) → AreApart (said h) → IsRisingListOf order ds (IsIndexed h order) → length ds ≡ index_len h order
  length_of ds apart is =
      let few = no_longer ds (filter is_held (said h)) (AreApart-rising order ds is.rising)
      (λ d member. of_indexed d ((is.members d).0 member)) in
      let many = no_longer (filter is_held (said h)) ds (AreApart-filter is_held (said h) apart)
      (λ d member. (is.members d).1 (indexed_of d member)) in
      omega (arith, few, many)

pub length_upto : (h : List Entry) (c : ℕ) (order : Order) (ds : List Datom) → IsLawful h
    → IsRisingListOf order ds (IsIndexed (upto h c) order) → length ds ≡ index_len (upto h c) order
length_upto h c order ds lawful is =
    length_of (upto h c) order ds (subst AreApart (sym (said-upto h lawful c)) (AreApart-filter (λ d. leb d.t c) (said h)
    (AreApart-said h lawful))) is
