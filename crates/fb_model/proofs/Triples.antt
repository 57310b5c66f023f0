-- The datoms of one triple, and which of a list of datoms stand.
use Rattle.std.proofs.Common.{◌≡◌, ℕ, Bool, true, false, cond, not, ◌&&◌, ◌||◌, List, [], ◌∷◌, ◌++◌, refl, ap, sym, ◌∙◌, eqb}
use Rattle.std.specs.Prelude.{filter}
use Rattle.std.specs.List.{list_any}
use Rattle.std.specs.Ordering.{is_eq}
use Rattle.std.specs.declared.cmp.Ordering.{Ordering}
use Rattle.std.specs.declared.cmp.Ordering.TheVariants.{Less, Equal, Greater}
use Rattle.std.proofs.lemmas.List.Folds.{list_any-append}
use Rattle.std.proofs.lemmas.Bool.{true≢false, eqb-true, and_parts}
use Rattle.fb_values.specs.declared.facts.Datom.{Datom}
use Rattle.fb_values.specs.declared.facts.Entry.{Entry}
use Rattle.fb_values.specs.declared.facts.Value.{Value}
use Rattle.fb_values.specs.Orders.{value_cmp}
use Rattle.std.specs.Cmp.{tied_itself}
use Rattle.fb_values.specs.OrderLaws.{value_cmp-IsAntisymmetric, value_cmp_total}
use Rattle.fb_model.specs.History.{said}
use Rattle.fb_model.specs.Facts.{value_eq, is_of, holds_after, holds, is_last_assertion, standing, facts}

-- ---- one triple

is_eq-true : (r : Ordering) → is_eq r ≡ true → r ≡ Equal
is_eq-true Less e = absurd (true≢false (sym e))
is_eq-true Equal e = refl
is_eq-true Greater e = absurd (true≢false (sym e))

pub value_eq-true : (v w : Value) → value_eq v w ≡ true → v ≡ w
value_eq-true v w e = value_cmp-IsAntisymmetric v w (is_eq-true (value_cmp v w) e)

-- what a datom of the triple is
pub record IsOf (e a : ℕ) (v : Value) (d : Datom) : Type 0 where
  pub e_is : d.e ≡ e
  pub a_is : d.a ≡ a
  pub v_is : d.v ≡ v

pub is_of-true : (e a : ℕ) (v : Value) (d : Datom) → is_of e a v d ≡ true → IsOf e a v d
is_of-true e a v d h =
    let parts = and_parts (eqb d.e e && eqb d.a a) (value_eq d.v v) h in
    let numbers = and_parts (eqb d.e e) (eqb d.a a) parts.0 in
    record { e_is = eqb-true d.e e numbers.0; a_is = eqb-true d.a a numbers.1; v_is = value_eq-true d.v v parts.1 }

pub is_of-same : (e a : ℕ) (v : Value) (d other : Datom) → is_of e a v d ≡ true → is_of d.e d.a d.v other ≡ is_of e a v other
is_of-same e a v d other h =
    let of = is_of-true e a v d h in
    rw (of.e_is, of.a_is, of.v_is) refl

pub list_any-same : (e a : ℕ) (v : Value) (d : Datom) (ds : List Datom) → is_of e a v d ≡ true
    → list_any (is_of d.e d.a d.v) ds ≡ list_any (is_of e a v) ds
list_any-same e a v d [] h = refl
list_any-same e a v d (other ∷ ds) h = rw (is_of-same e a v d other h, list_any-same e a v d ds h) refl

-- ---- what stands holds

pub list_any-kept : (p : Datom → Bool) (keep : Bool) (d : Datom) (ds : List Datom)
    → list_any p (cond keep (d ∷ ds) ds) ≡ ((keep && p d) || list_any p ds)
list_any-kept p true d ds = refl
list_any-kept p false d ds = refl

last_is : (x t before : Bool) → (t || x) ≡ (((x && true) || t) || (before && false))
last_is false false false = refl
last_is false false true = refl
last_is false true before = refl
last_is true false before = refl
last_is true true before = refl

other_is : (x t rest : Bool) → (t || rest) ≡ (((x && false) || t) || rest)
other_is false t rest = refl
other_is true t rest = refl

and_true : (b : Bool) → b ≡ (b && true)
and_true false = refl
and_true true = refl

-- what holds after the datoms: what stands, and what held before where no datom is of the triple
pub holds_after-standing : (before : Bool) (ds : List Datom) (e a : ℕ) (v : Value) →
    holds_after before ds e a v ≡ (list_any (is_of e a v) (standing ds) || (before && not (list_any (is_of e a v) ds)))
holds_after-standing before [] e a v = and_true before
holds_after-standing before (d ∷ ds) e a v =
    go (is_of e a v d) refl (holds_after-standing d.added ds e a v) (holds_after-standing before ds e a v)
  where
    go : (m : Bool) → is_of e a v d ≡ m
        → holds_after d.added ds e a v ≡ (list_any (is_of e a v) (standing ds) || (d.added && not (list_any (is_of e a v) ds)))
        → holds_after before ds e a v ≡ (list_any (is_of e a v) (standing ds) || (before && not (list_any (is_of e a v) ds)))
        → holds_after before (d ∷ ds) e a v
        ≡ (list_any (is_of e a v) (standing (d ∷ ds)) || (before && not (list_any (is_of e a v) (d ∷ ds))))
    go true is added_after before_after =
        rw (is, list_any-kept (is_of e a v) (is_last_assertion d ds) d (standing ds), is, list_any-same e a v d ds is)
        (added_after ∙ last_is (d.added && not (list_any (is_of e a v) ds)) (list_any (is_of e a v) (standing ds)) before)
    go false is added_after before_after =
        rw (is, list_any-kept (is_of e a v) (is_last_assertion d ds) d (standing ds), is)
        (before_after
        ∙ other_is (is_last_assertion d ds) (list_any (is_of e a v) (standing ds)) (before && not (list_any (is_of e a v) ds)))

pub or_false : (b : Bool) → (b || false) ≡ b
or_false false = refl
or_false true = refl

-- a triple holds where a fact is of it
pub holds-facts : (h : List Entry) (e a : ℕ) (v : Value) → holds h e a v ≡ list_any (is_of e a v) (facts h)
holds-facts h e a v = holds_after-standing false (said h) e a v ∙ or_false (list_any (is_of e a v) (facts h))

-- ---- what stands after more datoms

-- the datoms of the first list of whose triples the second has none
abbrev pub not_followed : List Datom → Datom → Bool
not_followed more d = not (list_any (is_of d.e d.a d.v) more)

neither : (x f g : Bool) → (x && not (f || g)) ≡ ((x && not f) && not g)
neither false f g = refl
neither true false g = refl
neither true true g = refl

pub filter-kept : (p : Datom → Bool) (keep : Bool) (d : Datom) (ds : List Datom)
    → filter p (cond keep (d ∷ ds) ds) ≡ cond (keep && p d) (d ∷ filter p ds) (filter p ds)
filter-kept p true d ds = refl
filter-kept p false d ds = refl

kept-append : (keep : Bool) (d : Datom) (ds more : List Datom) → cond keep (d ∷ ds) ds ++ more ≡ cond keep (d ∷ (ds ++ more)) (ds ++ more)
kept-append true d ds more = refl
kept-append false d ds more = refl

pub standing-append : (ds more : List Datom) → standing (ds ++ more) ≡ filter (not_followed more) (standing ds) ++ standing more
standing-append [] more = refl
standing-append (d ∷ ds) more =
    rw (
      list_any-append (is_of d.e d.a d.v) ds more,
      standing-append ds more,
      filter-kept (not_followed more) (is_last_assertion d ds) d (standing ds),
      kept-append (is_last_assertion d ds && not_followed more d) d (filter (not_followed more) (standing ds)) (standing more),
      neither d.added (list_any (is_of d.e d.a d.v) ds) (list_any (is_of d.e d.a d.v) more),
    ) refl

-- ---- equal values

pub value_eq-refl : (v : Value) → value_eq v v ≡ true
value_eq-refl v = ap is_eq (tied_itself value_cmp_total v)
