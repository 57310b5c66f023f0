-- The entities of which datoms tell and that pass a test, where no other passes it.
use Rattle.std.proofs.Common.{◌≡◌, ℕ, Bool, true, false, cond, not, ◌&&◌, ◌||◌, List, [], ◌∷◌, ◌++◌, append_assoc, refl, ap, sym, ◌∙◌, eqb}
use Rattle.std.specs.Prelude.{nat_eq, filter, ◌↔◌, IsTrue, Contains}
use Rattle.std.specs.List.{list_any}
use Rattle.std.proofs.lemmas.Cmp.{nat_eq_equiv}
use Rattle.std.proofs.lemmas.Map.Views.{list_any-from_Contains, Contains-from_any}
use Rattle.std.proofs.lemmas.Bool.{true≢false, eqb-true, eq-eqb, ne_eqb, eqb-false, and_from, or_parts}
use Rattle.std.specs.Option.{option_map_or}
use Rattle.fb_values.specs.declared.facts.Datom.{Datom}
use Rattle.fb_values.specs.declared.facts.Entry.{Entry}
use Rattle.fb_values.specs.declared.indexes.Order.TheVariants.{Avet}
use Rattle.fb_model.specs.History.{said}
use Rattle.fb_model.specs.Facts.{is_of, standing}
use Rattle.fb_model.specs.Schema.{attribute_of, covers, is_held}
use Rattle.fb_model.proofs.Triples.{is_of-true}
use Rattle.fb_model.proofs.Members.{filter-standing}
use Rattle.fb_schema.specs.Described.{describes, described}
use Rattle.fb_schema.specs.Change.{is_gained, is_mention_of, describes_one, described_where}
use Rattle.fb_schema.proofs.Described.{standing-twice, same_describes, described-push}
use Rattle.fb_schema.proofs.Lookups.{attribute_of-own}

-- ---- whether an entity is among them

eqb-swapped : (a b : ℕ) → eqb a b ≡ eqb b a
eqb-swapped a b = go (eqb b a) refl
  where
    go : (t : Bool) → eqb b a ≡ t → eqb a b ≡ t
    go true is = eq-eqb a b (sym (eqb-true b a is))
    go false is = ne_eqb a b (λ same. eqb-false b a is (sym same))

any-cond : (p : ℕ → Bool) (b : Bool) (x : ℕ) (xs : List ℕ) → list_any p (cond b (x ∷ xs) xs) ≡ cond b (p x || list_any p xs) (list_any p xs)
any-cond p true x xs = refl
any-cond p false x xs = refl

step : (describing passes same any pass : Bool) → (same ≡ true → pass ≡ passes)
    → cond (describing && passes) (same || (any && pass)) (any && pass) ≡ (((same && describing) || any) && pass)
step false passes false any pass h = refl
step false passes true any pass h = refl
step true true true any pass h = sym (h refl)
step true true false any pass h = refl
step true false true true pass h = refl
step true false true false pass h = sym (h refl)
step true false false any pass h = refl

any-described_where : (p : ℕ → Bool) (a : ℕ) (ds : List Datom)
    → list_any (λ b. eqb a b) (described_where p ds) ≡ (list_any (is_mention_of a) ds && p a)
any-described_where p a [] = refl
any-described_where p a (d ∷ ds) =
    any-cond (λ b. eqb a b) (describes d && p d.e) d.e (described_where p ds)
    ∙ ap (λ any. cond (describes d && p d.e) (eqb a d.e || any) any) (any-described_where p a ds)
    ∙ ap (λ same. cond (describes d && p d.e) (same || (list_any (is_mention_of a) ds && p a)) (list_any (is_mention_of a) ds && p a))
    (eqb-swapped a d.e)
    ∙ step (describes d) (p d.e) (eqb d.e a) (list_any (is_mention_of a) ds) (p a) (λ same. ap p (sym (eqb-true d.e a same)))

-- where an entity of which nothing is told fails the test
any-described_where-whole : (p : ℕ → Bool) (a : ℕ) (ds : List Datom) → (list_any (is_mention_of a) ds ≡ false → p a ≡ false)
    → list_any (λ b. eqb a b) (described_where p ds) ≡ p a
any-described_where-whole p a ds fails = any-described_where p a ds ∙ go (list_any (is_mention_of a) ds) refl
  where
    go : (b : Bool) → list_any (is_mention_of a) ds ≡ b → (b && p a) ≡ p a
    go true is = refl
    go false is = sym (fails is)

-- ---- one more datom

pub told-then : (p : ℕ → Bool) (held all : List ℕ) (d : Datom) (rest : List Datom) → describes_one p d ≡ true
    → held ++ described_where p (d ∷ rest) ≡ all → (held ++ d.e ∷ []) ++ described_where p rest ≡ all
told-then p held all d rest is before =
    append_assoc held (d.e ∷ []) (described_where p rest)
    ∙ ap (λ b. held ++ cond b (d.e ∷ described_where p rest) (described_where p rest)) (sym is)
    ∙ before

pub told-else : (p : ℕ → Bool) (held all : List ℕ) (d : Datom) (rest : List Datom) → describes_one p d ≡ false
    → held ++ described_where p (d ∷ rest) ≡ all → held ++ described_where p rest ≡ all
told-else p held all d rest is before = ap (λ b. held ++ cond b (d.e ∷ described_where p rest) (described_where p rest)) (sym is) ∙ before

append_nil : (xs : List ℕ) → xs ++ [] ≡ xs
append_nil [] = refl
append_nil (x ∷ xs) = ap (λ l. x ∷ l) (append_nil xs)

pub told-end : (p : ℕ → Bool) (held all : List ℕ) (rest : List Datom) → rest ≡ [] → held ++ described_where p rest ≡ all → held ≡ all
told-end p held all rest none is = sym (append_nil held) ∙ ap (λ ds. held ++ described_where p ds) (sym none) ∙ is

-- ---- what is gained

iff : (a : ℕ) (xs : List ℕ) (b : Bool) → list_any (λ x. eqb a x) xs ≡ b → IsTrue b ↔ Contains xs a
iff a xs b is =
    (λ true_is. Contains-from_any eqb-true a xs (is ∙ true_is), λ member. sym is ∙ list_any-from_Contains nat_eq_equiv a xs member)

append-nil : (ds : List Datom) → ds ++ [] ≡ ds
append-nil [] = refl
append-nil (d ∷ ds) = ap (λ l. d ∷ l) (append-nil ds)

filter-append : (p : Datom → Bool) (xs ys : List Datom) → filter p (xs ++ ys) ≡ filter p xs ++ filter p ys
filter-append p [] ys = refl
filter-append p (x ∷ xs) ys = go (p x) (filter-append p xs ys)
  where
    go : (b : Bool) → filter p (xs ++ ys) ≡ filter p xs ++ filter p ys
        → cond b (x ∷ filter p (xs ++ ys)) (filter p (xs ++ ys)) ≡ cond b (x ∷ filter p xs) (filter p xs) ++ filter p ys
    go true rest = ap (λ l. x ∷ l) rest
    go false rest = rest

same_entity : (e : ℕ) (d other : Datom) → is_of d.e d.a d.v other ≡ true → nat_eq d.e e ≡ nat_eq other.e e
same_entity e d other is = ap (λ k. nat_eq k e) (sym (is_of-true d.e d.a d.v other is).e_is)

-- what stands of an entity of which nothing more is said
pub own-others : (e : ℕ) (ds more : List Datom) → filter (λ d. nat_eq d.e e) more ≡ [] → standing ds ≡ ds
    → filter (λ d. nat_eq d.e e) (standing (ds ++ more)) ≡ filter (λ d. nat_eq d.e e) ds
own-others e ds more none stands =
    filter-standing (λ d. nat_eq d.e e) (same_entity e) (ds ++ more)
    ∙ ap standing
    (filter-append (λ d. nat_eq d.e e) ds more
    ∙ ap (λ l. filter (λ d. nat_eq d.e e) ds ++ l) none
    ∙ append-nil (filter (λ d. nat_eq d.e e) ds))
    ∙ sym (filter-standing (λ d. nat_eq d.e e) (same_entity e) ds)
    ∙ ap (filter (λ d. nat_eq d.e e)) stands

pub attribute_of-other : (e : ℕ) (ds more : List Datom) → filter (λ d. nat_eq d.e e) more ≡ [] → standing ds ≡ ds
    → attribute_of (standing (ds ++ more)) e ≡ attribute_of ds e
attribute_of-other e ds more none stands =
    sym (attribute_of-own (standing (ds ++ more)) e) ∙ ap (λ l. attribute_of l e) (own-others e ds more none stands) ∙ attribute_of-own ds e

none_told : (e : ℕ) (ds : List Datom) → list_any (is_mention_of e) ds ≡ false → filter (λ d. nat_eq d.e e) (filter describes ds) ≡ []
none_told e [] none = refl
none_told e (d ∷ ds) none = go (describes d) refl (nat_eq d.e e) refl none (none_told e ds)
  where
    go : (b : Bool) → describes d ≡ b → (c : Bool) → nat_eq d.e e ≡ c
        → ((nat_eq d.e e && describes d) || list_any (is_mention_of e) ds) ≡ false
        → (list_any (is_mention_of e) ds ≡ false → filter (λ x. nat_eq x.e e) (filter describes ds) ≡ [])
        → filter (λ x. nat_eq x.e e) (cond b (d ∷ filter describes ds) (filter describes ds)) ≡ []
    go true is true same some next =
        absurd (true≢false (sym (ap (λ b. b || list_any (is_mention_of e) ds) (and_from (nat_eq d.e e) (describes d) same is)) ∙ some))
    go true is false same some next = rw same (next (or_parts (nat_eq d.e e && describes d) (list_any (is_mention_of e) ds) some).1)
    go false is c same some next = next (or_parts (nat_eq d.e e && describes d) (list_any (is_mention_of e) ds) some).1

pub described-stands : (h : List Entry) → standing (described h) ≡ described h
described-stands h =
    ap standing (filter-standing describes same_describes (said h))
    ∙ (ap standing (sym (append-nil (standing (filter describes (said h)))))
    ∙ standing-twice (filter describes (said h)) []
    ∙ ap standing (append-nil (filter describes (said h))))
    ∙ sym (filter-standing describes same_describes (said h))

pub gained_list : (h : List Entry) (entry : Entry) (before after : List Datom)
    → before ≡ described h → after ≡ described (h ++ entry ∷ []) → (a : ℕ)
    → IsTrue (is_gained Avet before after a) ↔ Contains (described_where (is_gained Avet before after) entry.datoms) a
gained_list h entry before after was is a =
    iff a (described_where (is_gained Avet before after) entry.datoms) (is_gained Avet before after a)
    (any-described_where-whole (is_gained Avet before after) a entry.datoms fails)
  where
    same : list_any (is_mention_of a) entry.datoms ≡ false → attribute_of after a ≡ attribute_of before a
    same none =
        ap (λ l. attribute_of l a) (is ∙ described-push h entry ∙ ap (λ l. standing (l ++ filter describes entry.datoms)) (sym was))
        ∙ attribute_of-other a before (filter describes entry.datoms) (none_told a entry.datoms none)
        (ap standing was ∙ described-stands h ∙ sym was)

    no : (b : Bool) → (b && not b) ≡ false
    no true = refl
    no false = refl

    fails : list_any (is_mention_of a) entry.datoms ≡ false → is_gained Avet before after a ≡ false
    fails none =
        ap (λ found. option_map_or (is_held Avet) found false && not (covers before Avet a)) (same none) ∙ no (covers before Avet a)
