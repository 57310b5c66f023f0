-- Which datoms stand of a list of an order, told of a history.
use Rattle.std.proofs.Common.{◌≡◌, ◌∙◌, ℕ, ◌<◌, ◌≤◌, inl, inr, Bool, true, List, [], ◌∷◌, ◌++◌, refl, sym, subst, arith}
use Rattle.std.specs.Prelude.{Contains, ◌↔◌}
use Rattle.std.specs.Ordering.{nat_cmp}
use Rattle.std.specs.declared.cmp.Ordering.{Ordering}
use Rattle.std.specs.declared.cmp.Ordering.TheVariants.{Less, Equal, Greater}
use Rattle.std.specs.Cmp.{tied_itself}
use Rattle.std.specs.Cmp.Lexicographic.{slice_cmp}
use Rattle.std.proofs.lemmas.Bool.{cases_lt}
use Rattle.fb_values.specs.declared.facts.Datom.{Datom}
use Rattle.fb_values.specs.declared.facts.Entry.{Entry}
use Rattle.fb_values.specs.declared.facts.Value.{Value}
use Rattle.fb_values.specs.declared.facts.Value.TheVariants.{Ref}
use Rattle.fb_values.specs.declared.indexes.Order.{Order}
use Rattle.fb_values.specs.declared.indexes.Order.TheVariants.{Eavt, Aevt, Avet, Vaet}
use Rattle.fb_values.specs.Orders.{key_cmp, key_of, value_cmp}
use Rattle.fb_values.specs.OrderLaws.{value_cmp_total}
use Rattle.fb_values.specs.Rising.{IsRising}
use Rattle.fb_values.proofs.Rising.{rises_from}
use Rattle.fb_model.specs.History.{said}
use Rattle.fb_model.specs.Facts.{is_of, standing, facts}
use Rattle.fb_model.specs.Lawful.{IsLawful}
use Rattle.fb_facts.specs.FactLists.{facts_in}
use Rattle.fb_facts.proofs.Lists.{facts_in-rising}
use Rattle.view_model.proofs.Scans.{IsRisingListOf-one}
use Rattle.live_index.proofs.Together.{standing_last, last_stands, rising_by_time, said_by_time, rising-standing}

-- ---- what a list of an order tells of a history

-- the list has the datoms of the history that pass, and a datom passes with all of its triple
pub record IsOfHistory (h : List Entry) (order : Order) (passes : Datom → Bool) (ds : List Datom) : Type 0 where
  pub lawful : IsLawful h
  pub rising : IsRising order ds
  pub members : (d : Datom) → Contains ds d ↔ (Contains (said h) d × (passes d ≡ true))
  pub whole : (d x : Datom) → is_of d.e d.a d.v x ≡ true → passes d ≡ true → passes x ≡ true

pub told_is : (h : List Entry) (order : Order) (passes : Datom → Bool) (ds : List Datom) → IsOfHistory h order passes ds
    → standing ds ≡ facts_in order passes h
told_is h order passes ds is =
    IsRisingListOf-one order (λ d. Contains (facts h) d × (passes d ≡ true)) (standing ds) (facts_in order passes h)
    (record { rising = rises_from order (standing ds) (rising-standing order ds is.rising); members = λ d. (forth d, back d) })
    (facts_in-rising h order passes)
  where
    forth : (d : Datom) → Contains (standing ds) d → Contains (facts h) d × (passes d ≡ true)
    forth d there =
        let last = standing_last ds d (rising_by_time order ds is.rising) there in
        let own = (is.members d).0 last.there in (
          last_stands (said h) d (said_by_time h is.lawful) (record {
            there = own.0;
            added = last.added;
            latest = λ x x_in same. last.latest x ((is.members x).1 (x_in, is.whole d x same own.1)) same;
          }),
          own.1,
        )

    back : (d : Datom) → Contains (facts h) d × (passes d ≡ true) → Contains (standing ds) d
    back d given =
        let last = standing_last (said h) d (said_by_time h is.lawful) given.0 in
        last_stands ds d (rising_by_time order ds is.rising) (record {
          there = (is.members d).1 (last.there, given.1);
          added = last.added;
          latest = λ x x_in same. last.latest x ((is.members x).0 x_in).0 same;
        })

-- ---- entities under one attribute and value

lead_all : (ks xs ys : List Value) → slice_cmp value_cmp (ks ++ xs) (ks ++ ys) ≡ slice_cmp value_cmp xs ys
lead_all [] xs ys = refl
lead_all (k ∷ ks) xs ys = lead_same (ks ++ xs) (ks ++ ys) ∙ lead_all ks xs ys
  where
    lead_same : (xs ys : List Value) → slice_cmp value_cmp (k ∷ xs) (k ∷ ys) ≡ slice_cmp value_cmp xs ys
    lead_same xs ys = rw (tied_itself value_cmp_total k) refl

entity_first : (ks xs ys : List Value) (e f : ℕ) → slice_cmp value_cmp (ks ++ Ref e ∷ xs) (ks ++ Ref f ∷ ys) ≡ Less → e ≤ f
entity_first ks xs ys e f less = go (nat_cmp e f) refl (sym (lead_all ks (Ref e ∷ xs) (Ref f ∷ ys)) ∙ less)
  where
    upto : (o : Ordering) → nat_cmp e f ≡ o → (o ≡ Greater → ⊥) → e ≤ f
    upto o is not_greater = at_most e f (λ greater. not_greater (sym is ∙ greater))
      where
        at_most : (m n : ℕ) → (nat_cmp m n ≡ Greater → ⊥) → m ≤ n
        at_most m n never =
            elim (cases_lt n m) [
              | inl less_now ↦ absurd (never (greater_now m n less_now))
              | inr within ↦ within
            ]
          where
            greater_now : (m n : ℕ) → n < m → nat_cmp m n ≡ Greater
            greater_now m n less_now = grind arith

    go : (o : Ordering) → nat_cmp e f ≡ o → slice_cmp value_cmp (Ref e ∷ xs) (Ref f ∷ ys) ≡ Less → e ≤ f
    go Less is at = upto Less is (λ no. cc)
    go Equal is at = upto Equal is (λ no. cc)
    go Greater is at = let far : slice_cmp value_cmp (Ref e ∷ xs) (Ref f ∷ ys) ≡ Greater = rw is refl in absurd (cc)

pub entity_upto : (order : Order) (x y : Datom) → x.a ≡ y.a → x.v ≡ y.v → key_cmp order x y ≡ Less → x.e ≤ y.e
entity_upto Eavt x y a v less = entity_first [] (Ref x.a ∷ x.v ∷ Ref x.t ∷ []) (Ref y.a ∷ y.v ∷ Ref y.t ∷ []) x.e y.e less
entity_upto Aevt x y a v less =
    entity_first (Ref x.a ∷ []) (x.v ∷ Ref x.t ∷ []) (y.v ∷ Ref y.t ∷ []) x.e y.e
    (subst (λ (b : ℕ). slice_cmp value_cmp (key_of Aevt x) (Ref b ∷ Ref y.e ∷ y.v ∷ Ref y.t ∷ []) ≡ Less) (sym a) less)
entity_upto Avet x y a v less =
    entity_first (Ref x.a ∷ x.v ∷ []) (Ref x.t ∷ []) (Ref y.t ∷ []) x.e y.e
    (subst (λ (w : Value). slice_cmp value_cmp (key_of Avet x) (Ref x.a ∷ w ∷ Ref y.e ∷ Ref y.t ∷ []) ≡ Less) (sym v)
    (subst (λ (b : ℕ). slice_cmp value_cmp (key_of Avet x) (Ref b ∷ y.v ∷ Ref y.e ∷ Ref y.t ∷ []) ≡ Less) (sym a) less))
entity_upto Vaet x y a v less =
    entity_first (x.v ∷ Ref x.a ∷ []) (Ref x.t ∷ []) (Ref y.t ∷ []) x.e y.e
    (subst (λ (w : Value). slice_cmp value_cmp (key_of Vaet x) (w ∷ Ref x.a ∷ Ref y.e ∷ Ref y.t ∷ []) ≡ Less) (sym v)
    (subst (λ (b : ℕ). slice_cmp value_cmp (key_of Vaet x) (y.v ∷ Ref b ∷ Ref y.e ∷ Ref y.t ∷ []) ≡ Less) (sym a) less))

pub e_upto : (x y : Datom) → key_cmp Eavt x y ≡ Less → x.e ≤ y.e
e_upto x y less = entity_first [] (Ref x.a ∷ x.v ∷ Ref x.t ∷ []) (Ref y.a ∷ y.v ∷ Ref y.t ∷ []) x.e y.e less
