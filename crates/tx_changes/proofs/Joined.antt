-- What the joined askings of a transaction are.
use Rattle.std.proofs.Common.{◌≡◌, ℕ, ◌+◌, Bool, true, false, cond, ◌||◌, List, [], ◌∷◌, map, refl, ap, sym, ◌∙◌, subst, inl, inr}
use Rattle.std.specs.Prelude.{is_some, Contains, Option, None, Some}
use Rattle.std.specs.List.{list_any}
use Rattle.std.proofs.lemmas.Bool.{true≢false, or_cases}
use Rattle.std.proofs.lemmas.List.Elements.{All-contains}
use Rattle.fb_values.specs.declared.facts.Datom.{Datom}
use Rattle.fb_values.specs.declared.facts.Entry.{Entry}
use Rattle.fb_values.specs.declared.facts.Value.{Value}
use Rattle.fb_model.specs.History.{said}
use Rattle.fb_model.specs.Facts.{is_of, holds_after}
use Rattle.tx_model.specs.Step.{first_yes}
use Rattle.tx_model.specs.Tempids.{db_of}
use Rattle.tx_model.specs.Transaction.{Transaction}
use Rattle.tx_asks.specs.declared.triples.Asking.{Asking}
use Rattle.tx_asks.specs.declared.triples.Triple.{Triple}
use Rattle.tx_asks.specs.Triples.{is_triple, is_asked, first_asking, IsExact, AreAskings, AreTriples}
use Rattle.tx_sweep.proofs.Sweeping.{all_members}
use Rattle.tx_changes.specs.declared.noted.AskedAs.{AskedAs}
use Rattle.tx_changes.specs.declared.noted.AskedAs.TheVariants.{Added, Retracted, Swept, Replaced}
use Rattle.tx_changes.specs.declared.noted.Noted.{Noted}
use Rattle.tx_changes.specs.Noted.{asks, askings_as, asked_as, placed, AreNoted, IsJoined, AreJoined}
use Rattle.tx_changes.proofs.Noting.{asks-true, placed_from, placed_is_first}
use Rattle.tx_changes.proofs.Ways.{from_way}

-- a form that asks makes the first one some
first_some : (e a : ℕ) (v : Value) (n : ℕ) (lists : List (List Datom)) → list_any (list_any (is_of e a v)) lists ≡ true
    → is_some (first_yes n (map (list_any (is_of e a v)) lists)) ≡ true
first_some e a v n [] some = absurd (true≢false (sym some))
first_some e a v n (ds ∷ lists) some = go (list_any (is_of e a v) ds) some (first_some e a v (n + 1) lists)
  where
    go : (b : Bool) → (b || list_any (list_any (is_of e a v)) lists) ≡ true
        → (list_any (list_any (is_of e a v)) lists ≡ true → is_some (first_yes (n + 1) (map (list_any (is_of e a v)) lists)) ≡ true)
        → is_some (cond b (Some n) (first_yes (n + 1) (map (list_any (is_of e a v)) lists))) ≡ true
    go true is next = refl
    go false is next = next is

-- where a form asks, an asking does
asked_there : (lists : List (List Datom)) (xs : List Asking) → AreAskings lists xs → (e a : ℕ) (v : Value)
    → list_any (list_any (is_of e a v)) lists ≡ true → (x : Asking) × Contains xs x × (asks e a v x ≡ true)
asked_there lists xs are e a v some =
    go (placed e a v None xs) refl (ap is_some (placed_is_first lists xs are e a v) ∙ first_some e a v 0 lists some)
  where
    go : (o : Option ℕ) → placed e a v None xs ≡ o → is_some (placed e a v None xs) ≡ true
        → (x : Asking) × Contains xs x × (asks e a v x ≡ true)
    go None is there = absurd (true≢false (sym (sym (ap is_some is) ∙ there)))
    go (Some p) is there = elim (placed_from e a v None xs p is) [ inl none ↦ absurd (cc) | inr at_it ↦ (at_it.0, at_it.1, at_it.2) ]

abbrev asked_in : ℕ → ℕ → Value → List (List Datom) → Bool
asked_in e a v lists = list_any (list_any (is_of e a v)) lists

in_some_way : (tx : Transaction) (e a : ℕ) (v : Value) → is_asked tx e a v ≡ true
    → (way : AskedAs) × (asked_in e a v (asked_as way tx) ≡ true)
in_some_way tx e a v asked =
    elim (or_cases (asked_in e a v tx.added || asked_in e a v tx.retracted || asked_in e a v tx.swept)
    (asked_in e a v tx.replaced) asked) [
      | inl three ↦ elim (or_cases (asked_in e a v tx.added || asked_in e a v tx.retracted) (asked_in e a v tx.swept) three) [
        | inl two ↦ elim (or_cases (asked_in e a v tx.added) (asked_in e a v tx.retracted) two) [
          | inl is ↦ (Added, is)
          | inr is ↦ (Retracted, is)
        ]
        | inr is ↦ (Swept, is)
      ]
      | inr is ↦ (Replaced, is)
    ]

pub triples_are : (h : List Entry) (tx : Transaction) → tx.db ≡ db_of h → (noted : List Noted) → AreNoted tx noted
    → (triples : List Triple) → AreJoined h noted triples → AreTriples tx triples
triples_are h tx db_is noted are triples joined =
    record {
      rising = joined.rising;
      exact = all_members (IsExact tx) triples (λ t among. exact t (All-contains (IsJoined h noted) triples t joined.exact among));
      whole = λ e a v asked. let way = in_some_way tx e a v asked in there e a v way.0 way.1;
    }
  where
    first : (way : AskedAs) (e a : ℕ) (v : Value) → placed e a v None (askings_as way noted) ≡ first_asking (asked_as way tx) e a v
    first way e a v = placed_is_first (asked_as way tx) (askings_as way noted) (are way) e a v

    exact : (t : Triple) → IsJoined h noted t → IsExact tx t
    exact t is =
        record {
          added = is.added ∙ first Added t.e t.a t.v;
          retracted = is.retracted ∙ first Retracted t.e t.a t.v;
          swept = is.swept ∙ first Swept t.e t.a t.v;
          replaced = is.replaced ∙ first Replaced t.e t.a t.v;
          holding = is.holding ∙ ap (λ db. holds_after false (said db.history) t.e t.a t.v) (sym db_is);
        }

    there : (e a : ℕ) (v : Value) (way : AskedAs) → list_any (list_any (is_of e a v)) (asked_as way tx) ≡ true
        → list_any (is_triple e a v) triples ≡ true
    there e a v way some =
        let asking = asked_there (asked_as way tx) (askings_as way noted) (are way) e a v some in
        let own = asks-true e a v asking.0 asking.2 in
        let from = from_way way noted asking.0 asking.1 in
        let one : list_any (is_triple asking.0.e asking.0.a asking.0.v) triples ≡ true =
        subst (λ x. list_any (is_triple x.e x.a x.v) triples ≡ true) from.is (joined.whole from.one from.among) in
        subst (λ u. list_any (is_triple e a u) triples ≡ true) own.v_is
        (subst (λ u. list_any (is_triple e u asking.0.v) triples ≡ true) own.a_is
        (subst (λ u. list_any (is_triple u asking.0.a asking.0.v) triples ≡ true) own.e_is one))
