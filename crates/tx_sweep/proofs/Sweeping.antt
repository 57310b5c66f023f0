-- What was found stays found, and what two sweeps find is what one finds that asks for both.
use Rattle.std.proofs.Common.{◌≡◌, ℕ, ◌≤◌, Bool, true, false, cond, not, ◌&&◌, ◌||◌, List, [], ◌∷◌, ◌++◌, map, append_assoc, refl, ap, sym}
use Rattle.std.proofs.Common.{◌∙◌, subst, arith, inl, inr}
use Rattle.std.specs.Prelude.{nat_eq, nat_le, Contains, IsTrue, filter}
use Rattle.std.specs.List.{All}
use Rattle.std.specs.Ordering.{is_eq, nat_cmp, ordering_then}
use Rattle.std.specs.BTreeMap.{is_at}
use Rattle.std.specs.declared.cmp.Ordering.{Ordering}
use Rattle.std.specs.declared.cmp.Ordering.TheVariants.{Less, Equal, Greater}
use Rattle.std.proofs.lemmas.Bool.{true≢false, and_parts, and_from, or_left, or_right, eqb-true, eq-eqb, leb-true, le-leb}
use Rattle.std.proofs.lemmas.List.Elements.{All-append, All-weaker, Contains-get_or, Contains-append_cases}
use Rattle.std.proofs.lemmas.List.Folds.{list_any-append}
use Rattle.std.proofs.lemmas.List.{append-nil}
use Rattle.fb_values.specs.declared.facts.Datom.{Datom}
use Rattle.fb_values.specs.declared.facts.Entry.{Entry}
use Rattle.fb_values.specs.declared.facts.Value.{Value}
use Rattle.fb_values.specs.declared.facts.Value.TheVariants.{Ref}
use Rattle.fb_values.specs.declared.indexes.Order.{Order}
use Rattle.fb_values.specs.declared.indexes.Order.TheVariants.{Eavt}
use Rattle.fb_model.specs.Rising.{IsRisingListOf}
use Rattle.fb_model.specs.Facts.{is_of, facts}
use Rattle.fb_model.specs.Schema.{is_about}
use Rattle.fb_model.proofs.Members.{kept, keep}
use Rattle.fb_model.proofs.Triples.{value_eq-refl}
use Rattle.fb_facts.specs.FactLists.{facts_in, values_of}
use Rattle.tx_model.specs.Tempids.{db_of}
use Rattle.tx_model.specs.Changes.{withdrawn, component_links}
use Rattle.tx_model.proofs.Lists.{image_of, has_image}
use Rattle.tx_asks.specs.declared.triples.Asking.{Asking}
use Rattle.tx_asks.specs.Triples.{is_asking_of}
use Rattle.tx_sweep.specs.declared.found.Sweep.{Sweep}
use Rattle.tx_sweep.specs.Sweep.{value_at, is_asked_upto, keeps, has_visited, has_pair, pair_cmp, is_about_one, is_ref_to_one, AreSwept}
use Rattle.tx_sweep.specs.Sweep.{IsAskedOf, Sweeps}
use Rattle.tx_sweep.proofs.Members.{any_of, some_of}

-- what the lists that a history tells are
abbrev pub AreTold : Type 0
AreTold =
    (h : List Entry) (order : Order) (passes : Datom → Bool)
    → IsRisingListOf order (facts_in order passes h) (λ d. Contains (facts h) d × IsTrue (passes d))

pub all_members : {A : Type 0} (P : A → Type 0) (xs : List A) → ((x : A) → Contains xs x → P x) → All P xs
all_members P xs each = λ k d below. each _ (Contains-get_or xs k d below)

-- ---- what is told

pub told-left : (place : ℕ) (xs ys : List Asking) (d : Datom) → is_asked_upto place xs d ≡ true → is_asked_upto place (xs ++ ys) d ≡ true
told-left place xs ys d told = list_any-append (λ asking. is_asking_of d asking && nat_le asking.place place) xs ys ∙ or_left _ _ told

pub told-right : (place : ℕ) (xs ys : List Asking) (d : Datom) → is_asked_upto place ys d ≡ true → is_asked_upto place (xs ++ ys) d ≡ true
told-right place xs ys d told = list_any-append (λ asking. is_asking_of d asking && nat_le asking.place place) xs ys ∙ or_right _ _ told

pub told-by : (place : ℕ) (xs : List Asking) (d : Datom) (asking : Asking) → Contains xs asking → asking.place ≤ place
    → is_of asking.e asking.a asking.v d ≡ true → is_asked_upto place xs d ≡ true
told-by place xs d asking among early of =
    any_of (λ asking. is_asking_of d asking && nat_le asking.place place) xs asking among
    (and_from _ _ of (le-leb asking.place place early))

pub told-later : (place later : ℕ) (xs : List Asking) (d : Datom) → place ≤ later → is_asked_upto place xs d ≡ true
    → is_asked_upto later xs d ≡ true
told-later place later xs d le told =
    let one = some_of (λ asking. is_asking_of d asking && nat_le asking.place place) xs told in
    let parts = and_parts (is_asking_of d one.0) (nat_le one.0.place place) one.2 in
    let early : one.0.place ≤ place = leb-true one.0.place place parts.1 in
    told-by later xs d one.0 one.1 (omega (arith, early, le)) parts.0

pub is_of-itself : (d : Datom) → is_of d.e d.a d.v d ≡ true
is_of-itself d = and_from _ _ (and_from _ _ (eq-eqb d.e d.e refl) (eq-eqb d.a d.a refl)) (value_eq-refl d.v)

-- ---- sweeps

pub sweeps_none : (facts : List Datom) (place : ℕ) (found : Sweep) → AreSwept facts place found → Sweeps facts place [] found found
sweeps_none facts place found swept =
    record {
      more = [];
      grown = sym (append-nil found.askings.items);
      asks = λ k d below. absurd (omega (arith, below));
      told = λ d among. absurd (omega (arith, among.1));
      kept = swept;
    }

asked_more : (place : ℕ) (asked more : List Datom) (asking : Asking) → IsAskedOf place asked asking → IsAskedOf place (asked ++ more) asking
asked_more place asked more asking is = (is.0, list_any-append (is_of asking.e asking.a asking.v) asked more ∙ or_left _ _ is.1)

asked_before : (place : ℕ) (asked more : List Datom) (asking : Asking) → IsAskedOf place more asking
    → IsAskedOf place (asked ++ more) asking
asked_before place asked more asking is = (is.0, list_any-append (is_of asking.e asking.a asking.v) asked more ∙ or_right _ _ is.1)

pub sweeps_both : (facts : List Datom) (place : ℕ) (one two : List Datom) (before mid after : Sweep) → Sweeps facts place one before mid
    → Sweeps facts place two mid after → Sweeps facts place (one ++ two) before after
sweeps_both facts place one two before mid after first then =
    record {
      more = first.more ++ then.more;
      grown = then.grown ∙ ap (λ xs. xs ++ then.more) first.grown ∙ append_assoc before.askings.items first.more then.more;
      asks = All-append (IsAskedOf place (one ++ two)) first.more then.more
          (All-weaker (IsAskedOf place one) (IsAskedOf place (one ++ two)) (asked_more place one two) first.more first.asks)
          (All-weaker (IsAskedOf place two) (IsAskedOf place (one ++ two)) (asked_before place one two) then.more then.asks);
      told = λ d among. elim (Contains-append_cases one two d among) [
        | inl early ↦
            subst (λ xs. is_asked_upto place xs d ≡ true) (sym then.grown)
            (told-left place mid.askings.items then.more d (first.told d early))
        | inr late ↦ then.told d late
      ];
      kept = then.kept;
    }

-- ---- every value

pub is_eq-then : (o p : Ordering) → is_eq (ordering_then o p) ≡ (is_eq o && is_eq p)
is_eq-then Less p = refl
is_eq-then Equal p = refl
is_eq-then Greater p = refl

pub is_eq-nat_cmp : (m n : ℕ) → is_eq (nat_cmp m n) ≡ nat_eq m n
is_eq-nat_cmp m n = grind arith

pub at_pair : (e a x b : ℕ) → is_at (pair_cmp (e, a)) (x, b) ≡ (nat_eq e x && nat_eq a b)
at_pair e a x b =
    is_eq-then (nat_cmp e x) (nat_cmp a b)
    ∙ ap (λ p. p && is_eq (nat_cmp a b)) (is_eq-nat_cmp e x)
    ∙ ap (λ p. nat_eq e x && p) (is_eq-nat_cmp a b)

pub keeps-same : (has other : ℕ → Bool) → ((x : ℕ) → has x ≡ other x) → (links : List (ℕ × ℕ)) → keeps has links ≡ keeps other links
keeps-same has other same [] = refl
keeps-same has other same (link ∷ links) = rw (same link.0, same link.1, keeps-same has other same links) refl

pub about-same : (has other : ℕ → Bool) → ((x : ℕ) → has x ≡ other x) → (d : Datom) → is_about_one has d ≡ is_about_one other d
about-same has other same d = ap (λ b. b || is_ref_to_one has d.v) (same d.e) ∙ ap (λ b. other d.e || b) (value_same d.v)
  where
    value_same : (v : Value) → is_ref_to_one has v ≡ is_ref_to_one other v
    value_same (Ref e) = same e
    value_same v = refl

abbrev pub values_asked : List Entry → ℕ → ℕ → List Datom
values_asked h e a = map (withdrawn (db_of h)) (filter (λ d. nat_eq d.e e && nat_eq d.a a) (facts h))

abbrev pub values_found : List Entry → ℕ → ℕ → ℕ → List Asking
values_found h place e a = map (value_at place e a) (values_of h e a)

-- a value that is found is asked
value_is_asked : AreTold → (h : List Entry) (place e a : ℕ) (asking : Asking) → Contains (values_found h place e a) asking
    → IsAskedOf place (values_asked h e a) asking
value_is_asked law h place e a asking among =
    let from = image_of (value_at place e a) (values_of h e a) asking among in
    let source = image_of (λ (d : Datom). d.v) (facts_in Eavt (is_about e a) h) from.original from.among in
    let d = source.original in
    let is = ((law h Eavt (is_about e a)).members d).0 source.among in
    let d_is = and_parts (nat_eq d.e e) (nat_eq d.a a) is.1 in
    let in_asked =
    has_image (withdrawn (db_of h)) (filter (λ d. nat_eq d.e e && nat_eq d.a a) (facts h)) d
    (keep (λ d. nat_eq d.e e && nat_eq d.a a) (facts h) d is.0 is.1) in
    let one : IsAskedOf place (values_asked h e a) (value_at place e a d.v) = (
      refl,
      any_of (is_of e a d.v) (values_asked h e a) (withdrawn (db_of h) d) in_asked
          (and_from _ _ (and_from _ _ d_is.0 d_is.1) (value_eq-refl d.v)),
    ) in
    subst (IsAskedOf place (values_asked h e a)) (ap (value_at place e a) source.image_is ∙ from.image_is) one

-- a fact of the entity and the attribute is found
fact_is_found : AreTold → (h : List Entry) (place e a : ℕ) (d : Datom) → Contains (facts h) d → (nat_eq d.e e && nat_eq d.a a) ≡ true
    → is_asked_upto place (values_found h place e a) d ≡ true
fact_is_found law h place e a d among is =
    let listed = ((law h Eavt (is_about e a)).members d).1 (among, is) in
    let found =
    has_image (value_at place e a) (values_of h e a) d.v (has_image (λ (x : Datom). x.v) (facts_in Eavt (is_about e a) h) d listed) in
    let d_is = and_parts (nat_eq d.e e) (nat_eq d.a a) is in
    told-by place (values_found h place e a) d (value_at place e a d.v) found (omega arith)
    (and_from _ _ (and_from _ _ d_is.0 d_is.1) (value_eq-refl d.v))

-- the pair joins those that were swept
values_kept : (h : List Entry) (place e a : ℕ) (before after : Sweep) → AreSwept (facts h) place before
    → ((x : ℕ) → has_visited after x ≡ has_visited before x)
    → ((x b : ℕ) → has_pair after x b ≡ cond (is_at (pair_cmp (e, a)) (x, b)) true (has_pair before x b))
    → ((d : Datom) → is_asked_upto place before.askings.items d ≡ true → is_asked_upto place after.askings.items d ≡ true)
    → ((d : Datom) → Contains (facts h) d → (nat_eq d.e e && nat_eq d.a a) ≡ true → is_asked_upto place after.askings.items d ≡ true)
    → AreSwept (facts h) place after
values_kept h place e a before after swept same pairs stays found =
    record {
      closed = keeps-same (has_visited after) (has_visited before) same (component_links (facts h)) ∙ swept.closed;
      about = λ d among is. stays d (swept.about d among (sym (about-same (has_visited after) (has_visited before) same d) ∙ is));
      paired = λ d among is. of_pair d among (is_at (pair_cmp (e, a)) (d.e, d.a)) refl (sym (pairs d.e d.a) ∙ is);
    }
  where
    of_pair : (d : Datom) → Contains (facts h) d → (b : Bool) → is_at (pair_cmp (e, a)) (d.e, d.a) ≡ b
        → cond b true (has_pair before d.e d.a) ≡ true → is_asked_upto place after.askings.items d ≡ true
    of_pair d among true at is =
        let parts = and_parts (nat_eq e d.e) (nat_eq a d.a) (sym (at_pair e a d.e d.a) ∙ at) in
        found d among (and_from _ _ (eq-eqb d.e e (sym (eqb-true e d.e parts.0))) (eq-eqb d.a a (sym (eqb-true a d.a parts.1))))
    of_pair d among false at is = stays d (swept.paired d among is)

asked_told : (h : List Entry) (place e a : ℕ) (askings : List Asking)
    → ((d : Datom) → Contains (facts h) d → (nat_eq d.e e && nat_eq d.a a) ≡ true → is_asked_upto place askings d ≡ true)
    → (d : Datom) → Contains (values_asked h e a) d → is_asked_upto place askings d ≡ true
asked_told h place e a askings found d among =
    let from = image_of (withdrawn (db_of h)) (filter (λ d. nat_eq d.e e && nat_eq d.a a) (facts h)) d among in
    let is = kept (λ d. nat_eq d.e e && nat_eq d.a a) (facts h) from.original from.among in
    let told : is_asked_upto place askings (withdrawn (db_of h) from.original) ≡ true = found from.original is.member is.passes in
    subst (λ x. is_asked_upto place askings x ≡ true) from.image_is told

-- the values were found before
pub sweeps_values_again : (h : List Entry) (place e a : ℕ) (before after : Sweep) → AreSwept (facts h) place before
    → ((x : ℕ) → has_visited after x ≡ has_visited before x)
    → ((x b : ℕ) → has_pair after x b ≡ cond (is_at (pair_cmp (e, a)) (x, b)) true (has_pair before x b))
    → has_pair before e a ≡ true → after.askings.items ≡ before.askings.items
    → Sweeps (facts h) place (values_asked h e a) before after
sweeps_values_again h place e a before after swept same pairs is items =
    record {
      more = [];
      grown = items ∙ sym (append-nil before.askings.items);
      asks = λ k d below. absurd (omega (arith, below));
      told = asked_told h place e a after.askings.items found;
      kept = values_kept h place e a before after swept same pairs (λ d told. stay d told) found;
    }
  where
    stay : (d : Datom) → is_asked_upto place before.askings.items d ≡ true → is_asked_upto place after.askings.items d ≡ true
    stay d told = subst (λ xs. is_asked_upto place xs d ≡ true) (sym items) told

    found : (d : Datom) → Contains (facts h) d → (nat_eq d.e e && nat_eq d.a a) ≡ true → is_asked_upto place after.askings.items d ≡ true
    found d among here =
        let parts = and_parts (nat_eq d.e e) (nat_eq d.a a) here in
        let e_is : d.e ≡ e = eqb-true d.e e parts.0 in
        let a_is : d.a ≡ a = eqb-true d.a a parts.1 in
        stay d (swept.paired d among (ap (λ x. has_pair before x d.a) e_is ∙ ap (λ b. has_pair before e b) a_is ∙ is))

-- they are found now
pub sweeps_values : AreTold → (h : List Entry) (place e a : ℕ) (before after : Sweep) → AreSwept (facts h) place before
    → ((x : ℕ) → has_visited after x ≡ has_visited before x)
    → ((x b : ℕ) → has_pair after x b ≡ cond (is_at (pair_cmp (e, a)) (x, b)) true (has_pair before x b))
    → after.askings.items ≡ before.askings.items ++ values_found h place e a
    → Sweeps (facts h) place (values_asked h e a) before after
sweeps_values law h place e a before after swept same pairs items =
    record {
      more = values_found h place e a;
      grown = items;
      asks = all_members (IsAskedOf place (values_asked h e a)) (values_found h place e a) (value_is_asked law h place e a);
      told = asked_told h place e a after.askings.items found;
      kept = values_kept h place e a before after swept same pairs stay found;
    }
  where
    stay : (d : Datom) → is_asked_upto place before.askings.items d ≡ true → is_asked_upto place after.askings.items d ≡ true
    stay d told =
        subst (λ xs. is_asked_upto place xs d ≡ true) (sym items) (told-left place before.askings.items (values_found h place e a) d told)

    found : (d : Datom) → Contains (facts h) d → (nat_eq d.e e && nat_eq d.a a) ≡ true → is_asked_upto place after.askings.items d ≡ true
    found d among here =
        subst (λ xs. is_asked_upto place xs d ≡ true) (sym items)
        (told-right place before.askings.items (values_found h place e a) d (fact_is_found law h place e a d among here))

pub was_there : (is_new has : Bool) → is_new ≡ not has → is_new ≡ false → has ≡ true
was_there is_new true is again = refl
was_there is_new false is again = absurd (true≢false (sym is ∙ again))
