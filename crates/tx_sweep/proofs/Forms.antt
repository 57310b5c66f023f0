-- From form to form: what was asked so far is found.
use Rattle.std.proofs.Common.{◌≡◌, ℕ, zero, suc, ◌+◌, ◌<◌, ◌≤◌, Bool, true, false, not, ◌&&◌, ◌||◌, List, [], ◌∷◌, ◌++◌, length, map, take}
use Rattle.std.proofs.Common.{get_or, append_assoc, refl, ap, sym, ◌∙◌, subst, arith, inl, inr}
use Rattle.std.specs.Prelude.{nat_eq, Contains, filter, filter_map, flat_map, Option, None, Some, Vec}
use Rattle.std.specs.List.{All, list_any, cons_option}
use Rattle.std.specs.Option.{option_map_or}
use Rattle.std.specs.Ordering.{nat_cmp}
use Rattle.std.specs.BTreeMap.{is_at}
use Rattle.std.specs.declared.alloc.Global.{Global}
use Rattle.std.proofs.lemmas.Bool.{true≢false, or_cases, cases_lt}
use Rattle.std.proofs.lemmas.List.{append-nil}
use Rattle.std.proofs.lemmas.List.Elements.{All-append, All-weaker, All-nil}
use Rattle.fb_values.specs.declared.facts.Datom.{Datom}
use Rattle.fb_values.specs.declared.facts.Entry.{Entry}
use Rattle.fb_values.specs.declared.facts.Value.{Value}
use Rattle.fb_values.specs.declared.facts.Value.TheVariants.{Ref}
use Rattle.fb_model.specs.Facts.{is_of, facts, holds}
use Rattle.tx_model.specs.Asks.{Ask}
use Rattle.tx_model.specs.Tempids.{db_of}
use Rattle.tx_model.specs.Changes as changes
use Rattle.tx_model.specs.Changes.{withdrawn, is_about_set, closed_set, component_links}
use Rattle.tx_model.specs.Transaction.{Transaction}
use Rattle.tx_model.specs.ChangeRules.{at}
use Rattle.fb_model.proofs.Members.{kept}
use Rattle.tx_model.proofs.Lists.{first_of, later_of, not_in_none, image_of, comes_from}
use Rattle.tx_asks.specs.declared.acts.Act as program
use Rattle.tx_asks.specs.declared.triples.Asking.{Asking}
use Rattle.tx_asks.specs.Acts.{Act, adds, retracts, retracts_all, compares, retracts_entity, model_act, act_of, sweeps_of, AreActs}
use Rattle.tx_asks.specs.Triples.{IsAsked, AreAskings}
use Rattle.tx_sweep.specs.declared.found.Sweep.{Sweep}
use Rattle.tx_sweep.specs.Sweep.{acts_of, IsHeld, is_asked_upto, has_visited, pair_cmp, is_ref_to_one, AreSwept, IsAskedOf, Sweeps}
use Rattle.tx_sweep.proofs.Members.{all_of, any_of, some_of}
use Rattle.tx_sweep.proofs.Sweeping.{told-left, told-later}

-- ---- one more act

pub one_more_act : (g : Act → List Datom) (xs : List program.Act) (i : ℕ) (x : program.Act) → i < length xs → x ≡ get_or xs i x
    → flat_map g (map model_act (take i xs)) ++ g (model_act x) ≡ flat_map g (map model_act (take (i + 1) xs))
one_more_act g [] i x inside is = absurd (omega (arith, inside))
one_more_act g (y ∷ ys) zero x inside is = ap (λ z. g (model_act z)) is ∙ sym (append-nil (g (model_act y)))
one_more_act g (y ∷ ys) (suc i) x inside is =
    let one : suc i + 1 ≡ suc (i + 1) = omega arith in
    append_assoc (g (model_act y)) (flat_map g (map model_act (take i ys))) (g (model_act x))
    ∙ ap (λ l. g (model_act y) ++ l) (one_more_act g ys i x (omega (arith, inside)) is)
    ∙ ap (λ n. flat_map g (map model_act (take n (y ∷ ys)))) (sym one)

-- ---- what the forms before a place asked is found

abbrev pub lists_of : List Entry → List (Vec program.Act Global) → List (List Datom)
lists_of h forms = map (flat_map (sweeps_of (db_of h))) (acts_of forms)

pub record SweptTo (h : List Entry) (forms : List (Vec program.Act Global)) (i : ℕ) (found : Sweep) : Type 0 where
  pub swept : AreSwept (facts h) i found
  pub asked : All (IsAsked (lists_of h forms)) found.askings.items
  pub whole : (place : ℕ) (d : Datom) → place < i → Contains (at (lists_of h forms) place) d
      → is_asked_upto place found.askings.items d ≡ true

pub swept_none : (h : List Entry) (forms : List (Vec program.Act Global)) (found : Sweep) → found.visited.keys ≡ [] → found.pairs.keys ≡ []
    → found.askings.items ≡ [] → SweptTo h forms 0 found
swept_none h forms found no_visited no_pairs no_askings =
    record {
      swept = record {
        closed =
            all_of (λ (link : ℕ × ℕ). not (has_visited found link.0) || has_visited found link.1) (component_links (facts h))
            (λ link among. ap (λ b. not b || has_visited found link.1) (not_visited link.0));
        about = λ d among is. elim (or_cases (has_visited found d.e) (is_ref_to_one (has_visited found) d.v) is) [
          | inl first ↦ absurd (true≢false (sym first ∙ not_visited d.e))
          | inr value ↦ absurd (true≢false (sym value ∙ no_value d.v))
        ];
        paired = λ d among is. absurd (true≢false (sym is ∙ ap (list_any (is_at (pair_cmp (d.e, d.a)))) no_pairs));
      };
      asked = subst (λ (xs : List Asking). All (IsAsked (lists_of h forms)) xs) (sym no_askings) (All-nil (IsAsked (lists_of h forms)));
      whole = λ place d before among. absurd (omega (arith, before));
    }
  where
    not_visited : (x : ℕ) → has_visited found x ≡ false
    not_visited x = ap (list_any (is_at (nat_cmp x))) no_visited

    no_value : (v : Value) → is_ref_to_one (has_visited found) v ≡ false
    no_value (Ref e) = not_visited e
    no_value v = refl

-- the list of the form at the place
at_form : (h : List Entry) (forms : List (Vec program.Act Global)) (i : ℕ) (form : Vec program.Act Global) → i < length forms
    → form ≡ get_or forms i form
    → at (lists_of h forms) i ≡ flat_map (sweeps_of (db_of h)) (map model_act form.items)
at_form h [] i form inside is = absurd (omega (arith, inside))
at_form h (f ∷ forms) zero form inside is =
    ap (λ (v : Vec program.Act Global). flat_map (sweeps_of (db_of h)) (map model_act v.items)) (sym is)
at_form h (f ∷ forms) (suc i) form inside is = at_form h forms i form (omega (arith, inside)) is

later : (facts : List Datom) (i : ℕ) (found : Sweep) → AreSwept facts i found → AreSwept facts (i + 1) found
later facts i found swept =
    record {
      closed = swept.closed;
      about = λ d among is. told-later i (i + 1) found.askings.items d (omega arith) (swept.about d among is);
      paired = λ d among is. told-later i (i + 1) found.askings.items d (omega arith) (swept.paired d among is);
    }

pub swept_next : (h : List Entry) (forms : List (Vec program.Act Global)) (i : ℕ) (form : Vec program.Act Global) → i < length forms
    → form ≡ get_or forms i form → (before after : Sweep)
    → SweptTo h forms i before → Sweeps (facts h) i (flat_map (sweeps_of (db_of h)) (map model_act form.items)) before after
    → SweptTo h forms (i + 1) after
swept_next h forms i form inside is before after so_far sweeps =
    record {
      swept = later (facts h) i after sweeps.kept;
      asked = subst (λ (xs : List Asking). All (IsAsked (lists_of h forms)) xs) (sym sweeps.grown)
          (All-append (IsAsked (lists_of h forms)) before.askings.items sweeps.more so_far.asked
          (All-weaker (IsAskedOf i (flat_map (sweeps_of (db_of h)) (map model_act form.items)))
          (IsAsked (lists_of h forms)) by_form sweeps.more sweeps.asks));
      whole = λ place d before_it among. elim (cases_lt place i) [
        | inl early ↦
            subst (λ xs. is_asked_upto place xs d ≡ true) (sym sweeps.grown)
            (told-left place before.askings.items sweeps.more d (so_far.whole place d early among))
        | inr late ↦ now place d (omega (arith, before_it, late)) among
      ];
    }
  where
    list_is : at (lists_of h forms) i ≡ flat_map (sweeps_of (db_of h)) (map model_act form.items)
    list_is = at_form h forms i form inside is

    by_form : (asking : Asking) → IsAskedOf i (flat_map (sweeps_of (db_of h)) (map model_act form.items)) asking
        → IsAsked (lists_of h forms) asking
    by_form asking asks =
        ap (λ p. list_any (is_of asking.e asking.a asking.v) (at (lists_of h forms) p)) asks.0
        ∙ ap (list_any (is_of asking.e asking.a asking.v)) list_is
        ∙ asks.1

    now : (place : ℕ) (d : Datom) → place ≡ i → Contains (at (lists_of h forms) place) d → is_asked_upto place after.askings.items d ≡ true
    now place d same among =
        subst (λ p. is_asked_upto p after.askings.items d ≡ true) (sym same)
        (sweeps.told d (subst (λ xs. Contains xs d) list_is (subst (λ p. Contains (at (lists_of h forms) p) d) same among)))

past_none : (lists : List (List Datom)) (place : ℕ) → length lists ≤ place → at lists place ≡ []
past_none [] zero past = refl
past_none [] (suc place) past = refl
past_none (list ∷ lists) zero past = absurd (omega (arith, past))
past_none (list ∷ lists) (suc place) past = past_none lists place (omega (arith, past))

length-lists : (h : List Entry) (forms : List (Vec program.Act Global)) → length (lists_of h forms) ≡ length forms
length-lists h [] = refl
length-lists h (form ∷ forms) = ap suc (length-lists h forms)

pub swept_all : (h : List Entry) (forms : List (Vec program.Act Global)) (i : ℕ) (found : Sweep) → length forms ≤ i
    → SweptTo h forms i found → AreAskings (lists_of h forms) found.askings.items
swept_all h forms i found end so_far =
    record {
      asked = so_far.asked;
      whole = λ place d among. elim (cases_lt place i) [
        | inl early ↦ so_far.whole place d early among
        | inr late ↦ absurd (nothing place d late among)
      ];
    }
  where
    nothing : (place : ℕ) (d : Datom) → i ≤ place → Contains (at (lists_of h forms) place) d → ⊥
    nothing place d late among =
        let len = length-lists h forms in
        let none : Contains {X = Datom} [] d =
        subst (λ xs. Contains xs d) (past_none (lists_of h forms) place (omega (arith, len, late, end))) among in
        omega (arith, none.1)

-- ---- of the asks

-- what asks find is what their acts find
pub asks_of_acts : (find : Ask → List Datom) (of_act : Act → List Datom) (act : Ask → Option Act)
    → ((ask : Ask) → find ask ≡ option_map_or of_act (act ask) [])
    → (asks : List Ask) → flat_map find asks ≡ flat_map of_act (filter_map act asks)
asks_of_acts find of_act act same [] = refl
asks_of_acts find of_act act same (ask ∷ asks) =
    ap (λ l. l ++ flat_map find asks) (same ask)
    ∙ ap (λ l. option_map_or of_act (act ask) [] ++ l) (asks_of_acts find of_act act same asks)
    ∙ go (act ask)
  where
    go : (o : Option Act)
        → option_map_or of_act o [] ++ flat_map of_act (filter_map act asks) ≡ flat_map of_act (cons_option o (filter_map act asks))
    go None = refl
    go (Some a) = refl

pub forms_of_acts : (find : Ask → List Datom) (of_act : Act → List Datom) (act : Ask → Option Act)
    → ((ask : Ask) → find ask ≡ option_map_or of_act (act ask) [])
    → (forms : List (List Ask)) → map (flat_map find) forms ≡ map (flat_map of_act) (map (filter_map act) forms)
forms_of_acts find of_act act same [] = refl
forms_of_acts find of_act act same (asks ∷ forms) = cons (asks_of_acts find of_act act same asks) (forms_of_acts find of_act act same forms)
  where
    cons : {x y : List Datom} {xs ys : List (List Datom)} → x ≡ y → xs ≡ ys → (x ∷ xs) ≡ (y ∷ ys)
    cons p q = cc

-- what the transaction sweeps
pub swept_of_acts : (h : List Entry) (acts : List (List Act)) (tx : Transaction) → tx.db ≡ db_of h → AreActs acts tx
    → ((ask : Ask) → changes.sweeps tx.db tx.names ask ≡ option_map_or (sweeps_of tx.db) (act_of tx.db tx.names ask) [])
    → tx.swept ≡ map (flat_map (sweeps_of (db_of h))) acts
swept_of_acts h acts tx db_is are law =
    ap (λ (t : Transaction). t.swept) are.built
    ∙ forms_of_acts (changes.sweeps tx.db tx.names) (sweeps_of tx.db) (act_of tx.db tx.names) law tx.asks
    ∙ ap (map (flat_map (sweeps_of tx.db))) (sym are.same)
    ∙ ap (λ db. map (flat_map (sweeps_of db)) acts) db_is

-- ---- what is found holds

at_some : (lists : List (List Datom)) (place : ℕ) (d : Datom) → Contains (at lists place) d
    → (list : List Datom) × Contains lists list × Contains list d
at_some [] zero d among = absurd (not_in_none d among)
at_some [] (suc place) d among = absurd (not_in_none d among)
at_some (list ∷ lists) zero d among = (list, first_of list lists, among)
at_some (list ∷ lists) (suc place) d among = let rest = at_some lists place d among in (rest.0, later_of list rest.0 lists rest.1, rest.2)

fact_of : (h : List Entry) (test : Datom → Bool) (d : Datom) → Contains (map (withdrawn (db_of h)) (filter test (facts h))) d
    → (f : Datom) × Contains (facts h) f × (withdrawn (db_of h) f ≡ d)
fact_of h test d among =
    let image = image_of (withdrawn (db_of h)) (filter test (facts h)) d among in
    (image.original, (kept test (facts h) image.original image.among).member, image.image_is)

-- it is the retraction of a fact
sweep_of_fact : (h : List Entry) (act : Act) (d : Datom) → Contains (sweeps_of (db_of h) act) d
    → (f : Datom) × Contains (facts h) f × (withdrawn (db_of h) f ≡ d)
sweep_of_fact h (retracts_all e a) d among = fact_of h (λ d. nat_eq d.e e && nat_eq d.a a.id) d among
sweep_of_fact h (retracts_entity e) d among = fact_of h (is_about_set (closed_set (facts h) e)) d among
sweep_of_fact h (adds e a v) d among = absurd (not_in_none d among)
sweep_of_fact h (retracts e a v) d among = absurd (not_in_none d among)
sweep_of_fact h (compares e a old new) d among = absurd (not_in_none d among)

pub swept_held : (h : List Entry) (forms : List (Vec program.Act Global)) (askings : List Asking)
    → ((h : List Entry) (e a : ℕ) (v : Value) → holds h e a v ≡ list_any (is_of e a v) (facts h))
    → AreAskings (lists_of h forms) askings → All (IsHeld h) askings
swept_held h forms askings law are = All-weaker (IsAsked (lists_of h forms)) (IsHeld h) held askings are.asked
  where
    held : (asking : Asking) → IsAsked (lists_of h forms) asking → IsHeld h asking
    held asking asked =
        let one = some_of (is_of asking.e asking.a asking.v) (at (lists_of h forms) asking.place) asked in
        let list = at_some (lists_of h forms) asking.place one.0 one.1 in
        let image = image_of (flat_map (sweeps_of (db_of h))) (acts_of forms) list.0 list.1 in
        let from = comes_from (sweeps_of (db_of h)) image.original one.0 (subst (λ ds. Contains ds one.0) (sym image.image_is) list.2) in
        let fact = sweep_of_fact h from.source one.0 from.made in
        let own : is_of asking.e asking.a asking.v fact.0 ≡ true =
        subst (λ d. is_of asking.e asking.a asking.v d ≡ true) (sym fact.2) one.2 in
        law h asking.e asking.a asking.v ∙ any_of (is_of asking.e asking.a asking.v) (facts h) fact.0 fact.1 own
