-- What holds after the changes of a transaction, and who holds a unique value then.
use Rattle.std.proofs.Common.{◌≡◌, ℕ, ◌+◌, min, Bool, true, false, cond, not, ◌&&◌, ◌||◌, eqb, leb, List, [], ◌∷◌, ◌++◌, map, refl, ap, sym}
use Rattle.std.proofs.Common.{◌∙◌, subst, arith, inl, inr, ◌⊎◌, Option, Some, None}
use Rattle.std.specs.Prelude.{Contains, filter, is_some, IsTrue}
use Rattle.std.specs.List.{list_any, list_all}
use Rattle.std.specs.Option.{option_map_or}
use Rattle.std.proofs.lemmas.Bool.{true≢false, and_parts, and_from, or_cases, or_left, or_right, eqb-true, eq-eqb, cases_Bool}
use Rattle.std.proofs.lemmas.Bool.Decides.{nat_tests}
use Rattle.std.proofs.lemmas.List.Elements.{Contains-append_left, Contains-append_cases}
use Rattle.fb_values.specs.declared.facts.Datom.{Datom}
use Rattle.fb_values.specs.declared.facts.Entry.{Entry}
use Rattle.fb_values.specs.declared.facts.Value.{Value}
use Rattle.fb_values.specs.declared.indexes.Order.TheVariants.{Eavt}
use Rattle.fb_values.specs.Rising.{rises}
use Rattle.fb_model.specs.Rising.{in_order}
use Rattle.fb_model.specs.History.{basis, said}
use Rattle.fb_model.specs.Facts.{is_of, value_eq, holds_after, holds, Holds, is_last_assertion, standing, facts, least, holder}
use Rattle.fb_model.specs.Schema.{Attribute, attribute_of, is_one, is_unique}
use Rattle.fb_model.specs.Laws.{has_no_other_holder}
use Rattle.tx_model.specs.Changes.{withdrawn, is_replaced, implied}
use Rattle.tx_model.specs.Transaction.{Transaction, joined, is_change, with_names}
use Rattle.tx_model.specs.ChangeRules.{breaks_unique_conflict}
use Rattle.tx_model.specs.Step.{by_place}
use Rattle.tx_asks.specs.declared.triples.Triple.{Triple}
use Rattle.tx_asks.specs.Triples.{AreTriples}
use Rattle.tx_rules.specs.Places.{earlier, asked_at, first_where}
use Rattle.tx_rules.specs.Conflicts.{is_addition, conflicts, first_conflict}
use Rattle.tx_rules.specs.Holders.{is_taker, is_other_taker, has_another_holder, is_sole_holder, is_shared, first_shared}
use Rattle.tx_rules.proofs.Members.{first_of, later_of, which, any_member, IsSome, some_member, comes_from, goes_into, image_of}
use Rattle.tx_rules.proofs.Members.{not_in_none}
use Rattle.tx_rules.proofs.Reached.{first_where-members}
use Rattle.tx_rules.proofs.Triples.{IsOf, is_of-true, value_eq-true, value_eq-refl}
use Rattle.tx_rules.proofs.Crowded.{same_tests}
use Rattle.tx_rules.proofs.Ways.{IsBuilt, IsOwn, IsWay, added_way, retracted_way, swept_way, replaced_way, datom_of, of_added}
use Rattle.tx_rules.proofs.Promising.{any-in_order}
use Rattle.tx_after.specs.After.{AreChanges}
use Rattle.tx_rules.proofs.Rising.{in_order-rises}
use Rattle.tx_rules.proofs.Comparing.{all-in_order, kept_passes}
use Rattle.tx_rules.proofs.Judging as judging
use Rattle.tx_rules.proofs.Judging.{any-joined}

-- ---- what stands holds

is_of-same : (e a : ℕ) (v : Value) (d other : Datom) → is_of e a v d ≡ true → is_of d.e d.a d.v other ≡ is_of e a v other
is_of-same e a v d other h = let of = is_of-true e a v d h in rw (of.e_is, of.a_is, of.v_is) refl

list_any-same : (e a : ℕ) (v : Value) (d : Datom) (ds : List Datom) → is_of e a v d ≡ true
    → list_any (is_of d.e d.a d.v) ds ≡ list_any (is_of e a v) ds
list_any-same e a v d [] h = refl
list_any-same e a v d (other ∷ ds) h = rw (is_of-same e a v d other h, list_any-same e a v d ds h) refl

list_any-kept : (p : Datom → Bool) (keep : Bool) (d : Datom) (ds : List Datom)
    → list_any p (cond keep (d ∷ ds) ds) ≡ ((keep && p d) || list_any p ds)
list_any-kept p true d ds = refl
list_any-kept p false d ds = refl

last_is : (x t before : Bool) → (t || x) ≡ (((x && true) || t) || (before && false))
last_is false false false = refl
last_is false false true = refl
last_is false true before = refl
last_is true false before = refl
last_is true true before = refl

other_is : (x t rest : Bool) → (t || rest) ≡ (((x && false) || t) || rest)
other_is false t rest = refl
other_is true t rest = refl

and_true : (b : Bool) → b ≡ (b && true)
and_true false = refl
and_true true = refl

holds_after-standing : (before : Bool) (ds : List Datom) (e a : ℕ) (v : Value) →
    holds_after before ds e a v ≡ (list_any (is_of e a v) (standing ds) || (before && not (list_any (is_of e a v) ds)))
holds_after-standing before [] e a v = and_true before
holds_after-standing before (d ∷ ds) e a v =
    go (is_of e a v d) refl (holds_after-standing d.added ds e a v) (holds_after-standing before ds e a v)
  where
    go : (m : Bool) → is_of e a v d ≡ m
        → holds_after d.added ds e a v ≡ (list_any (is_of e a v) (standing ds) || (d.added && not (list_any (is_of e a v) ds)))
        → holds_after before ds e a v ≡ (list_any (is_of e a v) (standing ds) || (before && not (list_any (is_of e a v) ds)))
        → holds_after before (d ∷ ds) e a v
        ≡ (list_any (is_of e a v) (standing (d ∷ ds)) || (before && not (list_any (is_of e a v) (d ∷ ds))))
    go true is added_after before_after =
        rw (is, list_any-kept (is_of e a v) (is_last_assertion d ds) d (standing ds), is, list_any-same e a v d ds is)
        (added_after ∙ last_is (d.added && not (list_any (is_of e a v) ds)) (list_any (is_of e a v) (standing ds)) before)
    go false is added_after before_after =
        rw (is, list_any-kept (is_of e a v) (is_last_assertion d ds) d (standing ds), is)
        (before_after
        ∙ other_is (is_last_assertion d ds) (list_any (is_of e a v) (standing ds)) (before && not (list_any (is_of e a v) ds)))

or_false : (b : Bool) → (b || false) ≡ b
or_false false = refl
or_false true = refl

holds_after-append : (before : Bool) (xs ys : List Datom) (e a : ℕ) (v : Value)
    → holds_after before (xs ++ ys) e a v ≡ holds_after (holds_after before xs e a v) ys e a v
holds_after-append before [] ys e a v = refl
holds_after-append before (x ∷ xs) ys e a v = holds_after-append (cond (is_of e a v x) x.added before) xs ys e a v

flag_is : (added held : Bool) → cond added (not held) held ≡ true → added ≡ not held
flag_is true held is = sym is
flag_is false held is = sym (ap not is)

-- where each datom changes what held before them, one of the triple turns it
turned : (before : List Datom) (ds : List Datom) (e a : ℕ) (v : Value) (held : Bool) → list_all (is_change before) ds ≡ true
    → holds_after held ds e a v ≡ cond (list_any (is_of e a v) ds) (not (holds_after false before e a v)) held
turned before [] e a v held every = refl
turned before (d ∷ ds) e a v held every =
    let parts = and_parts (is_change before d) (list_all (is_change before) ds) every in
    turned before ds e a v (cond (is_of e a v d) d.added held) parts.1 ∙ go (is_of e a v d) refl parts.0
  where
    flag : is_of e a v d ≡ true → is_change before d ≡ true → d.added ≡ not (holds_after false before e a v)
    flag is change = let of = is_of-true e a v d is in
        flag_is d.added (holds_after false before e a v)
        (ap (λ held. cond d.added (not held) held) (sym (ap (λ n. holds_after false before n d.a d.v) of.e_is
        ∙ ap (λ n. holds_after false before e n d.v) of.a_is ∙ ap (holds_after false before e a) of.v_is))
        ∙ change)

    both : (b : Bool) (x : Bool) → cond b x x ≡ x
    both true x = refl
    both false x = refl

    go : (m : Bool) → is_of e a v d ≡ m → is_change before d ≡ true
        → cond (list_any (is_of e a v) ds) (not (holds_after false before e a v)) (cond m d.added held)
        ≡ cond (m || list_any (is_of e a v) ds) (not (holds_after false before e a v)) held
    go true is change =
        ap (cond (list_any (is_of e a v) ds) (not (holds_after false before e a v))) (flag is change)
        ∙ both (list_any (is_of e a v) ds) (not (holds_after false before e a v))
    go false is change = refl

-- ---- holders

some_is : (x y : ℕ) → Some x ≡ Some y → x ≡ y
some_is x y same = cc

module _ (a : ℕ) (v : Value) where
  pub holder-holds : (ds : List Datom) (o : ℕ) → holder ds a v ≡ Some o → list_any (is_of o a v) ds ≡ true
  holder-holds [] o is = absurd (cc)
  holder-holds (d ∷ ds) o is = go (eqb d.a a && value_eq d.v v) refl is (holder-holds ds o)
    where
      own : (eqb d.a a && value_eq d.v v) ≡ true → d.e ≡ o → list_any (is_of o a v) (d ∷ ds) ≡ true
      own passes same =
          or_left _ _
          (let parts = and_parts (eqb d.a a) (value_eq d.v v) passes in and_from _ _ (and_from _ _ (eq-eqb d.e o same) parts.0) parts.1)

      lesser : (p : ℕ) → min d.e p ≡ o → (d.e ≡ o) ⊎ (p ≡ o)
      lesser p same = elim (cases_Bool (leb d.e p)) [ inl low ↦ inl (grind (arith, nat_tests)) | inr high ↦ inr (grind (arith, nat_tests)) ]

      with_least : (h : Option ℕ) → (eqb d.a a && value_eq d.v v) ≡ true → least d.e h ≡ Some o
          → (h ≡ Some o → list_any (is_of o a v) ds ≡ true) → list_any (is_of o a v) (d ∷ ds) ≡ true
      with_least None passes same next = own passes (some_is d.e o same)
      with_least (Some p) passes same next =
          elim (lesser p (some_is (min d.e p) o same)) [ inl mine ↦ own passes mine | inr other ↦ or_right _ _ (next (ap Some other)) ]

      go : (b : Bool) → (eqb d.a a && value_eq d.v v) ≡ b → cond b (least d.e (holder ds a v)) (holder ds a v) ≡ Some o
          → (holder ds a v ≡ Some o → list_any (is_of o a v) ds ≡ true) → list_any (is_of o a v) (d ∷ ds) ≡ true
      go true passes same next = with_least (holder ds a v) passes same next
      go false passes same next = or_right _ _ (next same)

  holder-none : (ds : List Datom) (f : ℕ) → list_any (is_of f a v) ds ≡ true → holder ds a v ≡ None → ⊥
  holder-none [] f some none = true≢false (sym some)
  holder-none (d ∷ ds) f some none = go (eqb d.a a && value_eq d.v v) refl none (holder-none ds f)
    where
      never : (h : Option ℕ) → least d.e h ≡ None → ⊥
      never None is = cc
      never (Some p) is = cc

      go : (b : Bool) → (eqb d.a a && value_eq d.v v) ≡ b → cond b (least d.e (holder ds a v)) (holder ds a v) ≡ None
          → (list_any (is_of f a v) ds ≡ true → holder ds a v ≡ None → ⊥) → ⊥
      go true passes is next = never (holder ds a v) is
      go false passes is next = elim (or_cases (is_of f a v d) (list_any (is_of f a v) ds) some) [
        | inl now ↦ (let parts = and_parts (eqb d.e f && eqb d.a a) (value_eq d.v v) now in
            true≢false (sym (and_from _ _ (and_parts (eqb d.e f) (eqb d.a a) parts.0).1 parts.1) ∙ passes))
        | inr later ↦ next later is
      ]

  pub holder-is : (ds : List Datom) (f : ℕ) → list_any (is_of f a v) ds ≡ true
      → ((g : ℕ) → list_any (is_of g a v) ds ≡ true → f ≡ g) → holder ds a v ≡ Some f
  holder-is ds f some alone = go (holder ds a v) refl
    where
      go : (o : Option ℕ) → holder ds a v ≡ o → o ≡ Some f
      go None is = absurd (holder-none ds f some is)
      go (Some g) is = ap Some (sym (alone g (holder-holds ds g is)))

-- ---- the changes

kept : (p : Datom → Bool) (ds : List Datom) (d : Datom) → Contains (filter p ds) d → Contains ds d × (p d ≡ true)
kept p [] d member = absurd (not_in_none d member)
kept p (x ∷ ds) d member = go (p x) refl (kept p ds d) member
  where
    later : Contains ds d × (p d ≡ true) → Contains (x ∷ ds) d × (p d ≡ true)
    later is = (later_of x d ds is.0, is.1)

    go : (b : Bool) → p x ≡ b → (Contains (filter p ds) d → Contains ds d × (p d ≡ true))
        → Contains (cond b (x ∷ filter p ds) (filter p ds)) d → Contains (x ∷ ds) d × (p d ≡ true)
    go false is next rest = later (next rest)
    go true is next rest =
        elim (which x d (filter p ds) rest) [
          | inl same ↦ (subst (λ y. Contains (x ∷ ds) y) same (first_of x ds), subst (λ y. p y ≡ true) same is)
          | inr more ↦ later (next more)
        ]

any-kept : (p q : Datom → Bool) (ds : List Datom) (d : Datom) → Contains ds d → q d ≡ true → p d ≡ true → list_any p (filter q ds) ≡ true
any-kept p q [] d member kept passes = absurd (not_in_none d member)
any-kept p q (x ∷ ds) d member kept passes = go (q x) refl (which x d ds member) (any-kept p q ds d)
  where
    go : (b : Bool) → q x ≡ b → (x ≡ d) ⊎ Contains ds d → (Contains ds d → q d ≡ true → p d ≡ true → list_any p (filter q ds) ≡ true)
        → list_any p (cond b (x ∷ filter q ds) (filter q ds)) ≡ true
    go true is (inl same) next = or_left _ _ (subst (λ y. p y ≡ true) (sym same) passes)
    go true is (inr later) next = or_right _ _ (next later kept passes)
    go false is (inl same) next = absurd (true≢false (sym kept ∙ ap q (sym same) ∙ is))
    go false is (inr later) next = next later kept passes

-- in what way a datom is asked
data IsAskedBy (tx : Transaction) (d : Datom) : Type 0 where
  by_addition : Contains (joined tx.added) d → IsAskedBy tx d
  by_retraction : Contains (joined tx.retracted) d → IsAskedBy tx d
  by_sweep : Contains (joined tx.swept) d → IsAskedBy tx d
  by_replacement : Contains (joined tx.replaced) d → IsAskedBy tx d

abbrev all_asked : Transaction → List Datom
all_asked tx = joined tx.added ++ joined tx.retracted ++ joined tx.swept ++ joined tx.replaced

asked_by : (tx : Transaction) (d : Datom) → Contains (all_asked tx) d → IsAskedBy tx d
asked_by tx d member =
    elim (Contains-append_cases (joined tx.added ++ joined tx.retracted ++ joined tx.swept) (joined tx.replaced) d member) [
      | inr last ↦ by_replacement last
      | inl front ↦ (elim (Contains-append_cases (joined tx.added ++ joined tx.retracted) (joined tx.swept) d front) [
        | inr swept ↦ by_sweep swept
        | inl named ↦
            (elim (Contains-append_cases (joined tx.added) (joined tx.retracted) d named) [
              | inl added ↦ by_addition added
              | inr retracted ↦ by_retraction retracted
            ])
      ])
    ]

way_own : (tx : Transaction) (lists : List (List Datom)) (added : Bool) → IsWay tx lists added → (d : Datom) → Contains (joined lists) d
    → IsOwn tx.db added d
way_own tx lists added way d member =
    let from = comes_from (λ (l : List Datom). l) lists d member in way.own from.source d from.among from.made

way_flag : (tx : Transaction) (lists : List (List Datom)) (added : Bool) → IsWay tx lists added → (d : Datom) → Contains (joined lists) d
    → d.added ≡ added
way_flag tx lists added way d member = (way_own tx lists added way d member).flag

-- what the laws say of the history
pub record HasOneHolders (h : List Entry) : Type 0 where
  pub facts_hold : (e a : ℕ) (v : Value) → holds h e a v ≡ list_any (is_of e a v) (facts h)
  pub one_holder : (e f a : ℕ) (v : Value) → IsTrue (is_unique (facts h) a) → Holds h e a v → Holds h f a v → e ≡ f

module _ (tx : Transaction) (built : IsBuilt tx) where
  abbrev with : Transaction
  with = with_names tx.db tx.asks tx.names

  pub after_is : tx.after ≡ standing (said tx.db.history ++ tx.changes)
  after_is =
      ap (λ (x : Transaction). x.after) built
      ∙ ap (λ l. standing (said tx.db.history ++ l)) (sym (ap (λ (x : Transaction). x.changes) built))

  changes_are : tx.changes ≡ in_order Eavt (filter (is_change (said tx.db.history)) (all_asked tx))
  changes_are =
      ap (λ (x : Transaction). x.changes) built
      ∙ ap (λ l. in_order Eavt (filter (is_change (said tx.db.history)) l))
      (ap (λ x. joined x ++ joined with.retracted ++ joined with.swept ++ joined with.replaced)
      (sym (ap (λ (x : Transaction). x.added) built))
      ∙ ap (λ x. joined tx.added ++ joined x ++ joined with.swept ++ joined with.replaced)
      (sym (ap (λ (x : Transaction). x.retracted) built))
      ∙ ap (λ x. joined tx.added ++ joined tx.retracted ++ joined x ++ joined with.replaced) (sym (ap (λ (x : Transaction). x.swept) built))
      ∙ ap (λ x. joined tx.added ++ joined tx.retracted ++ joined tx.swept ++ joined x) (sym (ap (λ (x : Transaction). x.replaced) built)))

  asked_own : (d : Datom) → IsAskedBy tx d → d.t ≡ basis tx.db.history + 1
  asked_own d (by_addition asked) = (way_own tx tx.added true (added_way tx built) d asked).own_t
  asked_own d (by_retraction asked) = (way_own tx tx.retracted false (retracted_way tx built) d asked).own_t
  asked_own d (by_sweep asked) = (way_own tx tx.swept false (swept_way tx built) d asked).own_t
  asked_own d (by_replacement asked) = (way_own tx tx.replaced false (replaced_way tx built) d asked).own_t

  -- they are those of one entry
  pub changes_in_order : AreChanges tx.changes
  changes_in_order = record {
    t = basis tx.db.history + 1;
    of_t = subst (λ l. list_all (λ d. eqb d.t (basis tx.db.history + 1)) l ≡ true) (sym changes_are)
        (all-in_order (λ d. eqb d.t (basis tx.db.history + 1)) (filter (is_change (said tx.db.history)) (all_asked tx))
        (kept_passes (is_change (said tx.db.history)) (λ d. eqb d.t (basis tx.db.history + 1)) (all_asked tx)
        (λ d member is. eq-eqb d.t (basis tx.db.history + 1) (asked_own d (asked_by tx d member)))));
    rising =
        subst (λ l. rises Eavt l ≡ true) (sym changes_are) (in_order-rises Eavt (filter (is_change (said tx.db.history)) (all_asked tx)));
  }

module _ (tx : Transaction) (ts : List Triple) (schema : List Datom) (built : IsBuilt tx) (triples : AreTriples tx ts)
    (tells : (e : ℕ) → attribute_of schema e ≡ attribute_of tx.db.facts e) where
  abbrev h : List Entry
  h = tx.db.history

  -- ---- what holds after the changes

  abbrev held : ℕ → ℕ → Value → Bool
  held e a v = holds_after false (said h) e a v

  abbrev changed : ℕ → ℕ → Value → Bool
  changed e a v = list_any (is_of e a v) tx.changes

  each_change : list_all (is_change (said h)) tx.changes ≡ true
  each_change =
      subst (λ l. list_all (is_change (said h)) l ≡ true)
      (sym (changes_are tx built)) (all-in_order (is_change (said h)) (filter (is_change (said h)) (all_asked tx))
      (kept_passes (is_change (said h)) (is_change (said h)) (all_asked tx) (λ d member is. is)))

  after-holds : (e a : ℕ) (v : Value) → list_any (is_of e a v) tx.after ≡ cond (changed e a v) (not (held e a v)) (held e a v)
  after-holds e a v =
      ap (list_any (is_of e a v)) (after_is tx built)
      ∙ sym (holds_after-standing false (said h ++ tx.changes) e a v ∙ or_false (list_any (is_of e a v) (standing (said h ++ tx.changes))))
      ∙ holds_after-append false (said h) tx.changes e a v
      ∙ turned (said h) tx.changes e a v (held e a v) each_change

  of-blind : (e a : ℕ) (v : Value) (x y : Datom) → x.e ≡ y.e → x.a ≡ y.a → x.v ≡ y.v → is_of e a v x ≡ is_of e a v y
  of-blind e a v x y e_is a_is v_is =
      ap (λ n. eqb n e && eqb x.a a && value_eq x.v v) e_is
      ∙ ap (λ n. eqb y.e e && eqb n a && value_eq x.v v) a_is
      ∙ ap (λ w. eqb y.e e && eqb y.a a && value_eq w v) v_is

  changed-kept : (e a : ℕ) (v : Value) → changed e a v ≡ list_any (is_of e a v) (filter (is_change (said h)) (all_asked tx))
  changed-kept e a v =
      ap (list_any (is_of e a v)) (changes_are tx built)
      ∙ any-in_order (is_of e a v) (of-blind e a v) (filter (is_change (said h)) (all_asked tx))

  record IsChangedBy (e a : ℕ) (v : Value) : Type 0 where
    datom : Datom
    asked : IsAskedBy tx datom
    of : IsOf e a v datom
    flag : datom.added ≡ not (held e a v)

  held_same : (e a : ℕ) (v : Value) (d : Datom) → IsOf e a v d → held d.e d.a d.v ≡ held e a v
  held_same e a v d of = ap (λ n. held n d.a d.v) of.e_is ∙ ap (λ n. held e n d.v) of.a_is ∙ ap (held e a) of.v_is

  changed_by : (e a : ℕ) (v : Value) → changed e a v ≡ true → IsChangedBy e a v
  changed_by e a v some =
      let d = some_member (is_of e a v) (filter (is_change (said h)) (all_asked tx)) (sym (changed-kept e a v) ∙ some) in
      let is = kept (is_change (said h)) (all_asked tx) d.member d.among in
      let of = is_of-true e a v d.member d.passes in
      record {
        datom = d.member;
        asked = asked_by tx d.member is.0;
        of = of;
        flag = flag_is d.member.added (held e a v) (ap (λ b. cond d.member.added (not b) b) (sym (held_same e a v d.member of)) ∙ is.1);
      }

  changed_from : (e a : ℕ) (v : Value) (d : Datom) → Contains (all_asked tx) d → IsOf e a v d → is_of e a v d ≡ true
      → d.added ≡ not (held e a v) → changed e a v ≡ true
  changed_from e a v d member of is flag =
      changed-kept e a v ∙ any-kept (is_of e a v) (is_change (said h)) (all_asked tx) d member
      (ap (λ b. cond d.added (not b) b) (held_same e a v d of) ∙ ap (λ b. cond b (not (held e a v)) (held e a v)) flag
      ∙ either (held e a v)) is
    where
      either : (b : Bool) → cond (not b) (not b) b ≡ true
      either true = refl
      either false = refl

  unique_same : (a : ℕ) → is_unique tx.db.facts a ≡ is_unique schema a
  unique_same a = ap (λ o. option_map_or (λ (attribute : Attribute). not (eqb attribute.uniqueness 0)) o false) (sym (tells a))

  module _ (laws : HasOneHolders tx.db.history) (facts_are : tx.db.facts ≡ facts tx.db.history)
      (none : first_conflict schema ts ≡ None) where
    -- no addition conflicts
    none_at : (p : Triple → Bool) (place : Triple → Option ℕ) (l : List Triple) (t : Triple) → first_where p place l ≡ None → Contains l t
        → cond (p t) (place t) None ≡ None
    none_at p place [] t is member = absurd (not_in_none t member)
    none_at p place (x ∷ l) t is member =
        elim (which x t l member) [
          | inl same ↦ subst (λ y. cond (p y) (place y) None ≡ None) same (front (cond (p x) (place x) None) (first_where p place l) is)
          | inr later ↦ none_at p place l t (back (cond (p x) (place x) None) (first_where p place l) is) later
        ]
      where
        front : (m n : Option ℕ) → earlier m n ≡ None → m ≡ None
        front None n is = refl
        front (Some m) None is = absurd (cc)
        front (Some m) (Some n) is = absurd (cc)

        back : (m n : Option ℕ) → earlier m n ≡ None → n ≡ None
        back None n is = is
        back (Some m) None is = refl
        back (Some m) (Some n) is = absurd (cc)

    unbroken : (t : Triple) → Contains ts t → is_addition t ≡ true → conflicts schema ts t ≡ true → ⊥
    unbroken t member added conflict =
        some_place t.added (earlier t.retracted (earlier t.swept t.replaced)) added
        (sym (ap (λ b. cond b (asked_at t) None) conflict) ∙ none_at (conflicts schema ts) asked_at ts t none member)
      where
        some_place : (m n : Option ℕ) → is_some m ≡ true → earlier m n ≡ None → ⊥
        some_place None n some is = true≢false (sym some)
        some_place (Some m) None some is = cc
        some_place (Some m) (Some n) some is = cc

    -- a triple that is added is not taken away
    stays : (t : Triple) → Contains ts t → is_addition t ≡ true → (d : Datom) → IsOf t.e t.a t.v d → is_of t.e t.a t.v d ≡ true
        → d.added ≡ false → IsAskedBy tx d → ⊥
    stays t member added d of is flag (by_addition asked) = true≢false (sym (way_flag tx tx.added true (added_way tx built) d asked) ∙ flag)
    stays t member added d of is flag (by_retraction asked) =
        unbroken t member added
        (and_from _ _ added (or_right _ _ (or_left _ _ (ap is_some ((judging.told_of tx ts schema built triples tells t member).retracted)
        ∙ judging.some-first_yes (list_any (is_of t.e t.a t.v)) 0 tx.retracted ∙ sym (any-joined (is_of t.e t.a t.v) tx.retracted)
        ∙ any_member (is_of t.e t.a t.v) (joined tx.retracted) d asked is))))
    stays t member added d of is flag (by_sweep asked) =
        unbroken t member added
        (and_from _ _ added (or_right _ _ (or_right _ _ (ap is_some ((judging.told_of tx ts schema built triples tells t member).swept)
        ∙ judging.some-first_yes (list_any (is_of t.e t.a t.v)) 0 tx.swept ∙ sym (any-joined (is_of t.e t.a t.v) tx.swept)
        ∙ any_member (is_of t.e t.a t.v) (joined tx.swept) d asked is))))
    stays t member added d of is flag (by_replacement asked) =
        let from = comes_from (λ (l : List Datom). l) tx.replaced d asked in
        let list = image_of (implied tx.db) tx.added from.source (subst (λ ls. Contains ls from.source) replaced_is from.among) in
        let fact =
        image_of (withdrawn tx.db) (filter (λ x. is_one tx.db.facts x.a && list_any (is_replaced x) list.original) tx.db.facts) d
        (subst (λ ds. Contains ds d) (sym list.image_is) from.made) in
        let passes =
        (kept (λ x. is_one tx.db.facts x.a && list_any (is_replaced x) list.original) tx.db.facts fact.original fact.among).1 in
        let parts = and_parts (is_one tx.db.facts fact.original.a) (list_any (is_replaced fact.original) list.original) passes in
        let other = some_member (is_replaced fact.original) list.original parts.1 in
        let e_is : fact.original.e ≡ t.e = ap (λ (x : Datom). x.e) fact.image_is ∙ of.e_is in
        let a_is : fact.original.a ≡ t.a = ap (λ (x : Datom). x.a) fact.image_is ∙ of.a_is in
        let v_is : fact.original.v ≡ t.v = ap (λ (x : Datom). x.v) fact.image_is ∙ of.v_is in
        let same : is_replaced fact.original other.member
        ≡ (eqb other.member.e t.e && eqb other.member.a t.a && not (value_eq other.member.v t.v)) =
        ap (λ n. eqb other.member.e n && eqb other.member.a fact.original.a && not (value_eq other.member.v fact.original.v)) e_is
        ∙ ap (λ n. eqb other.member.e t.e && eqb other.member.a n && not (value_eq other.member.v fact.original.v)) a_is
        ∙ ap (λ w. eqb other.member.e t.e && eqb other.member.a t.a && not (value_eq other.member.v w)) v_is in
        let beside =
        sym (judging.another_same tx ts schema built triples tells t true)
        ∙ any_member (λ x. eqb x.e t.e && eqb x.a t.a && not (value_eq x.v t.v)) (joined tx.added) other.member
        (goes_into (λ (l : List Datom). l) tx.added list.original other.member list.among other.among) (sym same ∙ other.passes) in
        let one = sym (ap (is_one schema) a_is) ∙ sym (judging.one_same tx ts schema built triples tells fact.original.a) ∙ parts.0 in
        unbroken t member added (and_from _ _ added (or_left _ _ (and_from _ _ one beside)))
      where
        replaced_is : tx.replaced ≡ map (implied tx.db) tx.added
        replaced_is = ap (λ (x : Transaction). x.replaced) built ∙ ap (map (implied tx.db)) (sym (ap (λ (x : Transaction). x.added) built))

    -- two entities would have the value
    abbrev is_shared_by : Triple → Bool
    is_shared_by t = list_any (is_other_taker t) ts || has_another_holder h tx.changes t

    module _ (t : Triple) (unique : is_unique tx.db.facts t.a ≡ true) where
      abbrev is_another : Datom → Bool
      is_another o = (eqb o.a t.a && value_eq o.v t.v) && not (eqb o.e t.e)

      unique_before : is_unique (facts h) t.a ≡ true
      unique_before = subst (λ ds. is_unique ds t.a ≡ true) facts_are unique

      held_by : (f : ℕ) → held f t.a t.v ≡ true → changed f t.a t.v ≡ false → not (eqb f t.e) ≡ true
          → has_another_holder h tx.changes t ≡ true
      held_by f holding alone other =
          ap (λ o. option_map_or (λ e. not (eqb e t.e) && not (list_any (is_of e t.a t.v) tx.changes)) o false)
          (holder-is t.a t.v (facts h) f (sym (laws.facts_hold f t.a t.v) ∙ holding)
          (λ g some. laws.one_holder f g t.a t.v unique_before holding (laws.facts_hold g t.a t.v ∙ some)))
          ∙ and_from _ _ other (ap not alone)

      to_shared : list_any is_another tx.after ≡ true → is_shared_by t ≡ true
      to_shared some =
          let o = some_member is_another tx.after some in
          let outer = and_parts (eqb o.member.a t.a && value_eq o.member.v t.v) (not (eqb o.member.e t.e)) o.passes in
          let parts = and_parts (eqb o.member.a t.a) (value_eq o.member.v t.v) outer.0 in
          let after =
          sym (after-holds o.member.e t.a t.v)
          ∙ any_member (is_of o.member.e t.a t.v) tx.after o.member o.among
          (and_from _ _ (and_from _ _ (eq-eqb o.member.e o.member.e refl) parts.0) parts.1) in
          go o.member.e outer.1 (changed o.member.e t.a t.v) refl after
        where
          by_asked : (f : ℕ) → not (eqb f t.e) ≡ true → (d : Datom) → IsOf f t.a t.v d → d.added ≡ true → IsAskedBy tx d
              → is_shared_by t ≡ true
          by_asked f other d of flag (by_addition asked) =
              let told = judging.added_told tx ts schema built triples tells d asked in
              or_left _ _ (any_member (is_other_taker t) ts told.triple told.among
              (and_from _ _ (and_from _ _ (and_from _ _
              (judging.told_addition tx ts schema built triples tells told.triple told.among
              ∙ any_member (is_of told.triple.e told.triple.a told.triple.v) (joined tx.added) d asked
              (judging.of_triple tx ts schema built triples tells d told.triple told.e_is told.a_is told.v_is))
              (eq-eqb told.triple.a t.a (told.a_is ∙ of.a_is)))
              (subst (λ w. value_eq w t.v ≡ true) (sym (told.v_is ∙ of.v_is)) (value_eq-refl t.v)))
              (ap (λ n. not (eqb n t.e)) (told.e_is ∙ of.e_is) ∙ other)))
          by_asked f other d of flag (by_retraction asked) =
              absurd (true≢false (sym flag ∙ way_flag tx tx.retracted false (retracted_way tx built) d asked))
          by_asked f other d of flag (by_sweep asked) =
              absurd (true≢false (sym flag ∙ way_flag tx tx.swept false (swept_way tx built) d asked))
          by_asked f other d of flag (by_replacement asked) =
              absurd (true≢false (sym flag ∙ way_flag tx tx.replaced false (replaced_way tx built) d asked))

          go : (f : ℕ) → not (eqb f t.e) ≡ true → (c : Bool) → changed f t.a t.v ≡ c → cond c (not (held f t.a t.v)) (held f t.a t.v) ≡ true
              → is_shared_by t ≡ true
          go f other false alone after = or_right _ _ (held_by f after alone other)
          go f other true some after = let by = changed_by f t.a t.v some in by_asked f other by.datom by.of (by.flag ∙ after) by.asked

      -- another entity that has the value afterwards
      found_after : (f : ℕ) → not (eqb f t.e) ≡ true → cond (changed f t.a t.v) (not (held f t.a t.v)) (held f t.a t.v) ≡ true
          → list_any is_another tx.after ≡ true
      found_after f other after =
          let o = some_member (is_of f t.a t.v) tx.after (after-holds f t.a t.v ∙ after) in
          let of = is_of-true f t.a t.v o.member o.passes in
          any_member is_another tx.after o.member o.among
          (and_from _ _
          (and_from _ _ (eq-eqb o.member.a t.a of.a_is) (subst (λ w. value_eq w t.v ≡ true) (sym of.v_is) (value_eq-refl t.v)))
          (ap (λ n. not (eqb n t.e)) of.e_is ∙ other))

      taken_after : (other : Triple) → Contains ts other → is_addition other ≡ true
          → cond (changed other.e other.a other.v) (not (held other.e other.a other.v)) (held other.e other.a other.v) ≡ true
      taken_after other member added = go (held other.e other.a other.v) refl (changed other.e other.a other.v) refl
        where
          d : IsSome (is_of other.e other.a other.v) (joined tx.added)
          d =
              some_member (is_of other.e other.a other.v) (joined tx.added)
              (sym (judging.told_addition tx ts schema built triples tells other member) ∙ added)

          in_all : Contains (all_asked tx) d.member
          in_all =
              Contains-append_left (joined tx.added ++ joined tx.retracted ++ joined tx.swept)
              (joined tx.replaced) d.member (Contains-append_left (joined tx.added ++ joined tx.retracted) (joined tx.swept) d.member
              (Contains-append_left (joined tx.added) (joined tx.retracted) d.member d.among))

          go : (b : Bool) → held other.e other.a other.v ≡ b → (c : Bool) → changed other.e other.a other.v ≡ c → cond c (not b) b ≡ true
          go true holding false alone = refl
          go true holding true some =
              let by = changed_by other.e other.a other.v some in
              absurd (stays other member added by.datom by.of
              (and_from _ _ (and_from _ _ (eq-eqb by.datom.e other.e by.of.e_is) (eq-eqb by.datom.a other.a by.of.a_is))
              (subst (λ w. value_eq w other.v ≡ true) (sym by.of.v_is) (value_eq-refl other.v))) (by.flag ∙ ap not holding) by.asked)
          go false holding true some = refl
          go false holding false alone =
              absurd
              (true≢false (sym (changed_from other.e other.a other.v d.member in_all (is_of-true other.e other.a other.v d.member d.passes)
              d.passes (way_flag tx tx.added true (added_way tx built) d.member d.among ∙ sym (ap not holding))) ∙ alone))

      from_taker : list_any (is_other_taker t) ts ≡ true → list_any is_another tx.after ≡ true
      from_taker some =
          let other = some_member (is_other_taker t) ts some in
          let outer =
          and_parts (is_addition other.member && eqb other.member.a t.a && value_eq other.member.v t.v)
          (not (eqb other.member.e t.e)) other.passes in
          let middle = and_parts (is_addition other.member && eqb other.member.a t.a) (value_eq other.member.v t.v) outer.0 in
          let inner = and_parts (is_addition other.member) (eqb other.member.a t.a) middle.0 in
          let a_is = eqb-true other.member.a t.a inner.1 in
          let v_is = value_eq-true other.member.v t.v middle.1 in
          found_after other.member.e outer.1
          (subst (λ w. cond (changed other.member.e t.a w) (not (held other.member.e t.a w)) (held other.member.e t.a w) ≡ true) v_is
          (subst (λ n. cond (changed other.member.e n other.member.v) (not (held other.member.e n other.member.v))
          (held other.member.e n other.member.v) ≡ true) a_is (taken_after other.member other.among inner.0)))

      from_held : has_another_holder h tx.changes t ≡ true → list_any is_another tx.after ≡ true
      from_held is = go (holder (facts h) t.a t.v) refl is
        where
          go : (o : Option ℕ) → holder (facts h) t.a t.v ≡ o
              → option_map_or (λ e. not (eqb e t.e) && not (list_any (is_of e t.a t.v) tx.changes)) o false ≡ true
              → list_any is_another tx.after ≡ true
          go None holder_is is = absurd (true≢false (sym is))
          go (Some g) holder_is is =
              let parts = and_parts (not (eqb g t.e)) (not (list_any (is_of g t.a t.v) tx.changes)) is in
              let holding : held g t.a t.v ≡ true = laws.facts_hold g t.a t.v ∙ holder-holds t.a t.v (facts h) g holder_is in
              found_after g parts.0 (unchanged (changed g t.a t.v) (held g t.a t.v) parts.1 holding)
            where
              unchanged : (c b : Bool) → not c ≡ true → b ≡ true → cond c (not b) b ≡ true
              unchanged false b c_is b_is = b_is
              unchanged true b c_is b_is = absurd (true≢false (sym c_is))

      shared_same : list_any is_another tx.after ≡ is_shared_by t
      shared_same =
          same_tests _ _ to_shared (λ some. elim (or_cases (list_any (is_other_taker t) ts) (has_another_holder h tx.changes t) some) [
            | inl taken ↦ from_taker taken
            | inr is ↦ from_held is
          ])

    no_other-any : (t : Triple) (ds : List Datom)
        → not (has_no_other_holder ds (datom_of t true)) ≡ list_any (λ o. (eqb o.a t.a && value_eq o.v t.v) && not (eqb o.e t.e)) ds
    no_other-any t [] = refl
    no_other-any t (o ∷ ds) =
        turned_round (eqb o.a t.a && value_eq o.v t.v) (eqb o.e t.e) (has_no_other_holder ds (datom_of t true))
        ∙ ap (λ b. ((eqb o.a t.a && value_eq o.v t.v) && not (eqb o.e t.e)) || b) (no_other-any t ds)
      where
        turned_round : (x y r : Bool) → not ((not x || y) && r) ≡ ((x && not y) || not r)
        turned_round true true r = refl
        turned_round true false r = refl
        turned_round false y r = refl

    -- where no other entity can have the value, none has it
    pub unique_conflict : ((t : Triple) → Contains ts t → is_taker schema t ≡ true → is_sole_holder h schema t ≡ true
        → has_another_holder h tx.changes t ≡ false)
        → by_place tx (breaks_unique_conflict tx) ≡ first_shared schema tx.db.history tx.changes ts
    unique_conflict alone =
        of_added tx ts triples (λ d. is_unique tx.db.facts d.a && not (has_no_other_holder tx.after d)) (λ d. refl) built
        ∙ first_where-members (λ t. is_unique tx.db.facts t.a && not (has_no_other_holder tx.after (datom_of t true)))
        (λ t. is_taker schema t && is_shared h schema tx.changes ts t) (λ t. t.added) (λ t. t.added) ts
        (λ t member. by_added t member t.added refl (is_unique tx.db.facts t.a) refl)
      where
        asked : (t : Triple) → Contains ts t → is_taker schema t ≡ true → is_shared_by t ≡ is_shared h schema tx.changes ts t
        asked t member taker = ap (λ b. list_any (is_other_taker t) ts || b) (go (is_sole_holder h schema t) refl)
          where
            go : (b : Bool) → is_sole_holder h schema t ≡ b
                → has_another_holder h tx.changes t ≡ (not b && has_another_holder h tx.changes t)
            go true is = alone t member taker is
            go false is = refl

        by_added : (t : Triple) → Contains ts t → (o : Option ℕ) → t.added ≡ o → (u : Bool) → is_unique tx.db.facts t.a ≡ u
            → cond (u && not (has_no_other_holder tx.after (datom_of t true))) o None
            ≡ cond ((is_some o && is_unique schema t.a) && is_shared h schema tx.changes ts t) o None
        by_added t member None added_is u u_is = nothing (u && not (has_no_other_holder tx.after (datom_of t true)))
          where
            nothing : (b : Bool) → ◌≡◌ {A = Option ℕ} (cond b None None) None
            nothing true = refl
            nothing false = refl
        by_added t member (Some n) added_is true u_is =
            let unique = sym (unique_same t.a) ∙ u_is in
            ap (λ b. cond b (Some n) None)
            (no_other-any t tx.after ∙ shared_same t u_is ∙ asked t member (and_from _ _ (ap is_some added_is) unique))
            ∙ ap (λ b. cond (b && is_shared h schema tx.changes ts t) (Some n) None) (sym unique)
        by_added t member (Some n) added_is false u_is =
            ap (λ b. cond (b && is_shared h schema tx.changes ts t) (Some n) None) (sym u_is ∙ unique_same t.a)
