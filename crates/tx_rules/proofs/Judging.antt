-- The rules on datoms that are asked, triple by triple.
use Rattle.std.proofs.Common.{◌≡◌, ℕ, ◌+◌, Bool, true, false, cond, not, ◌&&◌, ◌||◌, eqb, leb, List, [], ◌∷◌, ◌++◌, map, refl, ap, sym, ◌∙◌}
use Rattle.std.proofs.Common.{subst, arith, Option, Some, None}
use Rattle.std.specs.Prelude.{Contains, is_some}
use Rattle.std.specs.List.{list_any}
use Rattle.std.specs.Option.{option_map_or}
use Rattle.std.proofs.lemmas.Bool.{and_parts, and_from, eqb-true, eq-eqb}
use Rattle.std.proofs.lemmas.Bool.Decides.{nat_tests}
use Rattle.std.proofs.lemmas.List.Folds.{list_any-append}
use Rattle.fb_values.specs.declared.facts.Datom.{Datom}
use Rattle.fb_model.specs.Facts.{is_of, value_eq}
use Rattle.fb_numbers.specs.Numbers.{ident, value_type, cardinality, unique, is_component, index, tx_instant, is_builtin}
use Rattle.fb_model.specs.Schema.{Attribute, attribute_of, is_attribute, is_one, is_whole}
use Rattle.fb_model.specs.Laws.{is_forbidden, is_alteration, says_attribute}
use Rattle.tx_model.specs.Transaction.{Transaction, joined}
use Rattle.tx_model.specs.ChangeRules.{asked, asked_triples, is_recorded, is_asked_in, has_another_value, conflicts as model_conflicts}
use Rattle.tx_model.specs.ChangeRules.{breaks_datoms_conflict, describes as model_describes, is_new_attribute, breaks_incomplete_attribute}
use Rattle.tx_model.specs.ChangeRules.{breaks_attribute_fixed, keeps_its_promise, alters_a_promise, breaks_alteration_conflict}
use Rattle.tx_model.specs.Step.{first_yes, by_place}
use Rattle.tx_asks.specs.declared.triples.Triple.{Triple}
use Rattle.tx_asks.specs.Triples.{first_asking, is_triple, IsExact, AreTriples}
use Rattle.tx_rules.specs.Places.{earlier, asked_at, named_at, recorded_at, first_where}
use Rattle.tx_rules.specs.Conflicts.{is_addition, is_withdrawn, is_another_value, conflicts, first_conflict}
use Rattle.tx_rules.specs.Fixed.{is_fixed, first_fixed}
use Rattle.tx_rules.specs.Whole.{describes, alters, is_of_new_attribute, lack_of, lack_at, first_incomplete}
use Rattle.tx_rules.specs.Promises.{promises_anew, verdict_of, broken_at, first_broken}
use Rattle.tx_rules.proofs.Members.{any_member, some_member}
use Rattle.tx_rules.proofs.Reached.{first_yes-or, first_where-join, first_where-members}
use Rattle.tx_rules.proofs.Earlier.{earlier-none}
use Rattle.tx_rules.proofs.Triples.{is_of-true, value_eq-true, value_eq-refl}
use Rattle.tx_rules.proofs.Crowded.{same_tests}
use Rattle.tx_rules.proofs.Ways.{IsBuilt, added_way, datom_of, told, of_named, of_asked}

-- ---- lists of lists

pub some-first_yes : {B : Type 0} (g : B → Bool) (m : ℕ) (ls : List B) → is_some (first_yes m (map g ls)) ≡ list_any g ls
some-first_yes g m [] = refl
some-first_yes g m (l ∷ ls) = go (g l) (some-first_yes g (m + 1) ls)
  where
    go : (b : Bool) → is_some (first_yes (m + 1) (map g ls)) ≡ list_any g ls
        → is_some (cond b (Some m) (first_yes (m + 1) (map g ls))) ≡ (b || list_any g ls)
    go true rest = refl
    go false rest = rest

pub any-joined : (p : Datom → Bool) (lists : List (List Datom)) → list_any p (joined lists) ≡ list_any (list_any p) lists
any-joined p [] = refl
any-joined p (l ∷ ls) = list_any-append p l (joined ls) ∙ ap (λ b. list_any p l || b) (any-joined p ls)

-- ---- places under one test

spread : (b : Bool) (x y z w : Option ℕ)
    → earlier (cond b x None) (earlier (cond b y None) (earlier (cond b z None) (cond b w None)))
    ≡ cond b (earlier x (earlier y (earlier z w))) None
spread true x y z w = refl
spread false x y z w = refl

-- of what is recorded the one part or the other counts
recorded : (held a r q : Bool) (x y z w : Option ℕ) → (held ≡ false → a ≡ q) → (held ≡ true → r ≡ q)
    → earlier (cond (not held && a) x None)
    (earlier (cond (held && r) y None) (earlier (cond (held && r) z None) (cond (held && r) w None)))
    ≡ cond q (cond held (earlier y (earlier z w)) x) None
recorded false a r q x y z w added gone = earlier-none (cond a x None) ∙ ap (λ b. cond b x None) (added refl)
recorded true a r q x y z w added gone = three r y z w ∙ ap (λ b. cond b (earlier y (earlier z w)) None) (gone refl)
  where
    three : (b : Bool) (x y z : Option ℕ)
        → earlier (cond b x None) (earlier (cond b y None) (cond b z None)) ≡ cond b (earlier x (earlier y z)) None
    three true x y z = refl
    three false x y z = refl

module _ (tx : Transaction) (ts : List Triple) (schema : List Datom) (built : IsBuilt tx) (triples : AreTriples tx ts)
    (tells : (e : ℕ) → attribute_of schema e ≡ attribute_of tx.db.facts e) where
  pub told_of : (t : Triple) → Contains ts t → IsExact tx t
  told_of t member = told tx ts triples (λ d. true) (λ d. refl) t member

  attribute_same : (e : ℕ) → is_attribute tx.db.facts e ≡ is_attribute schema e
  attribute_same e = ap is_some (sym (tells e))

  pub one_same : (a : ℕ) → is_one tx.db.facts a ≡ is_one schema a
  one_same a = ap (λ o. option_map_or (λ (attribute : Attribute). not attribute.many) o false) (sym (tells a))

  -- ---- what is recorded

  -- what a rule on recorded datoms says of a triple
  record IsRule (test : Datom → Bool) (q : Triple → Bool) : Type 0 where
    added : (t : Triple) → t.holds ≡ false → test (datom_of t true) ≡ q t
    gone : (t : Triple) → t.holds ≡ true → test (datom_of t false) ≡ q t

  of_recorded : (test : Datom → Bool) (blind : (d : Datom) → test d ≡ test (record d { t = 0 })) (q : Triple → Bool) → IsRule test q
      → by_place tx (λ k. list_any (λ d. is_recorded tx d && test d) (asked tx k)) ≡ first_where q recorded_at ts
  of_recorded test blind q rule =
      of_asked tx ts triples (λ d. is_recorded tx d && test d) (λ d. ap (λ b. is_recorded tx d && b) (blind d)) built q recorded_at
      (λ t member. let holds_is = (told_of t member).holding in
      ap (λ held.
      earlier (cond (not held && test (datom_of t true)) t.added None) (earlier (cond (held && test (datom_of t false)) t.retracted None)
      (earlier (cond (held && test (datom_of t false)) t.swept None) (cond (held && test (datom_of t false)) t.replaced None))))
      (sym holds_is)
      ∙ recorded t.holds (test (datom_of t true)) (test (datom_of t false)) (q t) t.added t.retracted t.swept t.replaced (rule.added t)
      (rule.gone t))

  -- ---- attribute fixed

  or_none : (b : Bool) → (b && false) ≡ false
  or_none true = refl
  or_none false = refl

  fixed_rule : IsRule (is_forbidden tx.db.facts) (is_fixed schema)
  fixed_rule = record {
    added = λ t held.
        ap (λ b. ((eqb t.a ident || eqb t.a value_type || eqb t.a is_component) && b) || (leb ident t.a && leb t.a index && is_builtin t.e)
        || (eqb t.a tx_instant && false)) (attribute_same t.e)
        ∙ ap (λ b. ((eqb t.a ident || eqb t.a value_type || eqb t.a is_component) && is_attribute schema t.e)
        || (leb ident t.a && leb t.a index && is_builtin t.e) || (eqb t.a tx_instant && b)) (sym held);
    gone = λ t held.
        ap (λ b. ((eqb t.a ident || eqb t.a value_type || eqb t.a is_component) && b) || (leb ident t.a && leb t.a index && is_builtin t.e)
        || (eqb t.a tx_instant && true)) (attribute_same t.e)
        ∙ ap (λ b. ((eqb t.a ident || eqb t.a value_type || eqb t.a is_component) && is_attribute schema t.e)
        || (leb ident t.a && leb t.a index && is_builtin t.e) || (eqb t.a tx_instant && b)) (sym held);
  }

  pub attribute_fixed : by_place tx (breaks_attribute_fixed tx) ≡ first_fixed schema ts
  attribute_fixed = of_recorded (is_forbidden tx.db.facts) (λ d. refl) (is_fixed schema) fixed_rule

  -- ---- alteration conflict

  three_more : (w x y z : Bool) → (((w && x) && y) && z) ≡ (w && ((x && y) && z))
  three_more true x y z = refl
  three_more false x y z = refl

  breaking : Datom → Bool
  breaking d = (alters_a_promise d && is_attribute tx.db.facts d.e) && not (keeps_its_promise tx.after d.e)

  broken_same : (a : Bool) (v : Bool) (place : Option ℕ) → cond (a && v) place None ≡ cond (a && is_some place) (cond v place None) None
  broken_same true true None = refl
  broken_same true true (Some n) = refl
  broken_same true false None = refl
  broken_same true false (Some n) = refl
  broken_same false v place = refl

  and_moved : (x y z : Bool) → ((x && y) && z) ≡ (x && (y && z))
  and_moved true y z = refl
  and_moved false y z = refl

  breaking_rule : IsRule breaking (λ t. (eqb t.a cardinality || eqb t.a unique) && (verdict_of schema tx.after t.e).broken)
  unfolding breaking
  breaking_rule = record {
    added =
        λ t held. and_moved (alters_a_promise (datom_of t true)) (is_attribute tx.db.facts t.e) (not (keeps_its_promise tx.after t.e))
        ∙ ap (λ b. alters_a_promise (datom_of t true) && (b && not (keeps_its_promise tx.after t.e))) (attribute_same t.e);
    gone =
        λ t held. and_moved (alters_a_promise (datom_of t false)) (is_attribute tx.db.facts t.e) (not (keeps_its_promise tx.after t.e))
        ∙ ap (λ b. alters_a_promise (datom_of t false) && (b && not (keeps_its_promise tx.after t.e))) (attribute_same t.e);
  }

  pub alteration_conflict : by_place tx (breaks_alteration_conflict tx) ≡ first_broken schema tx.after ts
  unfolding breaking
  alteration_conflict =
      ap (by_place tx) (λ i k. list_any (λ d. three_more (is_recorded tx d) (alters_a_promise d) (is_attribute tx.db.facts d.e)
      (not (keeps_its_promise tx.after d.e)) i) (asked tx k))
      ∙ of_recorded breaking (λ d. refl)
      (λ t. (eqb t.a cardinality || eqb t.a unique) && (verdict_of schema tx.after t.e).broken) breaking_rule
      ∙ first_where-members (λ t. (eqb t.a cardinality || eqb t.a unique) && (verdict_of schema tx.after t.e).broken) promises_anew
      recorded_at (λ t. broken_at (verdict_of schema tx.after t.e) t) ts
      (λ t member. broken_same (eqb t.a cardinality || eqb t.a unique) (verdict_of schema tx.after t.e).broken (recorded_at t))

  -- ---- incomplete attribute

  newly : Datom → Bool
  newly d = (model_describes d && is_new_attribute tx d.e) && not (is_whole tx.after d.e)

  lacking : Datom → Bool
  lacking d = (is_alteration d && is_attribute tx.db.facts d.e) && not (is_whole tx.after d.e)

  new_same : (e : ℕ) → is_new_attribute tx e ≡ is_of_new_attribute schema tx.after e
  new_same e = ap (λ b. not b && list_any (λ d. eqb d.e e && says_attribute d) tx.after) (attribute_same e)

  newly_same : (t : Triple) (added : Bool) → newly (datom_of t added) ≡ (describes t && (lack_of schema tx.after t.e).as_new)
  unfolding newly
  newly_same t added =
      and_moved (describes t) (is_new_attribute tx t.e) (not (is_whole tx.after t.e))
      ∙ ap (λ b. describes t && (b && not (is_whole tx.after t.e))) (new_same t.e)

  two : (b : Bool) (x y : Option ℕ) → earlier (cond b x None) (cond b y None) ≡ cond b (earlier x y) None
  two true x y = refl
  two false x y = refl

  newly_blind : (d : Datom) → newly d ≡ newly (record d { t = 0 })
  unfolding newly
  newly_blind d = refl

  of_newly : by_place tx (λ k. list_any newly (asked_triples tx k))
      ≡ first_where (λ t. describes t && (lack_of schema tx.after t.e).as_new) named_at ts
  of_newly =
      of_named tx ts triples newly newly_blind built (λ t. describes t && (lack_of schema tx.after t.e).as_new) named_at
      (λ t member.
      ap (λ b. earlier (cond b t.added None) (cond (newly (datom_of t false)) t.retracted None)) (newly_same t true)
      ∙ ap (λ b. earlier (cond (describes t && (lack_of schema tx.after t.e).as_new) t.added None) (cond b t.retracted None))
      (newly_same t false)
      ∙ two (describes t && (lack_of schema tx.after t.e).as_new) t.added t.retracted)

  lacking_rule : IsRule lacking (λ t. alters t && (lack_of schema tx.after t.e).as_altered)
  unfolding lacking
  lacking_rule = record {
    added =
        λ t held. and_moved (alters t) (is_attribute tx.db.facts t.e) (not (is_whole tx.after t.e))
        ∙ ap (λ b. alters t && (b && not (is_whole tx.after t.e))) (attribute_same t.e);
    gone =
        λ t held. and_moved (alters t) (is_attribute tx.db.facts t.e) (not (is_whole tx.after t.e))
        ∙ ap (λ b. alters t && (b && not (is_whole tx.after t.e))) (attribute_same t.e);
  }

  lacking_blind : (d : Datom) → lacking d ≡ lacking (record d { t = 0 })
  unfolding lacking
  lacking_blind d = refl

  of_lacking : by_place tx (λ k. list_any (λ d. is_recorded tx d && lacking d) (asked tx k))
      ≡ first_where (λ t. alters t && (lack_of schema tx.after t.e).as_altered) recorded_at ts
  of_lacking = of_recorded lacking lacking_blind (λ t. alters t && (lack_of schema tx.after t.e).as_altered) lacking_rule

  alters_describes : (t : Triple) → describes t ≡ false → alters t ≡ false
  alters_describes t none = go (alters t) refl
    where
      go : (b : Bool) → alters t ≡ b → b ≡ false
      go false is = refl
      go true is = absurd (grind (arith, nat_tests))

  both_lacks : (d a n o : Bool) (x y : Option ℕ) → (d ≡ false → a ≡ false)
      → earlier (cond (d && n) x None) (cond (a && o) y None) ≡ cond d (earlier (cond n x None) (cond (a && o) y None)) None
  both_lacks true a n o x y within = refl
  both_lacks false a n o x y within = ap (λ b. cond (b && o) y None) (within refl)

  pub incomplete_attribute : by_place tx (breaks_incomplete_attribute tx) ≡ first_incomplete schema tx.after ts
  unfolding newly lacking
  incomplete_attribute =
      ap (by_place tx) (λ i k. list_any newly (asked_triples tx k) || list_any
      (λ d. three_more (is_recorded tx d) (is_alteration d) (is_attribute tx.db.facts d.e) (not (is_whole tx.after d.e)) i) (asked tx k))
      ∙ first_yes-or (λ k. list_any newly (asked_triples tx k)) (λ k. list_any (λ d. is_recorded tx d && lacking d) (asked tx k)) 0 tx.asks
      ∙ ap (λ x. earlier x (by_place tx (λ k. list_any (λ d. is_recorded tx d && lacking d) (asked tx k)))) of_newly
      ∙ ap (earlier (first_where (λ t. describes t && (lack_of schema tx.after t.e).as_new) named_at ts)) of_lacking
      ∙ first_where-join (λ t. describes t && (lack_of schema tx.after t.e).as_new)
      (λ t. alters t && (lack_of schema tx.after t.e).as_altered) describes named_at recorded_at
      (λ t. lack_at (lack_of schema tx.after t.e) t) ts
      (λ t member. both_lacks (describes t) (alters t) (lack_of schema tx.after t.e).as_new (lack_of schema tx.after t.e).as_altered
      (named_at t) (recorded_at t) (alters_describes t))

  -- ---- datoms conflict

  asked_in-some : (lists : List (List Datom)) (t : Triple) (added : Bool)
      → is_asked_in (joined lists) (datom_of t added) ≡ is_some (first_asking lists t.e t.a t.v)
  asked_in-some lists t added = any-joined (is_of t.e t.a t.v) lists ∙ sym (some-first_yes (list_any (is_of t.e t.a t.v)) 0 lists)

  -- a triple that is told of an addition
  pub told_addition : (t : Triple) → Contains ts t → is_addition t ≡ list_any (is_of t.e t.a t.v) (joined tx.added)
  told_addition t member =
      ap is_some (told_of t member).added
      ∙ some-first_yes (list_any (is_of t.e t.a t.v)) 0 tx.added
      ∙ sym (any-joined (is_of t.e t.a t.v) tx.added)

  -- what is asked has its triple
  pub record IsTripleOf (d : Datom) : Type 0 where
    pub triple : Triple
    pub among : Contains ts triple
    pub e_is : triple.e ≡ d.e
    pub a_is : triple.a ≡ d.a
    pub v_is : triple.v ≡ d.v

  pub triple_of : (d : Datom) → list_any (is_triple d.e d.a d.v) ts ≡ true → IsTripleOf d
  triple_of d some =
      let t = some_member (is_triple d.e d.a d.v) ts some in
      let parts = and_parts (eqb t.member.e d.e && eqb t.member.a d.a) (value_eq t.member.v d.v) t.passes in
      let numbers = and_parts (eqb t.member.e d.e) (eqb t.member.a d.a) parts.0 in
      record {
        triple = t.member;
        among = t.among;
        e_is = eqb-true t.member.e d.e numbers.0;
        a_is = eqb-true t.member.a d.a numbers.1;
        v_is = value_eq-true t.member.v d.v parts.1;
      }

  pub of_triple : (d : Datom) (t : Triple) → t.e ≡ d.e → t.a ≡ d.a → t.v ≡ d.v → is_of t.e t.a t.v d ≡ true
  of_triple d t e_is a_is v_is =
      and_from _ _ (and_from _ _ (eq-eqb d.e t.e (sym e_is)) (eq-eqb d.a t.a (sym a_is)))
      (subst (λ v. value_eq d.v v ≡ true) (sym v_is) (value_eq-refl d.v))

  pub added_told : (d : Datom) → Contains (joined tx.added) d → IsTripleOf d
  added_told d member =
      triple_of d (triples.whole d.e d.a d.v ((added_way tx built).part d.e d.a d.v
      (sym (any-joined (is_of d.e d.a d.v) tx.added) ∙ any_member (is_of d.e d.a d.v) (joined tx.added) d member
      (and_from _ _ (and_from _ _ (eq-eqb d.e d.e refl) (eq-eqb d.a d.a refl)) (value_eq-refl d.v)))))

  pub another_same : (t : Triple) (added : Bool) → has_another_value (joined tx.added) (datom_of t added) ≡ list_any (is_another_value t) ts
  another_same t added = same_tests _ _ to from
    where
      to : has_another_value (joined tx.added) (datom_of t added) ≡ true → list_any (is_another_value t) ts ≡ true
      to some =
          let d = some_member (λ other. eqb other.e t.e && eqb other.a t.a && not (value_eq other.v t.v)) (joined tx.added) some in
          let parts = and_parts (eqb d.member.e t.e && eqb d.member.a t.a) (not (value_eq d.member.v t.v)) d.passes in
          let numbers = and_parts (eqb d.member.e t.e) (eqb d.member.a t.a) parts.0 in
          let of = added_told d.member d.among in
          any_member (is_another_value t) ts of.triple of.among
          (and_from _ _ (and_from _ _ (and_from _ _
          (told_addition of.triple of.among
          ∙ any_member (is_of of.triple.e of.triple.a of.triple.v) (joined tx.added) d.member d.among
          (of_triple d.member of.triple of.e_is of.a_is of.v_is))
          (ap (λ n. eqb n t.e) of.e_is ∙ numbers.0)) (ap (λ n. eqb n t.a) of.a_is ∙ numbers.1))
          (ap (λ v. not (value_eq v t.v)) of.v_is ∙ parts.1))

      from : list_any (is_another_value t) ts ≡ true → has_another_value (joined tx.added) (datom_of t added) ≡ true
      from some =
          let other = some_member (is_another_value t) ts some in
          let outer =
          and_parts (is_addition other.member && eqb other.member.e t.e && eqb other.member.a t.a)
          (not (value_eq other.member.v t.v)) other.passes in
          let middle = and_parts (is_addition other.member && eqb other.member.e t.e) (eqb other.member.a t.a) outer.0 in
          let inner = and_parts (is_addition other.member) (eqb other.member.e t.e) middle.0 in
          let d =
          some_member (is_of other.member.e other.member.a other.member.v) (joined tx.added)
          (sym (told_addition other.member other.among) ∙ inner.0) in
          let of = is_of-true other.member.e other.member.a other.member.v d.member d.passes in
          any_member (λ x. eqb x.e t.e && eqb x.a t.a && not (value_eq x.v t.v)) (joined tx.added) d.member d.among
          (and_from _ _ (and_from _ _ (ap (λ n. eqb n t.e) of.e_is ∙ inner.1) (ap (λ n. eqb n t.a) of.a_is ∙ middle.1))
          (ap (λ v. not (value_eq v t.v)) of.v_is ∙ outer.1))

  conflicts_same : (t : Triple) (added : Bool) → Contains ts t → model_conflicts tx (datom_of t added) ≡ conflicts schema ts t
  conflicts_same t added member =
      ap (λ b. b && ((is_one tx.db.facts t.a && has_another_value (joined tx.added) (datom_of t added))
      || is_asked_in (joined tx.retracted ++ joined tx.swept) (datom_of t added)))
      (asked_in-some tx.added t added ∙ ap is_some (sym (told_of t member).added))
      ∙ ap (λ b. is_addition t && ((b && has_another_value (joined tx.added) (datom_of t added))
      || is_asked_in (joined tx.retracted ++ joined tx.swept) (datom_of t added))) (one_same t.a)
      ∙ ap (λ b. is_addition t && ((is_one schema t.a && b) || is_asked_in (joined tx.retracted ++ joined tx.swept) (datom_of t added)))
      (another_same t added)
      ∙ ap (λ b. is_addition t && ((is_one schema t.a && list_any (is_another_value t) ts) || b)) withdrawn_same
    where
      withdrawn_same : is_asked_in (joined tx.retracted ++ joined tx.swept) (datom_of t added) ≡ is_withdrawn t
      withdrawn_same =
          list_any-append (is_of t.e t.a t.v) (joined tx.retracted) (joined tx.swept)
          ∙ ap (λ b. b || list_any (is_of t.e t.a t.v) (joined tx.swept))
          (asked_in-some tx.retracted t added ∙ ap is_some (sym (told_of t member).retracted))
          ∙ ap (λ b. is_some t.retracted || b) (asked_in-some tx.swept t added ∙ ap is_some (sym (told_of t member).swept))

  pub datoms_conflict : by_place tx (breaks_datoms_conflict tx) ≡ first_conflict schema ts
  datoms_conflict =
      of_asked tx ts triples (model_conflicts tx) (λ d. refl) built (conflicts schema ts) asked_at
      (λ t member.
      ap (λ b. earlier (cond b t.added None) (earlier (cond (model_conflicts tx (datom_of t false)) t.retracted None)
      (earlier (cond (model_conflicts tx (datom_of t false)) t.swept None) (cond (model_conflicts tx (datom_of t false)) t.replaced None))))
      (conflicts_same t true member)
      ∙ ap (λ b. earlier (cond (conflicts schema ts t) t.added None)
      (earlier (cond b t.retracted None) (earlier (cond b t.swept None) (cond b t.replaced None)))) (conflicts_same t false member)
      ∙ spread (conflicts schema ts t) t.added t.retracted t.swept t.replaced)
