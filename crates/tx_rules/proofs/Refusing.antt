-- The first refusal by acts, triples and changes is that of the transaction.
use Rattle.std.proofs.Common.{◌≡◌, ℕ, List, ◌∷◌, map, refl, ap, sym, ◌∙◌, subst, Option, Some, None}
use Rattle.std.specs.Prelude.{IsTrue, false, ◌++◌}
use Rattle.std.specs.List.{list_any}
use Rattle.std.specs.Option.{option_map_or}
use Rattle.fb_values.specs.declared.facts.Datom.{Datom}
use Rattle.fb_values.specs.declared.facts.Entry.{Entry}
use Rattle.fb_values.specs.declared.facts.Value.{Value}
use Rattle.fb_model.specs.History.{said}
use Rattle.fb_model.specs.Facts.{is_of, holds, Holds, facts, standing}
use Rattle.fb_model.specs.Schema.{attribute_of, is_one, is_unique}
use Rattle.fb_model.specs.Lawful.{IsLawful}
use Rattle.tx_refusals.specs.declared.reasons.Reason.{Reason}
use Rattle.tx_refusals.specs.declared.reasons.Reason.TheVariants.{CasMany, CasFailed, DatomsConflict, UniqueConflict, IncompleteAttribute}
use Rattle.tx_refusals.specs.declared.reasons.Reason.TheVariants.{AttributeFixed, TooLarge, Full, AlterationConflict}
use Rattle.tx_model.specs.Asks.{Ask}
use Rattle.tx_model.specs.Tempids.{Db, db_of}
use Rattle.tx_model.specs.Transaction.{Transaction}
use Rattle.tx_model.specs.ChangeRules.{compares_many, compares_another, breaks_cas_many, breaks_cas_failed, breaks_datoms_conflict}
use Rattle.tx_model.specs.ChangeRules.{breaks_unique_conflict, breaks_incomplete_attribute, breaks_attribute_fixed, breaks_too_large}
use Rattle.tx_model.specs.ChangeRules.{breaks_full, breaks_alteration_conflict}
use Rattle.tx_model.specs.Step.{by_place, by_whole, first_refusal}
use Rattle.tx_asks.specs.declared.triples.Triple.{Triple}
use Rattle.tx_asks.specs.Acts.{Act, act_of, is_cas_of_many, is_cas_of_another, IsSettled, AreActs}
use Rattle.tx_asks.specs.Triples.{AreTriples}
use Rattle.tx_after.specs.After.{after}
use Rattle.tx_rules.specs.Cas.{first_of_many, first_failed}
use Rattle.tx_rules.specs.Conflicts.{first_conflict}
use Rattle.tx_rules.specs.Holders.{first_shared}
use Rattle.tx_rules.specs.Tempids.{HasAssignedTempids}
use Rattle.tx_rules.specs.Whole.{first_incomplete}
use Rattle.tx_rules.specs.Fixed.{first_fixed}
use Rattle.tx_rules.specs.Promises.{first_broken}
use Rattle.tx_rules.specs.Rules.{change_rules, is_too_large, is_full, Asked, with_first, all_rules}
use Rattle.tx_rules.proofs.Comparing.{HasOneValues, cas_many, cas_failed}
use Rattle.tx_rules.proofs.Judging.{datoms_conflict, incomplete_attribute, attribute_fixed, alteration_conflict}
use Rattle.tx_rules.proofs.Holding.{HasOneHolders, after_is, unique_conflict}
use Rattle.tx_rules.proofs.Newcomers.{alone}

-- a later rule counts where an earlier one is not broken
unless : (rule : Reason) (place other : Option ℕ) (rest more : List (Reason × Option ℕ)) → place ≡ other
    → (other ≡ None → first_refusal rest ≡ first_refusal more) → first_refusal ((rule, place) ∷ rest) ≡ first_refusal ((rule, other) ∷ more)
unless rule place other rest more same then_same = ap (λ p. first_refusal ((rule, p) ∷ rest)) same ∙ by_place_of other then_same
  where
    by_place_of : (other : Option ℕ) → (other ≡ None → first_refusal rest ≡ first_refusal more)
        → first_refusal ((rule, other) ∷ rest) ≡ first_refusal ((rule, other) ∷ more)
    by_place_of None then_same = then_same refl
    by_place_of (Some at) then_same = refl

-- what is known of the history, and of acts
pub record IsKnown (h : List Entry) (schema : List Datom) : Type 0 where
  pub lawful : IsLawful h
  pub tells : (e : ℕ) → attribute_of schema e ≡ attribute_of (facts h) e
  pub facts_hold : (e a : ℕ) (v : Value) → holds h e a v ≡ list_any (is_of e a v) (facts h)
  pub one_value : (e a : ℕ) (v w : Value) → IsTrue (is_one (facts h) a) → Holds h e a v → Holds h e a w → v ≡ w
  pub one_holder : (e f a : ℕ) (v : Value) → IsTrue (is_unique (facts h) a) → Holds h e a v → Holds h f a v → e ≡ f

pub record Compares (tx : Transaction) : Type 0 where
  pub many : (ask : Ask) → IsSettled tx.db tx.names ask
      → compares_many tx.db ask ≡ option_map_or is_cas_of_many (act_of tx.db tx.names ask) false
  pub another : (ask : Ask) → IsSettled tx.db tx.names ask
      → compares_another tx ask ≡ option_map_or (is_cas_of_another tx.db) (act_of tx.db tx.names ask) false

module _ (h : List Entry) (schema : List Datom) (forms : List (List Act)) (ts : List Triple) (changes : List Datom) (tx : Transaction)
    (db_is : tx.db ≡ db_of h) (acts : AreActs forms tx) (tempids : HasAssignedTempids tx) (triples : AreTriples tx ts)
    (changes_are : changes ≡ tx.changes) (known : IsKnown h schema) (compares : Compares tx) where
  history_is : tx.db.history ≡ h
  history_is = ap (λ (db : Db). db.history) db_is

  facts_of : tx.db.facts ≡ facts h
  facts_of = ap (λ (db : Db). db.facts) db_is

  facts_are : tx.db.facts ≡ facts tx.db.history
  facts_are = facts_of ∙ ap facts (sym history_is)

  tells : (e : ℕ) → attribute_of schema e ≡ attribute_of tx.db.facts e
  tells e = known.tells e ∙ ap (λ ds. attribute_of ds e) (sym facts_of)

  one_values : HasOneValues tx.db.history
  one_values = subst HasOneValues (sym history_is) (record { facts_hold = known.facts_hold; one_value = known.one_value })

  one_holders : HasOneHolders tx.db.history
  one_holders = subst HasOneHolders (sym history_is) (record { facts_hold = known.facts_hold; one_holder = known.one_holder })

  lawful_before : IsLawful tx.db.history
  lawful_before = subst IsLawful (sym history_is) known.lawful

  all_after : tx.after ≡ after h changes
  all_after =
      after_is tx acts.built ∙ ap (λ g. standing (said g ++ tx.changes)) history_is ∙ ap (λ ds. standing (said h ++ ds)) (sym changes_are)

  many_same : first_of_many forms ≡ by_place tx (breaks_cas_many tx)
  many_same = sym (cas_many tx forms acts compares.many compares.another)

  failed_same : by_place tx (breaks_cas_many tx) ≡ None → first_failed h forms ≡ by_place tx (breaks_cas_failed tx)
  failed_same none =
      ap (λ g. first_failed g forms) (sym history_is)
      ∙ sym (cas_failed tx forms acts compares.many compares.another one_values facts_are none)

  conflict_same : first_conflict schema ts ≡ by_place tx (breaks_datoms_conflict tx)
  conflict_same = sym (datoms_conflict tx ts schema acts.built triples tells)

  unique_same : by_place tx (breaks_datoms_conflict tx) ≡ None → first_shared schema h changes ts ≡ by_place tx (breaks_unique_conflict tx)
  unique_same none =
      ap (λ g. first_shared schema g changes ts) (sym history_is) ∙ ap (λ ds. first_shared schema tx.db.history ds ts) changes_are
      ∙ sym (unique_conflict tx ts schema acts.built triples tells one_holders facts_are (conflict_same ∙ none)
      (alone tx ts schema acts.built triples tells lawful_before facts_are one_holders tempids))

  incomplete_same : first_incomplete schema (after h changes) ts ≡ by_place tx (breaks_incomplete_attribute tx)
  incomplete_same =
      ap (λ ds. first_incomplete schema ds ts) (sym all_after) ∙ sym (incomplete_attribute tx ts schema acts.built triples tells)

  fixed_same : first_fixed schema ts ≡ by_place tx (breaks_attribute_fixed tx)
  fixed_same = sym (attribute_fixed tx ts schema acts.built triples tells)

  large_same : by_whole (is_too_large changes) ≡ by_whole (breaks_too_large tx)
  large_same = ap (λ ds. by_whole (is_too_large ds)) changes_are

  full_same : by_whole (is_full h changes) ≡ by_whole (breaks_full tx)
  full_same = ap (λ g. by_whole (is_full g changes)) (sym history_is) ∙ ap (λ ds. by_whole (is_full tx.db.history ds)) changes_are

  alteration_same : first_broken schema (after h changes) ts ≡ by_place tx (breaks_alteration_conflict tx)
  alteration_same = ap (λ ds. first_broken schema ds ts) (sym all_after) ∙ sym (alteration_conflict tx ts schema acts.built triples tells)

  abbrev asked : Asked
  asked = record { history = h; schema = schema; forms = forms; triples = ts; changes = changes }

  pub same_refusal : first_refusal (map (with_first asked) all_rules) ≡ first_refusal (change_rules tx)
  same_refusal =
      unless CasMany _ _ _ _ many_same (λ none.
      unless CasFailed _ _ _ _ (failed_same none) (λ _.
      unless DatomsConflict _ _ _ _ conflict_same (λ none.
      unless UniqueConflict _ _ _ _ (unique_same none) (λ _.
      unless IncompleteAttribute _ _ _ _ incomplete_same (λ _.
      unless AttributeFixed _ _ _ _ fixed_same (λ _.
      unless TooLarge _ _ _ _ large_same (λ _.
      unless Full _ _ _ _ full_same (λ _.
      unless AlterationConflict _ _ _ _ alteration_same (λ _. refl)))))))))
