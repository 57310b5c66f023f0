-- What an attribute promises of all its facts, part by part.
use Rattle.std.proofs.Common.{◌≡◌, ℕ, Bool, true, false, not, ◌&&◌, ◌||◌, eqb, leb, cond, List, [], ◌∷◌, length, refl, ap, sym, ◌∙◌, Result}
use Rattle.std.proofs.Common.{Ok, Err}
use Rattle.std.specs.Prelude.{IfOk}
use Rattle.std.specs.List.{list_all, list_any}
use Rattle.std.specs.Ordering.{is_lt, ordering_reverse}
use Rattle.std.specs.declared.cmp.Ordering.{Ordering}
use Rattle.std.specs.Cmp.Lexicographic.{lists_total}
use Rattle.std.specs.declared.cmp.Ordering.TheVariants.{Less, Equal, Greater}
use Rattle.std.proofs.lemmas.Bool.{true≢false, eqb-true}
use Rattle.fb_values.specs.declared.facts.Datom.{Datom}
use Rattle.fb_values.specs.declared.indexes.Order.TheVariants.{Eavt}
use Rattle.fb_values.specs.Orders.{key_cmp, key_of}
use Rattle.fb_values.specs.OrderLaws.{key_cmp-Equal, value_cmp_total}
use Rattle.fb_model.specs.Rising.{in_order, put_in_order}
use Rattle.fb_model.specs.Facts.{values_of}
use Rattle.fb_model.specs.Schema.{is_one, is_unique}
use Rattle.fb_model.specs.Laws.{has_no_other_holder}
use Rattle.tx_model.specs.ChangeRules.{keeps_its_promise}
use Rattle.tx_after.specs.Promises.{gives_one_value, gives_one_holder}

module _ (facts : List Datom) (a : ℕ) where
  parts : (one unique : Bool) (ds : List Datom) →
      list_all
      (λ d. not (eqb d.a a) || ((not one || leb (length (values_of facts d.e a)) 1) && (not unique || has_no_other_holder facts d))) ds
      ≡ ((not one || list_all (λ d. not (eqb d.a a) || leb (length (values_of facts d.e d.a)) 1) ds)
      && (not unique || list_all (λ d. not (eqb d.a a) || has_no_other_holder facts d) ds))
  parts one unique [] = all one unique
    where
      all : (one unique : Bool) → true ≡ ((not one || true) && (not unique || true))
      all true true = refl
      all true false = refl
      all false true = refl
      all false false = refl
  parts one unique (d ∷ ds) = go (eqb d.a a) refl (parts one unique ds)
    where
      mixed : (one unique x y v h : Bool)
          → (((not one || x) && (not unique || y)) && ((not one || v) && (not unique || h)))
          ≡ ((not one || (x && v)) && (not unique || (y && h)))
      mixed true true true true v h = refl
      mixed true true true false true h = refl
      mixed true true true false false h = refl
      mixed true true false y v h = refl
      mixed true false true y v h = refl
      mixed true false false y v h = refl
      mixed false true x true v h = refl
      mixed false true x false v h = refl
      mixed false false x y v h = refl

      go : (b : Bool) → eqb d.a a ≡ b
          → list_all
          (λ d. not (eqb d.a a) || ((not one || leb (length (values_of facts d.e a)) 1) && (not unique || has_no_other_holder facts d))) ds
          ≡ ((not one || list_all (λ d. not (eqb d.a a) || leb (length (values_of facts d.e d.a)) 1) ds)
          && (not unique || list_all (λ d. not (eqb d.a a) || has_no_other_holder facts d) ds))
          → ((not b || ((not one || leb (length (values_of facts d.e a)) 1) && (not unique || has_no_other_holder facts d)))
          && list_all
          (λ d. not (eqb d.a a) || ((not one || leb (length (values_of facts d.e a)) 1) && (not unique || has_no_other_holder facts d))) ds)
          ≡ ((not one || ((not b || leb (length (values_of facts d.e d.a)) 1)
          && list_all (λ d. not (eqb d.a a) || leb (length (values_of facts d.e d.a)) 1) ds))
          && (not unique || ((not b || has_no_other_holder facts d) && list_all (λ d. not (eqb d.a a) || has_no_other_holder facts d) ds)))
      go false is rest = rest
      go true is rest =
          ap (λ r. ((not one || leb (length (values_of facts d.e a)) 1) && (not unique || has_no_other_holder facts d)) && r) rest
          ∙ mixed one unique (leb (length (values_of facts d.e a)) 1)
          (has_no_other_holder facts d) (list_all (λ d. not (eqb d.a a) || leb (length (values_of facts d.e d.a)) 1) ds)
          (list_all (λ d. not (eqb d.a a) || has_no_other_holder facts d) ds)
          ∙ ap (λ n. (not one
          || (leb (length (values_of facts d.e n)) 1 && list_all (λ d. not (eqb d.a a) || leb (length (values_of facts d.e d.a)) 1) ds))
          && (not unique || (has_no_other_holder facts d && list_all (λ d. not (eqb d.a a) || has_no_other_holder facts d) ds)))
          (sym (eqb-true d.a a is))

  pub promise-parts : keeps_its_promise facts a
      ≡ ((not (is_one facts a) || gives_one_value facts a) && (not (is_unique facts a) || gives_one_holder facts a))
  promise-parts = parts (is_one facts a) (is_unique facts a) facts

-- ---- a test of the facts in order

module _ (p : Datom → Bool) (blind : (x y : Datom) → x.e ≡ y.e → x.a ≡ y.a → x.v ≡ y.v → p x ≡ p y) where
  any-put : (d : Datom) (ds : List Datom) → list_any p (put_in_order Eavt d ds) ≡ (p d || list_any p ds)
  any-put d [] = refl
  any-put d (x ∷ ds) = go (is_lt (key_cmp Eavt d x)) (is_lt (key_cmp Eavt x d)) refl refl (any-put d ds)
    where
      swapped : (a b c : Bool) → (a || (b || c)) ≡ (b || (a || c))
      swapped true true c = refl
      swapped true false c = refl
      swapped false true c = refl
      swapped false false c = refl

      twice : (a b c : Bool) → a ≡ b → (a || c) ≡ (b || (a || c))
      twice true true c is = refl
      twice true false c is = absurd (true≢false is)
      twice false true c is = absurd (true≢false (sym is))
      twice false false c is = refl

      go : (b c : Bool) → is_lt (key_cmp Eavt d x) ≡ b → is_lt (key_cmp Eavt x d) ≡ c
          → list_any p (put_in_order Eavt d ds) ≡ (p d || list_any p ds)
          → list_any p (cond b (d ∷ x ∷ ds) (cond c (x ∷ put_in_order Eavt d ds) (x ∷ ds))) ≡ (p d || (p x || list_any p ds))
      go true c b_is c_is rest = refl
      go false true b_is c_is rest = ap (λ r. p x || r) rest ∙ swapped (p x) (p d) (list_any p ds)
      go false false b_is c_is rest =
          twice (p x) (p d) (list_any p ds)
          (let at = key_cmp-Equal Eavt d x (neither d x b_is c_is) in blind x d (sym at.e) (sym at.a) (sym at.v))
        where
          neither : (d x : Datom) → is_lt (key_cmp Eavt d x) ≡ false → is_lt (key_cmp Eavt x d) ≡ false → key_cmp Eavt d x ≡ Equal
          neither d x b_is c_is =
              by_answer (key_cmp Eavt d x) b_is
              (sym (ap is_lt ((lists_total value_cmp_total).antisymm (key_of Eavt x) (key_of Eavt d))) ∙ c_is)
            where
              by_answer : (r : Ordering) → is_lt r ≡ false → is_lt (ordering_reverse r) ≡ false → r ≡ Equal
              by_answer Less b c = absurd (true≢false b)
              by_answer Equal b c = refl
              by_answer Greater b c = absurd (true≢false c)

  pub any-in_order : (ds : List Datom) → list_any p (in_order Eavt ds) ≡ list_any p ds
  any-in_order [] = refl
  any-in_order (d ∷ ds) = any-put d (in_order Eavt ds) ∙ ap (λ b. p d || b) (any-in_order ds)

-- what follows of an answer that is not out of memory
pub IfOk-map : {A E : Type 0} (P Q : A → Type 0) → ((a : A) → P a → Q a) → (result : Result A E) → IfOk result P → IfOk result Q
IfOk-map P Q gives (Ok a) is = gives a is
IfOk-map P Q gives (Err e) is = is
