-- A list without one of its datoms.
use Rattle.std.proofs.Common.{◌≡◌, ◌∙◌, ◌+◌, inl, inr, Bool, true, false, not, cond, List, [], ◌∷◌, length, refl, sym, ap, subst, arith}
use Rattle.std.specs.Prelude.{Contains, filter}
use Rattle.std.specs.Cmp.{tied_itself}
use Rattle.std.specs.Ordering.{is_eq}
use Rattle.std.specs.declared.cmp.Ordering.{Ordering}
use Rattle.std.specs.declared.cmp.Ordering.TheVariants.{Less, Equal, Greater}
use Rattle.std.proofs.lemmas.Bool.{cases_Bool, true≢false, not-true}
use Rattle.fb_values.specs.declared.facts.Datom.{Datom}
use Rattle.fb_values.specs.declared.indexes.Order.{Order}
use Rattle.fb_values.specs.Orders.{key_cmp}
use Rattle.fb_values.specs.OrderLaws.{key_cmp_total}
use Rattle.fb_values.specs.Rising.{IsBelowAll, IsRising}
use Rattle.fb_model.proofs.Members.{here, cases_of, none_of, kept, keep}
use Rattle.live_runs.specs.Changed.{HasNoTwins, IsWithin, changed, MayChange, without}
use Rattle.live_runs.proofs.Rises.{before_all, before_member, one_key}
use Rattle.live_runs.proofs.Changed.{IsOfChanged, changed_is}

eq_is : (o : Ordering) → is_eq o ≡ true → o ≡ Equal
eq_is Less is = absurd (true≢false (sym is))
eq_is Equal is = refl
eq_is Greater is = absurd (true≢false (sym is))

rising-filter : (order : Order) (p : Datom → Bool) (ds : List Datom) → IsRising order ds → IsRising order (filter p ds)
rising-filter order p [] rising = tt
rising-filter order p (d ∷ ds) rising = go (p d) (rising-filter order p ds rising.1)
  where
    go : (b : Bool) → IsRising order (filter p ds) → IsRising order (cond b (d ∷ filter p ds) (filter p ds))
    go true rest = (
      before_all order d (filter p ds) (λ x inside. before_member order d ds x rising.0 (kept p ds x inside).member),
      rest,
    )
    go false rest = rest

-- where all datoms are behind another one, none has its key
none_dropped : (order : Order) (d : Datom) (ds : List Datom) → IsBelowAll order d ds → without order d ds ≡ ds
none_dropped order d [] before = refl
none_dropped order d (x ∷ ds) before =
    let other : not (is_eq (key_cmp order d x)) ≡ true = ap (λ (o : Ordering). not (is_eq o)) before.0 in
    rw other (ap (λ (l : List Datom). x ∷ l) (none_dropped order d ds before.1))

length-without : (order : Order) (d : Datom) (ds : List Datom) → IsRising order ds → Contains ds d → length (without order d ds) + 1 ≡ length ds
length-without order d [] rising inside = absurd (none_of d inside)
length-without order d (x ∷ ds) rising inside =
    elim (cases_of x d ds inside) [
      | inl same ↦
          let own : not (is_eq (key_cmp order d x)) ≡ false =
          ap (λ (y : Datom). not (is_eq (key_cmp order d y))) same ∙ ap (λ (o : Ordering). not (is_eq o)) (tied_itself (key_cmp_total order) d) in
          let rest : without order d ds ≡ ds = none_dropped order d ds (subst (λ (y : Datom). IsBelowAll order y ds) same rising.0) in
          rw own (omega (arith, ap length rest))
      | inr behind ↦
          let less : key_cmp order x d ≡ Less = before_member order x ds d rising.0 behind in
          let more : key_cmp order d x ≡ Greater = cc ((key_cmp_total order).antisymm d x) in
          let other : not (is_eq (key_cmp order d x)) ≡ true = ap (λ (o : Ordering). not (is_eq o)) more in
          rw other (omega (arith, length-without order d ds rising.1 behind))
    ]

module _ (order : Order) (table : List Datom) (d : Datom) (ds : List Datom) (single : HasNoTwins table) (within : IsWithin table ds)
    (rising : IsRising order ds) (d_in : Contains ds d) where
  pub removing_may : MayChange order table (d ∷ []) [] ds
  removing_may =
      record {
        rising = rising;
        gone_rises = (tt, tt);
        come_rises = tt;
        within = within;
        come_within = λ e comes. absurd (none_of e comes);
        there = λ e goes. elim (cases_of d e [] goes) [ inl same ↦ subst (Contains ds) same d_in | inr none ↦ absurd (none_of e none) ];
        fresh = λ e comes inside. none_of e comes;
      }

  from : (e : Datom) → Contains (without order d ds) e → IsOfChanged (d ∷ []) [] ds e
  from e inside =
      let is = kept (λ x. not (is_eq (key_cmp order d x))) ds e inside in
      inl (
        is.member,
        λ goes. elim (cases_of d e [] goes) [
          | inl same ↦
              true≢false (sym (ap is_eq (ap (key_cmp order d) (sym same) ∙ tied_itself (key_cmp_total order) d))
              ∙ not-true (is_eq (key_cmp order d e)) is.passes)
          | inr none ↦ none_of e none
        ],
      )

  into : (e : Datom) → IsOfChanged (d ∷ []) [] ds e → Contains (without order d ds) e
  into e (inl stayed) =
      keep (λ x. not (is_eq (key_cmp order d x))) ds e stayed.0 (elim (cases_Bool (is_eq (key_cmp order d e))) [
        | inl equal ↦
            let same : d ≡ e = one_key order table d e single (within d d_in) (within e stayed.0) (eq_is (key_cmp order d e) equal) in
            absurd (stayed.1 (subst (Contains (d ∷ [])) same (here d [])))
        | inr other ↦ ap not other
      ])
  into e (inr comes) = absurd (none_of e comes)

  pub removing_is : changed order (d ∷ []) [] ds ≡ without order d ds
  removing_is =
      changed_is order table (d ∷ []) [] ds single removing_may (without order d ds)
      (rising-filter order (λ x. not (is_eq (key_cmp order d x))) ds rising) from into

  pub removing_length : length (without order d ds) + 1 ≡ length ds
  removing_length = length-without order d ds rising d_in
