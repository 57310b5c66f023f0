-- What a list is with one datom more, where its order takes it.
use Rattle.std.proofs.Common.{◌≡◌, ◌∙◌, true, List, ◌∷◌, sym, subst, inl, inr}
use Rattle.std.specs.Prelude.{Contains, IsTrue}
use Rattle.std.specs.declared.cmp.Ordering.TheVariants.{Equal}
use Rattle.std.proofs.lemmas.Bool.{cases_Bool, true≢false}
use Rattle.fb_values.specs.declared.facts.Datom.{Datom}
use Rattle.fb_values.specs.declared.indexes.Order.{Order}
use Rattle.fb_values.specs.Orders.{key_cmp}
use Rattle.fb_values.specs.OrderLaws.{key_cmp-Equal}
use Rattle.fb_values.specs.Rising.{IsRising}
use Rattle.fb_covers.specs.Coverage.{Coverage}
use Rattle.fb_model.specs.Rising.{in_order, put_in_order}
use Rattle.fb_model.proofs.InOrder.{put_has_new, put_has_old}
use Rattle.fb_model.proofs.Members.{in_order_member}
use Rattle.live_index.specs.Growth.{HasNoTwins, takes, with_taken}
use Rattle.live_index.proofs.Growing.{Gains}
use Rattle.live_index.proofs.Members.{contains-cons}
use Rattle.live_index.proofs.Walking.{in_order_rising}

-- both are of a table without twins
abbrev pub AreOneIfEqual : Order → Datom → List Datom → Type 0
AreOneIfEqual order d ds = (y : Datom) → Contains ds y → key_cmp order d y ≡ Equal → d ≡ y

pub one_if_equal : (order : Order) (table : List Datom) (d : Datom) (ds : List Datom) → HasNoTwins table → Contains table d
    → ((x : Datom) → Contains ds x → Contains table x) → AreOneIfEqual order d ds
one_if_equal order table d ds single d_in within y y_in equal = single d y d_in (within y y_in) (key_cmp-Equal order d y equal)

pub put-gains : (order : Order) (ds : List Datom) (d : Datom) (P : Datom → Type 0) → IsRising order ds → AreOneIfEqual order d ds → P d
    → Gains ds (λ x. (d ≡ x) × P x) (put_in_order order d ds)
put-gains order ds d P rising one holds x = (
  λ there.
      let put : Contains (in_order order (d ∷ ds)) x =
      subst (λ (l : List Datom). Contains (put_in_order order d l) x) (sym (in_order_rising order ds rising)) there in
      elim (contains-cons d ds x (in_order_member order (d ∷ ds) x put)) [
        | inl same ↦ inr (same, subst P same holds)
        | inr behind ↦ inl behind
      ],
  λ given. elim given [
    | inl before ↦ put_has_old order d ds x before
    | inr now ↦ subst (Contains (put_in_order order d ds)) now.0 (put_has_new order d ds one)
  ],
)

pub taken-gains : (c : Coverage) (order : Order) (ds : List Datom) (d : Datom) → IsRising order ds → AreOneIfEqual order d ds
    → Gains ds (λ x. (d ≡ x) × IsTrue (takes c order x)) (with_taken c order ds d)
taken-gains c order ds d rising one =
    elim (cases_Bool (takes c order d)) [
      | inl goes ↦ rw goes (put-gains order ds d (λ x. IsTrue (takes c order x)) rising one goes)
      | inr stays ↦ rw stays (λ x. (
        inl,
        λ given. elim given [
          | inl is ↦ is
          | inr now ↦ absurd (true≢false (sym (subst (λ (y : Datom). takes c order y ≡ true) (sym now.0) now.1) ∙ stays))
        ],
      ))
    ]
