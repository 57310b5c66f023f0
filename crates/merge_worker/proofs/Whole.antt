-- Where the trees are of a whole history, nothing is live.
use Rattle.std.proofs.Common.{◌≡◌, ◌∙◌, inl, inr, List, [], ◌∷◌, length, refl, sym, ap, arith}
use Rattle.std.specs.Prelude.{Contains}
use Rattle.std.proofs.lemmas.Bool.{true≢false}
use Rattle.fb_values.specs.declared.facts.Datom.{Datom}
use Rattle.fb_values.specs.declared.facts.Entry.{Entry}
use Rattle.fb_values.specs.declared.indexes.Order.{Order}
use Rattle.fb_values.specs.declared.indexes.Order.TheVariants.{Eavt, Aevt, Avet, Vaet}
use Rattle.fb_values.specs.Lists.{list_in}
use Rattle.fb_model.specs.History.{basis, upto}
use Rattle.fb_model.specs.Facts.{facts}
use Rattle.fb_model.specs.Schema.{covers}
use Rattle.fb_model.proofs.Members.{here}
use Rattle.fb_model.proofs.Times.{upto-basis}
use Rattle.fb_view.specs.SnapshotModel.{SnapshotModel, Stands}
use Rattle.fb_view.proofs.Standing.{not_later}
use Rattle.fb_core.specs.Cores.{live_datoms}

without_members : (ds : List Datom) → ((d : Datom) → Contains ds d → ⊥) → ds ≡ []
without_members [] none = refl
without_members (d ∷ ds) none = absurd (none d (here d ds))

module _ (k : SnapshotModel) (stands : Stands k) (whole : k.covered ≡ basis k.entries) where
  past : upto k.entries k.covered ≡ k.entries
  past = ap (upto k.entries) whole ∙ upto-basis k.entries stands.history.lawful

  none_is_live : (order : Order) (d : Datom) → Contains (list_in k.live order) d → ⊥
  none_is_live order d there =
      let is = ((stands.history.live_stands order).members d).0 there in
      elim is.1 [
        | inl after ↦ let before = not_later k.entries d stands.history.lawful is.0.is_said in omega (arith, after, before, whole)
        | inr bare ↦ true≢false (sym is.0.is_covered ∙ ap (λ (h : List Entry). covers (facts h) order d.a) (sym past) ∙ bare)
      ]

  empty : (order : Order) → list_in k.live order ≡ []
  empty order = without_members (list_in k.live order) (none_is_live order)

  pub nothing_is_live : live_datoms k.live ≡ 0
  nothing_is_live =
      let count = λ (ds : List Datom). length ds in
      let by_entity : length k.live.eavt ≡ 0 = ap count (empty Eavt) in let by_attribute : length k.live.aevt ≡ 0 = ap count (empty Aevt) in
      let by_value : length k.live.avet ≡ 0 = ap count (empty Avet) in let by_target : length k.live.vaet ≡ 0 = ap count (empty Vaet) in
      omega (arith, by_entity, by_attribute, by_value, by_target)
