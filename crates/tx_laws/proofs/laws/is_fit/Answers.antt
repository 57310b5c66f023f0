-- One test after another.
use Rattle.std.proofs.Common.{◌≡◌, ◌∙◌, ◌&&◌, ap, refl}
use Rattle.fb_model.specs.Laws as model
use Rattle.tx_laws.specs.Changes.{keeps_names_and_instants}
use Rattle.tx_laws.proofs.Results.{both-asked, one-asked}
use Rattle.tx_laws.proofs.Wholeness.{typed-same, allowed-same}
use Rattle.tx_laws.proofs.laws.is_fit.Goals.{then-has_next_t, else-has_next_t, then-has_later_instant, else-has_later_instant}
use Rattle.tx_laws.proofs.laws.is_fit.Goals.{then-has_datoms_in_order, else-has_datoms_in_order, then-are_typed, else-are_typed}
use Rattle.tx_laws.proofs.laws.is_fit.Goals as goal

pub returns-then-are_allowed : goal.returns-then-are_allowed
returns-then-are_allowed c = λ h is stands.
    let entry = c.args.entry.now in
    let schema = c.args.schema.now in
    let slice = c.as_slice-datoms.ensures in
    let next = c.has_next_t.ensures h is in
    let two : c.if-has_next_t.value ≡ (model.has_next_t h entry && model.has_later_instant h entry) =
    elim c.if-has_next_t.branch [
      | then-has_next_t w ↦ both-asked _ _ _ _ _ w.value-is (w.has_later_instant.ensures h is) next w.if-has_next_t.true
      | else-has_next_t w ↦ one-asked _ _ _ _ w.value-is next w.if-has_next_t.false
    ] in
    let three : c.if-has_later_instant.value
    ≡ ((model.has_next_t h entry && model.has_later_instant h entry) && model.has_datoms_in_order h entry) =
    elim c.if-has_later_instant.branch [
      | then-has_later_instant w ↦ both-asked _ _ _ _ _ w.value-is (w.has_datoms_in_order.ensures h) two w.if-has_later_instant.true
      | else-has_later_instant w ↦ one-asked _ _ _ _ w.value-is two w.if-has_later_instant.false
    ] in
    let four : c.if-has_datoms_in_order.value
    ≡ (((model.has_next_t h entry && model.has_later_instant h entry) && model.has_datoms_in_order h entry) && model.has_typed_values h entry) =
    elim c.if-has_datoms_in_order.branch [
      | then-has_datoms_in_order w ↦
          both-asked _ _ _ _ _ w.value-is
          (w.are_typed.ensures ∙ ap (model.are_typed schema) slice ∙ typed-same schema h stands entry.datoms) three w.if-has_datoms_in_order.true
      | else-has_datoms_in_order w ↦ one-asked _ _ _ _ w.value-is three w.if-has_datoms_in_order.false
    ] in
    let five : c.if-are_typed.value
    ≡ ((((model.has_next_t h entry && model.has_later_instant h entry) && model.has_datoms_in_order h entry) && model.has_typed_values h entry)
    && model.has_allowed_changes h entry) =
    elim c.if-are_typed.branch [
      | then-are_typed w ↦
          both-asked _ _ _ _ _ w.value-is
          (w.are_allowed.ensures ∙ ap (model.are_allowed schema) slice ∙ allowed-same schema h stands entry.datoms) four w.if-are_typed.true
      | else-are_typed w ↦ one-asked _ _ _ _ w.value-is four w.if-are_typed.false
    ] in
    both-asked _ _ _ _ _ refl (c.keeps_names_and_instants.ensures ∙ ap (keeps_names_and_instants entry) slice) five c.if-are_allowed.true

pub returns-else-are_allowed : goal.returns-else-are_allowed
returns-else-are_allowed c = λ h is stands.
    let entry = c.args.entry.now in
    let schema = c.args.schema.now in
    let slice = c.as_slice-datoms.ensures in
    let next = c.has_next_t.ensures h is in
    let two : c.if-has_next_t.value ≡ (model.has_next_t h entry && model.has_later_instant h entry) =
    elim c.if-has_next_t.branch [
      | then-has_next_t w ↦ both-asked _ _ _ _ _ w.value-is (w.has_later_instant.ensures h is) next w.if-has_next_t.true
      | else-has_next_t w ↦ one-asked _ _ _ _ w.value-is next w.if-has_next_t.false
    ] in
    let three : c.if-has_later_instant.value
    ≡ ((model.has_next_t h entry && model.has_later_instant h entry) && model.has_datoms_in_order h entry) =
    elim c.if-has_later_instant.branch [
      | then-has_later_instant w ↦ both-asked _ _ _ _ _ w.value-is (w.has_datoms_in_order.ensures h) two w.if-has_later_instant.true
      | else-has_later_instant w ↦ one-asked _ _ _ _ w.value-is two w.if-has_later_instant.false
    ] in
    let four : c.if-has_datoms_in_order.value
    ≡ (((model.has_next_t h entry && model.has_later_instant h entry) && model.has_datoms_in_order h entry) && model.has_typed_values h entry) =
    elim c.if-has_datoms_in_order.branch [
      | then-has_datoms_in_order w ↦
          both-asked _ _ _ _ _ w.value-is
          (w.are_typed.ensures ∙ ap (model.are_typed schema) slice ∙ typed-same schema h stands entry.datoms) three w.if-has_datoms_in_order.true
      | else-has_datoms_in_order w ↦ one-asked _ _ _ _ w.value-is three w.if-has_datoms_in_order.false
    ] in
    let five : c.if-are_typed.value
    ≡ ((((model.has_next_t h entry && model.has_later_instant h entry) && model.has_datoms_in_order h entry) && model.has_typed_values h entry)
    && model.has_allowed_changes h entry) =
    elim c.if-are_typed.branch [
      | then-are_typed w ↦
          both-asked _ _ _ _ _ w.value-is
          (w.are_allowed.ensures ∙ ap (model.are_allowed schema) slice ∙ allowed-same schema h stands entry.datoms) four w.if-are_typed.true
      | else-are_typed w ↦ one-asked _ _ _ _ w.value-is four w.if-are_typed.false
    ] in
    one-asked _ _ _ _ refl five c.if-are_allowed.false
