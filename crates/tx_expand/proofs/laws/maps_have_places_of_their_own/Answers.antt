use Rattle.std.proofs.Common.{arith, refl}
use Rattle.tx_expand.proofs.FormsNumbered.{forms_numbered, all_apart}
use Rattle.tx_expand.proofs.Whole.{places, placed_alone}
use Rattle.tx_expand.proofs.laws.maps_have_places_of_their_own.Goals as goal

pub returns : goal.returns
returns c = λ facts fs. (
  places facts facts (λ k. refl) fs,
  (
    all_apart (forms_numbered facts 0 0 fs).places (forms_numbered facts 0 0 fs).apart,
    omega (arith, (forms_numbered facts 0 0 fs).next),
    placed_alone facts facts (λ k. refl) fs,
  ),
)
