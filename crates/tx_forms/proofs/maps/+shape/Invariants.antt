use Rattle.std.proofs.Common.{◌≡◌, drop}
use Rattle.edn_model.specs.Form as edn
use Rattle.edn_form.specs.View.{forms_of, pairs_of, members, entries}
use Rattle.tx_model.specs.Shapes.{have_member_shape}
use Rattle.tx_forms.specs.Shaped.{have_pair_shapes}
use Rattle.tx_forms.proofs.maps.+shape.Given as goal

abbrev pub invariant-has_map_shape-loop-key : goal.invariant-has_map_shape-loop-key
invariant-has_map_shape-loop-key l =
    have_pair_shapes (pairs_of (drop l.key-index (entries l.pairs))) ≡ have_pair_shapes (pairs_of (entries l.pairs))

abbrev pub invariant-have_member_shape-loop-f : goal.invariant-have_member_shape-loop-f
invariant-have_member_shape-loop-f l =
    have_member_shape (edn.forms (forms_of (drop l.f-index (members l.items)))) ≡ have_member_shape (edn.forms (forms_of (members l.items)))
