use Rattle.std.proofs.Common.{rules}
use Rattle.edn_form.specs.View.{entries}
use Rattle.tx_forms.proofs.ShapeRules.{no_pair_shape, no_value_shape, all_whole}
use Rattle.tx_forms.proofs.maps.+shape.Goals as goal

pub has_map_shape-returns-then-not-has_pair_shape : goal.has_map_shape-returns-then-not-has_pair_shape
has_map_shape-returns-then-not-has_pair_shape t c =
    no_pair_shape (entries c.args.pairs.now) c.loop-key.key-index c.loop-key-item.result c.loop-key.invariant (search rules) (search rules)
    (search rules)

pub has_map_shape-returns-then-not-has_value_shape : goal.has_map_shape-returns-then-not-has_value_shape
has_map_shape-returns-then-not-has_value_shape t c =
    no_value_shape (entries c.args.pairs.now) c.loop-key.key-index c.loop-key-item.result c.loop-key.invariant (search rules) (search rules)
    (search rules)

pub has_map_shape-returns : goal.has_map_shape-returns
has_map_shape-returns t c =
    all_whole (entries c.args.pairs.now) c.loop-key.key-index c.loop-key.invariant (search rules) (search rules)
