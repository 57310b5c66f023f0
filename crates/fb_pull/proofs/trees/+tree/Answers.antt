use Rattle.std.proofs.Common.{◌≡◌, ◌∙◌, [], ◌≤◌, ◌-◌, refl, false, cond, ℕ, List, drop, map, fold, get_or, ap, subst, sym}
use Rattle.std.proofs.Common.{arith}
use Rattle.std.specs.Prelude.{Err}
use Rattle.edn_form.specs.View.{pairs_of}
use Rattle.pull_model.specs.Found.{found, names_of_entity}
use Rattle.pull_model.specs.Made.{Inside, no_pairs_yet}
use Rattle.pull_model.specs.Patterns.{Pattern, Options, Item, Below, attribute, no_options, one}
use Rattle.pull_model.specs.Tree as model
use Rattle.pull_pattern.specs.View.{model_pattern, model_item, model_options, model_below}
use Rattle.fb_pull.specs.Attributes.{names_of}
use Rattle.fb_pull.specs.Below.{made_by}
use Rattle.fb_pull.specs.Finding.{Finds, name_sought}
use Rattle.fb_pull.specs.Paths.{path_above}
use Rattle.fb_pull.specs.Stands.{made_at, inside_at, with_other}
use Rattle.fb_pull.specs.Making.{Makes, MakesInside, MakesSeveral, Adds, IsInside, IsMadeAs, AreMadeAs, with_own}
use Rattle.fb_pull.proofs.Making.{inner_limits, left_of, handed_on, tree_told, tree_stops, one_told, one_stops, all_told, value_told, values_told}
use Rattle.fb_pull.proofs.Making.{entities_told, entities_stop, item_added, item_stops, pairs_whole, listed, other_added, other_stops}
use Rattle.fb_pull.proofs.Making.{all_others, own_added, as_attribute}
use Rattle.fb_pull.proofs.Named.{names_at, names_below, names_past}
use Rattle.fb_pull.proofs.trees.+tree.Goals as goal

pub tree-returns : goal.tree-returns
tree-returns g t c = λ facts sees.
    let limits = c.args.limits in
    let fits : limits.maps ≤ 4294967295 = omega arith in
    tree_told facts (model_pattern c.args.pattern.now) (path_above c.args.above) c.args.e limits c.if-limits-eq0.false c.if-limits-eq0-2.false fits
    c.in_ok-inside.inside _
    (subst (λ (path : List ℕ). IsInside (model.inside (model.tree (limits.depth - 1) facts) facts (model_pattern c.args.pattern.now)
    (drop 1 path) c.args.e) (inner_limits limits) c.in_ok-inside.inside)
    c.to-path.ensures (c.in_ok-inside.ensures facts sees))
    c.map.ensures c.saturating_add.ensures

pub tree-returns-in_err-inside : goal.tree-returns-in_err-inside
tree-returns-in_err-inside g t c = λ facts sees.
    let limits = c.args.limits in
    subst (Makes (model.tree limits.depth facts (model_pattern c.args.pattern.now) (path_above c.args.above) c.args.e) limits)
    (sym (handed_on _ c.from_residual-in_err-inside.result c.in_err-inside.field-0.0 c.from_residual-in_err-inside.ensures (λ x is. is)))
    (tree_stops facts (model_pattern c.args.pattern.now) (path_above c.args.above) c.args.e limits c.if-limits-eq0.false c.if-limits-eq0-2.false
    c.in_err-inside.field-0.0
    (subst (λ (path : List ℕ). MakesInside (model.inside (model.tree (limits.depth - 1) facts) facts (model_pattern c.args.pattern.now)
    (drop 1 path) c.args.e) (inner_limits limits) (Err c.in_err-inside.field-0.0))
    c.to-path.ensures (c.in_err-inside.ensures facts sees)))

pub value-returns-in-Value : goal.value-returns-in-Value
value-returns-in-Value g t c = λ facts sees.
    let limits = left_of c.args.at.now.limits c.args.left in
    let there = found facts c.args.at.now.e (name_sought c.args.asked.now.sought) in
    value_told facts (model_pattern c.args.at.now.pattern.now) c.args.asked.now.place c.args.at.now.path
    (model_options c.args.asked.now.options.now) (model_below c.args.asked.now.below.now) limits there c.in-Value.form
    (subst (Finds there (model_options c.args.asked.now.options.now) c.args.left) c.in-Value.is (c.in_ok-found_of.ensures facts sees))

pub value-returns-in-Values : goal.value-returns-in-Values
value-returns-in-Values g t c = λ facts sees.
    let limits = left_of c.args.at.now.limits c.args.left in
    let there = found facts c.args.at.now.e (name_sought c.args.asked.now.sought) in
    values_told facts (model_pattern c.args.at.now.pattern.now) c.args.asked.now.place c.args.at.now.path
    (model_options c.args.asked.now.options.now) (model_below c.args.asked.now.below.now) limits
    there c.in-Values.forms (record { form = c.collected.result; maps = 0 })
    (subst (Finds there (model_options c.args.asked.now.options.now) c.args.left) c.in-Values.is (c.in_ok-found_of.ensures facts sees))
    c.collected.ensures refl

pub value-returns-in_ok-all-in-Entities : goal.value-returns-in_ok-all-in-Entities
value-returns-in_ok-all-in-Entities g t c = λ facts sees.
    let limits = left_of c.args.at.now.limits c.args.left in
    let there = found facts c.args.at.now.e (name_sought c.args.asked.now.sought) in
    let told = made_by (model.tree limits.depth facts) c.in_ok-inner-in-Entities.inner c.args.at.now.path in
    entities_told facts (model_pattern c.args.at.now.pattern.now) c.args.asked.now.place c.args.at.now.path
    (model_options c.args.asked.now.options.now) (model_below c.args.asked.now.below.now) limits
    there c.in-Entities.several c.in-Entities.parts c.in-Entities.list told c.in_ok-all-in-Entities.all
    (record { form = c.collected-in-Entities.result; maps = c.in_ok-all-in-Entities.all.maps })
    (subst (Finds there (model_options c.args.asked.now.options.now) c.args.left) c.in-Entities.is (c.in_ok-found_of.ensures facts sees))
    (λ n. c.in_ok-inner-in-Entities.ensures (model.tree limits.depth facts) c.args.at.now.path n)
    (subst (λ (ns : List ℕ). AreMadeAs (map told ns) limits c.in_ok-all-in-Entities.all) c.deref.ensures.value
    (c.in_ok-all-in-Entities.ensures facts sees))
    c.collected-in-Entities.ensures refl

pub value-returns-in_err-all-in-Entities : goal.value-returns-in_err-all-in-Entities
value-returns-in_err-all-in-Entities g t c = λ facts sees.
    let limits = left_of c.args.at.now.limits c.args.left in
    let there = found facts c.args.at.now.e (name_sought c.args.asked.now.sought) in
    let told = made_by (model.tree limits.depth facts) c.in_ok-inner-in-Entities.inner c.args.at.now.path in
    subst (Makes (model.value_of (model.tree limits.depth facts) (model_pattern c.args.at.now.pattern.now) c.args.asked.now.place
    c.args.at.now.path (model_options c.args.asked.now.options.now) (model_below c.args.asked.now.below.now) there) limits)
    (sym (handed_on _ c.from_residual-in_err-all-in-Entities.result c.in_err-all-in-Entities.field-0.0
    c.from_residual-in_err-all-in-Entities.ensures (λ x is. is)))
    (entities_stop facts (model_pattern c.args.at.now.pattern.now) c.args.asked.now.place c.args.at.now.path
    (model_options c.args.asked.now.options.now) (model_below c.args.asked.now.below.now) limits
    there c.in-Entities.several c.in-Entities.parts c.in-Entities.list told
    (subst (Finds there (model_options c.args.asked.now.options.now) c.args.left) c.in-Entities.is (c.in_ok-found_of.ensures facts sees))
    (λ n. c.in_ok-inner-in-Entities.ensures (model.tree limits.depth facts) c.args.at.now.path n)
    c.in_err-all-in-Entities.field-0.0
    (subst (λ (ns : List ℕ). MakesSeveral (map told ns) limits (Err c.in_err-all-in-Entities.field-0.0)) c.deref.ensures.value
    (c.in_err-all-in-Entities.ensures facts sees)))

pub add_other-returns : goal.add_other-returns
add_other-returns g t c = λ facts sees before is.
    let at = c.args.at.now in
    let name = c.args.attribute.now.ident in
    let has : model.has_item_for name (model_pattern at.pattern.now) ≡ false =
    ap (model.has_item_for name) (sym c.items.ensures) ∙ sym c.has_item_for.ensures ∙ c.if-has_item_for.false in
    subst (λ b. Adds (cond b before (with_other at facts before c.args.place name)) at.limits c.add_sought.new.inside c.add_sought.result)
    (sym has) (c.add_sought.ensures facts sees before is)

pub add_other-returns-then-is_reversed : goal.add_other-returns-then-is_reversed
add_other-returns-then-is_reversed g t c = λ facts sees before is.
    let at = c.args.at.now in
    let name = c.args.attribute.now.ident in
    let has : model.has_item_for name (model_pattern at.pattern.now) ≡ false =
    ap (model.has_item_for name) (sym c.items.ensures) ∙ sym c.has_item_for.ensures ∙ c.if-has_item_for.false in
    subst (λ b. Adds (cond b before (with_other at facts before c.args.place name)) at.limits c.add_meant.new.inside c.add_meant.result)
    (sym has) (c.add_meant.ensures facts sees before is)

pub add_meant-returns : goal.add_meant-returns
add_meant-returns g t c = λ facts sees before is.
    let at = c.args.at.now in
    subst (λ (name : List ℕ). Adds (with_other at facts before c.args.place name) at.limits c.add_sought.new.inside c.add_sought.result)
    c.in_ok-name.ensures (c.add_sought.ensures facts sees before is)

pub add_sought-returns : goal.add_sought-returns
add_sought-returns g t c = λ facts sees before is.
    let at = c.args.at.now in
    let other = λ (options : Options) (below : Below). model.with_item (made_at at facts) before
    (c.args.place, attribute (name_sought c.args.sought) options below) in
    subst (λ (below : Below). Adds (other no_options below) at.limits c.add_attribute.new.inside c.add_attribute.result)
    c.usual.ensures
    (subst (λ (options : Options). Adds (other options (model_below c.usual.result)) at.limits c.add_attribute.new.inside
    c.add_attribute.result) c.none.ensures
    (c.add_attribute.ensures facts sees before is))

pub add_item-returns-in-Attribute : goal.add_item-returns-in-Attribute
add_item-returns-in-Attribute g t c = λ facts sees before is.
    let at = c.args.at.now in
    let as_item : model_item c.args.item.now ≡ attribute c.in-Attribute.name (model_options c.in-Attribute.options)
    (model_below c.in-Attribute.below) =
    as_attribute c.args.item.now c.in-Attribute.name c.in-Attribute.options c.in-Attribute.below c.in-Attribute.is in
    subst (λ (i : Item). Adds (fold (model.with_item (made_at at facts)) before
    (model.items_from facts at.e (model_pattern at.pattern.now) c.args.place (one i))) at.limits c.add_attribute.new.inside
    c.add_attribute.result) (sym as_item)
    (c.add_attribute.ensures facts sees before is)

pub all_told-returns : goal.all_told-returns
all_told-returns g t c = λ facts sees.
    all_told (made_by (model.tree c.args.limits.depth facts) c.args.inner.now c.args.path.now) c.args.entities.now c.args.limits
    c.loop-n.n-index c.loop-n.all c.loop-n-test.false (c.loop-n.invariant facts sees)

pub all_told-returns-in_err-told : goal.all_told-returns-in_err-told
all_told-returns-in_err-told g t c = λ facts sees.
    let limits = c.args.limits in
    let told = made_by (model.tree limits.depth facts) c.args.inner.now c.args.path.now in
    let ns = c.args.entities.now in
    let stop = c.in_err-told.field-0.0 in
    let n = get_or ns c.loop-n.n-index 0 in
    subst (MakesSeveral (map told ns) limits) (sym (handed_on _ c.from_residual.result stop c.from_residual.ensures (λ x is. is)))
    (one_stops told ns limits c.loop-n.n-index n c.loop-n.all c.loop-n-test.true refl (c.loop-n.invariant facts sees) stop
    (subst (λ (maps : ℕ). Makes (told n) (left_of limits maps) (Err stop)) c.saturating_sub.ensures (c.in_err-told.ensures facts sees)))

pub all_told-loop-n-preserved : goal.all_told-loop-n-preserved
all_told-loop-n-preserved g t c = λ facts sees.
    let limits = c.args.limits in
    let told = made_by (model.tree limits.depth facts) c.args.inner.now c.args.path.now in
    let ns = c.args.entities.now in
    let n = get_or ns c.loop-n.n-index 0 in
    let fits : limits.maps ≤ 4294967295 = omega arith in
    one_told told ns limits fits c.loop-n.n-index n c.loop-n.all c.add.new.self c.in_ok-told.told c.loop-n-test.true refl
    (c.loop-n.invariant facts sees)
    (subst (λ (maps : ℕ). IsMadeAs (told n) (left_of limits maps) c.in_ok-told.told) c.saturating_sub.ensures
    (c.in_ok-told.ensures facts sees))
    c.in_ok-add.ensures.forms c.in_ok-add.ensures.maps

pub pairs-returns : goal.pairs-returns
pairs-returns g t c = λ facts sees.
    let at = c.args.at.now in
    pairs_whole facts (model_pattern at.pattern.now) at.e (made_at at facts) c.items-items.result.now at.limits c.loop-place.place
    c.loop-place.inside c.loop-place-test.false c.items-items.ensures (c.loop-place.invariant facts sees)

pub pairs-returns-in_err-add_item : goal.pairs-returns-in_err-add_item
pairs-returns-in_err-add_item g t c = λ facts sees.
    let at = c.args.at.now in
    let P = model_pattern at.pattern.now in
    let items = c.items-items.result.now in
    let stop = c.in_err-add_item.field-0.0 in
    subst (MakesInside (inside_at at facts) at.limits)
    (sym (handed_on _ c.from_residual.result stop c.from_residual.ensures (λ x is. is)))
    (subst (λ (p : Pattern). MakesInside (fold (model.with_item (made_at at facts)) no_pairs_yet (model.items_from facts at.e P 0 p))
    at.limits (Err stop)) c.items-items.ensures
    (item_stops facts P at.e (made_at at facts) items at.limits c.loop-place.place stop c.add_item.new.inside
    (subst (λ (m : Inside). Adds m at.limits c.add_item.new.inside (Err stop))
    (item_added facts P at.e (made_at at facts) items at.limits c.loop-place.place c.index-items-place.result c.loop-place-test.true
    c.index-items-place.is)
    (c.in_err-add_item.ensures facts sees _ (c.loop-place.invariant facts sees)))))

pub pairs-loop-place-preserved : goal.pairs-loop-place-preserved
pairs-loop-place-preserved g t c = λ facts sees.
    let at = c.args.at.now in
    let P = model_pattern at.pattern.now in
    let items = c.items-items.result.now in
    subst (λ (m : Inside). IsInside m at.limits c.add_item.new.inside)
    (item_added facts P at.e (made_at at facts) items at.limits c.loop-place.place c.index-items-place.result c.loop-place-test.true
    c.index-items-place.is)
    (c.in_ok-add_item.ensures facts sees _ (c.loop-place.invariant facts sees))

pub add_everything-loop-attribute-init : goal.add_everything-loop-attribute-init
add_everything-loop-attribute-init g t c = λ facts sees before is.
    let at = c.args.at.now in
    own_added (model.tree at.limits.depth facts) facts (model_pattern at.pattern.now)
    (drop 1 at.path) at.e c.args.place at.limits before
    no_options c.args.inside.now c.add_own.new.inside is
    (c.in_ok-add_own.ensures.pairs ∙ ap (λ (options : Options). with_own (pairs_of c.args.inside.now.pairs.items) options at.e)
    c.none.ensures) c.in_ok-add_own.ensures.maps

pub add_everything-loop-attribute-preserved : goal.add_everything-loop-attribute-preserved
add_everything-loop-attribute-preserved g t c = λ facts sees before is.
    let at = c.args.at.now in
    subst (λ (m : Inside). IsInside m at.limits c.add_other.new.inside)
    (other_added facts (model_pattern at.pattern.now) at.e c.args.place (made_at at facts) at.limits before
    (names_of c.deref-attribute-items.result.now) c.loop-attribute.attribute-index c.attribute-item.result.now.ident
    (names_below c.deref-attribute-items.result.now c.loop-attribute.attribute-index c.loop-attribute-test.true)
    (names_at c.deref-attribute-items.result.now c.loop-attribute.attribute-index c.attribute-item.result c.loop-attribute-test.true
    c.attribute-item.is))
    (c.in_ok-add_other.ensures facts sees _ (c.loop-attribute.invariant facts sees before is))

pub add_everything-returns : goal.add_everything-returns
add_everything-returns g t c = λ facts sees before is.
    let at = c.args.at.now in
    let P = model_pattern at.pattern.now in
    subst (λ (names : List (List ℕ)). IsInside (fold (model.with_item (made_at at facts)) before
    (listed facts P at.e c.args.place (made_at at facts) at.limits before [] names)) at.limits c.loop-attribute.inside)
    (ap names_of c.deref-attribute-items.ensures.value ∙ c.in_ok-attributes.ensures.names facts sees)
    (all_others facts P at.e c.args.place (made_at at facts) at.limits before (names_of c.deref-attribute-items.result.now)
    c.loop-attribute.attribute-index c.loop-attribute.inside
    (names_past c.deref-attribute-items.result.now c.loop-attribute.attribute-index c.loop-attribute-test.false)
    (c.loop-attribute.invariant facts sees before is))

pub add_everything-returns-in_err-add_other : goal.add_everything-returns-in_err-add_other
add_everything-returns-in_err-add_other g t c = λ facts sees before is.
    let at = c.args.at.now in
    let P = model_pattern at.pattern.now in
    let stop = c.in_err-add_other.field-0.0 in
    let m = made_at at facts in
    subst (Adds (fold (model.with_item m) before (listed facts P at.e c.args.place m at.limits before [] (names_of_entity facts at.e)))
    at.limits c.add_other.new.inside) (sym (handed_on _ c.from_residual-in_err-add_other.result stop
    c.from_residual-in_err-add_other.ensures (λ x same. same)))
    (subst (λ (names : List (List ℕ)). Adds (fold (model.with_item m) before
    (listed facts P at.e c.args.place m at.limits before [] names)) at.limits c.add_other.new.inside (Err stop))
    (ap names_of c.deref-attribute-items.ensures.value ∙ c.in_ok-attributes.ensures.names facts sees)
    (other_stops facts P at.e c.args.place m at.limits before (names_of c.deref-attribute-items.result.now) c.loop-attribute.attribute-index
    stop c.add_other.new.inside
    (subst (λ (n : Inside). Adds n at.limits c.add_other.new.inside (Err stop))
    (other_added facts P at.e c.args.place m at.limits before (names_of c.deref-attribute-items.result.now)
    c.loop-attribute.attribute-index c.attribute-item.result.now.ident
    (names_below c.deref-attribute-items.result.now c.loop-attribute.attribute-index c.loop-attribute-test.true)
    (names_at c.deref-attribute-items.result.now c.loop-attribute.attribute-index c.attribute-item.result c.loop-attribute-test.true
    c.attribute-item.is))
    (c.in_err-add_other.ensures facts sees _ (c.loop-attribute.invariant facts sees before is)))))
