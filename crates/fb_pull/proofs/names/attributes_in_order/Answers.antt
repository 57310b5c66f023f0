use Rattle.std.proofs.Common.{◌≡◌, ◌∙◌, ℕ, ◌+◌, ◌-◌, ◌<◌, List, length, get_or, ap, sym, subst, drop, arith}
use Rattle.std.specs.Prelude.{filter_map}
use Rattle.std.proofs.lemmas.List.{drop_all, drop_more}
use Rattle.pull_model.specs.Found.{names_in_order}
use Rattle.fb_pull.specs.Attributes.{name_of, HaveNames}
use Rattle.fb_pull.proofs.Named.{none_named}
use Rattle.fb_pull.proofs.Runs.{put_first}
use Rattle.fb_pull.proofs.names.attributes_in_order.Goals as goal

pub loop-i-init : goal.loop-i-init
loop-i-init c = record {
  within = omega arith;
  have =
      none_named c.args.schema.now c.in_ok-list.list.items _ c.in_ok-list.ensures.items
      (ap (λ l. names_in_order (filter_map (name_of c.args.schema.now) l)) (drop_all (length c.args.numbers.now) c.args.numbers.now (omega arith)));
}

pub loop-i-preserved : goal.loop-i-preserved
loop-i-preserved c =
    let ns = c.args.numbers.now in
    let name = name_of c.args.schema.now in
    let names = λ (l : List ℕ). names_in_order (filter_map name l) in
    let j = c.loop-i.i - 1 in
    let below : j < length ns = omega (arith, c.loop-i.invariant.within, c.loop-i-test.true) in
    let one : c.loop-i.i ≡ j + 1 = omega (arith, c.loop-i-test.true) in
    record {
      within = omega (arith, below);
      have =
          subst (HaveNames c.args.schema.now c.put_attribute.new.list.items)
          (sym (ap names (drop_more ns j 0 below) ∙ put_first name (get_or ns j 0) (drop (j + 1) ns)))
          (c.in_ok-put_attribute.ensures (names (drop (j + 1) ns))
          (subst (λ (n : ℕ). HaveNames c.args.schema.now c.loop-i.list.items (names (drop n ns))) one c.loop-i.invariant.have));
    }

pub returns : goal.returns
returns c =
    let none : c.loop-i.i ≡ 0 = omega (arith, c.loop-i-test.false) in
    subst (λ (n : ℕ). HaveNames c.args.schema.now c.loop-i.list.items
    (names_in_order (filter_map (name_of c.args.schema.now) (drop n c.args.numbers.now)))) none c.loop-i.invariant.have
