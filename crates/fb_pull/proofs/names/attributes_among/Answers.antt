use Rattle.std.proofs.Common.{◌≡◌, ℕ, ap, subst, drop, length, arith}
use Rattle.std.proofs.lemmas.List.{drop_all}
use Rattle.fb_pull.specs.Attributes.{names_among, HaveNames}
use Rattle.fb_pull.specs.Near.{lent}
use Rattle.fb_pull.proofs.Entities.{lent_past}
use Rattle.fb_pull.proofs.Named.{none_named}
use Rattle.fb_pull.proofs.names.attributes_among.Goals as goal

pub loop-i-init : goal.loop-i-init
loop-i-init c =
    let ds = c.args.datoms.now in
    record {
      within = omega arith;
      have =
          none_named c.args.schema.now c.in_ok-list.list.items _ c.in_ok-list.ensures.items
          (ap (names_among c.args.schema.now) (drop_all (length ds) (lent ds) (lent_past ds (length ds) (omega arith))));
    }

pub returns : goal.returns
returns c =
    let none : c.loop-i.i ≡ 0 = omega (arith, c.loop-i-test.false) in
    subst (λ (n : ℕ). HaveNames c.args.schema.now c.loop-i.list.items (names_among c.args.schema.now (drop n (lent c.args.datoms.now))))
    none c.loop-i.invariant.have
