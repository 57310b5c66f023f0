use Rattle.std.proofs.Common.{◌≤◌, arith}
use Rattle.fb_values.specs.declared.indexes.Order.TheVariants.{Eavt, Aevt, Avet, Vaet}
use Rattle.seg_merge.proofs.Orders.{older_than, kept_first, in_each_order, FourBuilt, built_in_row, built_distinct}
use Rattle.seg_merge.proofs.Directories.{built_directories, later_directories}
use Rattle.seg_merge.proofs.merge.Plans.build.Goals as goal

pub build-requires-clause-older : goal.build-requires-clause-older
build-requires-clause-older c = c.requires.older Eavt

pub build-requires-2-clause-older : goal.build-requires-2-clause-older
build-requires-2-clause-older c =
    older_than c.args.first c.in_ok-eavt.second c.args.self.aevt.kept c.in_ok-eavt.ensures.behind (c.requires.older Aevt)

pub build-requires-3-clause-older : goal.build-requires-3-clause-older
build-requires-3-clause-older c =
    let le : c.args.first ≤ c.in_ok-aevt.third = omega (arith, c.in_ok-eavt.ensures.behind, c.in_ok-aevt.ensures.behind) in
    older_than c.args.first c.in_ok-aevt.third c.args.self.avet.kept le (c.requires.older Avet)

pub build-requires-4-clause-older : goal.build-requires-4-clause-older
build-requires-4-clause-older c =
    let le : c.args.first ≤ c.in_ok-avet.fourth =
    omega (arith, c.in_ok-eavt.ensures.behind, c.in_ok-aevt.ensures.behind, c.in_ok-avet.ensures.behind) in
    older_than c.args.first c.in_ok-avet.fourth c.args.self.vaet.kept le (c.requires.older Vaet)

pub invariant_of-result : goal.invariant_of-result
invariant_of-result c =
    let self = c.args.self in
    let built : FourBuilt c.args.first c.in_ok-eavt.second c.in_ok-aevt.third c.in_ok-avet.fourth c.in_ok-vaet.field-0-1 self.eavt self.aevt
    self.avet self.vaet c.in_ok-eavt.eavt c.in_ok-aevt.aevt c.in_ok-avet.avet c.in_ok-vaet.vaet =
    record {
      eavt = c.in_ok-eavt.ensures;
      aevt = c.in_ok-aevt.ensures;
      avet = c.in_ok-avet.ensures;
      vaet = c.in_ok-vaet.ensures;
      b_older = c.requires.older Aevt;
      v_older = c.requires.older Avet;
      r_older = c.requires.older Vaet;
    } in
    record { distinct = built_distinct _ _ _ _ _ _ _ _ _ _ _ _ _ built c.requires.once }

pub returns-clause-kept : goal.returns-clause-kept
returns-clause-kept c =
    let first = c.args.first in
    let second = c.in_ok-eavt.second in
    let third = c.in_ok-aevt.third in
    let fourth = c.in_ok-avet.fourth in
    let next = c.in_ok-vaet.field-0-1 in
    let b = c.in_ok-eavt.ensures.behind in
    let d : first ≤ third = omega (arith, b, c.in_ok-aevt.ensures.behind) in
    let e : first ≤ fourth = omega (arith, d, c.in_ok-avet.ensures.behind) in
    in_each_order _
    c.in_ok-eavt.ensures.kept
    (kept_first first second third c.args.self.aevt c.in_ok-aevt.aevt b (c.requires.older Aevt) c.in_ok-aevt.ensures)
    (kept_first first third fourth c.args.self.avet c.in_ok-avet.avet d (c.requires.older Avet) c.in_ok-avet.ensures)
    (kept_first first fourth next c.args.self.vaet c.in_ok-vaet.vaet e (c.requires.older Vaet) c.in_ok-vaet.ensures)

pub returns-clause-ids : goal.returns-clause-ids
returns-clause-ids c =
    let self = c.args.self in
    built_in_row c.args.first c.in_ok-eavt.second c.in_ok-aevt.third c.in_ok-avet.fourth c.in_ok-vaet.field-0-1 self.eavt self.aevt
    self.avet self.vaet c.in_ok-eavt.eavt c.in_ok-aevt.aevt c.in_ok-avet.avet c.in_ok-vaet.vaet (record {
      eavt = c.in_ok-eavt.ensures;
      aevt = c.in_ok-aevt.ensures;
      avet = c.in_ok-avet.ensures;
      vaet = c.in_ok-vaet.ensures;
      b_older = c.requires.older Aevt;
      v_older = c.requires.older Avet;
      r_older = c.requires.older Vaet;
    })

pub returns-clause-directories : goal.returns-clause-directories
returns-clause-directories c =
    let first = c.args.first in
    let b = c.in_ok-eavt.ensures.behind in
    let d : first ≤ c.in_ok-aevt.third = omega (arith, b, c.in_ok-aevt.ensures.behind) in
    let e : first ≤ c.in_ok-avet.fourth = omega (arith, d, c.in_ok-avet.ensures.behind) in
    in_each_order _
    (built_directories _ _ _ c.in_ok-eavt.ensures)
    (later_directories first c.in_ok-eavt.second c.in_ok-aevt.aevt b (built_directories _ _ _ c.in_ok-aevt.ensures))
    (later_directories first c.in_ok-aevt.third c.in_ok-avet.avet d (built_directories _ _ _ c.in_ok-avet.ensures))
    (later_directories first c.in_ok-avet.fourth c.in_ok-vaet.vaet e (built_directories _ _ _ c.in_ok-vaet.ensures))
