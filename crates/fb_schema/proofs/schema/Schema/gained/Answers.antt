use Rattle.std.proofs.Common.{◌↔◌, ◌+◌, ◌++◌, drop, ap, sym, subst, ◌∙◌}
use Rattle.std.specs.Prelude.{IsTrue, Contains}
use Rattle.fb_values.specs.declared.indexes.Order.TheVariants.{Avet}
use Rattle.fb_schema.specs.Change.{is_gained, described_where}
use Rattle.fb_schema.proofs.Drops.{drop_first, drop_end}
use Rattle.fb_schema.proofs.Gained.{told-then, told-else, told-end, gained_list}
use Rattle.fb_schema.proofs.schema.Schema.gained.Goals as goal
use Rattle.fb_schema.proofs.schema.Schema.gained.Goals.{then-describes_gained+in_ok-push, else-describes_gained}

pub loop-d-preserved : goal.loop-d-preserved
loop-d-preserved c =
    let ds = c.args.entry.now.datoms in
    let passes = is_gained Avet c.args.self.now c.args.after.now in
    let all = described_where passes ds in
    let rest = drop (c.loop-d.d-index + 1) ds in
    let d = c.d-item.result in
    let first =
    drop_first ds c.loop-d.d-index d (rw c.as_slice-d-items.ensures at c.loop-d-test.true) (rw c.as_slice-d-items.ensures at c.d-item.is) in
    let before = ap (λ l. c.loop-d.gained.items ++ described_where passes l) (sym first) ∙ c.loop-d.invariant in
    let is = c.describes_gained.ensures c.args.self.now c.args.after.now c.covers-held_before.ensures c.covers-held_after.ensures in
    elim c.if-describes_gained.branch [
      | then-describes_gained+in_ok-push w ↦
          ap (λ held. held.items ++ described_where passes rest) w.gained-is
          ∙ ap (λ held. held ++ described_where passes rest) w.in_ok-push.ensures.items
          ∙ told-then passes c.loop-d.gained.items all d rest (sym is ∙ w.if-describes_gained.true) before
      | else-describes_gained w ↦
          ap (λ held. held.items ++ described_where passes rest) w.gained-is
          ∙ told-else passes c.loop-d.gained.items all d rest (sym is ∙ w.if-describes_gained.false) before
    ]

pub returns : goal.returns
returns c = λ h was is a.
    let ds = c.args.entry.now.datoms in
    let passes = is_gained Avet c.args.self.now c.args.after.now in
    let nothing = drop_end ds c.loop-d.d-index (rw c.as_slice-d-items.ensures at c.loop-d-test.false) in
    let are = told-end passes c.loop-d.gained.items (described_where passes ds) (drop c.loop-d.d-index ds) nothing c.loop-d.invariant in
    subst (λ gained. IsTrue (passes a) ↔ Contains gained a) (sym are)
    (gained_list h c.args.entry.now c.args.self.now c.args.after.now was is a)
