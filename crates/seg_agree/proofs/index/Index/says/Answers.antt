use Rattle.std.proofs.Common.{List, sym, subst, arith}
use Rattle.std.specs.Prelude.{Contains}
use Rattle.std.proofs.lemmas.Bool.{leb-true}
use Rattle.fb_values.specs.declared.facts.Datom.{Datom}
use Rattle.fb_values.specs.declared.indexes.Order.TheVariants.{Eavt}
use Rattle.fb_values.specs.Rising.{IsRising}
use Rattle.seg_agree.proofs.Entries.{said_upto_has, said_upto_early, has_said_upto, entry_rises}
use Rattle.seg_agree.proofs.index.Index.says.Goals as goal

pub is_among-requires : goal.is_among-requires
is_among-requires c =
    subst (IsRising Eavt) (sym c.as_slice.ensures)
    (entry_rises c.args.self.now.entries.now c.args.d.now.t c.at.result.now c.requires.lawful c.at.ensures)

pub returns-then-d-self : goal.returns-then-d-self
returns-then-d-self c =
    let h = c.args.self.now.entries.now in
    let d = c.args.d.now in (
      (λ is. has_said_upto h c.args.self.now.c c.at.result.now d c.requires.lawful c.if-d-self.true c.at.ensures
          (subst (λ (ds : List Datom). Contains ds d) c.as_slice.ensures (c.is_among.ensures.0 is))),
      (λ member. c.is_among.ensures.1 (subst (λ (ds : List Datom). Contains ds d) (sym c.as_slice.ensures)
          (said_upto_has h c.args.self.now.c c.at.result.now d c.requires.lawful c.at.ensures member))),
    )

pub returns-else-d-self : goal.returns-else-d-self
returns-else-d-self c = (
  (λ is. absurd (omega (arith, leb-true c.args.d.now.t c.args.self.now.c is, c.if-d-self.false))),
  (λ member. absurd (omega (
    arith,
    c.if-d-self.false,
    said_upto_early c.args.self.now.entries.now c.args.self.now.c c.args.d.now c.requires.lawful member,
  ))),
)
