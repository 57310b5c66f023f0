use Rattle.std.proofs.Common.{◌∙◌, sym, ap}
use Rattle.fb_values.specs.declared.facts.Datom.{Datom}
use Rattle.fb_backup.proofs.SameDatoms.{decides-no, same-datom, other-triple}
use Rattle.fb_backup.proofs.same.is_same_datom.Goals as goal

pub returns-then-have_one_triple : goal.returns-then-have_one_triple
returns-then-have_one_triple c = (
  (λ is.
      let both = c.are_of_one_change.ensures.0 is in
      same-datom c.args.x.now c.args.y.now (sym c.have_one_triple.ensures ∙ c.if-have_one_triple.true) both.0 both.1),
  (λ same. c.are_of_one_change.ensures.1 (ap (λ (d : Datom). d.t) same, ap (λ (d : Datom). d.added) same)),
)

pub returns-else-have_one_triple : goal.returns-else-have_one_triple
returns-else-have_one_triple c =
    rw c.if-have_one_triple.false
    (decides-no (other-triple c.args.x.now c.args.y.now (sym c.have_one_triple.ensures ∙ c.if-have_one_triple.false)))
