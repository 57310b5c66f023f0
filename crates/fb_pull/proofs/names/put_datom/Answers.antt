use denote.Ref.{Bor}
use Rattle.std.proofs.Common.{◌∙◌, ◌+◌, ◌<◌, ap, sym, subst, drop}
use Rattle.std.proofs.lemmas.Result.{IfOk-weaker}
use Rattle.fb_values.specs.declared.facts.Datom.{Datom}
use Rattle.fb_pull.specs.Attributes.{name_of, names_among, put, HaveNames}
use Rattle.fb_pull.specs.Near.{lent}
use Rattle.fb_pull.proofs.Entities.{lent_at, lent_below, lent_length}
use Rattle.fb_pull.proofs.Runs.{first_of_names, no_name_more}
use Rattle.fb_pull.proofs.names.put_datom.Goals as goal

pub returns-then-datoms-i : goal.returns-then-datoms-i
returns-then-datoms-i c = λ before.
    let ds = c.args.datoms.now in
    let x = c.index-datoms-i.result in
    let y = c.index-datoms-i-then-i-datoms.result in
    subst (HaveNames c.args.schema.now c.args.list.now.items)
    (no_name_more c.args.schema.now (lent ds) c.args.i x.now y.now (subst (λ n. c.args.i + 1 < n) (sym (lent_length ds)) c.if-i-datoms.true)
    (lent_at ds c.args.i x c.requires c.index-datoms-i.is)
    (lent_at ds (c.args.i + 1) y c.if-i-datoms.true c.index-datoms-i-then-i-datoms.is)
    (ap (λ (d : Bor Datom). d.now.a) c.index-datoms-i-then-i-datoms.is ∙ c.if-datoms-i.true
    ∙ sym (ap (λ (d : Bor Datom). d.now.a) c.index-datoms-i.is)))
    before

pub returns : goal.returns
returns c = λ before.
    let ds = c.args.datoms.now in
    let x = c.index-datoms-i.result in
    let rest = names_among c.args.schema.now (drop (c.args.i + 1) (lent ds)) in
    IfOk-weaker c.put_attribute.result _ _
    (λ done has. subst (HaveNames c.args.schema.now c.put_attribute.new.list.items)
    (ap (λ (d : Bor Datom). put (name_of c.args.schema.now d.now.a) rest) (sym c.index-datoms-i.is)
    ∙ sym (first_of_names c.args.schema.now (lent ds) c.args.i x.now (lent_below ds c.args.i c.requires)
    (lent_at ds c.args.i x c.requires c.index-datoms-i.is)))
    has)
    (c.put_attribute.ensures rest before)
