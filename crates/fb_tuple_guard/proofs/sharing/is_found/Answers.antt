-- Who is met among those from before or among the changes.
use Rattle.std.proofs.Common.{◌∙◌, List, sym, subst}
use Rattle.std.proofs.lemmas.Result.{IfOk-weaker}
use Rattle.fb_values.specs.declared.facts.Datom.{Datom}
use Rattle.tuple_model.specs.Tuples.{Tuple}
use Rattle.fb_tuple_guard.specs.Sharing.{HasAllWith}
use Rattle.fb_tuple_guard.specs.Sought.{IsMember}
use Rattle.fb_tuple_guard.proofs.Found.{met_shares, met_else}
use Rattle.fb_tuple_guard.proofs.sharing.is_found.Goals as goal

pub returns-then-branch : goal.returns-then-branch
returns-then-branch c =
    let t = c.args.tuples.now in
    let s = c.args.sought.now in
    let member = subst (λ (u : Tuple). IsMember t.attrs.now u s.a s.v.now) c.requires.sought.tuple_is c.requires.sought.member in
    sym (met_shares t.before.now.entries t.changes.now t.attrs.now s.e s.a s.v.now member c.as_slice.result.now
    (sym c.in_ok-is_among.ensures ∙ c.if-branch.true))

pub returns : goal.returns
returns c =
    let t = c.args.tuples.now in
    let s = c.args.sought.now in
    let member = subst (λ (u : Tuple). IsMember t.attrs.now u s.a s.v.now) c.requires.sought.tuple_is c.requires.sought.member in
    let all =
    subst (λ (ds : List Datom). HasAllWith t.before.now.entries s.a s.v.now ds) (sym c.as_slice.ensures) c.in_ok-held.ensures in
    IfOk-weaker c.is_among-2.result _ _
    (λ b is. is
    ∙ met_else t.before.now.entries t.changes.now t.attrs.now s.e s.a s.v.now member c.as_slice.result.now all
    (sym c.in_ok-is_among.ensures ∙ c.if-branch.false))
    c.is_among-2.ensures
