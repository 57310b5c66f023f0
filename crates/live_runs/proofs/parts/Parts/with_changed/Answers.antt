use Rattle.std.proofs.Common.{◌≡◌, ◌∙◌, ◌++◌, List, length, sym, ap}
use Rattle.std.specs.List.{All}
use Rattle.std.proofs.lemmas.Bool.{eqb-true}
use Rattle.std.proofs.lemmas.List.{map-append}
use Rattle.std.proofs.lemmas.List.Elements.{All-append, All-same}
use Rattle.std.proofs.lemmas.Result.{IfOk-weaker}
use Rattle.fb_values.specs.declared.facts.Datom.{Datom}
use Rattle.live_runs.specs.declared.members.Member.{Member}
use Rattle.live_runs.specs.declared.parts.Part.{Part}
use Rattle.live_runs.specs.Changes.{changed_by}
use Rattle.live_runs.specs.Members.{IsMember, datom_of, named}
use Rattle.live_runs.specs.Parts.{members_in}
use Rattle.live_runs.proofs.Stepping.{no_changes_same}
use Rattle.live_runs.proofs.parts.Parts.with_changed.Goals as goal

pub returns-in_ok-share-clause-all : goal.returns-in_ok-share-clause-all
returns-in_ok-share-clause-all c =
    IfOk-weaker c.with.result (λ p. p ≡ c.args.self ++ members_in c.in_ok-share.field-0)
    (λ p. All (IsMember c.args.order c.args.table.now) p)
    (λ p same. All-same (IsMember c.args.order c.args.table.now) p (c.args.self ++ members_in c.args.part.now)
    (same ∙ ap (λ (q : Part). c.args.self ++ members_in q) c.in_ok-share.ensures)
    (All-append (IsMember c.args.order c.args.table.now) c.args.self (members_in c.args.part.now) c.requires.all c.requires.members.members))
    c.with.ensures

pub returns-in_ok-share-clause-datoms : goal.returns-in_ok-share-clause-datoms
returns-in_ok-share-clause-datoms c =
    let none : length c.args.changes.now ≡ 0 = eqb-true (length c.args.changes.now) 0 (sym c.is_empty.ensures ∙ c.if-is_empty.true) in
    let stays : changed_by c.args.order c.args.table.now c.args.changes.now (named c.args.table.now (members_in c.args.part.now))
    ≡ named c.args.table.now (members_in c.args.part.now) =
    no_changes_same c.args.order c.args.table.now c.args.changes.now (members_in c.args.part.now) c.requires.single c.requires.members
    c.requires.changes none in
    IfOk-weaker c.with.result (λ p. p ≡ c.args.self ++ members_in c.in_ok-share.field-0)
    (λ p. named c.args.table.now p ≡ named c.args.table.now c.args.self
    ++ changed_by c.args.order c.args.table.now c.args.changes.now (named c.args.table.now (members_in c.args.part.now)))
    (λ p same. ap (named c.args.table.now) (same ∙ ap (λ (q : Part). c.args.self ++ members_in q) c.in_ok-share.ensures)
    ∙ map-append (λ (m : Member). datom_of c.args.table.now m.number) c.args.self (members_in c.args.part.now)
    ∙ ap (λ (l : List Datom). named c.args.table.now c.args.self ++ l) (sym stays)) c.with.ensures
