use Rattle.std.proofs.Common.{◌≡◌, ◌∙◌, ◌∷◌, ◌++◌, List, [], Ok, Err, Result, length, take, drop, sym, ap, subst}
use Rattle.std.specs.Prelude.{IfOk}
use Rattle.std.specs.List.{All}
use Rattle.std.proofs.lemmas.List.{nil_from_length}
use Rattle.std.proofs.lemmas.List.Elements.{All-head, All-tail}
use Rattle.fb_values.specs.Rising.{IsRising}
use Rattle.live_runs.specs.declared.members.Change.{Change}
use Rattle.live_runs.specs.declared.parts.Part.{Part}
use Rattle.live_runs.specs.Changes.{AreChanges, AreMembers, added, changed_by, removed}
use Rattle.live_runs.specs.Members.{IsMember, named}
use Rattle.live_runs.specs.Parts.{IsPart, members_in, members_of, upto_next}
use Rattle.live_runs.proofs.Changed.{changed_rises}
use Rattle.live_runs.proofs.Named.{may_change}
use Rattle.live_runs.proofs.Parted.{IsWoven, firsts_are, of_part, of_rest, part_parted, woven_more}
use Rattle.live_runs.proofs.Stepping.{members_within}
use Rattle.live_runs.proofs.parts.Parts.with_changes.Goals as goal

pub upto_next-requires-clause-firsts : goal.upto_next-requires-clause-firsts
upto_next-requires-clause-firsts c =
    let next : c.loop-part.later.now ≡ c.in-Some.part.now ∷ c.in-Some.rest.now =
    c.in-Some.ensures.cases.0 in
    let parts : All IsPart (c.in-Some.part.now ∷ c.in-Some.rest.now) = subst (All IsPart) next c.loop-part.invariant.parts in
    let are : AreMembers c.args.order c.args.table.now (members_of (c.in-Some.part.now ∷ c.in-Some.rest.now)) =
    subst (λ (l : List Part). AreMembers c.args.order c.args.table.now (members_of l)) next c.loop-part.invariant.later_are in
    firsts_are c.args.order c.args.table.now c.in-Some.rest.now (All-tail IsPart c.in-Some.part.now c.in-Some.rest.now parts)
    (of_rest c.args.order c.args.table.now c.in-Some.part.now c.in-Some.rest.now are)

pub with_changed-requires-clause-part : goal.with_changed-requires-clause-part
with_changed-requires-clause-part c =
    let next : c.loop-part.later.now ≡ c.in-Some.part.now ∷ c.in-Some.rest.now =
    c.in-Some.ensures.cases.0 in
    All-head IsPart c.in-Some.part.now c.in-Some.rest.now (subst (All IsPart) next c.loop-part.invariant.parts)

pub with_changed-requires-clause-members : goal.with_changed-requires-clause-members
with_changed-requires-clause-members c =
    let next : c.loop-part.later.now ≡ c.in-Some.part.now ∷ c.in-Some.rest.now =
    c.in-Some.ensures.cases.0 in
    of_part c.args.order c.args.table.now c.in-Some.part.now c.in-Some.rest.now
    (subst (λ (l : List Part). AreMembers c.args.order c.args.table.now (members_of l)) next c.loop-part.invariant.later_are)

pub with_changed-requires-clause-changes : goal.with_changed-requires-clause-changes
with_changed-requires-clause-changes c =
    let target = changed_by c.args.order c.args.table.now c.args.changes.now (named c.args.table.now c.args.self.now) in
    let next : c.loop-part.later.now ≡ c.in-Some.part.now ∷ c.in-Some.rest.now =
    c.in-Some.ensures.cases.0 in
    let is : IsWoven c.args.order c.args.table.now target c.loop-part.left.now (c.in-Some.part.now ∷ c.in-Some.rest.now) c.loop-part.new =
    subst (λ (l : List Part). IsWoven c.args.order c.args.table.now target c.loop-part.left.now l c.loop-part.new) next c.loop-part.invariant in
    let own : c.split_at.result.0.now ≡ take (upto_next c.args.order c.args.table.now c.in-Some.rest.now c.loop-part.left.now) c.loop-part.left.now =
    c.split_at.ensures.front ∙ ap (λ n. take n c.loop-part.left.now) c.upto_next.ensures.value in
    subst (λ (l : List Change). AreChanges c.args.order c.args.table.now l (named c.args.table.now (members_in c.in-Some.part.now))) (sym own)
    (part_parted c.args.order c.args.table.now c.loop-part.left.now c.in-Some.part.now c.in-Some.rest.now c.requires.single is.parts
    is.later_are is.changes_are).own

pub loop-part-preserved : goal.loop-part-preserved
loop-part-preserved c =
    let target = changed_by c.args.order c.args.table.now c.args.changes.now (named c.args.table.now c.args.self.now) in
    let next : c.loop-part.later.now ≡ c.in-Some.part.now ∷ c.in-Some.rest.now =
    c.in-Some.ensures.cases.0 in
    let is : IsWoven c.args.order c.args.table.now target c.loop-part.left.now (c.in-Some.part.now ∷ c.in-Some.rest.now) c.loop-part.new =
    subst (λ (l : List Part). IsWoven c.args.order c.args.table.now target c.loop-part.left.now l c.loop-part.new) next c.loop-part.invariant in
    let own : c.split_at.result.0.now ≡ take (upto_next c.args.order c.args.table.now c.in-Some.rest.now c.loop-part.left.now) c.loop-part.left.now =
    c.split_at.ensures.front ∙ ap (λ n. take n c.loop-part.left.now) c.upto_next.ensures.value in
    let others : c.split_at.result.1.now ≡ drop (upto_next c.args.order c.args.table.now c.in-Some.rest.now c.loop-part.left.now) c.loop-part.left.now =
    c.split_at.ensures.back ∙ ap (λ n. drop n c.loop-part.left.now) c.upto_next.ensures.value in
    subst (λ (l : List Change). IsWoven c.args.order c.args.table.now target l c.in-Some.rest.now c.in_ok-new.new) (sym others)
    (woven_more c.args.order c.args.table.now target c.loop-part.left.now c.in-Some.part.now c.in-Some.rest.now c.loop-part.new c.in_ok-new.new
    c.requires.single is c.in_ok-new.ensures.all
    (c.in_ok-new.ensures.datoms
    ∙ ap (λ (l : List Change). named c.args.table.now c.loop-part.new
    ++ changed_by c.args.order c.args.table.now l (named c.args.table.now (members_in c.in-Some.part.now))) own))

if_both : {T E : Type 0} (r : Result T E) (P Q R : T → Type 0) → ((x : T) → P x → Q x → R x) → IfOk r P → IfOk r Q → IfOk r R
if_both (Ok x) P Q R both p q = both x p q
if_both (Err e) P Q R both p q = tt

pub returns-clause-members : goal.returns-clause-members
returns-clause-members c =
    let target = changed_by c.args.order c.args.table.now c.args.changes.now (named c.args.table.now c.args.self.now) in
    let empty : length c.loop-part.later.now ≡ 0 = c.in_default.ensures.cases in
    let none : c.loop-part.later.now ≡ [] = nil_from_length c.loop-part.later.now empty in
    let whole : named c.args.table.now c.loop-part.new
    ++ changed_by c.args.order c.args.table.now c.loop-part.left.now (named c.args.table.now []) ≡ target =
    ap (λ (l : List Part). named c.args.table.now c.loop-part.new
    ++ changed_by c.args.order c.args.table.now c.loop-part.left.now (named c.args.table.now (members_of l))) (sym none)
    ∙ c.loop-part.invariant.whole in
    let rises : IsRising c.args.order target =
    changed_rises c.args.order c.args.table.now (removed c.args.table.now c.args.changes.now) (added c.args.table.now c.args.changes.now)
    (named c.args.table.now c.args.self.now) c.requires.single
    (may_change c.args.order c.args.table.now c.args.changes.now (named c.args.table.now c.args.self.now) c.requires.changes
    c.requires.members.rising (members_within c.args.order c.args.table.now c.args.self.now c.requires.members)) in
    if_both c.with_woven.result (λ p. All (IsMember c.args.order c.args.table.now) p)
    (λ p. named c.args.table.now p
    ≡ named c.args.table.now c.loop-part.new
    ++ changed_by c.args.order c.args.table.now c.loop-part.left.now (named c.args.table.now []))
    (λ p. AreMembers c.args.order c.args.table.now p)
    (λ p all is. record { members = all; rising = subst (IsRising c.args.order) (sym (is ∙ whole)) rises }) c.with_woven.ensures.all
    c.with_woven.ensures.datoms
