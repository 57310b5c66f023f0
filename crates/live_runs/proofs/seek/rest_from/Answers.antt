use Rattle.std.proofs.Common.{◌≡◌, ◌∙◌, ◌-◌, ◌<◌, ◌∷◌, List, length, get_or, take, drop, ap, sym, subst, arith}
use Rattle.std.specs.List.{All}
use Rattle.std.proofs.lemmas.List.Elements.{All-drop, All-tail}
use Rattle.fb_search.specs.Places.{place_of}
use Rattle.live_runs.specs.declared.members.Member.{Member}
use Rattle.live_runs.specs.declared.parts.Part.{Part}
use Rattle.live_runs.specs.Changes.{AreMembers}
use Rattle.live_runs.specs.Members.{named}
use Rattle.live_runs.specs.Parts.{AreFull, IsPart, members_in, members_of}
use Rattle.live_runs.specs.Seeks.{IsCut}
use Rattle.live_runs.specs.Walks.{members_left}
use Rattle.live_runs.proofs.Counting.{parts_within}
use Rattle.live_runs.proofs.Parted.{firsts_are, of_rest}
use Rattle.live_runs.proofs.Seeking.{cut_parts, cut_slices, firsts_rise, members_at, part_at, tail_is}
use Rattle.live_runs.proofs.seek.rest_from.Goals as goal

pub lower_bound-part-requires-clause-others : goal.lower_bound-part-requires-clause-others
lower_bound-part-requires-clause-others g c =
    let next : c.args.parts.now ≡ c.in-Some.field-0-0.now ∷ c.in-Some.others.now = c.in-Some.ensures.cases.0 in
    firsts_are c.args.aim.now.order c.args.table.now c.in-Some.others.now
    (All-tail IsPart c.in-Some.field-0-0.now c.in-Some.others.now (subst (All IsPart) next c.requires.each))
    (of_rest c.args.aim.now.order c.args.table.now c.in-Some.field-0-0.now c.in-Some.others.now
    (subst (λ (l : List Part). AreMembers c.args.aim.now.order c.args.table.now (members_of l)) next c.requires.members))

pub lower_bound-part-requires-clause-rising : goal.lower_bound-part-requires-clause-rising
lower_bound-part-requires-clause-rising g c =
    let next : c.args.parts.now ≡ c.in-Some.field-0-0.now ∷ c.in-Some.others.now = c.in-Some.ensures.cases.0 in
    firsts_rise c.args.aim.now.order c.args.table.now c.in-Some.others.now
    (All-tail IsPart c.in-Some.field-0-0.now c.in-Some.others.now (subst (All IsPart) next c.requires.each))
    (of_rest c.args.aim.now.order c.args.table.now c.in-Some.field-0-0.now c.in-Some.others.now
    (subst (λ (l : List Part). AreMembers c.args.aim.now.order c.args.table.now (members_of l)) next c.requires.members))

pub lower_bound-place-requires-clause-others : goal.lower_bound-place-requires-clause-others
lower_bound-place-requires-clause-others g c =
    let same : c.deref.result.now ≡ members_in c.index-parts-part.result = cc (c.deref.ensures.value, c.get-members.ensures) in
    let within : c.lower_bound-part.result < length c.args.parts.now =
    omega (arith, c.lower_bound-part.ensures.within, ap length c.in-Some.ensures.cases.0) in
    (subst (AreMembers c.args.aim.now.order c.args.table.now) (sym same)
    (members_at c.args.aim.now.order c.args.table.now c.args.parts.now c.lower_bound-part.result c.index-parts-part.result c.requires.members
    within c.index-parts-part.is)).members

pub lower_bound-place-requires-clause-rising : goal.lower_bound-place-requires-clause-rising
lower_bound-place-requires-clause-rising g c =
    let same : c.deref.result.now ≡ members_in c.index-parts-part.result = cc (c.deref.ensures.value, c.get-members.ensures) in
    let within : c.lower_bound-part.result < length c.args.parts.now =
    omega (arith, c.lower_bound-part.ensures.within, ap length c.in-Some.ensures.cases.0) in
    (subst (AreMembers c.args.aim.now.order c.args.table.now) (sym same)
    (members_at c.args.aim.now.order c.args.table.now c.args.parts.now c.lower_bound-part.result c.index-parts-part.result c.requires.members
    within c.index-parts-part.is)).rising

pub returns-clause-cut : goal.returns-clause-cut
returns-clause-cut g c =
    let next : c.args.parts.now ≡ c.in-Some.field-0-0.now ∷ c.in-Some.others.now = c.in-Some.ensures.cases.0 in
    let at = c.index-parts-part.result in
    let same : c.deref.result.now ≡ members_in c.index-parts-part.result = cc (c.deref.ensures.value, c.get-members.ensures) in
    let again : c.deref-2.result.now ≡ members_in c.index-parts-part.result = cc (c.deref-2.ensures.value, c.get-members.ensures) in
    let is =
    cut_parts c.args.aim.now c.args.table.now c.in-Some.field-0-0.now c.in-Some.others.now c.lower_bound-part.result c.index-parts-part.result
    (subst (All IsPart) next c.requires.each)
    (subst (λ (l : List Part). AreMembers c.args.aim.now.order c.args.table.now (members_of l)) next c.requires.members)
    (sym c.lower_bound-part.ensures.value)
    (subst
    (λ (l : List Part). c.index-parts-part.result ≡ get_or l c.lower_bound-part.result c.index-parts-part.result)
    next c.index-parts-part.is) in
    let place : c.lower_bound-place.result ≡ place_of c.args.aim.now (named c.args.table.now c.deref-2.result.now) =
    c.lower_bound-place.ensures.value
    ∙ ap (λ (l : List Member). place_of c.args.aim.now (named c.args.table.now l)) (same ∙ sym again) in
    subst
    (λ (l : List Part). IsCut c.args.aim.now c.args.table.now (members_of l)
    (members_left (take (length c.deref-2.result.now - c.lower_bound-place.result) (drop c.lower_bound-place.result c.deref-2.result.now))
    (take (length c.in-Some.others.now - c.lower_bound-part.result) (drop c.lower_bound-part.result c.in-Some.others.now)))) (sym next)
    (cut_slices c.args.aim.now c.args.table.now (members_of (c.in-Some.field-0-0.now ∷ c.in-Some.others.now))
    (members_in c.index-parts-part.result) c.deref-2.result.now c.lower_bound-place.result c.in-Some.others.now c.lower_bound-part.result is
    again place)

pub returns-clause-each : goal.returns-clause-each
returns-clause-each g c =
    let next : c.args.parts.now ≡ c.in-Some.field-0-0.now ∷ c.in-Some.others.now = c.in-Some.ensures.cases.0 in
    subst (All IsPart) (sym (tail_is c.in-Some.others.now c.lower_bound-part.result))
    (All-drop IsPart c.lower_bound-part.result c.in-Some.others.now
    (All-tail IsPart c.in-Some.field-0-0.now c.in-Some.others.now (subst (All IsPart) next c.requires.each)))

pub returns-clause-cost : goal.returns-clause-cost
returns-clause-cost g c = λ digits within.
    let next : c.args.parts.now ≡ c.in-Some.field-0-0.now ∷ c.in-Some.others.now = c.in-Some.ensures.cases.0 in
    let same : c.deref.result.now ≡ members_in c.index-parts-part.result = cc (c.deref.ensures.value, c.get-members.ensures) in
    let in_parts : c.lower_bound-part.result < length c.args.parts.now =
    omega (arith, c.lower_bound-part.ensures.within, ap length c.in-Some.ensures.cases.0) in
    let part : IsPart c.index-parts-part.result =
    part_at c.args.parts.now c.lower_bound-part.result c.index-parts-part.result c.requires.each in_parts c.index-parts-part.is in
    let first =
    c.lower_bound-part.ensures.cost digits
    (parts_within c.in-Some.field-0-0.now c.in-Some.others.now digits (subst AreFull next c.requires.full)
    (omega (arith, within, ap (λ (l : List Part). length (members_of l)) next))) in
    let second = c.lower_bound-place.ensures.cost 9 (omega (arith, part.short, ap length same)) in
    omega (arith, first, second)
