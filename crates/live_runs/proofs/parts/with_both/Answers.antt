use Rattle.std.proofs.Common.{◌≡◌, ◌∙◌, List, [], ◌∷◌, ◌++◌, Some, None, sym, ap, subst}
use Rattle.std.specs.List.{All}
use Rattle.std.proofs.lemmas.Result.{IfOk-weaker}
use Rattle.live_runs.specs.declared.parts.Part.{Part}
use Rattle.live_runs.specs.Parts.{AreFull, IsJoined, IsPart, members_in, members_of}
use Rattle.live_runs.proofs.Full.{each-push, full_last, full_push, joined_longer, members-push}
use Rattle.live_runs.proofs.parts.with_both.Goals as goal

pub returns-in-Some-clause-each : goal.returns-in-Some-clause-each
returns-in-Some-clause-each c =
    let both : IsJoined c.args.last c.args.part (Some c.in-Some.both) = rw c.in-Some.is at c.in_ok-both.ensures in
    IfOk-weaker c.pushed.result (λ new. new.items ≡ c.args.parts.items ++ c.in-Some.both ∷ []) (λ new. All IsPart new.items)
    (λ new same. each-push c.args.parts.items new.items c.in-Some.both c.requires.each both.0 same) c.pushed.ensures

pub returns-in-Some-clause-full : goal.returns-in-Some-clause-full
returns-in-Some-clause-full c =
    let both : IsJoined c.args.last c.args.part (Some c.in-Some.both) = rw c.in-Some.is at c.in_ok-both.ensures in
    IfOk-weaker c.pushed.result (λ new. new.items ≡ c.args.parts.items ++ c.in-Some.both ∷ []) (λ new. AreFull new.items)
    (λ new same. subst AreFull (sym same)
    (full_last c.args.parts.items c.args.last c.in-Some.both c.requires.full
    (joined_longer c.args.last c.args.part c.in-Some.both both.1))) c.pushed.ensures

pub returns-in_ok-pushed-in-None-clause-each : goal.returns-in_ok-pushed-in-None-clause-each
returns-in_ok-pushed-in-None-clause-each c =
    let parts = c.in_ok-pushed-in-None.field-0.items in
    let all : All IsPart c.in_ok-pushed-in-None.field-0.items =
    each-push c.args.parts.items c.in_ok-pushed-in-None.field-0.items c.args.last c.requires.each c.requires.last
    c.in_ok-pushed-in-None.ensures in
    IfOk-weaker c.pushed-in-None-2.result (λ new. new.items ≡ c.in_ok-pushed-in-None.field-0.items ++ c.args.part ∷ [])
    (λ new. All IsPart new.items)
    (λ new same. each-push c.in_ok-pushed-in-None.field-0.items new.items c.args.part all c.requires.part same) c.pushed-in-None-2.ensures

pub returns-in_ok-pushed-in-None-clause-full : goal.returns-in_ok-pushed-in-None-clause-full
returns-in_ok-pushed-in-None-clause-full c =
    let more : IsJoined c.args.last c.args.part None = rw c.in-None.is at c.in_ok-both.ensures in
    IfOk-weaker c.pushed-in-None-2.result (λ new. new.items ≡ c.in_ok-pushed-in-None.field-0.items ++ c.args.part ∷ [])
    (λ new. AreFull new.items)
    (λ new same. subst AreFull
    (ap (λ (l : List Part). l ++ c.args.part ∷ []) (sym c.in_ok-pushed-in-None.ensures) ∙ sym same)
    (full_push c.args.parts.items c.args.last c.args.part c.requires.full more)) c.pushed-in-None-2.ensures

pub returns-in_ok-pushed-in-None-clause-members : goal.returns-in_ok-pushed-in-None-clause-members
returns-in_ok-pushed-in-None-clause-members c =
    IfOk-weaker c.pushed-in-None-2.result (λ new. new.items ≡ c.in_ok-pushed-in-None.field-0.items ++ c.args.part ∷ [])
    (λ new. members_of new.items ≡ members_of (c.args.parts.items ++ c.args.last ∷ []) ++ members_in c.args.part)
    (λ new same. ap members_of same ∙ members-push c.in_ok-pushed-in-None.field-0.items c.args.part
    ∙ ap (λ (l : List Part). members_of l ++ members_in c.args.part) c.in_ok-pushed-in-None.ensures) c.pushed-in-None-2.ensures
