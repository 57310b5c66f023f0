use Rattle.std.proofs.Common.{◌∙◌, ◌+◌, arith, inl, inr, sym}
use Rattle.std.proofs.lemmas.Result.{IfOk-weaker}
use Rattle.bench.specs.Entries.{IsEntryUpto}
use Rattle.bench.proofs.Entries.{none_yet}
use Rattle.bench.proofs.live.facts.Goals as goal

pub returns : goal.returns
returns c =
    let n = c.args.n in
    let first : IsEntryUpto n c.instant.result.e (c.instant.result.a + 1) c.in_ok-datoms.datoms.items =
    c.in_ok-datoms.ensures n 0 0 (none_yet n 0 0 c.new.result.items c.new.ensures.items) c.instant.ensures.of
    (inl (omega (arith, c.instant.ensures.e))) in
    let second : IsEntryUpto n c.of_user.result.e (c.of_user.result.a + 1) c.in_ok-datoms-2.datoms.items =
    c.in_ok-datoms-2.ensures n c.instant.result.e (c.instant.result.a + 1) first c.of_user.ensures.of
    (inl (omega (arith, c.instant.ensures.e, c.of_user.ensures.e))) in
    IfOk-weaker c.pushed-3.result _ _
    (λ v more. (more n c.of_user.result.e (c.of_user.result.a + 1) second c.of_user-2.ensures.of
    (inr (c.of_user.ensures.e ∙ sym c.of_user-2.ensures.e, omega (arith, c.of_user.ensures.a, c.of_user-2.ensures.a)))).entry)
    c.pushed-3.ensures
