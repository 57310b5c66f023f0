use Rattle.std.proofs.Common.{drop, subst, arith}
use Rattle.std.specs.Prelude.{Ok}
use Rattle.std.proofs.lemmas.Result.{err_from_is_err_and}
use Rattle.edn_model.specs.Steps.{going}
use Rattle.edn_core.specs.Frames.{frames_of, Leads}
use Rattle.edn_core.proofs.Answering.{reading_begins, reading_goes, reading_reads, reading_ends, reading_fails, nothing_behind}
use Rattle.edn_core.specs.declared.progress.Progress.TheVariants.{Read}
use Rattle.edn_core.proofs.read.answer.Goals as goal

pub returns-then-bytes-at : goal.returns-then-bytes-at
returns-then-bytes-at c = nothing_behind c.args.bytes.now c.args.at c.if-bytes-at.true

pub steps-init : goal.steps-init
steps-init c = reading_begins c.args.bytes.now c.args.at c.args.frames.now.items c.requires c.if-bytes-at.false

pub steps-preserved : goal.steps-preserved
steps-preserved c =
    let bytes = c.args.bytes.now in
    let h = c.steps.invariant in
    let begun = going (frames_of bytes c.steps.frames.items) (drop c.steps.here bytes) in
    reading_goes h (subst (λ p. Leads bytes c.args.at c.steps.here begun (Ok p) c.step.new.frames.items c.step.new.slot) c.in-Further.is
    (c.in_ok-next.ensures c.args.at h.after h.within h.kept))

pub steps-smaller : goal.steps-smaller
steps-smaller c =
    let bytes = c.args.bytes.now in
    let h = c.steps.invariant in
    let begun = going (frames_of bytes c.steps.frames.items) (drop c.steps.here bytes) in
    let on =
    subst (λ p. Leads bytes c.args.at c.steps.here begun (Ok p) c.step.new.frames.items c.step.new.slot) c.in-Further.is
    (c.in_ok-next.ensures c.args.at h.after h.within h.kept) in
    omega (arith, on.ahead, on.within)

pub returns-in-Some : goal.returns-in-Some
returns-in-Some c =
    let bytes = c.args.bytes.now in
    let h = c.steps.invariant in
    let begun = going (frames_of bytes c.steps.frames.items) (drop c.steps.here bytes) in
    reading_reads h
    (subst (λ o. Leads bytes c.args.at c.steps.here begun (Ok (Read c.in-Read.next)) c.step.new.frames.items o) c.in-Some.is
    (subst (λ p. Leads bytes c.args.at c.steps.here begun (Ok p) c.step.new.frames.items c.step.new.slot) c.in-Read.is
    (c.in_ok-next.ensures c.args.at h.after h.within h.kept)))

pub unreachable-requires : goal.unreachable-requires
unreachable-requires c =
    let bytes = c.args.bytes.now in
    let h = c.steps.invariant in
    let begun = going (frames_of bytes c.steps.frames.items) (drop c.steps.here bytes) in
    subst (λ o. Leads bytes c.args.at c.steps.here begun (Ok (Read c.in-Read.next)) c.step.new.frames.items o) c.in-None.is
    (subst (λ p. Leads bytes c.args.at c.steps.here begun (Ok p) c.step.new.frames.items c.step.new.slot) c.in-Read.is
    (c.in_ok-next.ensures c.args.at h.after h.within h.kept))

pub returns-in-End : goal.returns-in-End
returns-in-End c =
    let bytes = c.args.bytes.now in
    let h = c.steps.invariant in
    let begun = going (frames_of bytes c.steps.frames.items) (drop c.steps.here bytes) in
    reading_ends bytes c.args.at c.steps.here c.steps.frames.items h
    (subst (λ p. Leads bytes c.args.at c.steps.here begun (Ok p) c.step.new.frames.items c.step.new.slot) c.in-End.is
    (c.in_ok-next.ensures c.args.at h.after h.within h.kept))

pub returns-in_err-next : goal.returns-in_err-next
returns-in_err-next c =
    let bytes = c.args.bytes.now in
    let h = c.steps.invariant in
    let p = err_from_is_err_and c.from_residual.result c.from_residual.ensures.1 in
    rw (p.1, p.2) (reading_fails c.in_err-next.field-0.0 h (c.in_err-next.ensures c.args.at h.after h.within h.kept))
