use Rattle.std.proofs.Common.{refl, ap, ◌∙◌, inl, inr}
use Rattle.std.specs.Io.KnownBytes.{append_known}
use Rattle.fb_session.proofs.Results.{fact_at_err, fact_at_ok, counts_at_err, counts_at_ok}
use Rattle.fb_session.proofs.serve.Session+Picks+P.finish.Goals as goal

pub returns-then-is_err-clause-ends : goal.returns-then-is_err-clause-ends
returns-then-is_err-clause-ends g c = λ lines waits.
    let out = c.write_waiting in
    inr (refl, fact_at_err out.result _ c.if-is_err.ensures.value out.ensures.part lines waits)

pub returns-then-is_err-clause-count : goal.returns-then-is_err-clause-count
returns-then-is_err-clause-count g c =
    let out = c.write_waiting in inr (refl, counts_at_err out.result _ _ c.if-is_err.ensures.value out.ensures.counted)

pub returns-clause-ends : goal.returns-clause-ends
returns-clause-ends g c = λ lines waits.
    let out = c.write_waiting in
    inl (record {
      ends = refl;
      keeps = ap (λ v. v.items) (fact_at_ok out.result _ c.if-is_err.ensures.value out.ensures.places);
      written =
          fact_at_ok out.result _ c.if-is_err.ensures.value out.ensures.whole
          ∙ ap (append_known (g.O.Sink.contents c.args.sink.now)) waits.bytes;
    })

pub returns-clause-count : goal.returns-clause-count
returns-clause-count g c =
    let out = c.write_waiting in inl (refl, counts_at_ok out.result _ _ c.if-is_err.ensures.value out.ensures.counted)
