use Rattle.fb_session.proofs.Breaking.{part_at_err}
use Rattle.fb_session.proofs.Results.{fact_at_ok, counts_at_err, counts_at_ok}
use Rattle.fb_session.proofs.session.Session.write_own.Goals as goal

pub returns-then-is_err-clause-part : goal.returns-then-is_err-clause-part
returns-then-is_err-clause-part g c =
    rw (← c.as_slice.ensures.value)
    (part_at_err c.write_bytes.result c.as_slice.result.now _ _ c.if-is_err.ensures.value c.write_bytes.ensures.short c.write_bytes.ensures.part)

pub returns-then-is_err-clause-counted : goal.returns-then-is_err-clause-counted
returns-then-is_err-clause-counted g c =
    counts_at_err c.write_bytes.result _ _ c.if-is_err.ensures.value c.write_bytes.ensures.counted

pub returns-clause-whole : goal.returns-clause-whole
returns-clause-whole g c =
    rw (← c.as_slice.ensures.value) (fact_at_ok c.write_bytes.result _ c.if-is_err.ensures.value c.write_bytes.ensures.whole)

pub returns-clause-counted : goal.returns-clause-counted
returns-clause-counted g c = counts_at_ok c.write_bytes.result _ _ c.if-is_err.ensures.value c.write_bytes.ensures.counted
