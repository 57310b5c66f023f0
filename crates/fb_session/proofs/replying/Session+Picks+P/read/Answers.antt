use Rattle.std.proofs.Common.{ap, ◌∙◌, map}
use Rattle.fb_db.specs.Seen.{window_of}
use Rattle.fb_reads.specs.Answers.{standing_at}
use Rattle.fb_session.proofs.Results.{on_ok_both}
use Rattle.fb_session.proofs.replying.Session+Picks+P.read.Goals as goal

pub returns-clause-ok : goal.returns-clause-ok
returns-clause-ok g c =
    let new = c.answer_read.new.view in
    let names = ap (λ table. map (g.P.FilterTable.name_at table.now) new.filter.places.items) c.answer_read.ensures.table in
    on_ok_both c.answer_read.result
    (λ says stands. record {
      says = says;
      stands = λ place told. ap (standing_at place told (window_of new)) names ∙ stands place told;
      snapshot = c.answer_read.ensures.snapshot;
    })
    c.answer_read.ensures.line c.answer_read.ensures.stands
