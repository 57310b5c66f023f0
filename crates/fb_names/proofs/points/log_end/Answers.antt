use Rattle.std.proofs.Common.{◌∙◌, ap, length}
use Rattle.fb_names.proofs.points.log_end.Goals as goal

pub returns : goal.returns
returns c =
    c.len.ensures ∙ ap length c.entries.ensures.entries
    ∙ c.lawful_histories_are_counted_by_t.ensures.counted c.args.snapshot.now.entries c.entries.ensures.stands.history.lawful
