use Rattle.std.proofs.Common.{◌∙◌, sym}
use Rattle.std.specs.Option.{option_copied}
use Rattle.fb_index.proofs.Reading.{live_end}
use Rattle.fb_index.proofs.walk.next_live.Goals as goal

pub returns-then-is_past-clause-first : goal.returns-then-is_past-clause-first
returns-then-is_past-clause-first c =
    live_end (option_copied c.args.end) c.in_ok-datom.datom.now c.args.rest.now c.next.new.self c.requires
    c.in_ok-datom.ensures (sym c.is_past.ensures ∙ c.if-is_past.true)
