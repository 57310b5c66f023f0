use Rattle.std.proofs.Common.{[], ◌∷◌, ◌++◌}
use Rattle.fb_model.specs.History.{basis}
use Rattle.talk_model.specs.Talk.{places_of, commits_of}
use Rattle.talk_model.proofs.Places.{SeesAll-Talk, SeesAll-unfinished, Prefixes-SeesAll}
use Rattle.talk_model.proofs.talks.a_talk_rests_on_what_was_seen.Goals as goal

pub returns-clause-whole : goal.returns-clause-whole
returns-clause-whole g c = λ s guard is_filter h stop teller before after talk within told.
    Prefixes-SeesAll before.place (basis h) (places_of talk) (commits_of talk) (SeesAll-Talk _ before after talk within told)

pub returns-clause-unfinished : goal.returns-clause-unfinished
returns-clause-unfinished g c = λ s guard is_filter h stop teller before after talk x within told.
    Prefixes-SeesAll before.place (basis h) (places_of talk) (commits_of (talk ++ x ∷ []))
    (SeesAll-unfinished _ before after talk x within told)
