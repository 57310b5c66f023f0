use Rattle.std.proofs.Common.{[], ◌∷◌, ◌++◌, ap, ◌∙◌}
use Rattle.std.proofs.lemmas.List.{append-nil}
use Rattle.std.proofs.lemmas.List.Concat.{flat_map-append}
use Rattle.live_model.specs.Answers.{Answer, replies, written, talk_of}
use Rattle.live_model.proofs.answers.one_answer_more.Goals as goal

pub returns-clause-bytes : goal.returns-clause-bytes
returns-clause-bytes c answers answer =
    flat_map-append replies answers (answer ∷ []) ∙ ap (λ more. written answers ++ more) (append-nil (replies answer))

pub returns-clause-talk : goal.returns-clause-talk
returns-clause-talk c answers answer =
    flat_map-append (λ (a : Answer). a.exchanges) answers (answer ∷ [])
    ∙ ap (λ more. talk_of answers ++ more) (append-nil answer.exchanges)
