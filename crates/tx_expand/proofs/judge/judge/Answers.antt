use Rattle.std.proofs.Common.{◌≡◌, ◌||◌, [], ap, ◌∙◌, rules}
use Rattle.tx_model.specs.Asks.{names_of}
use Rattle.tx_expand.specs.View.{model_ask}
use Rattle.tx_expand.specs.Faults.{is_of_unknown, has_wrong_value, names_faults}
use Rattle.tx_expand.proofs.Together.{all_five}
use Rattle.tx_expand.proofs.judge.judge.Goals as goal

pub returns-clause-faults : goal.returns-clause-faults
returns-clause-faults c = λ all judged.
    let facts = c.args.schema.now in
    let ask = model_ask all c.args.raw.now in
    let settles = c.in_ok-settled.ensures all in
    let names : c.names_faults-names.result ≡ names_faults facts (names_of ask) = c.names_faults-names.ensures facts all judged in
    let unknown : c.if-unknown.result ≡ (c.is_unknown-unknown.result || c.names_faults-names.result.unknown) = search rules in
    let wrong : c.if-wrong.result ≡ (c.is_wrong-wrong.result || c.names_faults-names.result.wrong) = search rules in
    all_five _ _ _ _ _
    (unknown
    ∙ ap (λ b. b || c.names_faults-names.result.unknown) (c.is_unknown-unknown.ensures facts all ask settles)
    ∙ ap (λ found. is_of_unknown facts ask || found.unknown) names)
    (c.is_of_protected.ensures all)
    (wrong
    ∙ ap (λ b. b || c.names_faults-names.result.wrong) (c.is_wrong-wrong.ensures facts all ask settles)
    ∙ ap (λ found. has_wrong_value facts ask || found.wrong) names)
    (ap (λ found. found.not_unique) names)
    (c.is_lacking.ensures all)

pub returns-clause-asks : goal.returns-clause-asks
returns-clause-asks c = λ all. c.in_ok-keep.ensures.asks c.args.schema.now all (model_ask all c.args.raw.now) (c.in_ok-settled.ensures all)

pub returns-clause-read : goal.returns-clause-read
returns-clause-read c =
    c.in_ok-keep.ensures.read c.args.schema.now [] (model_ask [] c.args.raw.now) (c.in_ok-settled.ensures []) c.requires.read
