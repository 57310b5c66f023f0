use Rattle.std.proofs.Common.{◌≡◌, ◌∙◌, ap₂, rules}
use Rattle.clap.specs.Words.{rule_of, with_rule}
use Rattle.command_line.specs.ByClap.{directory_rule, merge_at_rule, script_rule, strict_rule}
use Rattle.command_line.proofs.by_clap.run_command.Goals as goal

pub returns : goal.returns
returns c =
    let merge_at_is : rule_of c.action-merge_at.result ≡ merge_at_rule = search rules in
    let strict_is : rule_of c.action-strict.result ≡ strict_rule = search rules in
    let directory_is : rule_of c.required-directory.result ≡ directory_rule = search rules in
    let script_is : rule_of c.action-script.result ≡ script_rule = search rules in
    c.in_ok-arg-4.ensures.shape (search rules)
    ∙ ap₂ with_rule (c.in_ok-arg-3.ensures.shape (search rules)
    ∙ ap₂ with_rule (c.in_ok-arg-2.ensures.shape (search rules)
    ∙ ap₂ with_rule (c.in_ok-arg.ensures.shape (search rules) ∙ ap₂ with_rule c.plain-command.ensures merge_at_is) strict_is)
    directory_is) script_is
