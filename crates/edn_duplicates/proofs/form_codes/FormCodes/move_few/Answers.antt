use Rattle.std.proofs.Common.{◌∙◌}
use Rattle.edn_duplicates.specs.Order.{token_cmp}
use Rattle.edn_duplicates.proofs.Sayings.{moved}
use Rattle.edn_duplicates.proofs.form_codes.FormCodes.move_few.Goals as goal

pub loop-code-preserved : goal.loop-code-preserved
unfolding token_cmp
loop-code-preserved c q =
    moved c.in-Some.code c.loop-code.self.few.items c.pop.new.self.items c.loop-code.self.many.keys c.insert.new.self.keys
    c.in-Some.ensures.items (λ p. c.in_ok-insert.ensures.updates.0 p) q
    ∙ c.loop-code.invariant q
