use Rattle.std.proofs.Common.{◌∙◌}
use Rattle.std.proofs.lemmas.Result.{IfOk-weaker}
use Rattle.fb_backup.proofs.copying.copy_roots_if_new.Goals as goal

pub returns-in-Ok-clause-copy : goal.returns-in-Ok-clause-copy
returns-in-Ok-clause-copy g c =
    IfOk-weaker c.copy_roots.result _ _ (λ d copy. λ file told short. copy file (c.len.ensures.bytes ∙ told)) c.copy_roots.ensures.copy
