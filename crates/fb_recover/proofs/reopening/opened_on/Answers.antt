use Rattle.std.proofs.Common.{◌∙◌, ap}
use Rattle.std.proofs.lemmas.Result.{IfOk-weaker}
use Rattle.seg_store.specs.Stores.{disk_in as segments_in}
use Rattle.fb_recover.proofs.reopening.opened_on.Goals as goal

pub returns-in-Ok-clause-opened : goal.returns-in-Ok-clause-opened
returns-in-Ok-clause-opened g c =
    IfOk-weaker c.joined.result _ _
    (λ o joined. record {
      based = c.in-Ok.based;
      is = c.in-Ok.ensures.based;
      joined = joined;
      counted = ap (λ store. g.D.Disk.faults (segments_in store)) joined.store ∙ c.in-Ok.ensures.counted;
    })
    c.joined.ensures.joined
