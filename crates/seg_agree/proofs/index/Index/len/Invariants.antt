use Rattle.std.proofs.Common.{◌≡◌, length, take}
use Rattle.std.specs.Prelude.{filter}
use Rattle.fb_covers.specs.Coverage.{covers as held}
use Rattle.fb_model.specs.History.{said}
use Rattle.seg_agree.proofs.index.Index.len.Given as goal

abbrev pub invariant-loop-t : goal.invariant-loop-t
invariant-loop-t l =
    l.len ≡ length (filter (λ d. held l.self.covers.now l.self.order d.a) (said (take l.t l.self.entries.now)))
