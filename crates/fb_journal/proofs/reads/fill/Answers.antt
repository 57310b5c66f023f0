use Rattle.std.proofs.Common.{rules, ◌≡◌, ◌+◌, ◌-◌, ◌≤◌, ◌++◌, ◌∙◌, ℕ, List, length, take, drop, sym, ap, arith, length-append, length-take}
use Rattle.std.proofs.Common.{length-drop}
use Rattle.std.proofs.lemmas.List.{drop-drop}
use Rattle.disk_model.proofs.Moments.{goes_on}
use Rattle.fb_journal.proofs.Filling.{filled-more}
use Rattle.fb_journal.proofs.reads.fill.Goals as goal

pub loop-filled-preserved : goal.loop-filled-preserved
loop-filled-preserved g c =
    let buf : List ℕ = c.loop-filled.buf in
    let at : ℕ = c.loop-filled.filled in
    let part : List ℕ = c.read_at.new.buf in
    let behind : List ℕ = drop (length buf - at) (drop at buf) in
    let size : length part ≡ length buf - at = omega (arith, length-take (length buf - at) (drop at buf), length-drop at buf) in
    let whole : length (take at buf ++ (part ++ behind)) ≡ length buf =
    omega (
      arith,
      size,
      length-append (take at buf) (part ++ behind),
      length-append part behind,
      length-take at buf,
      length-drop (length buf - at) (drop at buf),
      length-drop at buf,
    ) in
    let fits : c.in_ok-count.count ≤ length part =
    omega (arith, size, c.in_ok-count.ensures.within, length-take (length buf - at) (drop at buf), length-drop at buf) in
    record {
      within = search rules;
      bytes = c.read_at.ensures.bytes ∙ c.loop-filled.invariant.bytes;
      faults = c.in_ok-count.ensures.counted ∙ c.loop-filled.invariant.faults;
      crash = λ image left. c.loop-filled.invariant.crash image (c.read_at.ensures.crash image left);
      any_moment =
          goes_on g.D.Disk.moment g.D.Disk.images_since c.args.disk.now c.loop-filled.disk c.read_at.new.self
          (g.D.Disk.images c.args.disk.now) (g.D.Disk.images c.read_at.new.self) c.loop-filled.invariant.any_moment
          c.read_at.ensures.time
          (λ image left. c.loop-filled.invariant.crash image (c.read_at.ensures.crash image left));
      read = λ file told all.
          let long : c.args.at + length (take at buf ++ (part ++ behind)) ≤ length file = all in
          let room : c.args.at + length buf ≤ length file = omega (arith, whole, long) in
          let reads = c.in_ok-count.ensures.read file (c.loop-filled.invariant.bytes ∙ told) in
          let more : take c.in_ok-count.count part ≡ take c.in_ok-count.count (drop at (drop c.args.at file)) =
          reads.bytes ∙ ap (λ (l : List ℕ). take c.in_ok-count.count l) (sym (drop-drop at c.args.at file)) in
          filled-more buf part behind (drop c.args.at file) at c.in_ok-count.count c.loop-filled.invariant.within
          (c.loop-filled.invariant.read file told room) fits more;
    }
