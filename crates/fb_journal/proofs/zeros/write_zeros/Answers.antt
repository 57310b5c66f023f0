use Rattle.std.proofs.Common.{◌≡◌, ◌≤◌, ◌+◌, ◌-◌, ℕ, List, length, take, replicate, option_map, Option, refl, sym, ◌∙◌, ap, subst, arith}
use Rattle.std.proofs.lemmas.List.{take-replicate, length-replicate}
use Rattle.disk_model.specs.Disk.{written, Torn, Only}
use Rattle.disk_model.proofs.Calls.{torn-same}
use Rattle.disk_model.proofs.Moments.{started, goes_on}
use Rattle.fb_journal.proofs.Zeroing.{torn-more, torn-wider, told-none, told-more}
use Rattle.fb_journal.proofs.zeros.write_zeros.Goals as goal

pub loop-at-init : goal.loop-at-init
loop-at-init g c =
    let from : ℕ = c.args.from in
    let disk = c.args.disk.now in
    let known : Option (List ℕ) = g.D.Disk.bytes disk in
    let none : from - from ≡ 0 = omega arith in
    record {
      begun = omega arith;
      within = omega arith;
      bytes =
          told-none known from c.requires
          ∙ ap (λ (n : ℕ). option_map (written from (replicate n 0)) known) (sym none);
      faults = refl;
      crash = λ file only image left.
          subst (Torn from (from - from) file) (sym (only image left)) (torn-same from (from - from) file);
      any_moment = λ file only.
          started g.D.Disk.moment g.D.Disk.images_since disk (Torn from (c.args.upto - from) file)
          (λ image now.
          subst (Torn from (c.args.upto - from) file) (sym (only image (g.met.D.Disk.only_now disk image now)))
          (torn-same from (c.args.upto - from) file));
    }

pub returns-in_err-write_at-clause-any_moment : goal.returns-in_err-write_at-clause-any_moment
returns-in_err-write_at-clause-any_moment g c = λ file only.
    let from : ℕ = c.args.from in
    let at : ℕ = c.loop-at.at in
    let count : ℕ = c.min-count.result in
    let zeros : List ℕ = take count (replicate 65536 0) in
    let few : count ≤ 65536 = omega (arith, c.min-count.ensures) in
    let size : length zeros ≡ count = ap length (take-replicate count 65536 0 few) ∙ length-replicate count 0 in
    let place : at ≡ from + (at - from) = omega (arith, c.loop-at.invariant.begun) in
    goes_on g.D.Disk.moment g.D.Disk.images_since c.args.disk.now c.loop-at.disk c.write_at.new.self
    (Torn from (c.args.upto - from) file)
    (g.D.Disk.images c.write_at.new.self)
    (c.loop-at.invariant.any_moment file only)
    c.write_at.ensures.time
    (λ image left.
    let was = c.write_at.ensures.crash image left in
    torn-wider from (at - from + length zeros) (c.args.upto - from) file image
    (omega (arith, size, c.min-count.ensures, c.loop-at.invariant.begun, c.loop-at-test.true))
    (torn-more from (at - from) (length zeros) file was.0 image (c.loop-at.invariant.crash file only was.0 was.1)
    (subst (λ (n : ℕ). Torn n (length zeros) was.0 image) place was.2)))

pub loop-at-preserved : goal.loop-at-preserved
loop-at-preserved g c =
    let from : ℕ = c.args.from in
    let at : ℕ = c.loop-at.at in
    let count : ℕ = c.min-count.result in
    let zeros : List ℕ = take count (replicate 65536 0) in
    let few : count ≤ 65536 = omega (arith, c.min-count.ensures) in
    let size : length zeros ≡ count = ap length (take-replicate count 65536 0 few) ∙ length-replicate count 0 in
    let place : at ≡ from + (at - from) = omega (arith, c.loop-at.invariant.begun) in
    let grown : at - from + count ≡ at + count - from = omega (arith, c.loop-at.invariant.begun) in
    let known : Option (List ℕ) = g.D.Disk.bytes c.args.disk.now in
    let known' : Option (List ℕ) = g.D.Disk.bytes c.loop-at.disk in
    let wrote : g.D.Disk.bytes c.write_at.new.self ≡ option_map (written at zeros) known' = c.in_ok-write_at.ensures.written in
    let torn : (file : List ℕ) → Only file (g.D.Disk.images c.args.disk.now) → (image : List ℕ) → g.D.Disk.images c.write_at.new.self image
    → Torn from (at - from + length zeros) file image =
    λ file only image left.
    let was = c.write_at.ensures.crash image left in
    torn-more from (at - from) (length zeros) file was.0 image (c.loop-at.invariant.crash file only was.0 was.1)
    (subst (λ (n : ℕ). Torn n (length zeros) was.0 image) place was.2) in
    record {
      begun = omega (arith, c.loop-at.invariant.begun);
      within = omega (arith, c.min-count.ensures, c.loop-at-test.true);
      bytes =
          told-more known known' (g.D.Disk.bytes c.write_at.new.self) from (at - from) count c.requires c.loop-at.invariant.bytes
          (wrote
          ∙ ap (λ (l : List ℕ). option_map (written at l) known') (take-replicate count 65536 0 few)
          ∙ ap (λ (n : ℕ). option_map (written n (replicate count 0)) known') place)
          ∙ ap (λ (n : ℕ). option_map (written from (replicate n 0)) known) grown;
      faults = c.in_ok-write_at.ensures.counted ∙ c.loop-at.invariant.faults;
      crash = λ file only image left.
          subst (λ (n : ℕ). Torn from n file image) (omega (arith, size, grown)) (torn file only image left);
      any_moment = λ file only.
          goes_on g.D.Disk.moment g.D.Disk.images_since c.args.disk.now c.loop-at.disk c.write_at.new.self
          (Torn from (c.args.upto - from) file)
          (g.D.Disk.images c.write_at.new.self)
          (c.loop-at.invariant.any_moment file only)
          c.write_at.ensures.time
          (λ image left.
          torn-wider from (at - from + length zeros) (c.args.upto - from) file image
          (omega (arith, size, c.min-count.ensures, c.loop-at.invariant.begun, c.loop-at-test.true))
          (torn file only image left));
    }
