use Rattle.std.proofs.Common.{◌≡◌, ◌-◌, ℕ, List, [], length, Option, option_map, sym, ◌∙◌, ap, subst}
use Rattle.std.proofs.lemmas.List.{length-replicate}
use Rattle.disk_model.specs.Disk.{written, Torn, LeavesOnly}
use Rattle.disk_model.proofs.Moments.{goes_on}
use Rattle.fb_journal.specs.Laying.{zeros_between}
use Rattle.fb_journal.proofs.Laying.{written-lies, none-lie}
use Rattle.fb_journal.proofs.Zeroing.{told-none}
use Rattle.fb_journal.proofs.zeros.lay_zeros.Goals as goal

pub returns-in_default-clause-bytes : goal.returns-in_default-clause-bytes
returns-in_default-clause-bytes g c =
    let known : Option (List ℕ) = g.D.Disk.bytes c.args.disk.now in
    told-none known c.args.from c.requires
    ∙ ap (λ (o : Option ℕ). option_map (written c.args.from (zeros_between c.args.from o)) known) (sym c.in_default.is)

pub returns-in_default-clause-durable : goal.returns-in_default-clause-durable
returns-in_default-clause-durable g c = λ file told only image left.
    only image left
    ∙ sym (written-lies c.args.from [] file (none-lie c.args.from file (c.requires file told)))
    ∙ ap (λ (o : Option ℕ). written c.args.from (zeros_between c.args.from o) file) (sym c.in_default.is)

pub returns-in_err-write_zeros-clause-any_moment : goal.returns-in_err-write_zeros-clause-any_moment
returns-in_err-write_zeros-clause-any_moment g c = λ file only.
    let from : ℕ = c.args.from in
    let n : ℕ = c.in-Some.upto - from in
    let size : length (zeros_between from c.args.upto) ≡ n =
    ap (λ (o : Option ℕ). length (zeros_between from o)) c.in-Some.is ∙ length-replicate n 0 in
    subst
    (λ (k : ℕ). LeavesOnly g.D.Disk.moment g.D.Disk.images_since c.args.disk.now c.write_zeros.new.disk (Torn from k file))
    (sym size)
    (c.write_zeros.ensures.any_moment file only)

pub returns-clause-any_moment : goal.returns-clause-any_moment
returns-clause-any_moment g c = λ file only.
    let from : ℕ = c.args.from in
    let n : ℕ = c.in-Some.upto - from in
    let size : length (zeros_between from c.args.upto) ≡ n =
    ap (λ (o : Option ℕ). length (zeros_between from o)) c.in-Some.is ∙ length-replicate n 0 in
    subst
    (λ (k : ℕ). LeavesOnly g.D.Disk.moment g.D.Disk.images_since c.args.disk.now c.sync.new.self (Torn from k file))
    (sym size)
    (goes_on g.D.Disk.moment g.D.Disk.images_since c.args.disk.now c.write_zeros.new.disk c.sync.new.self (Torn from n file)
    (g.D.Disk.images c.sync.new.self)
    (c.write_zeros.ensures.any_moment file only)
    c.sync.ensures.time
    (λ image left. c.in_ok-write_zeros.ensures.crash file only image (c.sync.ensures.crash image left)))
