use Rattle.std.proofs.Common.{◌≡◌, ℕ, List, length, sym, subst}
use Rattle.disk_model.specs.Disk.{written, Torn}
use Rattle.disk_model.proofs.Calls.{torn-same}
use Rattle.disk_model.proofs.Moments.{started}
use Rattle.fb_journal.proofs.Laying.{written-lies, told-same}
use Rattle.fb_journal.proofs.stores.write_record.Goals as goal

pub returns-then-lies-clause-bytes : goal.returns-then-lies-clause-bytes
returns-then-lies-clause-bytes g c =
    told-same (g.D.Disk.bytes c.args.disk.now) (written c.args.at c.args.piece.now)
    (λ file told. written-lies c.args.at c.args.piece.now file ((c.requires c.if-lies.true).1 file told))

pub returns-then-lies-clause-durable : goal.returns-then-lies-clause-durable
returns-then-lies-clause-durable g c = λ file told only image left.
    let same : written c.args.at c.args.piece.now file ≡ file =
    written-lies c.args.at c.args.piece.now file ((c.requires c.if-lies.true).1 file told) in
    subst (λ (f : List ℕ). image ≡ f) (sym same) (only image left)

pub returns-then-lies-clause-any_moment : goal.returns-then-lies-clause-any_moment
returns-then-lies-clause-any_moment g c = λ file only.
    let disk = c.args.disk.now in
    started g.D.Disk.moment g.D.Disk.images_since disk (Torn c.args.at (length c.args.piece.now) file)
    (λ image now.
    subst (Torn c.args.at (length c.args.piece.now) file) (sym (only image (g.met.D.Disk.only_now disk image now)))
    (torn-same c.args.at (length c.args.piece.now) file))
