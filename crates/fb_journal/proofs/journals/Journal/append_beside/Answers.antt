use Rattle.std.proofs.Common.{Option, ◌≡◌, ◌<◌, ◌+◌, ◌^◌, [], ◌∷◌, ℕ, List, length, false, is_err, ◌∙◌, sym, ap, subst, arith, length-append}
use Rattle.fb_journal.specs.Laying.{LiesAt, record_if, zeros_between}
use Rattle.fb_journal.specs.Marks.{mark_bytes}
use Rattle.fb_journal.proofs.Appends.{length-mark_bytes, run-added, told-added, gate-added}
use Rattle.fb_journal.proofs.Framing.{length-record}
use Rattle.fb_journal.proofs.Laying.{told-laid, laid-next, laid-here}
use Rattle.fb_journal.proofs.Outcomes.{on_ok}
use Rattle.fb_journal.proofs.journals.Journal.append_beside.Goals as goal

pub add_record-requires-clause-lies : goal.add_record-requires-clause-lies
add_record-requires-clause-lies g c = λ lies.
    laid-here c.args.self.now.laid (g.D.Disk.bytes c.args.self.now.disk) (c.args.self.now.gate + 1) c.args.framed.now
    c.bytes-piece.result.now c.bytes-piece.ensures (c.has_laid-lies.ensures lies) c.args.self.now.lies

pub returns-then-is_err-clause-any_moment : goal.returns-then-is_err-clause-any_moment
returns-then-is_err-clause-any_moment g c = λ records keeps file told.
    let payload : List ℕ = c.args.framed.now in
    let fits : length payload < 2 ^ 64 = omega (arith, ap length c.bytes-piece.ensures, length-record payload) in
    run-added (mark_bytes c.args.self.now.mark) records payload c.args.self.now.gate c.bytes-piece.result.now
    (zeros_between (c.args.self.now.gate + 1 + length c.bytes-piece.result.now) c.zeros_upto-upto.result) file
    (length-mark_bytes c.args.self.now.mark) c.bytes-piece.ensures fits keeps.gate (keeps.file file told).0 g.D.Disk.moment
    g.D.Disk.images_since
    c.args.self.now.disk
    c.add_record.new.disk
    (length c.bytes_in-beside.result.now)
    (c.add_record.ensures.any_moment file told (keeps.file file told).1)

pub returns-clause-acknowledged : goal.returns-clause-acknowledged
returns-clause-acknowledged g c = λ records keeps.
    let payload : List ℕ = c.args.framed.now in
    let mark : List ℕ = mark_bytes c.args.self.now.mark in
    let fits : length payload < 2 ^ 64 = omega (arith, ap length c.bytes-piece.ensures, length-record payload) in
    let ok : is_err c.add_record.result ≡ false = sym c.is_err.ensures.value ∙ c.if-is_err.false in
    let wrote = on_ok _ c.add_record.result ok c.add_record.ensures.bytes in
    let durable = on_ok _ c.add_record.result ok c.add_record.ensures.durable in
    let all =
    told-added (g.D.Disk.bytes c.args.self.now.disk) (g.D.Disk.bytes c.add_record.new.disk) mark records payload c.args.self.now.gate
    c.bytes-piece.result.now
    (zeros_between (c.args.self.now.gate + 1 + length c.bytes-piece.result.now) c.zeros_upto-upto.result)
    c.bytes_in-beside.result.now wrote (length-mark_bytes c.args.self.now.mark) c.bytes-piece.ensures fits keeps.gate
    (λ file told. (keeps.file file told).0) in record {
      goes_on = keeps.goes_on;
      count = omega (arith, keeps.count, length-append records (payload ∷ []));
      gate = gate-added mark records payload c.args.self.now.gate c.bytes-piece.result.now c.bytes-piece.ensures keeps.gate;
      file = λ file told. (all file told, durable file told);
    }

pub returns-clause-any_moment : goal.returns-clause-any_moment
returns-clause-any_moment g c = λ records keeps file told.
    let payload : List ℕ = c.args.framed.now in
    let fits : length payload < 2 ^ 64 = omega (arith, ap length c.bytes-piece.ensures, length-record payload) in
    run-added (mark_bytes c.args.self.now.mark) records payload c.args.self.now.gate c.bytes-piece.result.now
    (zeros_between (c.args.self.now.gate + 1 + length c.bytes-piece.result.now) c.zeros_upto-upto.result) file
    (length-mark_bytes c.args.self.now.mark) c.bytes-piece.ensures fits keeps.gate (keeps.file file told).0 g.D.Disk.moment
    g.D.Disk.images_since
    c.args.self.now.disk
    c.add_record.new.disk
    (length c.bytes_in-beside.result.now)
    (c.add_record.ensures.any_moment file told (keeps.file file told).1)

pub invariant_of-self-2-clause-lies : goal.invariant_of-self-2-clause-lies
invariant_of-self-2-clause-lies g c =
    let old = c.args.self.now in
    let now : Option (List ℕ) = g.D.Disk.bytes c.add_record.new.disk in
    let piece : List ℕ = c.bytes-piece.result.now in
    let next : List ℕ = c.bytes_in-beside.result.now in
    let ok : is_err c.add_record.result ≡ false = sym c.is_err.ensures.value ∙ c.if-is_err.false in
    let within = on_ok _ c.add_record.result ok c.add_record.ensures.within in
    let wrote = on_ok _ c.add_record.result ok c.add_record.ensures.bytes in
    let place : old.gate + 1 + length piece ≡ old.gate + length piece + 1 = omega arith in
    laid-next c.args.next now (old.gate + length piece + 1)
    (omega (arith, within, ap length c.bytes_in-beside.ensures))
    (λ file told.
    subst (λ (at : ℕ). LiesAt at (record_if c.args.next) file) place
    (subst (λ (l : List ℕ). LiesAt (old.gate + 1 + length piece) l file) c.bytes_in-beside.ensures
    (told-laid (g.D.Disk.bytes old.disk) now old.gate piece
    (zeros_between (old.gate + 1 + length piece) c.zeros_upto-upto.result)
    next wrote file told)))
