use Rattle.std.proofs.Common.{◌≡◌, false, is_err, [], List, ℕ, refl, sym, ◌∙◌, subst, arith}
use Rattle.disk_model.specs.Journal.{new_journal, Holds}
use Rattle.disk_model.proofs.Journals.{holds-new}
use Rattle.fb_journal.specs.Marks.{mark_bytes}
use Rattle.fb_journal.proofs.Appends.{length-mark_bytes}
use Rattle.fb_journal.proofs.Outcomes.{on_ok}
use Rattle.fb_journal.proofs.Starting.{told-anew}
use Rattle.fb_journal.proofs.journals.Journal.reset.Goals as goal

pub returns-clause-emptied : goal.returns-clause-emptied
returns-clause-emptied g c =
    let mark : List ℕ = mark_bytes c.args.self.now.mark in
    let ok : is_err c.empty.result ≡ false = sym c.is_err.ensures.value ∙ c.if-is_err.false in
    let wrote = on_ok _ c.empty.result ok c.empty.ensures.bytes in
    let durable = on_ok _ c.empty.result ok c.empty.ensures.durable in record {
      goes_on = c.in_default.is;
      count = refl;
      gate = omega (arith, length-mark_bytes c.args.self.now.mark);
      file = λ file told. (
        subst (Holds mark []) (told-anew (g.D.Disk.bytes c.args.self.now.disk) (g.D.Disk.bytes c.empty.new.disk) (new_journal mark) file wrote told)
            (holds-new mark),
        durable file told,
      );
    }
