use Rattle.std.proofs.Common.{◌∙◌, refl, sym, arith}
use Rattle.std.proofs.lemmas.List.{append-nil}
use Rattle.fb_journal.specs.Marks.{mark_bytes}
use Rattle.fb_journal.proofs.Appends.{length-mark_bytes}
use Rattle.fb_journal.proofs.journals.Journal.open.Goals as goal

pub returns-in-Ok-clause-begins : goal.returns-in-Ok-clause-begins
returns-in-Ok-clause-begins g c = record {
  marked = refl;
  count = refl;
  gate = omega (arith, length-mark_bytes c.args.mark);
  lengths = tt;
  begun = c.in-Ok.ensures.begun;
  file = λ file told.
      let here = c.in-Ok.ensures.file file told in
      (here.0 ∙ sym (append-nil (mark_bytes c.args.mark)), here.1, here.2);
  any_moment = c.begin.ensures.any_moment;
}
