use Rattle.std.proofs.Common.{◌+◌, ◌∙◌, ℕ, List, length, refl, sym, ap, subst}
use Rattle.disk_model.specs.Journal.{opened, Holds}
use Rattle.fb_journal.proofs.readings.Reading.finish.Goals as goal

pub returns-clause-keeps : goal.returns-clause-keeps
returns-clause-keeps g c = λ mark disk records all.
    let has = all.read in (
      record {
        goes_on = refl;
        count = has.count;
        gate = has.gate ∙ ap (λ (m : List ℕ). length m + length (opened records)) (sym has.marked);
        file = λ file told.
            (subst (λ (m : List ℕ). Holds m records file) (sym has.marked) (all.closed file told), (has.file file told).2);
      },
      has.marked,
    )
