use Rattle.std.proofs.Common.{◌∙◌, ap, List}
use Rattle.fb_values.specs.declared.facts.Entry.{Entry}
use Rattle.fb_model.specs.History.{basis, upto}
use Rattle.fb_model.proofs.Times.{upto-basis}
use Rattle.fb_core.specs.Cores.{entry_of}
use Rattle.fb_core.proofs.Histories.{beginning_stays, latest_stays}
use Rattle.fb_core.proofs.laws.a_beginning_stays_one.Goals as goal

pub returns : goal.returns
returns c =
    record {
      whole = λ core stands. upto-basis core.snapshot.entries stands.snapshot.history.lawful;
      latest = λ core author draft stands is.
          ap (λ (h : List Entry). upto h (basis core.snapshot.entries)) is.entries
          ∙ latest_stays core.snapshot.entries (entry_of draft) stands.snapshot.history.lawful;
      older = λ core author draft older is stands begins.
          ap (λ (h : List Entry). upto h (basis older.entries)) is.entries
          ∙ beginning_stays core.snapshot.entries older.entries (entry_of draft) stands.history.lawful begins;
    }
