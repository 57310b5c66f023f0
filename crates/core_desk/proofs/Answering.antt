-- What a core's step says of the desk's answer.
use Rattle.std.proofs.Common.{◌≡◌, ◌∙◌, ◌+◌, ◌≤◌, ℤ, List, [], ◌∷◌, ◌++◌, None, sym, ap, subst, inl}
use Rattle.std.proofs.lemmas.List.{append-nil}
use Rattle.edn_model.specs.Form.{Form}
use Rattle.fb_values.specs.declared.facts.Entry.{Entry}
use Rattle.fb_model.specs.History.{basis}
use Rattle.fb_model.specs.Lawful.{IsLawful}
use Rattle.tx_model.specs.Step.{Guard, step, accepted}
use Rattle.fb_core.specs.declared.accepting.Draft.{Draft}
use Rattle.fb_core.specs.Cores.{entry_of}
use Rattle.fb_desk.specs.declared.answers.Receipt.{Receipt}
use Rattle.fb_desk.specs.Desks.{State, GoesOn, IsReceipt}

-- nothing was recorded
pub goes_on-still : (old new : State) → new.entries ≡ old.entries → new.opening ≡ old.opening → old.stop ≡ None → new.seat ≡ old.seat
    → old.left ≤ new.left + 1 → GoesOn old new
goes_on-still old new entries opening untold seat left =
    record {
      went_on = record {
        more = [];
        entries = entries ∙ sym (append-nil old.entries);
        lawful = λ lawful. subst IsLawful (sym entries) lawful;
        opening = opening;
        stop = inl untold;
        seat = seat;
      };
      left = left;
    }

-- nobody else has written
pub receipt_is : (may : ℤ → Type 0) (guard : Guard) (asked : Form) (old new : State) (receipt : Receipt) (draft : Draft) (reading : ℤ)
    → may reading → step old.entries asked reading guard ≡ accepted (entry_of draft) draft.tempids.items
    → new.entries ≡ old.entries ++ entry_of draft ∷ [] → new.commits ≡ old.commits ++ receipt.t ∷ [] → new.tally ≡ old.tally
    → new.stop ≡ None → receipt.t ≡ basis new.entries → receipt.instant ≡ (entry_of draft).instant
    → receipt.tempids.items ≡ draft.tempids.items → receipt.snapshot.entries ≡ new.entries
    → IsReceipt may guard asked old new receipt
receipt_is may guard asked old new receipt draft reading may_be step_is entries commits tally going t instant tempids snapshot =
    record {
      going = going;
      others = [];
      reading = reading;
      may_be = may_be;
      entry = entry_of draft;
      step_is =
          ap (λ (h : List Entry). step h asked reading guard) (append-nil old.entries)
          ∙ step_is
          ∙ ap (accepted (entry_of draft)) (sym tempids);
      entries = entries ∙ ap (λ (h : List Entry). h ++ entry_of draft ∷ []) (sym (append-nil old.entries));
      t = t;
      instant = instant;
      snapshot = snapshot;
      commits = commits;
      tally = tally;
    }
