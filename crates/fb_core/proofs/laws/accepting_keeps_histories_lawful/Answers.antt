use Rattle.std.proofs.Common.{◌≡◌, ◌∙◌, ◌+◌, ap, length, arith, [], ◌∷◌}
use Rattle.std.proofs.lemmas.List.{length-append}
use Rattle.fb_model.specs.History.{basis}
use Rattle.fb_core.specs.Cores.{entry_of}
use Rattle.fb_core.proofs.Histories.{next_basis}
use Rattle.fb_core.proofs.laws.accepting_keeps_histories_lawful.Goals as goal

pub returns : goal.returns
returns c =
    record {
      lawful = λ core author draft stands is. is.stands.history.lawful;
      basis = λ core author draft stands is. ap basis is.entries ∙ next_basis core.snapshot.entries (entry_of draft) is.next;
      stands = λ core author draft stands is.
          let last : basis draft.after.entries ≡ basis core.snapshot.entries + 1 =
          ap basis is.entries ∙ next_basis core.snapshot.entries (entry_of draft) is.next in
          let count : length draft.authors ≡ length core.authors + 1 = ap length is.authors ∙ length-append core.authors (author ∷ []) in
          let counted = stands.authors in
          record { snapshot = is.stands; authors = omega (arith, last, count, counted) };
    }
