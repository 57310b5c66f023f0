-- By the lemma on the first entry.
use Rattle.std.proofs.Common.{refl, arith, ◌≤◌}
use Rattle.std.proofs.lemmas.List.Elements.{All-nil}
use Rattle.fb_model.proofs.LawfulHistories.{IsLawful-first}
use Rattle.event_model.proofs.examples.a_new_database_is_a_beginning.Goals as goal

pub returns : goal.returns
returns c = record { is_opened = refl; lawful = IsLawful-first; adopted = omega arith; kept = All-nil (λ c. c ≤ 0) }
