-- By the lemmas on windows.
use Rattle.std.proofs.Common.{refl}
use Rattle.view_model.proofs.Views.{as_of-as_of, since-since}
use Rattle.view_model.proofs.laws.windows_compose.Goals as goal

pub returns-clause-as_of_twice : goal.returns-clause-as_of_twice
returns-clause-as_of_twice c = as_of-as_of

pub returns-clause-since_twice : goal.returns-clause-since_twice
returns-clause-since_twice c = since-since

pub returns-clause-either_first : goal.returns-clause-either_first
returns-clause-either_first c = λ a b w. refl
