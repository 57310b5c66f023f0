use Rattle.read_model.proofs.Finding.{named_by_tests}
use Rattle.read_model.proofs.laws.names_are_found_by_tests.Goals as goal

pub returns : goal.returns
returns c = named_by_tests
