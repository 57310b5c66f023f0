-- By computation; whether a text is UTF-8 is computed where it is opened.
use Rattle.std.proofs.Common.{refl}
use Rattle.std.specs.Char.{encode_utf8}
use Rattle.std.specs.Str.{is_utf8, chars}
use Rattle.log_model.proofs.merges.roots_of_a_file.Goals as goal

pub returns-clause-both : goal.returns-clause-both
unfolding is_utf8 chars encode_utf8
returns-clause-both c = refl

pub returns-clause-trees : goal.returns-clause-trees
unfolding is_utf8 chars encode_utf8
returns-clause-trees c = refl

pub returns-clause-others : goal.returns-clause-others
unfolding is_utf8 chars encode_utf8
returns-clause-others c = refl

pub returns-clause-before_a_bad_one : goal.returns-clause-before_a_bad_one
unfolding is_utf8 chars encode_utf8
returns-clause-before_a_bad_one c = refl
