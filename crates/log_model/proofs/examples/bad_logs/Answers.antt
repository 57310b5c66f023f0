-- By computation; whether a text is UTF-8 is computed where it is opened.
use Rattle.std.proofs.Common.{refl}
use Rattle.std.specs.Char.{encode_utf8}
use Rattle.std.specs.Str.{is_utf8, chars}
use Rattle.log_model.proofs.examples.bad_logs.Goals as goal

pub returns-clause-good : goal.returns-clause-good
unfolding is_utf8 chars encode_utf8
returns-clause-good c = refl

pub returns-clause-older : goal.returns-clause-older
unfolding is_utf8 chars encode_utf8
returns-clause-older c = refl

pub returns-clause-second : goal.returns-clause-second
unfolding is_utf8 chars encode_utf8
returns-clause-second c = refl

pub returns-clause-record_before_law : goal.returns-clause-record_before_law
unfolding is_utf8 chars encode_utf8
returns-clause-record_before_law c = refl
