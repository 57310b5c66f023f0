-- By computation; whether a text is UTF-8 is computed where it is opened.
use Rattle.std.proofs.Common.{refl}
use Rattle.std.specs.Char.{encode_utf8}
use Rattle.std.specs.Str.{is_utf8, chars}
use Rattle.log_model.proofs.examples.payloads_with_other_fields.Goals as goal

pub returns-clause-written : goal.returns-clause-written
unfolding is_utf8 chars encode_utf8
returns-clause-written c = refl

pub returns-clause-older : goal.returns-clause-older
unfolding is_utf8 chars encode_utf8
returns-clause-older c = refl

pub returns-clause-symbol : goal.returns-clause-symbol
unfolding is_utf8 chars encode_utf8
returns-clause-symbol c = refl

pub returns-clause-uri : goal.returns-clause-uri
unfolding is_utf8 chars encode_utf8
returns-clause-uri c = refl

pub returns-clause-past_ascii : goal.returns-clause-past_ascii
unfolding is_utf8 chars encode_utf8
returns-clause-past_ascii c = refl
