-- By computation; whether a text is UTF-8 is computed where it is opened.
use Rattle.std.proofs.Common.{refl}
use Rattle.std.specs.Char.{encode_utf8}
use Rattle.std.specs.Str.{is_utf8, chars}
use Rattle.log_model.proofs.examples.storable_entries.Goals as goal

pub returns-clause-written : goal.returns-clause-written
unfolding is_utf8 chars encode_utf8
returns-clause-written c = refl

pub returns-clause-older : goal.returns-clause-older
unfolding is_utf8 chars encode_utf8
returns-clause-older c = refl

pub returns-clause-symbol : goal.returns-clause-symbol
unfolding is_utf8 chars encode_utf8
returns-clause-symbol c = refl

pub returns-clause-symbol_in_the_older : goal.returns-clause-symbol_in_the_older
unfolding is_utf8 chars encode_utf8
returns-clause-symbol_in_the_older c = refl

pub returns-clause-number_for_a_symbol : goal.returns-clause-number_for_a_symbol
unfolding is_utf8 chars encode_utf8
returns-clause-number_for_a_symbol c = refl

pub returns-clause-no_utf_8 : goal.returns-clause-no_utf_8
unfolding is_utf8 chars encode_utf8
returns-clause-no_utf_8 c = refl

pub returns-clause-other_t : goal.returns-clause-other_t
unfolding is_utf8 chars encode_utf8
returns-clause-other_t c = refl
