-- By computation; whether a text is UTF-8 is computed where it is opened.
use Rattle.std.proofs.Common.{refl}
use Rattle.std.specs.Char.{encode_utf8}
use Rattle.std.specs.Str.{is_utf8, chars}
use Rattle.log_model.proofs.examples.payloads_that_break.Goals as goal

pub returns-clause-third_datom_wanting : goal.returns-clause-third_datom_wanting
unfolding is_utf8 chars encode_utf8
returns-clause-third_datom_wanting c = refl

pub returns-clause-short_text : goal.returns-clause-short_text
unfolding is_utf8 chars encode_utf8
returns-clause-short_text c = refl

pub returns-clause-no_utf_8 : goal.returns-clause-no_utf_8
unfolding is_utf8 chars encode_utf8
returns-clause-no_utf_8 c = refl

pub returns-clause-keyword : goal.returns-clause-keyword
unfolding is_utf8 chars encode_utf8
returns-clause-keyword c = refl

pub returns-clause-one_byte_short : goal.returns-clause-one_byte_short
unfolding is_utf8 chars encode_utf8
returns-clause-one_byte_short c = refl

pub returns-clause-one_byte_long : goal.returns-clause-one_byte_long
unfolding is_utf8 chars encode_utf8
returns-clause-one_byte_long c = refl
