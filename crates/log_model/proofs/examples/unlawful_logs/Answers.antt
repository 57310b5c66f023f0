-- By computation; whether a text is UTF-8 is computed where it is opened.
use Rattle.std.proofs.Common.{refl}
use Rattle.std.specs.Char.{encode_utf8}
use Rattle.std.specs.Str.{is_utf8, chars}
use Rattle.log_model.proofs.examples.unlawful_logs.Goals as goal

pub returns-clause-t : goal.returns-clause-t
unfolding is_utf8 chars encode_utf8
returns-clause-t c = refl

pub returns-clause-instant : goal.returns-clause-instant
unfolding is_utf8 chars encode_utf8
returns-clause-instant c = refl

pub returns-clause-attribute : goal.returns-clause-attribute
unfolding is_utf8 chars encode_utf8
returns-clause-attribute c = refl

pub returns-clause-retracted : goal.returns-clause-retracted
unfolding is_utf8 chars encode_utf8
returns-clause-retracted c = refl

pub returns-clause-keyword : goal.returns-clause-keyword
unfolding is_utf8 chars encode_utf8
returns-clause-keyword c = refl

pub returns-clause-again : goal.returns-clause-again
unfolding is_utf8 chars encode_utf8
returns-clause-again c = refl
