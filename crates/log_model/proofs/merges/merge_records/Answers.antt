-- By computation; whether a text is UTF-8 is computed where it is opened.
use Rattle.std.proofs.Common.{refl}
use Rattle.std.specs.Char.{encode_utf8}
use Rattle.std.specs.Str.{is_utf8, chars}
use Rattle.log_model.proofs.merges.merge_records.Goals as goal

pub returns-clause-read : goal.returns-clause-read
unfolding is_utf8 chars encode_utf8
returns-clause-read c = refl

pub returns-clause-older : goal.returns-clause-older
unfolding is_utf8 chars encode_utf8
returns-clause-older c = refl

pub returns-clause-older_node : goal.returns-clause-older_node
unfolding is_utf8 chars encode_utf8
returns-clause-older_node c = refl
