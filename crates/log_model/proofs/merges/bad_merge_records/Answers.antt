-- By computation; whether a text is UTF-8 is computed where it is opened.
use Rattle.std.proofs.Common.{refl}
use Rattle.std.specs.Char.{encode_utf8}
use Rattle.std.specs.Str.{is_utf8, chars}
use Rattle.log_model.proofs.merges.bad_merge_records.Goals as goal

pub returns-clause-greatest_id : goal.returns-clause-greatest_id
unfolding is_utf8 chars encode_utf8
returns-clause-greatest_id c = refl

pub returns-clause-full_leaf_wanting : goal.returns-clause-full_leaf_wanting
unfolding is_utf8 chars encode_utf8
returns-clause-full_leaf_wanting c = refl

pub returns-clause-id_of_a_leaf : goal.returns-clause-id_of_a_leaf
unfolding is_utf8 chars encode_utf8
returns-clause-id_of_a_leaf c = refl

pub returns-clause-empty_directory : goal.returns-clause-empty_directory
unfolding is_utf8 chars encode_utf8
returns-clause-empty_directory c = refl

pub returns-clause-no_such_leaf : goal.returns-clause-no_such_leaf
unfolding is_utf8 chars encode_utf8
returns-clause-no_such_leaf c = refl

pub returns-clause-directory_of_itself : goal.returns-clause-directory_of_itself
unfolding is_utf8 chars encode_utf8
returns-clause-directory_of_itself c = refl

pub returns-clause-leaf_twice : goal.returns-clause-leaf_twice
unfolding is_utf8 chars encode_utf8
returns-clause-leaf_twice c = refl

pub returns-clause-leaf_for_a_directory : goal.returns-clause-leaf_for_a_directory
unfolding is_utf8 chars encode_utf8
returns-clause-leaf_for_a_directory c = refl

pub returns-clause-directory_twice : goal.returns-clause-directory_twice
unfolding is_utf8 chars encode_utf8
returns-clause-directory_twice c = refl

pub returns-clause-in_two_trees : goal.returns-clause-in_two_trees
unfolding is_utf8 chars encode_utf8
returns-clause-in_two_trees c = refl

pub returns-clause-one_byte_short : goal.returns-clause-one_byte_short
unfolding is_utf8 chars encode_utf8
returns-clause-one_byte_short c = refl

pub returns-clause-one_byte_long : goal.returns-clause-one_byte_long
unfolding is_utf8 chars encode_utf8
returns-clause-one_byte_long c = refl
