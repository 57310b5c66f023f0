use Rattle.std.proofs.Common.{[], rules}
use Rattle.fb_model.specs.FirstEntry.{first_entry}
use Rattle.held_facts.proofs.Firsts.{first_is}
use Rattle.held_facts.proofs.held.Held.first.Goals as goal

pub invariant_of-result : goal.invariant_of-result
invariant_of-result c =
    let has = c.in_ok-follow_all.ensures [] c.new-kept.ensures in
    let first =
    first_is c.in_ok-entries.entries first_entry c.at-first.result.now c.greatest_user-users.result c.as_slice-datoms.result.now
    c.follow_all.new.kept c.in_ok-entries.ensures c.at-first.ensures c.as_slice-datoms.ensures c.greatest_user-users.ensures has
    in
    (first.basis_is, rw first.instant_is (search rules), first.users_is, first.has)
