use Rattle.std.proofs.Common.{sym, subst}
use Rattle.seg_store.specs.Trees.{HaveStorableDatoms}
use Rattle.test_recover.proofs.fb_recover_tests.keep_own.Goals as goal

pub keep-requires : goal.keep-requires
keep-requires c =
    let value = c.args.value.now in
    let history = c.roots.ensures.stands.history in
    subst HaveStorableDatoms (sym c.roots.ensures.roots)
    (c.trees_of_a_lawful_history_are_storable.ensures value.entries value.covered value.roots history.lawful history.roots_stand)
