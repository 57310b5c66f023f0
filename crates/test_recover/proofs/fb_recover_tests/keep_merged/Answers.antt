use Rattle.test_recover.proofs.fb_recover_tests.keep_merged.Goals as goal

pub keep-requires : goal.keep-requires
keep-requires g c =
    let h = c.args.value.now.entries in
    c.trees_of_a_lawful_history_are_storable.ensures h _ c.in-Ok.roots c.basis.ensures.stands.history.lawful c.in-Ok.ensures.stand
