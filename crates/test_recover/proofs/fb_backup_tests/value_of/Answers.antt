use Rattle.test_recover.proofs.fb_backup_tests.value_of.Goals as goal

pub invariant_of-opened-in-Ok : goal.invariant_of-opened-in-Ok
invariant_of-opened-in-Ok c = let j = c.in-Ok.opened.store.journal in record { room = j.room; few = j.few; lies = j.lies }
