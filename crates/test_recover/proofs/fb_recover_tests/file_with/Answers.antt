use Rattle.test_recover.proofs.fb_recover_tests.file_with.Goals as goal

pub invariant_of-opened-2 : goal.invariant_of-opened-2
invariant_of-opened-2 g c = let j = c.args.opened.log.journal in record { room = j.room; few = j.few; lies = j.lies }
