use Rattle.test_conn.proofs.copies.opened.Goals as goal

pub invariant_of-opened-in_err-share-in-Ok : goal.invariant_of-opened-in_err-share-in-Ok
invariant_of-opened-in_err-share-in-Ok c = let j = c.in-Ok.opened.store.journal in record { room = j.room; few = j.few; lies = j.lies }

pub invariant_of-opened-in-Ok-2 : goal.invariant_of-opened-in-Ok-2
invariant_of-opened-in-Ok-2 c = let j = c.in-Ok.opened.store.journal in record { room = j.room; few = j.few; lies = j.lies }
