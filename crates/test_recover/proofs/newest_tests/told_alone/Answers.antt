use Rattle.test_recover.proofs.newest_tests.told_alone.Goals as goal

pub invariant_of-store : goal.invariant_of-store
invariant_of-store c = let j = c.in-Ok-Root.field-0-0.store.journal in record { room = j.room; few = j.few; lies = j.lies }

pub invariant_of-store-in-Ok-Root : goal.invariant_of-store-in-Ok-Root
invariant_of-store-in-Ok-Root c =
    let j = c.in-Ok-Root.field-0-0.store.journal in record { room = j.room; few = j.few; lies = j.lies }
