use Rattle.disk_log.proofs.logs.DiskLogLog.record.Goals as goal

pub entry_bytes-requires : goal.entry_bytes-requires
entry_bytes-requires g c = c.entries_of_lawful_histories_are_storable.ensures.next c.requires.0 c.args.entry.now c.requires.1 c.requires.2
