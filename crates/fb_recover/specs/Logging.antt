-- The log's disk after the log was opened, or was not.
-- This project's own choice.
use Rattle.std.specs.Prelude.{Result, Ok, Err}
use Rattle.disk_log.specs.Logs.{disk_in}
use Rattle.fb_recover.specs.declared.logging.Logged.{Logged}
use Rattle.fb_recover.specs.declared.logging.LogStop.{LogStop}

abbrev pub log_disk_after : {D : Type 0} {g : _} → Result (Logged D g) (LogStop D) → D
log_disk_after (Ok logged) = disk_in logged.log
log_disk_after (Err stop) = stop.disk
