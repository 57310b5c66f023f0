use Rattle.std.proofs.Common.{◌≡◌, ◌≤◌, ◌-◌, length, drop}
use Rattle.log_model.specs.Fields.{several}
use Rattle.log_model.specs.Payload.{read_datom}
use Rattle.fb_codec.proofs.Several.{with_front}
use Rattle.fb_codec.proofs.entries.get_datoms.Given as goal

-- the datoms so far, and what is read behind them, are what is read from the place on
abbrev pub invariant-loop : goal.invariant-loop
invariant-loop l =
    let read = read_datom l.format l.t in record {
      within : l.end ≤ length l.bytes;
      so_far : with_front read l.datoms.items (several read (l.count - l.counter) (drop l.end l.bytes))
          ≡ several read l.count (drop l.at l.bytes);
    }
