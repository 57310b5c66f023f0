-- The sessions that the generator runs in memory, and the record of their sources and sinks.
-- This project's own choice.
use Rattle.std.specs.Prelude.{ℕ, List, [], ◌∷◌, Option, Some, None, codes}
use Rattle.std.specs.Str.Parse.{digits_value}
use Rattle.load_scripts.specs.Scripts.{script_of}
use Rattle.mem_ports.specs.InMemory.{Supply, Store}
use Rattle.fb_ports.specs.HostSpec.{HostSpec}
use Rattle.command_line.specs.Words.{Command, load}
use Rattle.fb_run.specs.Outside.{StreamSpec}

-- the sessions that a command runs in memory, by their numbers
abbrev pub loads_of : Option Command → List (List ℕ)
loads_of (Some (load count)) =
    codes "0" ∷ codes "1" ∷ codes "2" ∷ codes "3" ∷ codes "4" ∷ []
loads_of command = []

abbrev pub generated : Option Command → List ℕ → Option (List ℕ)
generated (Some (load count)) name = Some (script_of (digits_value 10 name) count)
generated command name = None

-- In place of what the host's record has of sources and sinks:
-- each source holds the script of its session, and no sink has a line yet.
abbrev pub spec_in_memory : HostSpec → Option Command → HostSpec
spec_in_memory spec command =
    record spec {
      sources = generated command;
      source_faults = λ _. 0;
      sinks = λ _. Some [];
      sink_faults = λ _. 0;
    }

-- what the sources and sinks in memory hold
abbrev pub in_memory : StreamSpec Supply Store
in_memory =
    record {
      left = λ source. Some source.left;
      source_faults = λ source. source.calls.faults;
      contents = λ sink. Some sink.bytes;
      sink_faults = λ sink. sink.calls.faults;
    }
