use Rattle.std.proofs.Common.{refl, arith}
use Rattle.std.proofs.lemmas.Map.Text.{text_keys}
use Rattle.mem_ports.proofs.hosts.MemHostHost.source.Goals as goal

pub returns-in-Some-clause-others : goal.returns-in-Some-clause-others
returns-in-Some-clause-others c =
    record {
      sources = λ other differs. grind (arith, text_keys);
      source_faults = λ other differs. grind (arith, text_keys);
      sinks = λ name. refl;
      sink_faults = λ name. refl;
      disks = λ dir part. refl;
      disk_faults = λ dir part. refl;
      disk_images = λ dir part image. ((λ left. left), (λ left. left));
      disk_moment = λ dir part. refl;
    }

pub returns-in-Some-clause-kept : goal.returns-in-Some-clause-kept
returns-in-Some-clause-kept c = λ other differs. grind (arith, text_keys)
