use Rattle.std.proofs.Common.{◌≡◌, ◌∙◌, Option, option_map, refl, ap}
use Rattle.std.specs.Option.{option_map_or}
use Rattle.mem_ports.specs.MemDisks.{Past, known_bytes, images_of, moment_of}
use Rattle.fb_ports.specs.HostCalls.{Alike}
use Rattle.mem_ports.specs.InMemory.{Supply}
use Rattle.mem_ports.specs.MemHosts.{handed_of, handed_at}
use Rattle.mem_ports.proofs.Handing.{more_ok, alike}
use Rattle.mem_ports.proofs.hosts.MemHostHost.disk.Goals as goal

pub returns-clause-handed : goal.returns-clause-handed
returns-clause-handed c =
    more_ok (λ d. d ≡ handed_of c.take_disk-added.result)
    (λ d. d ≡ handed_at c.args.self.now c.args.dir.now c.args.part) c.handed_out.result
    (λ d is. is ∙ ap handed_of c.take_disk-added.ensures.taken)
    c.handed_out.ensures.handed

pub returns-clause-bytes : goal.returns-clause-bytes
returns-clause-bytes c =
    more_ok (λ d. d ≡ handed_of c.take_disk-added.result)
    (λ d. known_bytes d ≡ known_bytes (handed_at c.args.self.now c.args.dir.now c.args.part)) c.handed_out.result
    (λ d is. ap known_bytes (is ∙ ap handed_of c.take_disk-added.ensures.taken))
    c.handed_out.ensures.handed

pub returns-clause-count : goal.returns-clause-count
returns-clause-count c =
    more_ok (λ d. d ≡ handed_of c.take_disk-added.result)
    (λ d. d.calls.faults ≡ (handed_at c.args.self.now c.args.dir.now c.args.part).calls.faults) c.handed_out.result
    (λ d is. ap (λ (p : Past). p.calls.faults) (is ∙ ap handed_of c.take_disk-added.ensures.taken))
    c.handed_out.ensures.handed

pub returns-clause-images : goal.returns-clause-images
returns-clause-images c =
    more_ok (λ d. d ≡ handed_of c.take_disk-added.result)
    (λ d. Alike (images_of (handed_at c.args.self.now c.args.dir.now c.args.part)) (images_of d)) c.handed_out.result
    (λ d is. alike (handed_at c.args.self.now c.args.dir.now c.args.part) d (is ∙ ap handed_of c.take_disk-added.ensures.taken))
    c.handed_out.ensures.handed

pub returns-clause-moment : goal.returns-clause-moment
returns-clause-moment c =
    more_ok (λ d. d ≡ handed_of c.take_disk-added.result)
    (λ d. moment_of d ≡ moment_of (handed_at c.args.self.now c.args.dir.now c.args.part)) c.handed_out.result
    (λ d is. ap moment_of (is ∙ ap handed_of c.take_disk-added.ensures.taken))
    c.handed_out.ensures.handed

pub returns-clause-others : goal.returns-clause-others
returns-clause-others c =
    let taken = c.take_disk-added.ensures in
    record {
      sources = λ name. ap (λ (o : Option Supply). option_map (λ (s : Supply). s.left) o) (taken.sources name);
      source_faults = λ name. ap (λ (o : Option Supply). option_map_or (λ (s : Supply). s.calls.faults) o 0) (taken.sources name);
      sinks = λ name. refl;
      sink_faults = λ name. refl;
      disks = λ other its differs. ap (λ (o : Option Past). known_bytes (handed_of o)) (taken.others other its differs);
      disk_faults = λ other its differs. ap (λ (o : Option Past). (handed_of o).calls.faults) (taken.others other its differs);
      disk_images = λ other its differs. alike _ _ (ap handed_of (taken.others other its differs));
      disk_moment = λ other its differs. ap (λ (o : Option Past). moment_of (handed_of o)) (taken.others other its differs);
    }
