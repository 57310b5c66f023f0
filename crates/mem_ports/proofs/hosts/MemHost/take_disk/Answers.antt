use Rattle.std.proofs.Common.{◌≡◌, ◌≢◌, refl, sym, arith}
use Rattle.std.proofs.lemmas.Map.Text.{text_keys}
use Rattle.std.specs.BTreeMap.{get_by_text}
use Rattle.mem_ports.specs.MemHosts.{disk_at}
use Rattle.fb_ports.specs.declared.hosts.Part.{Part}
use Rattle.fb_ports.specs.declared.hosts.Part.TheVariants.{Log, Segments}
use Rattle.mem_ports.proofs.hosts.MemHost.take_disk.Goals as goal

pub returns-in-Log-clause-others : goal.returns-in-Log-clause-others
returns-in-Log-clause-others c = λ other its differs.
    (elim its as (λ (p : Part). (other ≡ c.args.dir.now → p ≡ c.args.part → ⊥)
    → disk_at (record c.args.self.now { logs = c.remove.new.self }) other p ≡ disk_at c.args.self.now other p) [
      | Log ↦ λ differs'.
          let apart : other ≢ c.args.dir.now = λ same. differs' same (sym c.in-Log.is) in
          let kept : get_by_text c.remove.new.self other ≡ get_by_text c.args.self.now.logs other = grind (arith, text_keys) in
          kept
      | Segments ↦ λ differs'. refl
    ]) differs

pub returns-in-Segments-clause-others : goal.returns-in-Segments-clause-others
returns-in-Segments-clause-others c = λ other its differs.
    (elim its as (λ (p : Part). (other ≡ c.args.dir.now → p ≡ c.args.part → ⊥)
    → disk_at (record c.args.self.now { segments = c.remove-in-Segments.new.self }) other p ≡ disk_at c.args.self.now other p) [
      | Log ↦ λ differs'. refl
      | Segments ↦ λ differs'.
          let apart : other ≢ c.args.dir.now = λ same. differs' same (sym c.in-Segments.is) in
          let kept : get_by_text c.remove-in-Segments.new.self other ≡ get_by_text c.args.self.now.segments other =
          grind (arith, text_keys) in
          kept
    ]) differs
