use Rattle.std.proofs.Common.{◌≡◌, ◌≢◌, Some, refl, sym, subst, arith}
use Rattle.std.proofs.lemmas.Map.Text.{text_keys}
use Rattle.std.specs.BTreeMap.{get_by_text}
use Rattle.mem_ports.specs.MemHosts.{disk_at}
use Rattle.fb_ports.specs.declared.hosts.Part.{Part}
use Rattle.fb_ports.specs.declared.hosts.Part.TheVariants.{Log, Segments}
use Rattle.mem_ports.proofs.hosts.MemHost.add_disk.Goals as goal

pub returns-in_ok-insert-in-Log-clause-added : goal.returns-in_ok-insert-in-Log-clause-added
returns-in_ok-insert-in-Log-clause-added c =
    let here : get_by_text c.insert.new.self c.args.dir.now ≡ Some c.args.d = grind (arith, text_keys) in
    subst (λ (p : Part). disk_at (record c.args.self.now { logs = c.insert.new.self }) c.args.dir.now p ≡ Some c.args.d)
    (sym c.in-Log.is) here

pub returns-in_ok-insert-in-Log-clause-others : goal.returns-in_ok-insert-in-Log-clause-others
returns-in_ok-insert-in-Log-clause-others c = λ other its differs.
    (elim its as (λ (p : Part). (other ≡ c.args.dir.now → p ≡ c.args.part → ⊥)
    → disk_at (record c.args.self.now { logs = c.insert.new.self }) other p ≡ disk_at c.args.self.now other p) [
      | Log ↦ λ differs'.
          let apart : other ≢ c.args.dir.now = λ same. differs' same (sym c.in-Log.is) in
          let kept : get_by_text c.insert.new.self other ≡ get_by_text c.args.self.now.logs other = grind (arith, text_keys) in
          kept
      | Segments ↦ λ differs'. refl
    ]) differs

pub returns-in_ok-insert-in-Segments-clause-added : goal.returns-in_ok-insert-in-Segments-clause-added
returns-in_ok-insert-in-Segments-clause-added c =
    let here : get_by_text c.insert-in-Segments.new.self c.args.dir.now ≡ Some c.args.d = grind (arith, text_keys) in
    subst (λ (p : Part). disk_at (record c.args.self.now { segments = c.insert-in-Segments.new.self }) c.args.dir.now p ≡ Some c.args.d)
    (sym c.in-Segments.is) here

pub returns-in_ok-insert-in-Segments-clause-others : goal.returns-in_ok-insert-in-Segments-clause-others
returns-in_ok-insert-in-Segments-clause-others c = λ other its differs.
    (elim its as (λ (p : Part). (other ≡ c.args.dir.now → p ≡ c.args.part → ⊥)
    → disk_at (record c.args.self.now { segments = c.insert-in-Segments.new.self }) other p ≡ disk_at c.args.self.now other p) [
      | Log ↦ λ differs'. refl
      | Segments ↦ λ differs'.
          let apart : other ≢ c.args.dir.now = λ same. differs' same (sym c.in-Segments.is) in
          let kept : get_by_text c.insert-in-Segments.new.self other ≡ get_by_text c.args.self.now.segments other =
          grind (arith, text_keys) in
          kept
    ]) differs
