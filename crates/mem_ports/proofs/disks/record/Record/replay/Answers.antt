use Rattle.std.proofs.Common.{Vec, vec_len, vec_capacity, ◌≡◌, ◌≤◌, ◌<◌, ◌+◌, ◌-◌, ◌∙◌, List, length, get_or, take, drop, ℕ, sym, ap, subst}
use Rattle.std.proofs.Common.{arith, length-drop}
use Rattle.std.proofs.lemmas.List.{length-take}
use Rattle.std.proofs.lemmas.Grind.{common_steps}
use Rattle.std.specs.declared.alloc.Global.{Global}
use Rattle.disk_model.specs.Disk.{written}
use Rattle.disk_model.proofs.Calls.{length-written}
use Rattle.mem_ports.specs.Images.{kept_of, torn_to}
use Rattle.mem_ports.specs.Steps.{furthest_end, bytes_written}
use Rattle.mem_ports.specs.declared.disks.record.Step.{Step}
use Rattle.mem_ports.specs.declared.disks.record.Step.TheVariants.{Wrote, Cut, Synced}
use Rattle.mem_ports.proofs.Replays.{IsReplayed, next_entry, replayed-wrote, replayed-cut, replayed-synced, replayed-to, length-torn_to}
use Rattle.mem_ports.proofs.disks.record.Record.replay.Goals as goal
use Rattle.mem_ports.proofs.disks.record.Record.replay.Goals.{in-Wrote+in_ok-torn-in-Wrote, in-Cut, in-Synced}

pub loop-step-preserved : goal.loop-step-preserved
loop-step-preserved c = elim c.match-step.branch [
  | in-Wrote+in_ok-torn-in-Wrote w ↦
      let steps : List Step = c.self.inside.steps.items in
      let at : ℕ = c.loop-step.step-index in
      let piece : List ℕ = take w.in-Wrote.len (drop c.loop-step.next c.self.inside.written.items) in
      let within : at < length steps = omega (arith, ap length c.deref-step-items.ensures.value) in
      let entry : get_or steps at (Wrote 0 0) ≡ Wrote w.in-Wrote.at w.in-Wrote.len =
      subst (λ (l : List Step). get_or l at (Wrote 0 0) ≡ Wrote w.in-Wrote.at w.in-Wrote.len) c.deref-step-items.ensures.value
      w.in-Wrote.is in
      let is = next_entry steps at (Wrote w.in-Wrote.at w.in-Wrote.len) within entry in
      let all : (c.loop-step.next + w.in-Wrote.len) - c.loop-step.next ≡ w.in-Wrote.len = omega arith in
      let same : take ((c.loop-step.next + w.in-Wrote.len) - c.loop-step.next) (drop c.loop-step.next w.deref.result.now) ≡ piece =
      ap (λ (n : ℕ). take n (drop c.loop-step.next w.deref.result.now)) all
      ∙ ap (λ (l : List ℕ). take w.in-Wrote.len (drop c.loop-step.next l)) w.deref.ensures.value in
      let new_file : c.match-step.file.items ≡ written w.in-Wrote.at piece c.loop-step.file.items =
      cc (same, w.file-is, w.place.ensures.items) in
      let new_image : c.match-step.image.items
      ≡ written w.in-Wrote.at (torn_to (kept_of c.args.cuts.now c.loop-step.unsynced w.in-Wrote.len) piece) c.loop-step.image.items =
      cc (
        same,
        w.image-is,
        w.place-in-Wrote.ensures.items,
        w.deref-in-Wrote.ensures.value,
        w.in_ok-torn-in-Wrote.ensures,
        w.kept_len-kept.ensures.value,
      ) in
      let wrote_on =
      replayed-wrote _ _ _ _ _ _ _ _ _ _ _ c.loop-step.invariant.0 w.in-Wrote.at w.in-Wrote.len c.match-step.file.items
      c.match-step.image.items is new_file new_image in
      let on = replayed-to _ _ _ _ _ _ _ _ _ _ _ c.match-step.next c.match-step.unsynced wrote_on w.next-is w.unsynced-is in
      let ends : w.in-Wrote.at + w.in-Wrote.len ≤ c.self.inside.room = omega (arith, ap furthest_end is, c.loop-step.invariant.0.reach) in
      let size : length piece ≤ w.in-Wrote.len =
      omega (arith, length-take w.in-Wrote.len (drop c.loop-step.next c.self.inside.written.items)) in
      let enough : length piece ≡ w.in-Wrote.len = omega (
        arith,
        length-take w.in-Wrote.len (drop c.loop-step.next c.self.inside.written.items),
        length-drop c.loop-step.next c.self.inside.written.items,
        c.loop-step.invariant.0.bytes,
        ap bytes_written is,
      ) in
      let kept : kept_of c.args.cuts.now c.loop-step.unsynced w.in-Wrote.len ≤ length piece =
      omega (arith, enough, w.kept_len-kept.ensures.value, w.kept_len-kept.ensures.within) in
      let torn_size = length-torn_to (kept_of c.args.cuts.now c.loop-step.unsynced w.in-Wrote.len) piece kept in (
        on,
        omega (
          arith,
          ends,
          size,
          c.loop-step.invariant,
          ap length new_file,
          length-written w.in-Wrote.at piece c.loop-step.file.items,
          c.match-step.file.ok,
          c.loop-step.file.ok,
        ),
        omega (arith, c.loop-step.invariant, w.place.ensures.capacity, ap (λ (v : Vec ℕ Global). vec_capacity v) w.file-is),
        omega (
          arith,
          ends,
          size,
          torn_size,
          c.loop-step.invariant,
          ap length new_image,
          length-written w.in-Wrote.at
              (torn_to (kept_of c.args.cuts.now c.loop-step.unsynced w.in-Wrote.len) piece) c.loop-step.image.items,
          c.match-step.image.ok,
          c.loop-step.image.ok,
        ),
        omega (arith, c.loop-step.invariant, w.place-in-Wrote.ensures.capacity, ap (λ (v : Vec ℕ Global). vec_capacity v) w.image-is),
      )
  | in-Cut w ↦
      let steps : List Step = c.self.inside.steps.items in
      let at : ℕ = c.loop-step.step-index in
      let within : at < length steps = omega (arith, ap length c.deref-step-items.ensures.value) in
      let entry : get_or steps at (Wrote 0 0) ≡ Cut w.in-Cut.len =
      subst (λ (l : List Step). get_or l at (Wrote 0 0) ≡ Cut w.in-Cut.len) c.deref-step-items.ensures.value w.in-Cut.is in
      let is = next_entry steps at (Cut w.in-Cut.len) within entry in
      let new_file : c.match-step.file.items ≡ take w.in-Cut.len c.loop-step.file.items = cc (w.file-is, w.truncate.ensures.items) in
      let new_image : c.match-step.image.items ≡ take w.in-Cut.len c.loop-step.image.items =
      cc (w.image-is, w.truncate-in-Cut.ensures.items) in
      let cut_on =
      replayed-cut _ _ _ _ _ _ _ _ _ _ _ c.loop-step.invariant.0 w.in-Cut.len c.match-step.file.items c.match-step.image.items is new_file
      new_image in
      let on = replayed-to _ _ _ _ _ _ _ _ _ _ _ c.match-step.next c.match-step.unsynced cut_on w.next-is w.unsynced-is in (
        on,
        omega (arith, c.loop-step.invariant, w.truncate.ensures.len, ap (λ (v : Vec ℕ Global). vec_len v) w.file-is),
        omega (arith, c.loop-step.invariant, w.truncate.ensures.capacity, ap (λ (v : Vec ℕ Global). vec_capacity v) w.file-is),
        omega (arith, c.loop-step.invariant, w.truncate-in-Cut.ensures.len, ap (λ (v : Vec ℕ Global). vec_len v) w.image-is),
        omega (arith, c.loop-step.invariant, w.truncate-in-Cut.ensures.capacity, ap (λ (v : Vec ℕ Global). vec_capacity v) w.image-is),
      )
  | in-Synced w ↦
      let steps : List Step = c.self.inside.steps.items in
      let at : ℕ = c.loop-step.step-index in
      let within : at < length steps = omega (arith, ap length c.deref-step-items.ensures.value) in
      let entry : get_or steps at (Wrote 0 0) ≡ Synced =
      subst (λ (l : List Step). get_or l at (Wrote 0 0) ≡ Synced) c.deref-step-items.ensures.value w.in-Synced.is in
      let is = next_entry steps at Synced within entry in
      let new_image : c.match-step.image.items ≡ c.loop-step.file.items = grind (arith, common_steps) in
      let synced_on = replayed-synced _ _ _ _ _ _ _ _ _ _ _ c.loop-step.invariant.0 c.match-step.image.items is new_image in
      let on = replayed-to _ _ _ _ _ _ _ _ _ _ _ c.match-step.next c.match-step.unsynced synced_on w.next-is w.unsynced-is in
      let file_items : c.match-step.file.items ≡ c.loop-step.file.items = ap (λ (v : Vec ℕ Global). v.items) w.file-is in (
        subst
            (λ (f : List ℕ). IsReplayed c.args.cuts.now steps c.self.inside.written.items c.self.inside.room c.args.file.now.items
            c.args.image.now.items (at + 1) c.match-step.next c.match-step.unsynced f c.match-step.image.items)
            (sym file_items)
            on,
        omega (arith, c.loop-step.invariant, ap (λ (v : Vec ℕ Global). vec_len v) w.file-is),
        omega (arith, c.loop-step.invariant, ap (λ (v : Vec ℕ Global). vec_capacity v) w.file-is),
        omega (arith, c.loop-step.invariant, ap length new_image, c.match-step.image.ok, c.loop-step.file.ok),
        omega (
          arith,
          c.loop-step.invariant,
          w.clear.ensures.capacity,
          w.extend_from_slice.ensures.capacity,
          ap (λ (v : Vec ℕ Global). vec_capacity v) w.image-is,
        ),
      )
]
