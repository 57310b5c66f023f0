use Rattle.std.proofs.Common.{◌≡◌, ◌≤◌, ◌+◌, ◌∙◌, ◌++◌, ℕ, length, take, drop, ap, sym, arith}
use Rattle.fb_journal.proofs.Showing.{written-front}
use Rattle.fb_journal.proofs.windows.Window.move_to.Goals as goal

pub returns-clause-leaves : goal.returns-clause-leaves
returns-clause-leaves g c = record {
  same = c.fill_front.ensures.bytes;
  crash = c.fill_front.ensures.crash;
  any_moment = c.fill_front.ensures.any_moment;
  len = omega arith;
  shows = λ file told shows.
      let w = c.args.self.now in
      let room : ℕ = c.min-room.result in
      let within : c.args.at + room ≤ length file = omega (arith, shows.len, c.requires, c.min-room.ensures) in
      let read = c.in_ok-filled.ensures.read file told within in
      let size : w.bytes.len ≡ length c.fill_front.new.buf = omega
      (arith, w.bytes.ok.0, ap length c.deref_mut.ensures.value, c.fill_front.auto.buf) in
      let most : room ≤ w.bytes.len = omega (arith, c.min-room.ensures, c.len.ensures) in record {
        len = shows.len;
        bytes = ap (λ (n : ℕ). take n (take w.bytes.len (c.fill_front.new.buf ++ drop (length c.fill_front.new.buf) w.bytes.items))) read.0
            ∙ written-front c.fill_front.new.buf w.bytes.items w.bytes.len room size most
            ∙ read.1
            ∙ ap (λ (n : ℕ). take n (drop c.args.at file)) (sym read.0);
      };
}
