use Rattle.std.proofs.Common.{rules, ℕ, List, ◌≡◌, ◌-◌, ◌<◌, length, vec_len, take, ap, sym, subst, ◌∙◌}
use Rattle.std.specs.Io.KnownBytes.{append_known}
use Rattle.fb_session.specs.WaitingLines.{BreaksAt}
use Rattle.fb_session.proofs.Breaking.{breaks}
use Rattle.fb_session.proofs.session.Session.write_waiting.Goals as goal

pub returns-in-Err-clause-part : goal.returns-in-Err-clause-part
returns-in-Err-clause-part g c = λ lines waits.
    let old = c.args.self.now in
    let had = g.O.Sink.contents c.args.sink.now in
    let has = g.O.Sink.contents c.write_bytes.new.sink in
    let out = c.in-Err.broken.out in
    let left = c.left_behind-left.result in
    let len : vec_len old.places ≡ length old.places.items = search (rules, old.places.ok) in
    let Breaks : ℕ → Type 0 = λ n. BreaksAt lines n had has in
    let IsShort : List ℕ → Type 0 = λ bytes. out < length bytes in
    record {
      left = left;
      breaks =
          subst Breaks (sym c.left_behind-left.ensures)
          (breaks old.waiting lines out had has waits (subst IsShort c.as_slice.ensures.value c.in-Err.ensures.short)
          (c.in-Err.ensures.part ∙ ap (λ bytes. append_known had (take out bytes)) c.as_slice.ensures.value));
      keeps =
          c.truncate.ensures.items
          ∙ ap (λ n. take n old.places.items) (c.saturating_sub.ensures ∙ ap (λ n. n - left) (c.len.ensures ∙ len));
    }
