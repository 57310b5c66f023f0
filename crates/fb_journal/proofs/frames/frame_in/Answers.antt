use Rattle.std.proofs.Common.{◌++◌, [], ◌∷◌, List, ℕ, drop, ◌∙◌, ap}
use Rattle.fb_journal.proofs.Framing.{payload_in-bytes, record_of-payload_in, framed-in}
use Rattle.fb_journal.proofs.frames.frame_in.Goals as goal

pub invariant_of-result : goal.invariant_of-result
invariant_of-result c =
    record_of-payload_in c.push.new.self.items (drop 8 c.args.bytes.items)
    (c.in_ok-push.ensures.items
    ∙ ap (λ (l : List ℕ). l ++ 0 ∷ [])
    (framed-in c.args.bytes.items c.write_length.new.bytes c.deref_mut.result.now c.args.bytes.len c.args.bytes.ok.0 c.requires
    c.deref_mut.ensures.value c.write_length.ensures))

pub returns : goal.returns
returns c =
    payload_in-bytes c.push.new.self.items (drop 8 c.args.bytes.items)
    (c.in_ok-push.ensures.items
    ∙ ap (λ (l : List ℕ). l ++ 0 ∷ [])
    (framed-in c.args.bytes.items c.write_length.new.bytes c.deref_mut.result.now c.args.bytes.len c.args.bytes.ok.0 c.requires
    c.deref_mut.ensures.value c.write_length.ensures))
