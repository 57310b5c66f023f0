use Rattle.std.proofs.Common.{rules, ◌≡◌, length, vec_len, ◌++◌, ◌∷◌, [], ap, ◌∙◌}
use Rattle.fb_session.proofs.Breaking.{waits-push}
use Rattle.fb_session.proofs.waiting.Waiting.add.Goals as goal

pub returns : goal.returns
returns c = λ lines waits.
    let bytes = c.extend_from_slice.new.self in
    let len : vec_len bytes ≡ length bytes.items = search (rules, bytes.ok) in
    waits-push c.args.self.now _ lines c.args.line.now c.in_ok-extend_from_slice.ensures.items
    (c.push_reserved.ensures.items
    ∙ ap (λ ends. ends ++ c.len.result ∷ []) c.reserve.ensures.items
    ∙ ap (λ end. c.args.self.now.ends.items ++ end ∷ []) (c.len.ensures ∙ len))
    waits
