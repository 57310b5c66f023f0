use Rattle.std.proofs.Common.{rules, ◌≡◌, ◌-◌, length, vec_len, ap, ◌∙◌, arith}
use Rattle.std.specs.Prelude.{nat_le}
use Rattle.std.specs.List.{prefix_len}
use Rattle.std.proofs.lemmas.List.Sums.{prefix_len-le-length}
use Rattle.fb_session.proofs.waiting.Waiting.left_behind.Goals as goal

pub overflow_sub-result : goal.overflow_sub-result
overflow_sub-result c =
    let within = prefix_len-le-length (λ end. nat_le end c.args.out) c.as_slice.result.now in
    omega (arith, c.ends_reached.ensures, within, c.as_slice.ensures.len, c.len.ensures)

pub returns : goal.returns
returns c =
    let ends = c.args.self.now.ends in
    let len : vec_len ends ≡ length ends.items = search (rules, ends.ok) in
    ap (λ n. n - c.ends_reached.result) (c.len.ensures ∙ len)
    ∙ ap (λ n. length ends.items - n)
    (c.ends_reached.ensures ∙ ap (prefix_len (λ end. nat_le end c.args.out)) c.as_slice.ensures.value)
