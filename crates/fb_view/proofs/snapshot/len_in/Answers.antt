use Rattle.std.proofs.Common.{◌≡◌, ◌∙◌, ◌+◌, ap, sym, length, min, arith}
use Rattle.fb_values.specs.Lists.{list_in}
use Rattle.fb_model.specs.Facts.{standing}
use Rattle.live_index.specs.Halves.{withdrawn}
use Rattle.live_index.proofs.Halves.{both_of, pair_of}
use Rattle.live_index.proofs.Walking.{length-merged}
use Rattle.fb_view.proofs.snapshot.len_in.Goals as goal

pub returns : goal.returns
returns c =
    let order = c.args.order in
    let list = list_in c.args.live.now order in
    let rises = c.holding.ensures.rising order in
    let both : length (standing list) + length (withdrawn list) ≡ length list =
    sym (length-merged order (standing list) (withdrawn list) (pair_of order list rises)) ∙ ap length (both_of order list rises) in
    let holding : c.len-holding.result ≡ length (standing list) = c.len-holding.ensures ∙ ap length (c.holding.ensures.stands order) in
    let past : c.len.result ≡ length (withdrawn list) = c.len.ensures ∙ ap length (c.past.ensures.withdrawn order) in
    let sum : c.len-holding.result + c.len.result ≡ length list = omega (arith, holding, past, both) in
    c.saturating_add.ensures ∙ ap (λ n. min n 18446744073709551615) sum
