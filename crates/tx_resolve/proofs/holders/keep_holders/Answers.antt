use Rattle.std.proofs.Common.{drop, ap, sym, ◌∙◌, arith}
use Rattle.tx_resolve.specs.Holders.{slots_of}
use Rattle.tx_resolve.specs.Meeting.{drafts_in}
use Rattle.tx_resolve.proofs.Drops.{drop_before}
use Rattle.tx_resolve.proofs.Keeping.{slots_of-append}
use Rattle.tx_resolve.proofs.holders.keep_holders.Goals as goal

pub loop-i-preserved : goal.loop-i-preserved
loop-i-preserved c =
    let forms = c.args.forms.now in
    let i = c.loop-i.i in
    let form = c.index-forms-i.result in
    let first = drop_before forms i form c.loop-i-test.true c.loop-i.invariant.in_range c.index-forms-i.is in
    record {
      in_range = omega (arith, c.loop-i.invariant.in_range);
      kept =
          c.keep_form.ensures
          ∙ ap (slots_of c.loop-i.slots) c.deref.ensures.value
          ∙ ap (λ slots. slots_of slots form.items) c.loop-i.invariant.kept
          ∙ sym (slots_of-append c.args.slots.now form.items (drafts_in (drop i forms)))
          ∙ ap (λ fs. slots_of c.args.slots.now (drafts_in fs)) (sym first);
    }
