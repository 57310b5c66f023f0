use Rattle.std.proofs.Common.{List, [], ◌∷◌, take, sym, subst}
use Rattle.fb_values.specs.declared.facts.Entry.{Entry}
use Rattle.log_sweep.specs.Alone.{KeepAlone, IsKnownOf}
use Rattle.log_sweep.proofs.Pushes.{KeepAlone-push, take_next}
use Rattle.log_sweep.proofs.alone.schema_after.Goals as goal

pub loop-entry-preserved : goal.loop-entry-preserved
loop-entry-preserved c =
    let first = c.args.first.now in
    let entries = c.args.entries.now in
    let i = c.loop-entry.entry-index in
    let entry = c.entry-item.result in
    let so_far = c.loop-entry.invariant in
    let next = take_next entries i entry c.loop-entry-test.true c.entry-item.is in
    let told = rw c.in-Some.is at c.in_ok-next.ensures in
    let more = told (first ∷ take i entries) so_far.known in
    record {
      keep = subst (KeepAlone (first ∷ [])) (sym next) (KeepAlone-push (first ∷ []) (take i entries) entry so_far.keep more.0);
      known = subst (λ (l : List Entry). IsKnownOf c.in-Some.next (first ∷ l)) (sym next) more.1;
    }
