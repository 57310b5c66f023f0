use Rattle.std.proofs.Common.{◌∙◌, List, sym, ap, subst}
use Rattle.live_runs.specs.declared.members.Member.{Member}
use Rattle.live_runs.specs.Changes.{AreMembers}
use Rattle.live_runs.specs.Members.{named}
use Rattle.live_index.proofs.splitting.runs_of.Goals as goal

pub returns : goal.returns
returns c = λ order table single are.
    let parts = c.in_ok-parted.ensures order table are in
    let held : AreMembers order table c.deref.result.now = subst (AreMembers order table) (sym c.deref.ensures.value) parts.holding in
    let gone : AreMembers order table c.deref-2.result.now = subst (AreMembers order table) (sym c.deref-2.ensures.value) parts.past in
    record {
      holding = c.in_ok-of_rising.ensures.runs order table single held;
      past = c.in_ok-of_rising-2.ensures.runs order table single gone;
      stands =
          c.in_ok-of_rising.ensures.datoms order table single held
          ∙ ap (λ (ms : List Member). named table ms) c.deref.ensures.value ∙ parts.stands;
      falls =
          c.in_ok-of_rising-2.ensures.datoms order table single gone
          ∙ ap (λ (ms : List Member). named table ms) c.deref-2.ensures.value ∙ parts.falls;
      last = c.last_number.ensures order table are.ranked;
    }
