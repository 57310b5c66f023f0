use Rattle.fb_view.proofs.Present.{present_held, present_is}
use Rattle.fb_view.proofs.laws.the_present_lists_are_the_facts.Goals as goal

pub returns : goal.returns
returns c =
    record {
      whole = λ k order stands other. present_is k order stands other;
      held = λ k order stands. present_held k stands order;
    }
