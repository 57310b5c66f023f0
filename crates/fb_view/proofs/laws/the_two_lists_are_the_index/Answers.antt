use Rattle.fb_view.proofs.Indexes.{held_index, whole_index, only_held}
use Rattle.fb_view.proofs.laws.the_two_lists_are_the_index.Goals as goal

pub returns : goal.returns
returns c =
    record {
      whole = λ k order stands other. whole_index k stands order (only_held k stands order other);
      held = λ k order stands. held_index k stands order;
    }
