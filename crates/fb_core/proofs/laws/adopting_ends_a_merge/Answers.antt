use Rattle.std.proofs.Common.{◌∙◌, refl, sym}
use Rattle.fb_core.proofs.laws.adopting_ends_a_merge.Goals as goal

pub returns : goal.returns
returns c =
    record {
      happens = λ world c guard merging kept. (c, merging, kept, refl);
      core = λ core world rebased is rebase.
          record { history = is.history ∙ sym rebase.entries; adopted = refl; opening = is.opening; commits = is.commits };
    }
