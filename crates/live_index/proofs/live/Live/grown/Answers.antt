use Rattle.std.proofs.Common.{◌++◌, [], inl, inr}
use Rattle.std.proofs.lemmas.List.Elements.{Contains-append_left, Contains-append_right, Contains-append_cases}
use Rattle.fb_values.specs.Lists.{list_in}
use Rattle.live_index.proofs.Growing.{single_part}
use Rattle.live_index.proofs.Members.{contains_none}
use Rattle.live_index.proofs.live.Live.grown.Goals as goal

pub made_anew-requires-clause-single : goal.made_anew-requires-clause-single
made_anew-requires-clause-single c = λ order.
    let old = list_in c.args.self.now order in
    let ds = c.args.datoms.now in
    single_part ((old ++ []) ++ ds) (old ++ ds) (λ d there. elim (Contains-append_cases (old ++ []) ds d there) [
      | inl first ↦ elim (Contains-append_cases old [] d first) [
        | inl older ↦ Contains-append_left old ds d older
        | inr none ↦ absurd (contains_none d none)
      ]
      | inr now ↦ Contains-append_right old ds d now
    ]) (c.requires.follow order).single
