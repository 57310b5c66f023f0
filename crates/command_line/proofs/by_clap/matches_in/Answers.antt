use Rattle.std.proofs.Common.{◌∙◌, Global, List, map, string_bytes, ⊎_elim}
use Rattle.clap.specs.Words.{Text, app_of, fault_of, matches_of}
use Rattle.command_line.proofs.Told.{told_fault, told_matches}
use Rattle.command_line.proofs.by_clap.matches_in.Goals as goal

pub returns-in-Ok : goal.returns-in-Ok
returns-in-Ok c = λ simple.
    let words : List Text = map (string_bytes {Z = Global}) c.args.words.now in
    told_matches (app_of c.args.command) words c.in-Ok.matches simple (c.in-Ok.ensures.kinds simple) c.in-Ok.ensures.matches

pub returns : goal.returns
returns c = λ simple.
    let words : List Text = map (string_bytes {Z = Global}) c.args.words.now in
    ⊎_elim (λ memory. absurd (c.in_default.not-OutOfMemory (c.kind.ensures ∙ memory)))
    (λ among. told_fault _ (fault_of (app_of c.args.command) words) (matches_of (app_of c.args.command) words) among)
    (c.in-Err.ensures.kinds simple)
