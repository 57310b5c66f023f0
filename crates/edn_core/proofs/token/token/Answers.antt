use Rattle.std.proofs.Common.{◌≡◌, true, false, List, drop, sym, subst}
use Rattle.edn_model.specs.Faults.{wants_string, no_string}
use Rattle.edn_model.specs.Steps.{opens_of}
use Rattle.edn_core.specs.Frames.{frames_of}
use Rattle.edn_core.specs.declared.construct.Frame.{Frame}
use Rattle.edn_core.proofs.Leading.{stuck_at}
use Rattle.edn_core.proofs.Openings.{no_string_token}
use Rattle.edn_core.proofs.Texts.{token_broken}
use Rattle.edn_core.proofs.token.token.Goals as goal

pub returns-then-wants_string : goal.returns-then-wants_string
returns-then-wants_string c start after before kept =
    let bytes = c.args.bytes.now in
    let wants =
    subst (λ (xs : List Frame). wants_string (opens_of (frames_of bytes xs)) ≡ true) c.as_slice.ensures.value
    (sym (c.if-wants_string.ensures bytes)) in
    stuck_at c.args.at after before (no_string wants (no_string_token (drop c.args.at bytes) c.requires.begins))

pub returns-in-Err : goal.returns-in-Err
returns-in-Err c start after before kept =
    let bytes = c.args.bytes.now in
    let free =
    subst (λ (xs : List Frame). wants_string (opens_of (frames_of bytes xs)) ≡ false) c.as_slice.ensures.value
    (sym (c.if-wants_string.ensures bytes)) in
    token_broken bytes c.split_at.result.1.now start c.args.at c.in-Err.len (frames_of bytes c.args.frames.now.items)
    c.split_at.ensures.back c.split_at.ensures.back_len c.requires.begins free after c.in-Err.ensures
