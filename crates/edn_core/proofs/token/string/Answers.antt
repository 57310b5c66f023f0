use Rattle.std.proofs.Common.{◌+◌, drop, subst, sym}
use Rattle.std.specs.Prelude.{Err}
use Rattle.edn_token.specs.Strings.{StringIs}
use Rattle.edn_model.specs.Faults.{bad}
use Rattle.edn_model.specs.Steps.{going}
use Rattle.edn_core.specs.Frames.{frames_of, LeadsAstray}
use Rattle.edn_core.proofs.Texts.{string_bad, string_cut}
use Rattle.edn_core.proofs.token.string.Goals as goal

pub returns-in-Err-Bad : goal.returns-in-Err-Bad
returns-in-Err-Bad c start after before kept =
    let h = subst (λ e. StringIs c.split_at.result.1.now (Err e)) c.in-Err-Bad.field-0-is c.in-Err-Bad.ensures in
    subst (λ n. LeadsAstray c.args.bytes.now start
    (going (frames_of c.args.bytes.now c.args.frames.now.items) (drop c.args.at c.args.bytes.now)) bad (c.args.at + 1 + n))
    (sym c.in-Err-Bad.len-is)
    (string_bad c.args.bytes.now c.split_at.result.1.now start c.args.at c.in-Err-Bad.len
    (frames_of c.args.bytes.now c.args.frames.now.items) c.requires.begins c.split_at.ensures.back h.0 c.split_at.ensures.back_len h.1
    after)

pub returns-in-Err-Cut : goal.returns-in-Err-Cut
returns-in-Err-Cut c start after before kept =
    let h = subst (λ e. StringIs c.split_at.result.1.now (Err e)) c.in-Err-Cut.field-0-is c.in-Err-Cut.ensures in
    string_cut c.args.bytes.now c.split_at.result.1.now start c.args.at
    (frames_of c.args.bytes.now c.args.frames.now.items) c.requires.begins c.split_at.ensures.back h after before
