use Rattle.std.proofs.Common.{◌≤◌, ◌+◌, length, drop, arith}
use Rattle.edn_model.specs.Steps.{going}
use Rattle.edn_core.specs.Frames.{frames_of}
use Rattle.edn_core.proofs.Leading.{leads_from}
use Rattle.edn_core.proofs.Texts.{blanks_lead, broken_leads}
use Rattle.edn_core.proofs.step.step.Goals as goal

pub returns-in-Ok : goal.returns-in-Ok
returns-in-Ok c start after before kept =
    let bytes = c.args.bytes.now in
    let here = c.args.here in
    let len = c.in-Ok.len in
    let size = c.split_at.ensures.back_len in
    let fits = c.in-Ok.ensures.0 in
    let ahead : here ≤ here + len = omega arith in
    let later : start ≤ here + len = omega (arith, after) in
    let within : here + len ≤ length bytes = omega (arith, size, fits) in
    let F = frames_of bytes c.args.frames.now.items in
    leads_from bytes start here (here + len) (going F (drop here bytes))
    (going F (drop (here + len) bytes)) c.take.result c.take.new.frames.items c.take.new.slot ahead
    (blanks_lead bytes c.split_at.result.1.now here len (frames_of bytes c.args.frames.now.items) c.split_at.ensures.back c.in-Ok.ensures.1)
    (c.take.ensures start later within kept)

pub returns-in-Err : goal.returns-in-Err
returns-in-Err c start after before kept =
    let bytes = c.args.bytes.now in
    broken_leads bytes c.split_at.result.1.now c.in-Err.ensures.1.0 start c.args.here c.in-Err.len
    (frames_of bytes c.args.frames.now.items) c.split_at.ensures.back after before c.in-Err.ensures.0 c.split_at.ensures.back_len
    c.in-Err.ensures.1.1 c.in-Err.ensures.1.2
