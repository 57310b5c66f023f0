use Rattle.std.proofs.Common.{◌≤◌, drop, arith}
use Rattle.edn_model.specs.Steps.{going, land}
use Rattle.edn_form.specs.View.{form_of}
use Rattle.edn_core.specs.Frames.{frames_of}
use Rattle.edn_core.proofs.Landings.{kept_inner}
use Rattle.edn_core.proofs.Leading.{leads_from}
use Rattle.edn_core.proofs.Openings.{closes_outermost, closes_other, closes_whole, closes_leads}
use Rattle.edn_core.proofs.land.close.Goals as goal

pub returns-in_default : goal.returns-in_default
returns-in_default c bytes ahead within is closing start after before kept =
    closes_outermost bytes start c.args.at c.args.next c.args.bracket c.args.frames.now.items
    (omega (arith, c.args.frames.now.ok.0, c.in_default.ensures.cases.0)) is closing after before

pub returns-in-Some-closed : goal.returns-in-Some-closed
returns-in-Some-closed c bytes ahead within is closing start after before kept =
    let old = c.args.frames.now.items in
    let outer = c.pop.new.self.items in
    let i = c.in-Some.innermost in
    let f = form_of c.in-Some-closed.form in
    let old_is = c.in-Some.ensures.items in
    let closes = c.in-Some-closed.ensures (kept_inner bytes start old outer i old_is kept).kept in
    let here : c.args.at ≤ c.args.at = omega arith in
    let begun = going (frames_of bytes old) (drop c.args.at bytes) in
    let reached = land (frames_of bytes outer) f (drop i.at bytes) (drop c.args.next bytes) in
    leads_from bytes start c.args.at c.args.at begun reached c.put.result c.put.new.frames.items c.put.new.slot here
    (closes_leads bytes c.args.at c.args.next c.args.bracket old outer i f old_is is closes.0)
    (c.put.ensures bytes start c.args.at (closes_whole bytes start c.args.at c.args.next old outer i f old_is closes.1 ahead within kept))

pub returns-in-None : goal.returns-in-None
returns-in-None c bytes ahead within is closing start after before kept =
    let old = c.args.frames.now.items in
    let outer = c.pop.new.self.items in
    let i = c.in-Some.innermost in
    let old_is = c.in-Some.ensures.items in
    closes_other bytes start c.args.at c.args.next c.args.bracket old outer i old_is
    (c.in-None.ensures (kept_inner bytes start old outer i old_is kept).kept) is closing after before
