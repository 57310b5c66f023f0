use mir.Val.{of_z, to_z}
use Rattle.std.proofs.Common.{drop, ap, ◌∙◌, SFits, w64, rules}
use Rattle.std.proofs.lemmas.Int.{to_z-of_z}
use Rattle.edn_model.specs.Form as model
use Rattle.edn_model.specs.Faults.{unsupported_token, bad_token}
use Rattle.edn_model.specs.Steps.{going}
use Rattle.edn_form.specs.declared.form.Edn.{Nil, Bool, Int}
use Rattle.edn_form.proofs.Views.{form_of-Nil, form_of-Bool, form_of-Int}
use Rattle.edn_core.specs.Frames.{frames_of}
use Rattle.edn_core.proofs.Leading.{leads_put, stuck_at}
use Rattle.edn_core.proofs.Texts.{whole_is, atom_leads, inst_enters, uuid_enters}
use Rattle.edn_core.proofs.token.judged.Goals as goal

pub returns-in-Nil : goal.returns-in-Nil
returns-in-Nil c bytes ahead within stands ends some free start after before kept =
    let old = c.args.frames.now.items in
    let at = c.args.at in
    let f = model.nil in
    leads_put bytes start at at c.args.next old c.put.new.frames.items c.put.new.slot (Nil) f
    (going (frames_of bytes old) (drop at bytes)) c.put.result form_of-Nil
    (atom_leads bytes at c.args.next (frames_of bytes old) c.args.token.now f c.in-Nil.ensures stands ends free)
    (whole_is tt ahead within after before kept) (c.put.ensures bytes start at)

pub returns-in-Bool : goal.returns-in-Bool
returns-in-Bool c bytes ahead within stands ends some free start after before kept =
    let old = c.args.frames.now.items in
    let at = c.args.at in
    let f = model.boolean c.in-Bool.b in
    leads_put bytes start at at c.args.next old c.put-in-Bool.new.frames.items c.put-in-Bool.new.slot (Bool c.in-Bool.b) f
    (going (frames_of bytes old) (drop at bytes)) c.put-in-Bool.result (form_of-Bool c.in-Bool.b)
    (atom_leads bytes at c.args.next (frames_of bytes old) c.args.token.now f c.in-Bool.ensures stands ends free)
    (whole_is tt ahead within after before kept) (c.put-in-Bool.ensures bytes start at)

pub returns-in-Int : goal.returns-in-Int
returns-in-Int c bytes ahead within stands ends some free start after before kept =
    let old = c.args.frames.now.items in
    let at = c.args.at in
    let f = model.integer c.in-Int.n in
    let fits : SFits w64 c.in-Int.n = search rules in
    leads_put bytes start at at c.args.next old c.put-in-Int.new.frames.items c.put-in-Int.new.slot
    (Int (to_z w64 (of_z w64 c.in-Int.n))) f (going (frames_of bytes old) (drop at bytes)) c.put-in-Int.result
    (form_of-Int (to_z w64 (of_z w64 c.in-Int.n)) ∙ ap model.integer (to_z-of_z w64 c.in-Int.n fits))
    (atom_leads bytes at c.args.next (frames_of bytes old) c.args.token.now f c.in-Int.ensures stands ends free)
    (whole_is tt ahead within after before kept) (c.put-in-Int.ensures bytes start at)

pub returns-in-Symbol : goal.returns-in-Symbol
returns-in-Symbol c bytes ahead within stands ends some free = c.symbol.ensures bytes c.in-Symbol.ensures ahead within stands ends free

pub returns-in-Keyword : goal.returns-in-Keyword
returns-in-Keyword c bytes ahead within stands ends some free = c.keyword.ensures bytes c.in-Keyword.ensures ahead within stands ends free

pub returns-in-Inst : goal.returns-in-Inst
returns-in-Inst c bytes ahead within stands ends some free start after before kept =
    c.tag.ensures bytes c.args.slot.now
    (inst_enters bytes c.args.token.now c.args.frames.now.items c.args.at c.args.next ahead within c.in-Inst.ensures stands ends free) start
    after before kept

pub returns-in-Uuid : goal.returns-in-Uuid
returns-in-Uuid c bytes ahead within stands ends some free start after before kept =
    c.tag-in-Uuid.ensures bytes c.args.slot.now
    (uuid_enters bytes c.args.token.now c.args.frames.now.items c.args.at c.args.next ahead within c.in-Uuid.ensures stands ends free) start
    after before kept

pub returns-in-Unsupported : goal.returns-in-Unsupported
returns-in-Unsupported c bytes ahead within stands ends some free start after before kept =
    stuck_at c.args.at after before (unsupported_token free stands ends c.in-Unsupported.ensures)

pub returns-in-Bad : goal.returns-in-Bad
returns-in-Bad c bytes ahead within stands ends some free start after before kept =
    stuck_at c.args.at after before (bad_token free stands ends some c.in-Bad.ensures)
