use Rattle.std.proofs.Common.{drop, ap, ◌∙◌}
use Rattle.edn_model.specs.Form as model
use Rattle.edn_model.specs.Steps.{going}
use Rattle.edn_form.specs.declared.form.Edn.{Sym}
use Rattle.edn_form.proofs.Views.{form_of-Sym}
use Rattle.edn_core.specs.Frames.{frames_of}
use Rattle.edn_core.proofs.Leading.{leads_put}
use Rattle.edn_core.proofs.Texts.{whole_is, atom_leads}
use Rattle.edn_core.proofs.token.symbol.Goals as goal

pub returns : goal.returns
returns c bytes atom ahead within stands ends free start after before kept =
    let old = c.args.frames.now.items in
    let at = c.args.at in
    let f = model.symbol c.args.token.now in
    leads_put bytes start at at c.args.next old c.put.new.frames.items c.put.new.slot (Sym c.in_ok-of.field-0) f
    (going (frames_of bytes old) (drop at bytes)) c.put.result (form_of-Sym c.in_ok-of.field-0 ∙ ap model.symbol c.in_ok-of.ensures)
    (atom_leads bytes at c.args.next (frames_of bytes old) c.args.token.now f atom stands ends free)
    (whole_is tt ahead within after before kept) (c.put.ensures bytes start at)
