use Rattle.std.proofs.Common.{drop, ap, ◌∙◌}
use Rattle.edn_model.specs.Form as model
use Rattle.edn_model.specs.Steps.{going}
use Rattle.edn_form.specs.declared.form.Edn.{Key}
use Rattle.edn_form.proofs.Views.{form_of-Key}
use Rattle.edn_core.specs.Frames.{frames_of}
use Rattle.edn_core.proofs.Leading.{leads_put}
use Rattle.edn_core.proofs.Texts.{whole_is, atom_leads}
use Rattle.edn_core.proofs.token.keyword.Goals as goal

pub returns : goal.returns
returns c bytes atom ahead within stands ends free start after before kept =
    let old = c.args.frames.now.items in
    let at = c.args.at in
    let f = model.keyword (drop 1 c.args.token.now) in
    leads_put bytes start at at c.args.next old c.put.new.frames.items c.put.new.slot
    (Key c.in_ok-name.name) f (going (frames_of bytes old) (drop at bytes)) c.put.result
    (form_of-Key c.in_ok-name.name ∙ ap model.keyword (c.in_ok-name.ensures ∙ c.keyword_name.ensures (drop 1 c.args.token.now) atom.0))
    (atom_leads bytes at c.args.next (frames_of bytes old) c.args.token.now f atom stands ends free)
    (whole_is tt ahead within after before kept) (c.put.ensures bytes start at)
