use Rattle.std.proofs.Common.{◌≡◌, true, false, List, drop, sym, subst}
use Rattle.edn_model.specs.Form as model
use Rattle.edn_model.specs.Faults.{wants_string}
use Rattle.edn_model.specs.Steps.{opens_of, going}
use Rattle.edn_form.specs.declared.form.Edn.{Str}
use Rattle.edn_form.proofs.Views.{form_of-Str}
use Rattle.edn_core.specs.Frames.{frames_of}
use Rattle.edn_core.specs.declared.construct.Frame.{Frame}
use Rattle.edn_core.proofs.Leading.{leads_put}
use Rattle.edn_core.proofs.Texts.{whole_is, string_leads}
use Rattle.edn_core.proofs.token.whole_string.Goals as goal

pub returns-else-wants_string : goal.returns-else-wants_string
returns-else-wants_string c bytes ahead within stands start after before kept =
    let old = c.args.frames.now.items in
    let at = c.args.at in
    let text = c.args.text in
    let free =
    subst (λ (xs : List Frame). wants_string (opens_of (frames_of bytes xs)) ≡ false) c.as_slice.ensures.value
    (sym (c.if-wants_string.ensures bytes)) in
    leads_put bytes start at at c.args.next old c.put.new.frames.items c.put.new.slot (Str text) (model.string text)
    (going (frames_of bytes old) (drop at bytes)) c.put.result (form_of-Str text)
    (string_leads bytes at c.args.next (frames_of bytes old) text stands free) (whole_is tt ahead within after before kept)
    (c.put.ensures bytes start at)

pub tagged-requires : goal.tagged-requires
tagged-requires c bytes =
    subst (λ (xs : List Frame). wants_string (opens_of (frames_of bytes xs)) ≡ true) c.as_slice.ensures.value
    (sym (c.if-wants_string.ensures bytes))
