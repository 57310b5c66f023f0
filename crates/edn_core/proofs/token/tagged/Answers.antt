use mir.Val.{of_z, to_z}
use Rattle.std.proofs.lemmas.Int.{to_z-of_z}
use Rattle.std.proofs.Common.{SFits, w64, rules, [], drop, arith, ap, ◌∙◌, sym, subst}
use Rattle.edn_model.specs.Form as model
use Rattle.edn_model.specs.Instants.{IsInstant}
use Rattle.edn_model.specs.Uuids.{IsUuid}
use Rattle.edn_model.specs.Steps.{going}
use Rattle.edn_form.specs.declared.form.Edn.{Inst, Uuid}
use Rattle.edn_form.proofs.Views.{form_of-Inst, form_of-Uuid}
use Rattle.edn_core.specs.Frames.{frames_of}
use Rattle.edn_core.proofs.Leading.{leads_put}
use Rattle.edn_core.proofs.Openings.{closes_whole}
use Rattle.edn_core.proofs.Stacks.{wants-none}
use Rattle.edn_core.proofs.Texts.{free_inside, instant_leads, identifier_leads, no_instant_there, no_identifier_there}
use Rattle.edn_core.proofs.token.tagged.Goals as goal

pub unreachable-requires : goal.unreachable-requires
unreachable-requires c =
    let none = wants-none [] c.args.frames.now.items (omega (arith, c.args.frames.now.ok.0, c.in_default.ensures.cases.0)) in
    let wants = c.requires [] in
    cc

pub unreachable-requires-in_default-construct : goal.unreachable-requires-in_default-construct
unreachable-requires-in_default-construct c =
    let free =
    free_inside [] c.args.frames.now.items c.pop.new.self.items c.in-Some.innermost c.in-Some.ensures.items c.in_default-construct.not-Inst
    c.in_default-construct.not-Uuid in
    let wants = c.requires [] in
    cc

pub returns-in-Some-read_instant : goal.returns-in-Some-read_instant
returns-in-Some-read_instant c bytes ahead within stands start after before kept =
    let old = c.args.frames.now.items in
    let outer = c.pop.new.self.items in
    let i = c.in-Some.innermost in
    let z = c.in-Some-read_instant.millis in
    let fits : SFits w64 z = search rules in
    let is = subst (λ s. IsInstant z s) (c.as_bytes.ensures.value ∙ c.as_str.ensures) c.in-Some-read_instant.ensures in
    leads_put bytes start c.args.at i.at c.args.next outer c.put.new.frames.items c.put.new.slot
    (Inst (to_z w64 (of_z w64 z))) (model.instant z) (going (frames_of bytes old) (drop c.args.at bytes)) c.put.result
    (form_of-Inst (to_z w64 (of_z w64 z)) ∙ ap model.instant (to_z-of_z w64 z fits))
    (instant_leads bytes c.args.at c.args.next old outer i z c.args.text c.in-Some.ensures.items c.in-Inst.is stands is)
    (closes_whole bytes start c.args.at c.args.next old outer i (model.instant z) c.in-Some.ensures.items tt ahead within kept)
    (c.put.ensures bytes start c.args.at)

pub returns-in-Inst : goal.returns-in-Inst
returns-in-Inst c bytes ahead within stands start after before kept =
    no_instant_there bytes start c.args.at c.args.next c.args.frames.now.items c.pop.new.self.items c.in-Some.innermost c.args.text
    c.in-Some.ensures.items c.in-Inst.is stands
    (λ z h. c.in-None.ensures z (subst (λ s. IsInstant z s) (sym (c.as_bytes.ensures.value ∙ c.as_str.ensures)) h)) after before

pub returns-in-Some-read_uuid : goal.returns-in-Some-read_uuid
returns-in-Some-read_uuid c bytes ahead within stands start after before kept =
    let old = c.args.frames.now.items in
    let outer = c.pop.new.self.items in
    let i = c.in-Some.innermost in
    let u = c.in-Some-read_uuid.uuid in
    let is = subst (λ s. IsUuid u s) c.as_str-in-Uuid.ensures c.in-Some-read_uuid.ensures in
    leads_put bytes start c.args.at i.at c.args.next outer c.put-in-Some-read_uuid.new.frames.items
    c.put-in-Some-read_uuid.new.slot (Uuid u) (model.uuid u)
    (going (frames_of bytes old) (drop c.args.at bytes)) c.put-in-Some-read_uuid.result (form_of-Uuid u)
    (identifier_leads bytes c.args.at c.args.next old outer i u c.args.text c.in-Some.ensures.items c.in-Uuid.is stands is)
    (closes_whole bytes start c.args.at c.args.next old outer i (model.uuid u) c.in-Some.ensures.items tt ahead within kept)
    (c.put-in-Some-read_uuid.ensures bytes start c.args.at)

pub returns-in-Uuid : goal.returns-in-Uuid
returns-in-Uuid c bytes ahead within stands start after before kept =
    no_identifier_there bytes start c.args.at c.args.next c.args.frames.now.items c.pop.new.self.items c.in-Some.innermost c.args.text
    c.in-Some.ensures.items c.in-Uuid.is stands
    (λ u h. c.in-None-read_uuid.ensures u (subst (λ s. IsUuid u s) (sym c.as_str-in-Uuid.ensures) h)) after before
