use Rattle.std.proofs.Common.{Bor, map, ◌∙◌, subst}
use Rattle.std.specs.Prelude.{OnOk}
use Rattle.edn_model.specs.Form.{Form}
use Rattle.fb_values.specs.declared.facts.Datom.{Datom}
use Rattle.fb_model.specs.History.{basis}
use Rattle.fb_db.specs.Seen.{window_of}
use Rattle.talk_model.specs.Replies.{datoms_reply, IsLineOf}
use Rattle.fb_reads.proofs.scans.write_found.Goals as goal

pub write_datoms-requires : goal.write_datoms-requires
write_datoms-requires g c =
    let h = c.args.view.now.snapshot.entries in
    let said = c.what_is_seen_was_said.ensures.said h (window_of c.args.view.now) in
    c.what_is_said_has_a_text.ensures.some h (map (λ (d : Bor Datom). d.now) c.args.found.now) c.schema.ensures.stands.history.lawful
    (λ d found. said d ((c.requires.2.members d).0 found).0.is_seen)

pub returns : goal.returns
returns g c =
    let h = c.args.view.now.snapshot.entries in
    let ds = map (λ (d : Bor Datom). d.now) c.args.found.now in
    subst (λ (f : Form). OnOk c.write_datoms.result (IsLineOf f c.write_datoms.new.line.items))
    ((λ i. datoms_reply (c.basis.ensures.basis i) (c.schema.ensures.schema i) ds)
    ∙ c.a_schema_tells_its_history.ensures.datoms (basis h) c.args.view.now.snapshot.schema h ds c.schema.ensures.stands.schema_is)
    c.write_datoms.ensures
