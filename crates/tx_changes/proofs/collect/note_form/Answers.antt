use Rattle.std.proofs.Common.{List, ◌++◌, map, refl}
use Rattle.std.specs.Prelude.{flat_map}
use Rattle.tx_asks.specs.declared.acts.Act.{Act}
use Rattle.tx_asks.specs.Acts.{model_act}
use Rattle.tx_changes.specs.declared.noted.Noted.{Noted}
use Rattle.tx_changes.specs.Noted.{noted_by}
use Rattle.tx_changes.proofs.PieceByPiece.{piece_more, pieces_all}
use Rattle.tx_changes.proofs.collect.note_form.Goals as goal

pub loop-act-preserved : goal.loop-act-preserved
loop-act-preserved g c =
    let by = noted_by (g.F.Facts.history c.args.facts.now) c.args.schema.now c.args.place in
    let one : Act → List Noted = λ act. by (model_act act) in
    let all : List Act → List Noted = λ acts. flat_map by (map model_act acts) in
    let whole = c.args.notes.now.noted.items ++ all c.args.acts.now in
    let ends = c.in_ok-note_act.ensures in
    record {
      known = ends.known;
      so_far =
          piece_more all one c.args.acts.now c.loop-act.act-index c.loop-act.notes.noted.items whole c.loop-act.invariant.so_far
          (λ act acts. refl) c.act-item.result c.loop-act-test.true c.act-item.is c.note_act.new.notes.noted.items ends.noted;
    }

pub returns-clause-noted : goal.returns-clause-noted
returns-clause-noted g c =
    let by = noted_by (g.F.Facts.history c.args.facts.now) c.args.schema.now c.args.place in
    let one : Act → List Noted = λ act. by (model_act act) in
    let all : List Act → List Noted = λ acts. flat_map by (map model_act acts) in
    let whole = c.args.notes.now.noted.items ++ all c.args.acts.now in
    pieces_all all one c.args.acts.now c.loop-act.act-index c.loop-act.notes.noted.items whole c.loop-act.invariant.so_far refl
    c.loop-act-test.false
