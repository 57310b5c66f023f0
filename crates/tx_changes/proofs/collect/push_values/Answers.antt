use Rattle.std.proofs.Common.{List, ◌++◌, map, refl}
use Rattle.std.proofs.lemmas.List.{map-append}
use Rattle.fb_values.specs.declared.facts.Value.{Value}
use Rattle.tx_changes.specs.declared.noted.AskedAs.TheVariants.{Replaced}
use Rattle.tx_changes.specs.declared.noted.Noted.{Noted}
use Rattle.tx_changes.specs.Asked.{other_of, others_of}
use Rattle.tx_changes.specs.Noted.{as_way}
use Rattle.tx_changes.proofs.PieceByPiece.{piece_more, pieces_all}
use Rattle.tx_changes.proofs.collect.push_values.Goals as goal

pub loop-v-preserved : goal.loop-v-preserved
loop-v-preserved c =
    let addition = c.args.addition.now in
    let one : Value → List Noted = λ v. map (as_way Replaced) (other_of addition v) in
    let all : List Value → List Noted = λ vs. map (as_way Replaced) (others_of addition vs) in
    let whole = c.args.noted.now.items ++ all c.args.values.now in
    piece_more all one c.args.values.now c.loop-v.v-index c.loop-v.noted.items whole c.loop-v.invariant
    (λ v vs. map-append (as_way Replaced) (other_of addition v) (others_of addition vs)) c.v-item.result c.loop-v-test.true
    c.v-item.is c.push_other.new.noted.items c.in_ok-push_other.ensures

pub returns : goal.returns
returns c =
    let addition = c.args.addition.now in
    let one : Value → List Noted = λ v. map (as_way Replaced) (other_of addition v) in
    let all : List Value → List Noted = λ vs. map (as_way Replaced) (others_of addition vs) in
    let whole = c.args.noted.now.items ++ all c.args.values.now in
    pieces_all all one c.args.values.now c.loop-v.v-index c.loop-v.noted.items whole c.loop-v.invariant refl c.loop-v-test.false
