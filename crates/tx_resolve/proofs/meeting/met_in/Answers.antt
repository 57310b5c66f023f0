use Rattle.std.proofs.Common.{◌≡◌, ◌+◌, Vec, Global, ◌++◌, [], take, flat_map, ap, sym, ◌∙◌, subst}
use Rattle.std.proofs.lemmas.Grind.{flat_map-append}
use Rattle.tx_asks.specs.declared.asks.Ask.{Ask}
use Rattle.tx_resolve.specs.Meeting.{tempids_of, asks_in, met_with, AreMet}
use Rattle.tx_resolve.proofs.Drops.{flat_take}
use Rattle.tx_resolve.proofs.Meetings.{met_with_append}
use Rattle.tx_resolve.proofs.meeting.met_in.Goals as goal

pub loop-asks-preserved : goal.loop-asks-preserved
loop-asks-preserved c =
    let forms = c.args.forms.now in
    let i = c.loop-asks.asks-index in
    let form = c.asks-item.result in
    let before = asks_in (take i forms) in
    let more : asks_in (take (i + 1) forms) ≡ before ++ form.items =
    flat_take (λ (f : Vec Ask Global). f.items) forms i form c.loop-asks-test.true c.asks-item.is in
    let all : met_with (met_with [] (flat_map tempids_of before)) (flat_map tempids_of c.deref.result.now)
    ≡ met_with [] (flat_map tempids_of (asks_in (take (i + 1) forms))) =
    ap (λ asks. met_with (met_with [] (flat_map tempids_of before)) (flat_map tempids_of asks)) c.deref.ensures.value
    ∙ sym (met_with_append [] (flat_map tempids_of before) (flat_map tempids_of form.items))
    ∙ ap (met_with []) (sym (flat_map-append tempids_of before form.items))
    ∙ ap (λ asks. met_with [] (flat_map tempids_of asks)) (sym more) in
    subst (AreMet c.meet_form.new.met) all
    (c.in_ok-meet_form.ensures.keeps (met_with [] (flat_map tempids_of before)) c.loop-asks.invariant)
