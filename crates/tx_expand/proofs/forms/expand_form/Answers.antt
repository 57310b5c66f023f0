use Rattle.std.proofs.Common.{◌≡◌, ◌≤◌, ◌++◌, List, length, drop, map, ap, ◌∙◌, subst, arith}
use Rattle.std.specs.Prelude.{IfOk, filter}
use Rattle.tx_forms.specs.Parts.{parts_of}
use Rattle.tx_model.specs.Asks.{Ask}
use Rattle.tx_asks.specs.declared.asks.LookupRef.{LookupRef}
use Rattle.tx_expand.specs.declared.raw.RawAsk.{RawAsk}
use Rattle.tx_expand.specs.View.{model_ask}
use Rattle.tx_expand.specs.Numbered.{walk_form}
use Rattle.tx_expand.specs.Faults.{form_faults, ref_faults, ask_read, is_kept}
use Rattle.tx_expand.proofs.LookupLists.{begin_with_themselves, judged_behind, no_more_judged}
use Rattle.tx_expand.proofs.Results.{IfOk-always}
use Rattle.tx_expand.proofs.forms.expand_form.Goals as goal

pub judge_lookups-requires : goal.judge_lookups-requires
judge_lookups-requires c =
    let refs = c.form_asks.new.out.lookups.items in
    let fewer : length c.args.judged.now.items ≤ length refs =
    no_more_judged c.args.schema.now c.args.out.now.lookups.items refs c.args.judged.now.items c.requires.judged
    (c.in_ok-form_asks.ensures.walks.kept refs (begin_with_themselves refs)) in
    omega (arith, fewer, ap length c.as_slice.ensures.value)

pub returns-clause-faults : goal.returns-clause-faults
returns-clause-faults c =
    let facts = c.args.schema.now in
    let refs = c.form_asks.new.out.lookups.items in
    let asks = (walk_form facts c.args.out.now.next (parts_of c.args.form)).asks in
    let judged = c.args.judged.now.items in
    let asks_are : map (model_ask refs) c.as_slice-2.result.now ≡ asks =
    ap (map (model_ask refs)) c.as_slice-2.ensures.value
    ∙ c.in_ok-form_asks.ensures.walks.asks refs (begin_with_themselves refs)
    ∙ ap (λ (raws : List RawAsk). map (model_ask refs) raws ++ asks) c.in_ok-make_room.ensures in
    let judged_are : c.judge_lookups.new.judged.items ≡ map (ref_faults facts) refs =
    c.in_ok-judge_lookups.ensures
    ∙ ap (λ (xs : List LookupRef). judged ++ map (ref_faults facts) (drop (length judged) xs)) c.as_slice.ensures.value
    ∙ judged_behind facts c.args.out.now.lookups.items refs judged c.requires.judged
    (c.in_ok-form_asks.ensures.walks.kept refs (begin_with_themselves refs)) in
    subst (λ (found : List Ask). IfOk c.judge_all.result (λ form. form.faults ≡ form_faults facts found)) asks_are
    (c.judge_all.ensures.faults refs (c.deref.ensures.value ∙ judged_are))

pub returns-clause-asks : goal.returns-clause-asks
returns-clause-asks c = λ all begin.
    let facts = c.args.schema.now in
    let asks = (walk_form facts c.args.out.now.next (parts_of c.args.form)).asks in
    let asks_are : map (model_ask all) c.as_slice-2.result.now ≡ asks =
    ap (map (model_ask all)) c.as_slice-2.ensures.value
    ∙ c.in_ok-form_asks.ensures.walks.asks all begin
    ∙ ap (λ (raws : List RawAsk). map (model_ask all) raws ++ asks) c.in_ok-make_room.ensures in
    subst (λ (found : List Ask). IfOk c.judge_all.result (λ form. map (ask_read all) form.asks.items ≡ filter (is_kept facts) found))
    asks_are
    (c.judge_all.ensures.asks all)

pub returns-clause-judged : goal.returns-clause-judged
returns-clause-judged c =
    let facts = c.args.schema.now in
    let refs = c.form_asks.new.out.lookups.items in
    let judged = c.args.judged.now.items in
    IfOk-always (c.judge_lookups.new.judged.items ≡ map (ref_faults facts) refs)
    (c.in_ok-judge_lookups.ensures
    ∙ ap (λ (xs : List LookupRef). judged ++ map (ref_faults facts) (drop (length judged) xs)) c.as_slice.ensures.value
    ∙ judged_behind facts c.args.out.now.lookups.items refs judged c.requires.judged
    (c.in_ok-form_asks.ensures.walks.kept refs (begin_with_themselves refs)))
    c.judge_all.result

pub returns-clause-next : goal.returns-clause-next
returns-clause-next c =
    let refs = c.form_asks.new.out.lookups.items in
    IfOk-always (c.form_asks.new.out.next ≡ (walk_form c.args.schema.now c.args.out.now.next (parts_of c.args.form)).next)
    (c.in_ok-form_asks.ensures.walks.next refs (begin_with_themselves refs)) c.judge_all.result
