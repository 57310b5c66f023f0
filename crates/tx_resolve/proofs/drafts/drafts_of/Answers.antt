use Rattle.std.proofs.Common.{◌≡◌, true, false, Option, Some, None, ap, sym, ◌∙◌}
use Rattle.std.specs.Option.{is_none}
use Rattle.std.specs.List.{list_any}
use Rattle.tx_model.specs.Tempids.{db_of}
use Rattle.tx_resolve.specs.Drafts.{draft_of, is_lost}
use Rattle.tx_resolve.proofs.Looking.{given_more, any_here, any_later, any_left}
use Rattle.tx_resolve.proofs.drafts.drafts_of.Goals as goal

joined : {A : Type 0} (o p q : A) → o ≡ p → o ≡ q → p ≡ q
joined o p q is given = sym is ∙ given

lost_in : {A : Type 0} (o p q : Option A) → o ≡ p → o ≡ q → is_none q ≡ is_none p
lost_in o p q is given = ap is_none (sym given ∙ is)

pub loop-ask-preserved : goal.loop-ask-preserved
loop-ask-preserved g c =
    let db = db_of (g.F.Facts.history c.args.facts.now) in
    let looked_up = c.args.found.now in
    let met = c.args.met.now in
    let draft = draft_of db looked_up met c.ask-item.result in
    let found : Some c.in-Some.draft ≡ draft =
    joined c.in_ok-draft.field-0 (Some c.in-Some.draft) draft c.in-Some.is c.in_ok-draft.ensures in
    let kept : is_lost db looked_up met c.ask-item.result ≡ false =
    lost_in c.in_ok-draft.field-0 (Some c.in-Some.draft) draft c.in-Some.is c.in_ok-draft.ensures in
    record {
      found =
          given_more Some (draft_of db looked_up met) c.args.asks.now c.loop-ask.drafts.items c.push.new.self.items c.loop-ask.ask-index
          c.ask-item.result c.in-Some.draft c.loop-ask-test.true c.ask-item.is found c.in_ok-push.ensures.items c.loop-ask.invariant.found;
      lost =
          any_later (is_lost db looked_up met) c.args.asks.now c.loop-ask.ask-index c.ask-item.result c.loop-ask-test.true c.ask-item.is
          (list_any (is_lost db looked_up met) c.args.asks.now) kept c.loop-ask.invariant.lost;
    }

pub returns-in_default-clause-lost : goal.returns-in_default-clause-lost
returns-in_default-clause-lost g c =
    let db = db_of (g.F.Facts.history c.args.facts.now) in
    let looked_up = c.args.found.now in
    let met = c.args.met.now in
    let lost : is_lost db looked_up met c.ask-item.result ≡ true =
    lost_in c.in_ok-draft.field-0 None (draft_of db looked_up met c.ask-item.result) c.in_default.is c.in_ok-draft.ensures in
    any_here (is_lost db looked_up met) c.args.asks.now c.loop-ask.ask-index c.ask-item.result c.loop-ask-test.true c.ask-item.is
    (list_any (is_lost db looked_up met) c.args.asks.now) lost c.loop-ask.invariant.lost

pub returns-clause-lost : goal.returns-clause-lost
returns-clause-lost g c =
    let db = db_of (g.F.Facts.history c.args.facts.now) in
    let looked_up = c.args.found.now in
    let met = c.args.met.now in
    any_left (is_lost db looked_up met) c.args.asks.now c.loop-ask.ask-index c.loop-ask-test.false
    (list_any (is_lost db looked_up met) c.args.asks.now) c.loop-ask.invariant.lost
