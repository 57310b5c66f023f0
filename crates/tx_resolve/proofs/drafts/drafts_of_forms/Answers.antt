use Rattle.std.proofs.Common.{◌≡◌, ◌+◌, true, false, Bool, List, [], ◌∷◌, Option, Vec, Global, IfSome, Some, None, map, ap, sym, ◌∙◌, subst}
use Rattle.std.specs.Option.{is_none}
use Rattle.std.specs.List.{list_any}
use Rattle.tx_model.specs.Tempids.{db_of}
use Rattle.tx_model.specs.Step.{first_refusal}
use Rattle.tx_refusals.specs.declared.reasons.Reason.TheVariants.{NotAnEntity}
use Rattle.tx_asks.specs.declared.asks.Ask.{Ask}
use Rattle.tx_resolve.specs.declared.drafts.Draft.{Draft}
use Rattle.tx_resolve.specs.Drafts.{draft_of, is_lost, lost_at}
use Rattle.tx_resolve.proofs.Looking.{given_more, first_here, first_later, first_left}
use Rattle.tx_resolve.proofs.drafts.drafts_of_forms.Goals as goal

found_in : {A B C : Type 0} (gives : A → Option C) (shows : B → List (Option C)) (o : Option B) (y : B) (xs zs : List A) → o ≡ Some y
    → xs ≡ zs → IfSome o (λ list. shows list ≡ map gives xs) → shows y ≡ map gives zs
found_in gives shows o y xs zs is same found = subst (λ p. IfSome p (λ list. shows list ≡ map gives xs)) is found ∙ ap (map gives) same

lost_in : {A B : Type 0} (test : A → Bool) (o p : Option B) (xs zs : List A) → o ≡ p → xs ≡ zs → is_none o ≡ list_any test xs
    → list_any test zs ≡ is_none p
lost_in test o p xs zs is same lost = sym (ap (list_any test) same) ∙ sym lost ∙ ap is_none is

pub loop-asks-preserved : goal.loop-asks-preserved
loop-asks-preserved g c =
    let db = db_of (g.F.Facts.history c.args.facts.now) in
    let looked_up = c.args.found.now in
    let met = c.args.met.now in
    let found : map Some c.in-Some.drafts.items ≡ map (draft_of db looked_up met) c.asks-item.result.items =
    found_in (draft_of db looked_up met) (λ (form : Vec Draft Global). map Some form.items) c.in_ok-drafts.field-0 c.in-Some.drafts
    c.deref.result.now c.asks-item.result.items c.in-Some.is c.deref.ensures.value c.in_ok-drafts.ensures.found in
    let kept : list_any (is_lost db looked_up met) c.asks-item.result.items ≡ false =
    lost_in (is_lost db looked_up met) c.in_ok-drafts.field-0
    (Some c.in-Some.drafts) c.deref.result.now c.asks-item.result.items c.in-Some.is c.deref.ensures.value c.in_ok-drafts.ensures.lost in
    record {
      counted = ap (λ n. n + 1) c.loop-asks.invariant.counted;
      found =
          given_more (λ (form : Vec Draft Global). map Some form.items)
          (λ (form : Vec Ask Global). map (draft_of db looked_up met) form.items)
          c.args.forms.now c.loop-asks.forms_found.items c.push.new.self.items c.loop-asks.asks-index c.asks-item.result c.in-Some.drafts
          c.loop-asks-test.true c.asks-item.is found c.in_ok-push.ensures.items c.loop-asks.invariant.found;
      lost =
          first_later (λ (form : Vec Ask Global). list_any (is_lost db looked_up met) form.items)
          c.args.forms.now c.loop-asks.asks-index c.asks-item.result c.loop-asks-test.true c.asks-item.is c.loop-asks.place
          (lost_at db looked_up met c.args.forms.now) kept c.loop-asks.invariant.lost;
    }

pub returns-in_default-clause-refused : goal.returns-in_default-clause-refused
returns-in_default-clause-refused g c =
    let db = db_of (g.F.Facts.history c.args.facts.now) in
    let looked_up = c.args.found.now in
    let met = c.args.met.now in
    let lost : list_any (is_lost db looked_up met) c.asks-item.result.items ≡ true =
    lost_in (is_lost db looked_up met) c.in_ok-drafts.field-0 None c.deref.result.now c.asks-item.result.items c.in_default.is
    c.deref.ensures.value c.in_ok-drafts.ensures.lost in
    let first : Some c.loop-asks.place ≡ lost_at db looked_up met c.args.forms.now =
    first_here (λ (form : Vec Ask Global). list_any (is_lost db looked_up met) form.items) c.args.forms.now c.loop-asks.asks-index
    c.asks-item.result c.loop-asks-test.true c.asks-item.is c.loop-asks.place
    (lost_at db looked_up met c.args.forms.now) lost c.loop-asks.invariant.lost in
    ap (λ o. first_refusal ((NotAnEntity, o) ∷ [])) (sym first)

pub returns-clause-unbroken : goal.returns-clause-unbroken
returns-clause-unbroken g c =
    let db = db_of (g.F.Facts.history c.args.facts.now) in
    let looked_up = c.args.found.now in
    let met = c.args.met.now in
    sym (first_left (λ (form : Vec Ask Global). list_any (is_lost db looked_up met) form.items) c.args.forms.now c.loop-asks.asks-index
    c.loop-asks-test.false c.loop-asks.place (lost_at db looked_up met c.args.forms.now) c.loop-asks.invariant.lost)
