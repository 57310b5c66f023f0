-- The refusal that the drafts come to is that of the asks, and so are the acts.
use Rattle.std.proofs.Common.{◌≡◌, ℕ, List, [], ◌∷◌, map, Vec, Global, refl, ap, ◌∙◌, subst}
use Rattle.std.specs.Prelude.{Option, Some, None, flat_map}
use Rattle.tx_refusals.specs.declared.reasons.Reason.{Reason}
use Rattle.tx_refusals.specs.declared.reasons.Reason.TheVariants.{NotAnEntity, NestedWithoutId, TempidConflict, TempidNotAnEntity}
use Rattle.tx_model.specs.Asks as model
use Rattle.tx_model.specs.Tempids.{Db}
use Rattle.tx_model.specs.NameRules.{breaks_nested_without_id, breaks_tempid_conflict, breaks_tempid_not_an_entity}
use Rattle.tx_model.specs.Transaction.{joined}
use Rattle.tx_model.specs.Step.{first_yes, first_refusal}
use Rattle.tx_forms.specs.declared.read.TxStop.{TxStop}
use Rattle.tx_forms.specs.declared.read.TxStop.TheVariants.{Refused, Memory}
use Rattle.tx_asks.specs.declared.acts.Act as program
use Rattle.tx_asks.specs.declared.asks.Ask.{Ask}
use Rattle.tx_asks.specs.declared.asks.Flat.{Flat}
use Rattle.tx_asks.specs.Asks.{AreAsks}
use Rattle.tx_asks.specs.Acts.{model_act, acts_in}
use Rattle.tx_resolve.specs.declared.drafts.Draft.{Draft}
use Rattle.tx_resolve.specs.Whoms.{all_found}
use Rattle.tx_resolve.specs.Drafts.{lost_at, AreFound}
use Rattle.tx_resolve.specs.declared.meeting.Met.{Met}
use Rattle.tx_resolve.specs.Meeting.{tempids_of, met_with, asks_in, AreMet}
use Rattle.tx_resolve.specs.Breaks.{first_form, uses_one_of_none}
use Rattle.tx_resolve.specs.Settled.{slots_in, lists_of, tempid_rules}
use Rattle.tx_resolve.specs.Rules.{resolve_rules, StopsBy}
use Rattle.tx_resolve.proofs.Options.{none_not}
use Rattle.tx_resolve.proofs.Bridge.{AskNothing, lost_same, conflict_is, none_is}

pub seen_lists : (fs : List (Vec program.Act Global))
    → acts_in (lists_of fs) ≡ map (λ (form : Vec program.Act Global). map model_act form.items) fs
seen_lists [] = refl
seen_lists (f ∷ fs) = ap (λ rest. map model_act f.items ∷ rest) (seen_lists fs)

-- the least rule, if it is broken, whatever the others come to
least_told : (reason : Reason) (o : Option ℕ) (rest : List (Reason × Option ℕ)) (stop : TxStop)
    → StopsBy (first_refusal ((reason, o) ∷ [])) stop → StopsBy (first_refusal ((reason, o) ∷ rest)) stop
least_told reason o rest Memory told = tt
least_told reason None rest (Refused refusal) told = none_not told
least_told reason (Some at) rest (Refused refusal) told = told

module _ (nothing : AskNothing) (db : Db) (flat : Flat) (asks : List (List model.Ask)) (are : AreAsks flat db.facts asks) (met : Met)
    (are_met : AreMet met (met_with [] (flat_map tempids_of (asks_in flat.forms.items)))) where
  abbrev other_rules : List (Reason × Option ℕ)
  other_rules =
      (NestedWithoutId, first_yes 0 (map (breaks_nested_without_id db) asks))
      ∷ (TempidConflict, first_yes 0 (map (breaks_tempid_conflict db (joined asks)) asks))
      ∷ (TempidNotAnEntity, first_yes 0 (map (breaks_tempid_not_an_entity (joined asks)) asks))
      ∷ []

  -- a name that finds no entity, where the lookup refs find these
  pub lost_refused : (looked_up : List (Option ℕ)) (fs : List (Vec Ask Global))
      → lost_at db looked_up met fs ≡ lost_at db (all_found db flat.lookups.items) met flat.forms.items
      → (stop : TxStop) → StopsBy (first_refusal ((NotAnEntity, lost_at db looked_up met fs) ∷ [])) stop
      → StopsBy (first_refusal (resolve_rules db asks)) stop
  lost_refused looked_up fs is stop told =
      subst (λ o. StopsBy (first_refusal ((NotAnEntity, o) ∷ other_rules)) stop) (is ∙ lost_same nothing db flat asks are met are_met)
      (least_told NotAnEntity (lost_at db looked_up met fs) other_rules stop told)

  pub rest_refused : (gs : List (Vec Draft Global)) → AreFound db (all_found db flat.lookups.items) met flat.forms.items gs
      → None ≡ lost_at db (all_found db flat.lookups.items) met flat.forms.items
      → first_refusal ((NestedWithoutId, flat.lacking) ∷ tempid_rules met gs) ≡ first_refusal (resolve_rules db asks)
  rest_refused gs found none =
      ap (λ o. first_refusal ((NestedWithoutId, o) ∷ tempid_rules met gs)) are.lacking
      ∙ ap (λ o. first_refusal ((NestedWithoutId, first_yes 0 (map (breaks_nested_without_id db) asks)) ∷ (TempidConflict, o)
      ∷ (TempidNotAnEntity, first_form (uses_one_of_none (slots_in met gs)) gs) ∷ []))
      (conflict_is nothing db flat asks are met are_met gs found)
      ∙ ap (λ o. first_refusal (
      (NestedWithoutId, first_yes 0 (map (breaks_nested_without_id db) asks))
      ∷ (TempidConflict, first_yes 0 (map (breaks_tempid_conflict db (joined asks)) asks))
      ∷ (TempidNotAnEntity, o)
      ∷ []
      )) (none_is nothing db flat asks are met are_met gs found)
      ∙ ap (λ o. first_refusal (
      (NotAnEntity, o)
      ∷ (NestedWithoutId, first_yes 0 (map (breaks_nested_without_id db) asks))
      ∷ (TempidConflict, first_yes 0 (map (breaks_tempid_conflict db (joined asks)) asks))
      ∷ (TempidNotAnEntity, first_yes 0 (map (breaks_tempid_not_an_entity (joined asks)) asks))
      ∷ []
      )) (none ∙ lost_same nothing db flat asks are met are_met)
