use Rattle.std.proofs.Common.{◌≡◌, map, Some, take, drop}
use Rattle.std.specs.List.{list_any}
use Rattle.tx_model.specs.Tempids.{db_of}
use Rattle.tx_model.specs.Step.{first_yes}
use Rattle.tx_resolve.specs.Drafts.{draft_of, is_lost, lost_at}
use Rattle.tx_resolve.proofs.drafts.drafts_of_forms.Given as goal

abbrev pub invariant-loop-asks : goal.invariant-loop-asks
invariant-loop-asks g l =
    let db = db_of (g.F.Facts.history l.facts) in
    let looked_up = l.found in
    let met = l.met in
    record {
      counted : l.place ≡ l.asks-index;
      found : map (λ form. map Some form.items) l.forms_found.items
          ≡ map (λ form. map (draft_of db looked_up met) form.items) (take l.asks-index l.forms);
      lost : first_yes l.place (map (λ form. list_any (is_lost db looked_up met) form.items) (drop l.asks-index l.forms))
          ≡ lost_at db looked_up met l.forms;
    }
