-- What the walk over the forms of a transaction answers. This project's own choice.
use Rattle.std.specs.Prelude.{◌≡◌, List, map, filter, Some, None}
use Rattle.std.specs.List.{All}
use Rattle.fb_values.specs.declared.facts.Datom.{Datom}
use Rattle.tx_forms.specs.Parts.{Parts}
use Rattle.tx_asks.specs.Asks.{IsTyped}
use Rattle.tx_expand.specs.declared.forms.Expanded.{Expanded}
use Rattle.tx_expand.specs.declared.forms.Walked.{Walked}
use Rattle.tx_expand.specs.declared.forms.Walked.TheVariants.{Unknown, Whole}
use Rattle.tx_expand.specs.Numbered.{walk_forms, next_behind}
use Rattle.tx_expand.specs.Faults.{ask_read, is_kept}
use Rattle.tx_expand.specs.Rules.{first_unknown, firsts_from}

pub record AreExpanded (facts : List Datom) (fs : List Parts) (expanded : Expanded) : Type 0 where
  pub known : first_unknown facts 0 (walk_forms facts 0 fs) ≡ None
  pub firsts_are : expanded.firsts ≡ firsts_from facts 0 (walk_forms facts 0 fs)
  pub asks_are :
      map (λ form. map (ask_read expanded.lookups.items) form.items) expanded.forms.items
      ≡ map (filter (is_kept facts)) (walk_forms facts 0 fs)
  pub read : All (λ form. All (IsTyped facts) form.items) expanded.forms.items
  pub counted : expanded.nameless ≡ next_behind facts 0 fs

abbrev pub IsWalked : List Datom → List Parts → Walked → Type 0
IsWalked facts fs (Unknown place) = first_unknown facts 0 (walk_forms facts 0 fs) ≡ Some place
IsWalked facts fs (Whole expanded) = AreExpanded facts fs expanded
