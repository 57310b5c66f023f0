-- Chains of speculative transactions: what transactions would make of a history, one after another,
-- none of which is recorded.
-- Datomic, Transactions (d/with). That a filtered value has none is this project's own choice.
use Rattle.std.specs.Prelude.{ℕ, Bool, not, ◌&&◌, List, [], ◌∷◌, ◌++◌, nat_eq}
use Rattle.edn_model.specs.Form.{Form}
use Rattle.fb_values.specs.declared.facts.Entry.{Entry}
use Rattle.fb_numbers.specs.Numbers.{least_instant}
use Rattle.fb_model.specs.History.{basis}
use Rattle.view_model.specs.Window.{Window, whole}
use Rattle.tx_refusals.specs.declared.reasons.Refusal.{Refusal}
use Rattle.tx_model.specs.Step.{Decision, refused, accepted, Guard, step}

-- the report of one of the transactions: its t, and the entities of its tempids
pub record TxReport : Type 0 where
  pub t : ℕ
  pub tempids : List (List ℕ × ℕ)

pub data Chain : Type 0 where
  -- the history with the entries of all of them, and the report of each
  reaches : List Entry → List TxReport → Chain
  -- the refusal of the first that is refused, and the basis at which it was judged
  refused_at : Refusal → ℕ → Chain

abbrev pub with_reports : List TxReport → Chain → Chain
with_reports before (reaches h reports) = reaches h (before ++ reports)
with_reports before (refused_at refusal at) = refused_at refusal at

-- what comes of a transaction at the history, and of those after it
abbrev pub chained : List Entry → Decision → (List Entry → Chain) → Chain
chained h (refused refusal) behind = refused_at refusal (basis h)
chained h (accepted entry tempids) behind =
    with_reports (record { t = entry.t; tempids = tempids } ∷ []) (behind (h ++ entry ∷ []))

-- how many transactions a command may try
abbrev pub most_tried : ℕ
most_tried = 64

-- each at the least instant that a clock may read, so that its own instant is the last one and a
-- millisecond
abbrev pub chain : Guard → List Entry → List Form → Chain
chain guard h [] = reaches h []
chain guard h (asked ∷ rest) =
    chained h (step h asked least_instant guard) (λ next. chain guard next rest)

-- more transactions after a chain
abbrev pub continued : Guard → Chain → List Form → Chain
continued guard (reaches h reports) more = with_reports reports (chain guard h more)
continued guard (refused_at refusal at) more = refused_at refusal at

-- ---- database values that transactions may be tried on

-- the value is the whole database, as it is handed out: under the first window, and through no
-- filter
abbrev pub is_unfiltered : Window → ℕ → Bool
is_unfiltered w filters =
    nat_eq w.from whole.from && nat_eq w.to whole.to && not w.history && nat_eq filters 0
