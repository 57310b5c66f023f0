-- What a session is answered by, which stays as it is while it talks.
-- This project's own choice.
use Rattle.std.specs.Prelude.{ℕ, ℤ, Bool, List, Option, is_some}
use Rattle.fb_values.specs.declared.facts.Datom.{Datom}
use Rattle.tx_model.specs.Step.{Guard}
use Rattle.fb_preds.specs.Naming.{selected_by}

-- the terms of its answers, which stay as they are while it talks
pub record Terms : Type 1 where
  pub may : ℤ → Type 0
  pub guard : Guard
  pub is_filter : List ℕ → Bool
  pub Selects : List ℕ → Datom → Type 0

-- Those at a clock, at a guard, and at a table of filters:
-- where a name finds the filter at a place, if it finds one, and this is what that filter selects.
abbrev pub terms_at : {K G P : Type 0} → (K → ℤ → Type 0) → (G → Guard)
    → (P → List ℕ → Option ℕ) → (P → ℕ → Datom → Type 0) → K → G → P → Terms
terms_at may bars place_of SelectsAt clock guard table =
    record {
      may = may clock;
      guard = bars guard;
      is_filter = λ name. is_some (place_of table name);
      Selects = selected_by (place_of table) (SelectsAt table);
    }
