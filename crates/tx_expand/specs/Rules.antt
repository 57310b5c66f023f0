-- The rules that need the schema alone,
-- each with the first form that breaks it: the least rule first.
-- Datomic, Transaction Data and Schema.
-- That of several faults the least rule is reported is this project's own choice.
use Rattle.std.specs.Prelude.{ℕ, Bool, List, [], ◌∷◌, map, if◌then◌else◌, Option, Some, None}
use Rattle.fb_values.specs.declared.facts.Datom.{Datom}
use Rattle.tx_refusals.specs.declared.reasons.Reason.{Reason}
use Rattle.tx_refusals.specs.declared.reasons.Reason.TheVariants.{NotAnAttribute}
use Rattle.tx_refusals.specs.declared.reasons.Reason.TheVariants.{ProtectedAttribute, WrongType}
use Rattle.tx_refusals.specs.declared.reasons.Reason.TheVariants.{NotUniqueLookup}
use Rattle.tx_model.specs.Asks.{Ask}
use Rattle.tx_model.specs.NameRules.{breaks_not_an_attribute, breaks_protected_attribute}
use Rattle.tx_model.specs.NameRules.{breaks_wrong_type, breaks_not_unique_lookup}
use Rattle.tx_model.specs.Step.{first_yes}
use Rattle.tx_model.specs.Tempids.{Db}
use Rattle.tx_expand.specs.declared.faults.Faults.{Faults}
use Rattle.tx_expand.specs.declared.firsts.Firsts.{Firsts}
use Rattle.tx_expand.specs.Faults.{form_faults}

abbrev pub schema_rules : Db → List (List Ask) → List (Reason × Option ℕ)
schema_rules db asks =
    (NotAnAttribute, first_yes 0 (map (breaks_not_an_attribute db) asks))
    ∷ (ProtectedAttribute, first_yes 0 (map (breaks_protected_attribute db) asks))
    ∷ (WrongType, first_yes 0 (map (breaks_wrong_type db) asks))
    ∷ (NotUniqueLookup, first_yes 0 (map (breaks_not_unique_lookup db) asks))
    ∷ []

-- ---- the first forms with each fault but the least, from some form on

abbrev pub first_unknown : List Datom → ℕ → List (List Ask) → Option ℕ
first_unknown facts n asks = first_yes n (map (λ form. (form_faults facts form).unknown) asks)

abbrev pub firsts_from : List Datom → ℕ → List (List Ask) → Firsts
firsts_from facts n asks =
    record {
      protected = first_yes n (map (λ form. (form_faults facts form).protected) asks);
      wrong = first_yes n (map (λ form. (form_faults facts form).wrong) asks);
      not_unique = first_yes n (map (λ form. (form_faults facts form).not_unique) asks);
      lacking = first_yes n (map (λ form. (form_faults facts form).lacking) asks);
    }

-- the earlier place, if there is one
abbrev pub earlier : Option ℕ → Option ℕ → Option ℕ
earlier None later = later
earlier (Some n) later = Some n

abbrev pub earlier_ones : Firsts → Firsts → Firsts
earlier_ones x y =
    record {
      protected = earlier x.protected y.protected;
      wrong = earlier x.wrong y.wrong;
      not_unique = earlier x.not_unique y.not_unique;
      lacking = earlier x.lacking y.lacking;
    }

-- of one form
abbrev pub place_if : Bool → ℕ → Option ℕ
place_if b n = if b then Some n else None

abbrev pub firsts_of : Faults → ℕ → Firsts
firsts_of faults n =
    record {
      protected = place_if faults.protected n;
      wrong = place_if faults.wrong n;
      not_unique = place_if faults.not_unique n;
      lacking = place_if faults.lacking n;
    }

abbrev pub no_firsts : Firsts
no_firsts = record { protected = None; wrong = None; not_unique = None; lacking = None }

-- the rules but for the least one
abbrev pub rules_of : Firsts → List (Reason × Option ℕ)
rules_of firsts =
    (ProtectedAttribute, firsts.protected) ∷ (WrongType, firsts.wrong)
    ∷ (NotUniqueLookup, firsts.not_unique) ∷ []
