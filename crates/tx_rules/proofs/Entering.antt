-- The entry of a transaction, made of its changes in order.
use Rattle.std.proofs.Common.{◌≡◌, ℕ, ◌+◌, ℤ, true, cond, List, [], ◌∷◌, refl, ap, sym, ◌∙◌}
use Rattle.std.specs.Ordering.{is_lt}
use Rattle.std.proofs.lemmas.Bool.{and_parts}
use Rattle.fb_values.specs.declared.facts.Datom.{Datom}
use Rattle.fb_values.specs.declared.facts.Entry.{Entry}
use Rattle.fb_values.specs.declared.indexes.Order.TheVariants.{Eavt}
use Rattle.fb_values.specs.Orders.{key_cmp}
use Rattle.fb_values.specs.Rising.{rises}
use Rattle.fb_model.specs.Rising.{in_order, put_in_order}
use Rattle.fb_model.specs.History.{basis}
use Rattle.tx_model.specs.Tempids.{Db, db_of}
use Rattle.tx_model.specs.Transaction.{Transaction}
use Rattle.tx_model.specs.Step.{entry_of}
use Rattle.tx_rules.specs.Entries.{instant_of, entry_at}

in_order-again : (ds : List Datom) → rises Eavt ds ≡ true → in_order Eavt ds ≡ ds
in_order-again [] rising = refl
in_order-again (x ∷ []) rising = refl
in_order-again (x ∷ y ∷ ds) rising =
    let parts = and_parts (is_lt (key_cmp Eavt x y)) (rises Eavt (y ∷ ds)) rising in
    ap (put_in_order Eavt x) (in_order-again (y ∷ ds) parts.1)
    ∙ ap (λ b. cond b (x ∷ y ∷ ds) (cond (is_lt (key_cmp Eavt y x)) (y ∷ put_in_order Eavt x ds) (y ∷ ds))) parts.0

entry_with : ℕ → ℤ → List Datom → Entry
entry_with t instant datoms = record { t = t; instant = instant; datoms = datoms }

pub entry_at-of : (h : List Entry) (tx : Transaction) (t : ℕ) (instant : ℤ) (changes : List Datom) → tx.db ≡ db_of h → t ≡ basis h + 1
    → changes ≡ tx.changes → rises Eavt changes ≡ true → entry_at t instant changes ≡ entry_of h tx instant
unfolding entry_with
entry_at-of h tx t instant changes db_is t_is changes_is rising =
    ap (λ ds. entry_with t instant (put_in_order Eavt (instant_of t instant) ds))
    (sym (in_order-again changes rising) ∙ ap (in_order Eavt) changes_is)
    ∙ ap (λ n. entry_with n instant (in_order Eavt (instant_of n instant ∷ tx.changes))) t_is
    ∙ ap (λ (db : Db). entry_with (basis h + 1) instant (in_order Eavt (instant_of (basis db.history + 1) instant ∷ tx.changes)))
    (sym db_is)
