-- The entry that gives a new entity a text, the smallest that says something of its own.
-- Datomic, Transaction Data (a list form of :db/add with a tempid).
use Rattle.std.specs.Prelude.{ℕ, ◌+◌, ℤ, true, List, [], ◌∷◌}
use Rattle.fb_values.specs.declared.facts.Entry.{Entry}
use Rattle.fb_values.specs.declared.facts.Value.TheVariants.{Str, Instant}
use Rattle.fb_numbers.specs.Numbers.{transaction_of, user_entity, tx_instant, doc}
use Rattle.fb_model.specs.History.{basis, next_instant, users_issued}

-- the next transaction records its instant, and the text of the next user entity
abbrev pub text_entry : List Entry → ℤ → List ℕ → Entry
text_entry h reading text =
    let t = basis h + 1 in
    let instant = next_instant h reading in
    record {
      t = t;
      instant = instant;
      datoms =
          record { e = transaction_of t; a = tx_instant; v = Instant instant; t = t; added = true }
          ∷ record {
            e = user_entity (users_issued h + 1);
            a = doc;
            v = Str text;
            t = t;
            added = true;
          }
          ∷ [];
    }
