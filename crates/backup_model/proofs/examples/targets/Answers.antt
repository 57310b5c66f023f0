-- The records of each target, read off its bytes; whether a text is UTF-8 is computed where it is opened.
use Rattle.std.proofs.Common.{inl, inr, ◌≡◌, ℕ, List, [], ◌∷◌, get_or, codes, refl, ap, arith, lit<}
use Rattle.std.specs.Char.{encode_utf8}
use Rattle.std.specs.Str.{is_utf8, chars}
use Rattle.fb_values.specs.declared.facts.Entry.{Entry}
use Rattle.fb_values.specs.declared.facts.Value.TheVariants.{Str}
use Rattle.fb_numbers.specs.Numbers.{user_entity, doc}
use Rattle.disk_model.specs.Journal.{log_mark, JournalStands}
use Rattle.log_model.specs.Payload.{entry_bytes}
use Rattle.log_model.specs.Log.{hold, entries_behind}
use Rattle.log_model.specs.Samples.{datom, entry_with, hi_entry, hi_payload, hi_log, with_byte}
use Rattle.backup_model.specs.Backup.{IsLogWith}
use Rattle.backup_model.proofs.examples.targets.Goals as goal

abbrev ho_entry : Entry
ho_entry = entry_with (datom (user_entity 1) doc (Str (codes "ho")))

abbrev older : List ℕ
older = with_byte 0 1 hi_payload

abbrev ho : List ℕ
ho = with_byte 65 111 hi_payload

hi_held : entries_behind [] (hi_payload ∷ []) ≡ hold (hi_entry ∷ [])
unfolding is_utf8 chars encode_utf8
hi_held = refl

older_held : entries_behind [] (older ∷ []) ≡ hold (hi_entry ∷ [])
unfolding is_utf8 chars encode_utf8
older_held = refl

ho_held : entries_behind [] (ho ∷ []) ≡ hold (ho_entry ∷ [])
unfolding is_utf8 chars encode_utf8
ho_held = refl

hi_stands : JournalStands log_mark (hi_payload ∷ []) hi_log
hi_stands = inr (lit< tt, record { gate = 0; rest = []; bytes = refl; closed = omega arith; lengths = (lit< tt, tt) })

hi_is_log : IsLogWith hi_log (hi_entry ∷ [])
hi_is_log = record { records = hi_payload ∷ []; journal = hi_stands; hold_them = hi_held }

pub returns-clause-again : goal.returns-clause-again
returns-clause-again c = (hi_entry ∷ [], hi_is_log, refl)

pub returns-clause-older_format : goal.returns-clause-older_format
returns-clause-older_format c = (
  hi_entry ∷ [],
  record {
    records = older ∷ [];
    journal = inr (lit< tt, record { gate = 0; rest = []; bytes = refl; closed = omega arith; lengths = (lit< tt, tt) });
    hold_them = older_held;
  },
  refl,
)

pub returns-clause-other_text : goal.returns-clause-other_text
returns-clause-other_text c = (
  ho_entry ∷ [],
  record {
    records = ho ∷ [];
    journal = inr (lit< tt, record { gate = 0; rest = []; bytes = refl; closed = omega arith; lengths = (lit< tt, tt) });
    hold_them = ho_held;
  },
  record {
    before = [];
    entry = ho_entry;
    behind = [];
    entries_are = refl;
    t_is = refl;
    other = inr (
      hi_entry,
      [],
      refl,
      λ same. let byte : 111 ≡ 105 = ap (λ entry. get_or (entry_bytes entry) 65 0) same in absurd (omega (arith, byte)),
    );
  },
)

pub returns-clause-above_the_basis : goal.returns-clause-above_the_basis
returns-clause-above_the_basis c = (
  hi_entry ∷ [],
  hi_is_log,
  record { before = []; entry = hi_entry; behind = []; entries_are = refl; t_is = refl; other = inl refl },
)

pub returns-clause-bad_record : goal.returns-clause-bad_record
returns-clause-bad_record c =
    record {
      records = with_byte 0 9 hi_payload ∷ [];
      fault = inr (inr (lit< tt, record { gate = 0; rest = []; bytes = refl; closed = omega arith; lengths = (lit< tt, tt) }), refl);
    }
