-- What a look at the mail answers.
-- This project's own choice.
use Rattle.std.specs.Prelude.{◌≡◌, List, Result, Ok, Err}
use Rattle.fb_memory.specs.declared.Memory.{Memory}
use Rattle.board_rule.specs.declared.view.View.{View}
use Rattle.board_rule.specs.Views.{StartsWith, passed}
use Rattle.board_mail.specs.declared.mailing.Mail.{Mail}
use Rattle.board_mail.specs.declared.mailing.Mail.TheVariants.{Fresh, Held}
use Rattle.board_mail.specs.Mailbox.{peeked, took}

-- `mailed s` is what a snapshot stands for.
-- A fresh one stands for the history that the grab found in the slot, and the seat has seen it;
-- after want of memory the grab was made, and no more was seen
abbrev pub Peeks : {S E : Type 0} → (S → List E) → View E → Result (Mail S) Memory → View E → Type 0
Peeks mailed v (Ok (Fresh s)) w =
    (w ≡ took v (mailed s)) × StartsWith w.seen v.seen × StartsWith w.seen (mailed s)
Peeks mailed v (Ok Held) w = w ≡ passed v
Peeks {S} {E} mailed v (Err e) w = (l : List E) × (w ≡ peeked v l)
