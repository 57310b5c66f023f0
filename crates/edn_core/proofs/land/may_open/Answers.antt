use Rattle.std.proofs.Common.{refl, sym}
use Rattle.edn_core.proofs.land.may_open.Goals as goal

pub returns-then-wants_string : goal.returns-then-wants_string
returns-then-wants_string c = record { free = λ bytes. tt; refused = λ bytes. (refl, sym (c.if-wants_string.ensures bytes)) }

pub returns-then-not-has_room : goal.returns-then-not-has_room
returns-then-not-has_room c =
    record { free = λ bytes. tt; refused = λ bytes. (refl, sym (c.if-wants_string.ensures bytes), c.if-not-has_room.ensures bytes) }

pub returns : goal.returns
returns c = record { free = λ bytes. (sym (c.if-wants_string.ensures bytes), c.if-not-has_room.ensures bytes); refused = λ bytes. tt }
