-- The bytes of a text, wherever they lie.
-- This project's own choice.
use Rattle.std.specs.Prelude.{ℕ, List}
use Rattle.std.specs.Arc.{arc_str_bytes}
use Rattle.fb_text.specs.declared.texts.Repr.{Repr}
use Rattle.fb_text.specs.declared.texts.Repr.TheVariants.{Here, Shared}

abbrev pub bytes_of : Repr → List ℕ
bytes_of (Here short) = short
bytes_of (Shared text) = arc_str_bytes text
