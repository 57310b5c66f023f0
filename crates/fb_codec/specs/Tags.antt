-- The bytes of tags.
-- This project's own choice.
use Rattle.std.specs.Prelude.{◌≡◌, ℕ, Option, Some, None, IsTrue, IsFalse}
use Rattle.log_model.specs.Values.{is_tag}
use Rattle.fb_codec.specs.declared.tags.Tag.{Tag}
use Rattle.fb_codec.specs.declared.tags.Tag.TheVariants.{Keyword, Str, Bool as Boolean, Long, Ref}
use Rattle.fb_codec.specs.declared.tags.Tag.TheVariants.{Instant, Uuid, Symbol, Uri}

abbrev pub byte_of : Tag → ℕ
byte_of Keyword = 1
byte_of Str = 2
byte_of Boolean = 3
byte_of Long = 4
byte_of Ref = 5
byte_of Instant = 6
byte_of Uuid = 7
byte_of Symbol = 8
byte_of Uri = 9

-- the tag that the byte is in this format, if it is one
abbrev pub IsTagOf : ℕ → ℕ → Option Tag → Type 0
IsTagOf format byte None = IsFalse (is_tag format byte)
IsTagOf format byte (Some tag) = IsTrue (is_tag format byte) × (byte_of tag ≡ byte)
