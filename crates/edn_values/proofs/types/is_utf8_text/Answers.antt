-- A `str` holds the bytes of characters.
use Rattle.std.proofs.Common.{sym}
use Rattle.fb_model.proofs.Utf8Texts.{is_utf8_text-from_IsUtf8}
use Rattle.edn_values.proofs.types.is_utf8_text.Goals as goal

pub returns : goal.returns
returns c = sym (is_utf8_text-from_IsUtf8 c.args.text.now c.utf8.text)
