-- Both ways.
use Rattle.fb_model.proofs.Utf8Texts.{IsUtf8-from_is_utf8_text, is_utf8_text-from_IsUtf8}
use Rattle.fb_model.proofs.texts.texts_are_utf8.Goals as goal

pub returns : goal.returns
returns c = λ bytes. (IsUtf8-from_is_utf8_text bytes, is_utf8_text-from_IsUtf8 bytes)
