use Rattle.std.proofs.lemmas.Bool.{and_parts, and_from}
use Rattle.fb_model.specs.Utf8.{is_utf8_text}
use Rattle.fb_model.specs.Words.{is_keyword_text}
use Rattle.fb_model.proofs.Utf8Texts.{IsUtf8-from_is_utf8_text, is_utf8_text-from_IsUtf8}
use Rattle.tx_model.proofs.EdnWords.{is_edn_keyword, edn_keyword_is}
use Rattle.tx_model.proofs.words.keywords_are_those_of_edn.Goals as goal

pub returns : goal.returns
returns c = λ text. (
  λ well. let parts =
      and_parts (is_utf8_text text) (is_keyword_text text) well in is_edn_keyword text (IsUtf8-from_is_utf8_text text parts.0) parts.1,
  λ is. and_from _ _ (is_utf8_text-from_IsUtf8 text is.0) (edn_keyword_is text is),
)
