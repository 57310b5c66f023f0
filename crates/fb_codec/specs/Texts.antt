-- Which texts fit.
-- This project's own choice.
use Rattle.std.specs.Prelude.{ℕ, Bool, List}
use Rattle.fb_model.specs.Words.{is_keyword_text, is_symbol_text}
use Rattle.log_model.specs.Values.{is_any}
use Rattle.fb_codec.specs.declared.texts.Words.{Words}
use Rattle.fb_codec.specs.declared.texts.Words.TheVariants.{Keyword, Symbol, Any}

abbrev pub test_of : Words → List ℕ → Bool
test_of Keyword = is_keyword_text
test_of Symbol = is_symbol_text
test_of Any = is_any
