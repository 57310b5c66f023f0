use Rattle.fb_codec.proofs.texts.Words.fit.Goals as goal

pub returns-in-Keyword : goal.returns-in-Keyword
returns-in-Keyword c = rw c.in-Keyword.is c.is_keyword_text.ensures

pub returns-in-Symbol : goal.returns-in-Symbol
returns-in-Symbol c = rw c.in-Symbol.is c.is_symbol_text.ensures
