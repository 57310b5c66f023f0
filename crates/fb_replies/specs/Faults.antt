-- The words of a log that fails, and how the line of a refusal or a fault ends.
-- This project's own choice.
use Rattle.std.specs.Prelude.{ℕ, List, ◌++◌, codes, decimal}
use Rattle.fb_replies.specs.declared.replies.LogFault.{LogFault}
use Rattle.fb_replies.specs.declared.replies.LogFault.TheVariants.{Failed, Stopped}

-- without the colon
abbrev pub word_of : LogFault → List ℕ
word_of Failed = codes "log"
word_of Stopped = codes "log-stopped"

-- after the first field
abbrev pub place_text : ℕ → ℕ → List ℕ
place_text at basis =
    codes " :at " ++ (decimal at ++ (codes " :basis " ++ (decimal basis ++ codes "}\n")))
