-- What answers a line's fault, and a line that is too long.
-- This project's own choice; docs/LIVE.md, "What cannot be read".
use Rattle.std.specs.Prelude.{ℕ, List, [], ◌∷◌, ◌++◌, codes, decimal}
use Rattle.edn_model.specs.Form as edn
use Rattle.edn_model.specs.Form.{Form}
use Rattle.edn_model.specs.Faults.{Fault, bad, unsupported, deep, cut}
use Rattle.talk_model.specs.Replies.{map_of, number}
use Rattle.live_model.specs.Lines.{longest_line}
use Rattle.live_model.specs.Readings.{Ending, whole, fault}

-- a fault by its keyword, without the colon
abbrev pub kind_of : Fault → List ℕ
kind_of bad = codes "bad"
kind_of (unsupported what) = codes "unsupported"
kind_of deep = codes "deep"
kind_of cut = codes "cut"

-- {:unreadable :bad :at 17}
abbrev pub unreadable_reply : List ℕ → ℕ → Form
unreadable_reply kind byte =
    map_of ((codes "unreadable", edn.keyword kind) ∷ (codes "at", number byte) ∷ [])

-- its bytes, with the line feed
abbrev pub unreadable : List ℕ → ℕ → List ℕ
unreadable kind byte =
    codes "{:unreadable :" ++ (kind ++ (codes " :at " ++ (decimal byte ++ codes "}\n")))

-- what a line is answered behind the replies to its forms
abbrev pub closing : Ending → List ℕ
closing whole = []
closing (fault what byte) = unreadable (kind_of what) byte

-- The last reply of a session that was sent a line too long: the byte is the first too many.
abbrev pub too_long : List ℕ
too_long = unreadable (codes "too-long") longest_line
