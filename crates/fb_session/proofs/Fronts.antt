-- The first part of a talk, and of a script.
use Rattle.std.proofs.Common.{ℕ, List, [], ◌∷◌, ◌++◌, refl}
use Rattle.edn_model.specs.Form.{Form}
use Rattle.talk_model.specs.Script.{FormsBetween}
use Rattle.talk_model.specs.Session.{Setting, Standing}
use Rattle.talk_model.specs.Talk.{Exchange, Talk}

pub Talk-front : (s : Setting) (before after : Standing) (front rest : List Exchange) → Talk s before (front ++ rest) after
    → (middle : Standing) × Talk s before front middle
Talk-front s before after [] rest told = (before, refl)
Talk-front s before after (x ∷ front) rest told =
    let later = Talk-front s told.0 after front rest told.3 in (later.0, (told.0, told.1, told.2, later.1))

pub FormsBetween-front : (bytes : List ℕ) (at : ℕ) (front rest : List Form) (end : ℕ) → FormsBetween bytes at (front ++ rest) end
    → (middle : ℕ) × FormsBetween bytes at front middle
FormsBetween-front bytes at [] rest end read = (at, refl)
FormsBetween-front bytes at (form ∷ front) rest end read =
    let later = FormsBetween-front bytes read.0 front rest end read.2 in (later.0, (read.0, read.1, later.1))
