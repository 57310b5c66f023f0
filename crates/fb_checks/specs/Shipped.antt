-- The guard that the program comes with: a text that documents something is not empty, and who has
-- an address is documented.
-- This project's own choice.
use Rattle.std.specs.Prelude.{ℕ, not, List, [], ◌∷◌, codes}
use Rattle.tx_model.specs.Step.{Guard}
use Rattle.fb_checks.specs.declared.tests.Test.{Test}
use Rattle.fb_checks.specs.declared.tests.Test.TheVariants.{NotEmpty}
use Rattle.fb_checks.specs.declared.tests.AttrTest.{AttrTest}
use Rattle.fb_checks.specs.declared.tests.Need.{Need as TheNeed}
use Rattle.fb_checks.specs.Checks.{is_empty_text, bars_of}

abbrev pub doc : List ℕ
doc = codes "db/doc"

abbrev pub email : List ℕ
email = codes "person/email"

abbrev pub shipped_guard : Guard
shipped_guard = bars_of ((doc, λ d. not (is_empty_text d.v)) ∷ []) ((email, doc) ∷ [])

-- as a program stores it
abbrev pub shipped_tests : {S K : Type 0} → List (AttrTest (Test S K))
shipped_tests = record { attr = doc; test = NotEmpty } ∷ []

abbrev pub shipped_needs : List TheNeed
shipped_needs = record { marker = email; needed = doc } ∷ []
