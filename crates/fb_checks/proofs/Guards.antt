-- The guard of the checks that the program comes with.
use Rattle.std.proofs.Common.{◌≡◌, ◌∙◌, ap, Bool, List}
use Rattle.fb_values.specs.declared.facts.Datom.{Datom}
use Rattle.fb_checks.specs.declared.tests.Test.{Test}
use Rattle.fb_checks.specs.declared.tests.AttrTest.{AttrTest}
use Rattle.fb_checks.specs.declared.tests.Need.{Need as TheNeed}
use Rattle.fb_checks.specs.Checks.{bars_of, preds_of, needs_of, passes_test}
use Rattle.fb_checks.specs.Shipped.{shipped_guard, shipped_tests, shipped_needs}

pub shipped_is : {S K : Type 0} (stored : S → Datom → Bool) (kept : K → Datom → Bool) (tests : List (AttrTest (Test S K)))
    (needs : List TheNeed)
    → tests ≡ shipped_tests → needs ≡ shipped_needs
    → bars_of (preds_of (passes_test stored kept) tests) (needs_of needs) ≡ shipped_guard
shipped_is stored kept tests needs same also =
    ap (λ l. bars_of (preds_of (passes_test stored kept) l) (needs_of needs)) same
    ∙ ap (λ l. bars_of (preds_of (passes_test stored kept) shipped_tests) (needs_of l)) also
