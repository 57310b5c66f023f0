use Rattle.std.proofs.Common.{◌≡◌, length}
use Rattle.edn_duplicates.specs.FormCodes.{codes_in, held}
use Rattle.edn_duplicates.specs.declared.coded.Coded.{Coded}
use Rattle.edn_duplicates.proofs.form_codes.FormCodes.move_few.Given as goal

abbrev pub invariant-loop-code : goal.invariant-loop-code
invariant-loop-code l = (q : Coded) → held q (codes_in l.self) ≡ held q (codes_in l.initial.self)

abbrev pub decreases-loop-code : goal.decreases-loop-code
decreases-loop-code l = length l.self.few.items
