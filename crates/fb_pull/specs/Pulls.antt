-- What a pull answers.
-- Datomic, Pull.
use Rattle.std.specs.Prelude.{◌≡◌, Result, Ok, Err}
use Rattle.edn_model.specs.Form.{Form}
use Rattle.edn_form.specs.View.{form_of}
use Rattle.edn_form.specs.declared.form.Edn.{Edn}
use Rattle.read_refusals.specs.declared.reasons.Reason.{Reason}
use Rattle.read_refusals.specs.declared.reasons.Reason.TheVariants as reason
use Rattle.fb_pull.specs.declared.stops.PullStop.{PullStop}
use Rattle.fb_pull.specs.declared.stops.PullStop.TheVariants.{History, TooLarge, Memory}

-- the tree, or why there is none; only running out of memory may come in between
abbrev pub Answers : Result Form Reason → Result Edn PullStop → Type 0
Answers answer (Ok tree) = answer ≡ Ok (form_of tree)
Answers answer (Err History) = answer ≡ Err reason.History
Answers answer (Err TooLarge) = answer ≡ Err reason.TooLarge
Answers answer (Err Memory) = Unit {0}
