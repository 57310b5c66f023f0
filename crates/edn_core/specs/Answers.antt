-- The answers of `read_form`.
-- This project's own choice.
use Rattle.std.specs.Prelude.{ℕ, ◌<◌, ◌≤◌, List, length, drop, Option, Some, None, Result, Ok, Err}
use Rattle.edn_model.specs.Form.{Form}
use Rattle.edn_model.specs.Faults as model
use Rattle.edn_model.specs.Steps as steps
pub use Rattle.edn_token.specs.Judged.{what_of}
use Rattle.edn_core.specs.declared.fault.EdnFault.{EdnFault}
use Rattle.edn_core.specs.declared.fault.EdnFault.TheVariants.{Bad, Unsupported, Deep, Cut, Memory}
use Rattle.edn_form.specs.declared.form.Edn.{Edn}
use Rattle.edn_form.specs.View.{form_of}

-- the fault and its byte; running out of memory has no byte
abbrev pub fault_of : EdnFault → Option (model.Fault × ℕ)
fault_of (Bad byte) = Some (model.bad, byte)
fault_of (Unsupported byte what) = Some (model.unsupported (what_of what), byte)
fault_of (Deep byte) = Some (model.deep, byte)
fault_of (Cut byte) = Some (model.cut, byte)
fault_of Memory = None

abbrev pub MatchFault : Option (model.Fault × ℕ) → (model.Fault → ℕ → Type 0) → Type 0
MatchFault (Some p) fault = fault p.0 p.1
MatchFault None fault = Unit {0}

-- a fact of the form and the place after its text,
-- one where there is none, and one of a fault and its byte; want of memory says nothing
abbrev pub MatchAnswer : Result (Option (Edn × ℕ)) EdnFault → (Form → ℕ → Type 0) → Type 0
    → (model.Fault → ℕ → Type 0) → Type 0
MatchAnswer (Ok (Some p)) read end fault = read (form_of p.0) p.1
MatchAnswer (Ok None) read end fault = end
MatchAnswer (Err e) read end fault = MatchFault (fault_of e) fault

-- ---- by steps

pub record ReadsTo (bytes : List ℕ) (at : ℕ) (f : Form) (next : ℕ) : Type 0 where
  pub ahead : at < next
  pub within : next ≤ length bytes
  pub runs : steps.Reaches (steps.going steps.outermost (drop at bytes))
      (steps.ended (steps.read f (drop next bytes)))

pub record FailsAt (bytes : List ℕ) (at : ℕ) (why : model.Fault) (byte : ℕ) : Type 0 where
  pub ahead : at ≤ byte
  pub within : byte ≤ length bytes
  pub runs : steps.Reaches (steps.going steps.outermost (drop at bytes))
      (steps.ended (steps.fault why (drop byte bytes)))

-- what the steps from a place on come to
abbrev pub Answers : List ℕ → ℕ → Result (Option (Edn × ℕ)) EdnFault → Type 0
Answers bytes at result =
    MatchAnswer result (ReadsTo bytes at)
    (steps.Reaches (steps.going steps.outermost (drop at bytes)) (steps.ended steps.nothing))
    (FailsAt bytes at)
