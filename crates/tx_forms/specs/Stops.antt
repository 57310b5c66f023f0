-- Why a transaction gave no entry, if memory did not run out. This project's own choice.
use Rattle.std.specs.Prelude.{⊤}
use Rattle.tx_refusals.specs.declared.reasons.Refusal.{Refusal}
use Rattle.tx_forms.specs.declared.read.TxStop.{TxStop}
use Rattle.tx_forms.specs.declared.read.TxStop.TheVariants.{Refused, Memory}

abbrev pub IfRefused : TxStop → (Refusal → Type 0) → Type 0
IfRefused (Refused refusal) P = P refusal
IfRefused Memory P = ⊤
