-- What is answered of transactions that are tried, as the definitions have it.
-- Datomic, Transactions (d/with). That running out of memory says nothing is this project's own
-- choice.
use Rattle.std.specs.Prelude.{◌≡◌, Bool, true, false, ⊤}
use Rattle.tx_forms.specs.declared.read.TxStop.{TxStop}
use Rattle.tx_forms.specs.declared.read.TxStop.TheVariants as stop
use Rattle.tx_model.specs.Step.{Decision, refused}
use Rattle.with_model.specs.Chain.{TxReport, Chain, refused_at}
use Rattle.fb_with.specs.declared.chains.Tried.{Tried}
use Rattle.fb_with.specs.declared.chains.ChainStop.{ChainStop}
use Rattle.fb_with.specs.declared.chains.ChainStop.TheVariants as chain_stop
use Rattle.fb_with.specs.declared.trying.WithFault.{WithFault}
use Rattle.fb_with.specs.declared.trying.WithFault.TheVariants as fault

-- why a transaction gave no entry
abbrev pub fault_of : TxStop → WithFault
fault_of (stop.Refused refusal) = fault.Refused refusal
fault_of stop.Memory = fault.Memory

-- of a value that is whole or not, where the step decides so
abbrev pub IsWithFault : Bool → Decision → WithFault → Type 0
IsWithFault whole decision fault.Filtered = whole ≡ false
IsWithFault whole decision (fault.Refused refusal) =
    (whole ≡ true) × (decision ≡ refused refusal)
IsWithFault whole decision fault.Memory = ⊤

abbrev pub report_of : Tried → TxReport
report_of tried = record { t = tried.t; tempids = tried.tempids.items }

abbrev pub IsChainStop : Chain → ChainStop → Type 0
IsChainStop chain (chain_stop.Refused refusal at) = chain ≡ refused_at refusal at
IsChainStop chain chain_stop.Memory = ⊤
