-- A stream of the system that is opened at its first use: what its contract says of it.
-- This project's own choice.
use Rattle.std.specs.Prelude.{ℕ, Bool, true, false}
use Rattle.live_ports.specs.declared.late_sources.Inlet.{Inlet}
use Rattle.live_ports.specs.declared.late_sources.Inlet.TheVariants as inlet
use Rattle.live_ports.specs.declared.late_sinks.Outlet.{Outlet}
use Rattle.live_ports.specs.declared.late_sinks.Outlet.TheVariants as outlet

-- its count of faults, and whether it was let go of
pub record LateStream : Type 0 where
  pub faults : ℕ
  pub hung_up : Bool

-- as it is handed out
abbrev pub unused : LateStream
unused = record { faults = 0; hung_up = false }

abbrev pub is_inlet_left : Inlet → Bool
is_inlet_left (inlet.Named name) = false
is_inlet_left (inlet.Open source) = false
is_inlet_left inlet.HungUp = true

abbrev pub is_outlet_left : Outlet → Bool
is_outlet_left (outlet.Named name) = false
is_outlet_left (outlet.Open sink) = false
is_outlet_left outlet.HungUp = true
