pub mod FactMaps
