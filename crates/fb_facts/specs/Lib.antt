pub mod FactLists
