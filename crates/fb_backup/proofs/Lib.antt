pub mod Appended
pub mod Beginnings
pub mod Causes
pub mod CopiedTrees
pub mod Records
pub mod SameDatoms
