pub mod NamedVariables
