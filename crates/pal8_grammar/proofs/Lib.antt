pub mod ValueLemmas
pub mod WorkedStatements
pub mod NameLemmas
