pub mod RulesOfAll
pub mod Outcome
