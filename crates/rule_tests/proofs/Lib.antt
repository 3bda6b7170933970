pub mod Hashes
pub mod Chains
pub mod RuleTests
