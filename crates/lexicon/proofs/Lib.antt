pub mod FeatureKinds
pub mod EntryWalks
