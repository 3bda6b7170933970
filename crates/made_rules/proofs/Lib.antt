pub mod Listing
pub mod Places
pub mod Components
pub mod RuleLaws
pub mod DimensionLaws
