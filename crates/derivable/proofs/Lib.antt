pub mod TableLaws
pub mod RoundLaws
pub mod Growing
pub mod SchemeRows
