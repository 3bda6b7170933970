pub mod Made
pub mod RowLaws
pub mod RowForms
pub mod MergeRows
pub mod MoveRows
pub mod MoveForms
