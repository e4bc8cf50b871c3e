pub mod AtMarks
pub mod IndexRows
pub mod KeyNumbers
pub mod MarksAfter
pub mod PeekedRow
pub mod RowLaws
pub mod TableRows
