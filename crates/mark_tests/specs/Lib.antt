pub mod QueryRows
