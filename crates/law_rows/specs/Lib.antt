pub mod NoRepair
pub mod RowForm
