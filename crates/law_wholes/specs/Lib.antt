pub mod WholeForm
pub mod Together
