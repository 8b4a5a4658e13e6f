pub mod RowForm
pub mod RowsView
pub mod Taking
