pub mod Views
pub mod StatementViews
