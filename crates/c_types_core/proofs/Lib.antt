pub mod Views
pub mod ActionViews
