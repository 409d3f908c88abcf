pub mod RowTexts
pub mod Words
pub mod ReadBack
