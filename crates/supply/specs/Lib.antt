pub mod Rows
pub mod Stocks
pub mod Words
pub mod StockLaws
pub mod Callers
pub mod Shares
pub mod ShareLaws
