pub mod StockLaws
pub mod Digits
pub mod Bitmaps
pub mod Chains
pub mod Walked
pub mod Sharing
