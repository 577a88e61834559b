pub mod KeyInside
pub mod Order
pub mod Row
pub mod RowBytes
pub mod RowLaws
pub mod RowReading
