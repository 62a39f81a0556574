pub mod Days
pub mod Order
pub mod Table
