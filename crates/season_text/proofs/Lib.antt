pub mod DayTexts
pub mod DayLines
pub mod SeasonLines
pub mod Table
