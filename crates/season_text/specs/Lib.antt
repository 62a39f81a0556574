pub mod DayLines
pub mod SeasonLines
