mod Calendar
mod DayTexts
pub mod DayAgain
