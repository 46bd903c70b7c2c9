pub mod NameFacts
mod BodyFacts
mod LineFacts
mod MemberFacts
