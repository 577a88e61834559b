pub mod Steps
pub mod Numerals
pub mod NameLaws
pub mod EventLaws
pub mod LineLaws
pub mod OpeningLaws
pub mod VerdictLaws
pub mod Progress
