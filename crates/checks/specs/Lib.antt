pub mod Answers
pub mod Tables
pub mod Forms
pub mod Lent
pub mod Ready
pub mod Early
pub mod Results
