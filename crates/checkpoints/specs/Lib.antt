pub mod Records
pub mod Backups
