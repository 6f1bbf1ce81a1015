pub mod Arguments
pub mod Csv
pub mod Reports
