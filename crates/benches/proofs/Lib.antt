pub mod SetUp
pub mod Found
