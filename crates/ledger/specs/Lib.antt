pub mod Loans
pub mod Links
