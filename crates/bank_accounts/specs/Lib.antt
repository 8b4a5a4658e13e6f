pub mod AccountTable
pub mod AccountView
pub mod BalancesView
pub mod HeldAccounts
pub mod Sides
pub mod Pool
pub mod Row
