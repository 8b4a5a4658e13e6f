pub mod BankFirst
