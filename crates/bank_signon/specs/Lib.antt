pub mod Signon
