mod Appends
mod SignOns
