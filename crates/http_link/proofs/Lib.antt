mod Requests
mod Written
mod Answers
