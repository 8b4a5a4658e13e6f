mod Logs
mod Lifting
mod Joining
mod Answered
mod Steps
mod PollReported
mod OneExchange
mod NewestHold
