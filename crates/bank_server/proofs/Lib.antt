mod Opens
mod Working
mod Doors
mod Books
mod Sharing
