mod Turns
mod Steps
