mod Marking
mod Filing
mod Keeping
mod Daily
