mod Entries
mod Losses
mod Putting
mod Settled
mod Steps
mod Texts
