mod Rooms
mod Refusals
