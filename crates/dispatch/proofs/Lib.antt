mod Waiting
mod Listing
mod Tracked
mod Turned
mod Promised
