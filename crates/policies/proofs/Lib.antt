mod Rising
mod Firsts
mod Clearing
