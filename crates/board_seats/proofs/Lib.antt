mod Learned
mod Found
mod Notes
