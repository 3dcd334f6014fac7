mod Clear
mod Quiet
mod Consumed
mod Written
mod Valued
