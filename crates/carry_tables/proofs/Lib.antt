mod Numbered
mod Undone
