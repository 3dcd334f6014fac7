mod Counting
mod Absent
mod Telling
