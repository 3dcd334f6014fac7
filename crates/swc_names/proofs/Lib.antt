mod Gathered
mod Distinct
mod Sorted
mod Numbered
mod Items
