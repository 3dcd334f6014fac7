pub mod DoneWhole
