-- what a run answers and keeps, where it stops, what its totals are
pub mod Answers
pub mod Stops
pub mod Sums
-- how much scratch is enough, and demand 3 of the calls
pub mod Rooms
pub mod Calls
-- the promises, and P5
pub mod Theorems
pub mod Worked
-- document 02
pub mod TileCalls
pub mod Preview
