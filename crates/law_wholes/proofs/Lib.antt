-- The whole-number form. Laws of floats, over either format: operations by fractions, and whole numbers
pub mod Values
pub mod Wholes
-- one sample in both runs, exact or near; then lists of them, the marks, the repair, tables, and the skipped names
pub mod Near
pub mod Pairs
pub mod Marks
pub mod Repairs
pub mod Tables
pub mod Names
-- the two runs side by side, and the theorem
pub mod Run
pub mod Theorem
-- its conditions can be met
pub mod Worked
