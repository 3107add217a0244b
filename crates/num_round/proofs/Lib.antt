-- `Laws` is for callers. The others are what the proofs of the functions cite: `Sums`, `Kept` and `Larger` the rounding ones, `Lower` that of `floor`.
pub mod Laws
mod Scaled
mod Sums
mod Kept
mod Larger
mod Lower
