-- The laws of words and extension words. Crates above cite Ring, Inverse, ExtensionRing and ExtensionInverse; the rest is what they stand on.
pub mod Remainder
pub mod Reduction
pub mod Ring
pub mod Prime
pub mod Binomial
pub mod Fermat
pub mod Proth
pub mod Modulus
pub mod Inverse
pub mod Power
pub mod CubicProduct
pub mod Coefficients
pub mod ExtensionRing
pub mod Cubic
pub mod Norm
pub mod ExtensionInverse
