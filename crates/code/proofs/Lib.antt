pub mod FiguresOnce
pub mod Laws
pub mod Places
pub mod Theorems
