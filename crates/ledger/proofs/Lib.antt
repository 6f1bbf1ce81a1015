pub mod PlaceLaws
pub mod Members
pub mod Steps
pub mod Order
pub mod Posts
pub mod Cancels
pub mod Kept
pub mod Told
