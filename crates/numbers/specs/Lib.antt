pub mod OnePass
pub mod NumberTo
