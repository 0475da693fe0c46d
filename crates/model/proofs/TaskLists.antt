-- Lists of tasks as masks: what is in them, how many, and how often a task stands in an order of one.
pub mod Masks
pub mod OpenLists
pub mod Counting
pub mod Lowest
pub mod Places
