-- The calls: what reading, validating, planning and printing answer, the three demands, each number exactly where document 01 says so, and powers by rule.
pub mod Reading
pub mod Passing
pub mod Validating
pub mod Planning
pub mod Room
pub mod Printing
pub mod Demands
pub mod Interface
pub mod Figures
pub mod PlanFigures
pub mod Powers
pub mod Since
pub mod Judged
pub mod Sums
pub mod Lines
pub mod AllFigures
