-- Document 01, "the running and missing hours of a day are counted from the two masks": what the code keeps of the hours of a period.
pub mod States
pub mod Marks
