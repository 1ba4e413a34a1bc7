-- A survey judged by its kind and its world, and the rules of judging opened.
pub mod Surveys
pub mod Opened
