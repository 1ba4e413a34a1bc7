-- Document 02, A5: the historian's text, line by line, what refuses it, a decimal as the nearest binary32, and the day records that it becomes.
pub mod Line
pub mod Grammar
pub mod Nearest
pub mod Computed
pub mod Import
pub mod Parts
pub mod Opened
