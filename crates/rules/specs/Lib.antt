pub mod First
pub mod Links
pub mod Depths
pub mod Grammar
pub mod Children
pub mod Rules
