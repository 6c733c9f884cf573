mod Marks
mod Deepens
