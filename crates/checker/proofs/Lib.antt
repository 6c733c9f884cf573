mod Builds
mod Worked
