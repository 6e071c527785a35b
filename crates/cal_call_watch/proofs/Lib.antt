mod Shown
mod Decided
