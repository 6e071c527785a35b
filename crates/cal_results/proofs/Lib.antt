mod Meanings
mod Handing
