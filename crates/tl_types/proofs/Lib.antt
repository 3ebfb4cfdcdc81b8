mod Spelling
mod Copies
