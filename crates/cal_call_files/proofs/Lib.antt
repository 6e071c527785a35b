mod Deciding
mod Fewness
mod FirstBad
mod Naming
mod SameFiles
