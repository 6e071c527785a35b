pub mod EachRun
