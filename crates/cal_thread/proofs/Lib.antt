pub mod ThreadLemmas
