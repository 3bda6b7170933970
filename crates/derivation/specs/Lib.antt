pub mod TreeRun
