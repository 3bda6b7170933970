pub mod RoundTrips
pub mod UnfoldRun
pub mod UnfoldTables
pub mod UnfoldLoop
pub mod UnfoldCall
