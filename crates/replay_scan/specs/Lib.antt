-- What the contracts cite, and what demand 3 claims.
pub mod RecordView
pub mod RecordsView
pub mod Walk
pub mod Scan
pub mod ScanView
pub mod FaultView
pub mod CountsView
