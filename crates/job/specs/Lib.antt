-- What the contracts cite.
pub mod Frame
pub mod JobFile
pub mod JobFileView
pub mod Listing
pub mod ListingView
pub mod LogLines
pub mod LogLinesView
pub mod Printed
pub mod Example
