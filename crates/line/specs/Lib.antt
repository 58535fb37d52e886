pub mod Reading
pub mod ReadingPromises
