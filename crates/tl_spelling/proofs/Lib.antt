pub mod Cuts
pub mod FlatEvents
pub mod FlatPrograms
pub mod NoFeeds
pub mod OneEvent
pub mod OneJournal
pub mod OneReply
pub mod Printing
